use Rattle.std.proofs.Common.{◌+◌, ◌*◌, inr, ap, ◌∙◌, sym, arith}
use Rattle.grid_format.specs.Checks.{in_meta}
use Rattle.grid_format.specs.Heads.{numbers}
use Rattle.grid_format.proofs.NumberLemmas.{added_sum, column_read}
use Rattle.grid_format.proofs.head.check_column.Goals as goal

pub returns-in-Ok-add_column-clause-told : goal.returns-in-Ok-add_column-clause-told
returns-in-Ok-add_column-clause-told g c = λ meta is.
    ap in_meta (column_read c.args.edges (32 + 8 * c.args.first) c.args.before c.args.parts _ meta _ (c.in-Ok.ensures.value meta is) (omega arith) ∙ sym c.add_column.ensures.value ∙ c.in-Ok-add_column.is)

pub returns-in-Err-clause-told : goal.returns-in-Err-clause-told
returns-in-Err-clause-told g c = λ meta is.
    ap in_meta (column_read c.args.edges (32 + 8 * c.args.first) c.args.before c.args.parts _ meta _ (c.in-Ok.ensures.value meta is) (omega arith) ∙ sym c.add_column.ensures.value ∙ c.in-Err.is)

pub returns-in-Ok-add_column-clause-total : goal.returns-in-Ok-add_column-clause-total
returns-in-Ok-add_column-clause-total g c =
    added_sum c.args.edges (32 + 8 * c.args.first) c.args.before c.in-Ok-add_column.total (numbers 0 c.args.parts c.fill.new.buf) (sym c.add_column.ensures.value ∙ c.in-Ok-add_column.is)

pub returns-in-Err-clause-shown : goal.returns-in-Err-clause-shown
returns-in-Err-clause-shown g c =
    let shown = c.in-Err.ensures.shown in
    inr (inr (inr (inr ((c.args.first + shown.1.0, omega (arith, shown.1.1, c.requires.few), omega (arith, shown.1.2)), shown.0))))
