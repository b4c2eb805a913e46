use Rattle.std.proofs.Common.{◌++◌, ◌+◌, ◌*◌, sum, ap, sym, ◌∙◌, arith}
use Rattle.std.proofs.lemmas.List.Sums.{sum_by-append}
use Rattle.grid_format.specs.Heads.{numbers}
use Rattle.grid_format.proofs.NumberLemmas.{added_sum, column_numbers, column_read}
use Rattle.grid_format.proofs.table.load_column.Goals as goal

pub returns-in-Err-clause-damaged : goal.returns-in-Err-clause-damaged
returns-in-Err-clause-damaged g c = (
  c.in-Err.ensures.shown.0,
  c.in-Err.ensures.shown.1,
  λ meta is.
      column_read c.args.edges (32 + 8 * c.args.first) c.args.before c.args.parts _ meta _ (c.in-Ok.ensures.value meta is) (omega arith)
      ∙ sym c.add_column.ensures.value ∙ c.in-Err.is,
)

pub returns-clause-told : goal.returns-clause-told
returns-clause-told g c = λ meta is.
    let read = c.in-Ok.ensures.value meta is in (
      column_read c.args.edges (32 + 8 * c.args.first) c.args.before c.args.parts _ meta _ read (omega arith) ∙ sym c.add_column.ensures.value ∙ c.in-Ok-add_column.is,
      c.push_column.ensures.items ∙ ap (λ l. c.args.counts.now.items ++ l) (sym (column_numbers (32 + 8 * c.args.first) c.args.parts _ meta _ read (omega arith))),
    )

pub returns-clause-sum : goal.returns-clause-sum
returns-clause-sum g c =
    let new = numbers 0 c.args.parts c.fill.new.buf in
    let all = ap sum c.push_column.ensures.items ∙ sum_by-append (λ x. x) c.args.counts.now.items new in
    let total = added_sum c.args.edges (32 + 8 * c.args.first) c.args.before c.in-Ok-add_column.total new (sym c.add_column.ensures.value ∙ c.in-Ok-add_column.is) in
    omega (arith, all, total)
