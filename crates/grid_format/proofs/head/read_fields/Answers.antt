use Rattle.std.proofs.Common.{◌≡◌, true, nat_eq, sym, ap, ◌∙◌, arith}
use Rattle.std.specs.List.{starts_with}
use Rattle.lumos_depot.specs.declared.depot.FileKind.TheVariants.{Meta}
use Rattle.grid_format.specs.Checks.{fields_of, judged}
use Rattle.grid_format.specs.Heads.{head_at, magic, number_at}
use Rattle.grid_format.proofs.Answering.{gives_exact}
use Rattle.grid_format.proofs.HeadLemmas.{begins_range, fields_few, fields_other, fields_short, fields_whole}
use Rattle.grid_format.proofs.head.read_fields.Goals as goal

pub returns-then-size-lt8-clause-told : goal.returns-then-size-lt8-clause-told
returns-then-size-lt8-clause-told g c = λ meta is. fields_few meta (omega (arith, c.requires.size meta is))

pub returns-then-not-begins_grid-clause-told : goal.returns-then-not-begins_grid-clause-told
returns-then-not-begins_grid-clause-told g c = λ meta is.
    let read = c.in-Ok.ensures.value meta is in
    fields_other meta (sym (begins_range meta) ∙ ap (λ b. starts_with nat_eq b magic) (sym read) ∙ sym c.begins_grid.ensures ∙ c.if-not-begins_grid.true)

pub returns-then-size-lt32-clause-told : goal.returns-then-size-lt32-clause-told
returns-then-size-lt32-clause-told g c = λ meta is.
    let read = c.in-Ok.ensures.value meta is in
    let long = c.requires.size meta is in
    rw (← long) (fields_short meta (sym (begins_range meta) ∙ ap (λ b. starts_with nat_eq b magic) (sym read) ∙ sym c.begins_grid.ensures ∙ c.if-not-begins_grid.false) (omega arith))

pub returns-clause-told : goal.returns-clause-told
returns-clause-told g c = λ meta is.
    let read = c.in-Ok.ensures.value meta is in
    let again = c.in-Ok-fill.ensures.value meta (c.in-Ok.ensures.reads.contents Meta ∙ is) in
    let begins : starts_with nat_eq meta magic ≡ true = sym (begins_range meta) ∙ ap (λ b. starts_with nat_eq b magic) (sym read) ∙ sym c.begins_grid.ensures ∙ c.if-not-begins_grid.false in
    let long = c.requires.size meta is in
    gives_exact c.judge_bytes.result (fields_of meta)
    (c.judge_bytes.ensures.value ∙ ap (λ b. judged (head_at 0 b) (number_at 4 12 b)) again ∙ sym (fields_whole meta begins (omega arith)))
