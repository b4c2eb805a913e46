use Rattle.std.proofs.Common.{arith}
use Rattle.std.proofs.lemmas.List.{take_rest}
use Rattle.edge_text.proofs.PlainLines.{field_is, number_is}
use Rattle.edge_text.proofs.plain.field_at.Goals as goal

pub returns : goal.returns
returns c =
    let made = c.digits_at-digits.ensures in
    field_is c.args.text.now _ c.blanks_at-blanks.result c.digits_at-digits.result.len c.digits_at-digits.result.value (take_rest c.args.text.now c.blanks_at-blanks.result)
    c.blanks_at-blanks.ensures.within (omega arith) c.blanks_at-blanks.ensures.blank made.within
    (number_is _ c.digits_at-digits.result.len c.digits_at-digits.result.value made.within (omega arith) made.digits made.value)
