use Rattle.std.proofs.Common.{take, sym, subst, arith}
use Rattle.std.proofs.lemmas.List.{take_rest}
use Rattle.edge_text.specs.Plain.{IsPlain}
use Rattle.edge_text.proofs.PlainLines.{number_is, plain_is}
use Rattle.edge_text.proofs.plain.plain_line.Goals as goal

pub returns : goal.returns
returns c =
    let made = c.digits_at-digits.ensures in
    let field = c.in-Some.ensures in
    let number = number_is c.args.text.now c.digits_at-digits.result.len c.digits_at-digits.result.value made.within (omega arith) made.digits made.value in
    subst (IsPlain c.args.limits.now c.args.text.now _) (sym c.edge_of.ensures)
    (plain_is c.args.limits.now c.args.text.now _ _ c.digits_at-digits.result.len c.in-Some.field.len c.in-Some-weight_at.tail.len c.in-Ok.source c.in-Ok-vertex_of.target c.in-Some-weight_at.tail.weight
    c.digits_at-digits.result.value c.in-Some.field.value (take_rest c.args.text.now c.digits_at-digits.result.len) (take_rest _ c.in-Some.field.len)
    made.within (omega arith) number (c.in-Ok.ensures.reads (take c.digits_at-digits.result.len c.args.text.now) number.number) field (c.in-Ok-vertex_of.ensures.reads field.digits field.number.number) c.in-Some-weight_at.ensures)
