use Rattle.std.proofs.Common.{arith}
use Rattle.std.proofs.lemmas.Fmt.{length-decimal-le}
use Rattle.std.proofs.lemmas.Grind.{common_steps}
use Rattle.graph_gen.proofs.drawing.write_field.Goals as goal

pub write_digits-requires : goal.write_digits-requires
write_digits-requires c =
    let few = length-decimal-le 10 c.from.result (omega arith) (omega arith) (omega arith) in
    grind (arith, common_steps, few)

pub returns-clause-place : goal.returns-clause-place
returns-clause-place c =
    let few = length-decimal-le 10 c.from.result (omega arith) (omega arith) (omega arith) in
    omega (arith, few)
