use Rattle.std.proofs.Common.{arith, ◌∙◌}
use Rattle.std.proofs.lemmas.List.{take_all}
use Rattle.lumos_base.specs.Bytes.{IsBytes}
use Rattle.lumos_base.proofs.WritesBack.{number_writes_back}
use Rattle.lumos_base.proofs.fixed.U64Fixed.get.Goals as goal

pub returns-clause-writes_back : goal.returns-clause-writes_back
returns-clause-writes_back c =
    let bytes = c.args.bytes.now in
    let are : IsBytes bytes = λ k. omega (arith, c.type_inv.bytes k) in
    rw c.read_u64.ensures (number_writes_back 8 bytes are (omega arith) ∙ take_all 8 bytes (omega arith))
