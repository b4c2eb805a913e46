use Rattle.std.proofs.Common.{arith}
use Rattle.lumos_base.specs.Bytes.{IsBytes}
use Rattle.lumos_base.proofs.WritesBack.{info_writes_back, rest_of}
use Rattle.lumos_base.proofs.fixed.OutInfoFixed.get.Goals as goal

pub returns-clause-writes_back : goal.returns-clause-writes_back
returns-clause-writes_back c =
    let bytes = c.args.bytes.now in
    let are : IsBytes bytes = λ k. omega (arith, c.type_inv.bytes k) in
    rw (c.read_u32.ensures, c.read_u64.ensures, rest_of 4 bytes) (info_writes_back bytes are c.requires)
