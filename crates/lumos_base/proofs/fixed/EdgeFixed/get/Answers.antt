use Rattle.std.proofs.Common.{arith}
use Rattle.lumos_base.specs.Bytes.{IsBytes}
use Rattle.lumos_base.proofs.WritesBack.{edge_writes_back, rest_of}
use Rattle.lumos_base.proofs.fixed.EdgeFixed.get.Goals as goal

pub returns-clause-writes_back : goal.returns-clause-writes_back
returns-clause-writes_back c =
    let bytes = c.args.bytes.now in
    let are : IsBytes bytes = λ k. omega (arith, c.type_inv.bytes k) in
    rw (c.read_u32.ensures, c.read_u32-2.ensures, c.read_u32-3.ensures, rest_of 4 bytes, rest_of 8 bytes)
    (edge_writes_back bytes are c.requires)
