use Rattle.std.proofs.Common.{All, take}
use Rattle.lumos_base.specs.Records.{IsEdge}
use Rattle.flight_core.proofs.start.read_numbers.Given as goal

abbrev pub invariant-loop-edge : goal.invariant-loop-edge
invariant-loop-edge l = All IsEdge (take l.edge-index l.edges)
