use Rattle.std.proofs.Common.{take}
use Rattle.lumos_base.specs.Leaving.{out_info}
use Rattle.lumos_law.specs.Sync.{IsChunk}
use Rattle.flight_core.proofs.start.tally_out.Given as goal

abbrev pub invariant-loop-edge : goal.invariant-loop-edge
invariant-loop-edge l = IsChunk (out_info (take l.edge-index l.edges)) 0 l.infos
