use Rattle.std.proofs.Common.{◌≡◌, List}
use Rattle.lumos_base.specs.Leaving.{out_info}
use Rattle.lumos_base.specs.declared.records.Edge.{Edge}
use Rattle.lumos_law.specs.Sync.{chunk, values, IsChunk}
use Rattle.flight_core.proofs.start.first_values.Given as goal

abbrev pub invariant-loop-i : goal.invariant-loop-i
invariant-loop-i g l =
    (edges : List Edge) → IsChunk (out_info edges) l.first l.infos → l.made.items ≡ chunk (values (g.G.VertexProgram.model l.program) edges 0) l.first l.i
