use Rattle.std.proofs.Common.{◌≡◌, List, map}
use Rattle.std.specs.List.{range_with_len}
use Rattle.lumos_base.specs.Leaving.{out_info}
use Rattle.flight_core.specs.Events.{first_kept}
use Rattle.lumos_base.specs.declared.records.Edge.{Edge}
use Rattle.lumos_law.specs.Sync.{IsChunk}
use Rattle.partition.specs.Parts.{chunk_of}
use Rattle.flight_core.proofs.start.chunk_finals.Given as goal

abbrev pub invariant-loop-column : goal.invariant-loop-column
invariant-loop-column g l =
    (edges : List Edge) → IsChunk (out_info edges) 0 l.infos
    → l.finals.items ≡ map (first_kept (g.G.VertexProgram.model l.program) edges l.parts.vertices (chunk_of l.parts)) (range_with_len 0 l.column)
