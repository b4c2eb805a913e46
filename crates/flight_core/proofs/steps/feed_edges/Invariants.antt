use Rattle.std.proofs.Common.{ℕ, take}
use Rattle.lumos_law.specs.Sync.{fed_sum, IsChunk}
use Rattle.flight_core.proofs.steps.feed_edges.Given as goal

abbrev pub invariant-loop-edge : goal.invariant-loop-edge
invariant-loop-edge g l =
    (state : ℕ → _) (first_sum : ℕ → _) → IsChunk state l.source_first l.values → IsChunk first_sum l.target_first l.initial.sums
    → IsChunk (λ v. fed_sum (g.G.VertexProgram.model l.program) (take l.edge-index l.edges) state v (first_sum v)) l.target_first l.sums
