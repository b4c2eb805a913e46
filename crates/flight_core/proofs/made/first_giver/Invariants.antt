use Rattle.std.proofs.Common.{◌≡◌, ℕ, None, find}
use Rattle.std.specs.List.{range_with_len}
use Rattle.lumos_law.specs.Sync.{IsChunk}
use Rattle.flight_core.proofs.made.first_giver.Given as goal

abbrev pub invariant-loop-i : goal.invariant-loop-i
invariant-loop-i g l =
    (state : ℕ → _) → IsChunk state l.first l.values → find (λ v. (g.G.VertexProgram.model l.program).contributes (state v)) (range_with_len l.first l.i) ≡ None
