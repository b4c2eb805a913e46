use Rattle.std.proofs.Common.{◌≡◌, ℕ, ◌≤◌, take}
use Rattle.lumos_law.specs.Sync.{IsChunk}
use Rattle.flight_core.specs.Finish.{finish_of, applied}
use Rattle.flight_core.proofs.steps.finalise.Given as goal

abbrev pub invariant-loop-i : goal.invariant-loop-i
invariant-loop-i g l = record {
  few : l.end.moved ≤ l.i;
  done : (state : ℕ → _) (sum : ℕ → _) → IsChunk state l.first l.before → IsChunk sum l.first l.sums
      → IsChunk (applied (g.G.VertexProgram.model l.program) state sum) l.first (take l.i l.after)
      × (l.end ≡ finish_of (g.G.VertexProgram.model l.program) state sum l.first l.i);
}
