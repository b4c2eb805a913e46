use Rattle.std.proofs.Common.{◌≡◌, ◌≤◌, ℕ}
use Rattle.lumos_depot.specs.Streams.{after_told}
use Rattle.lumos_law.specs.Sync.{IsChunk}
use Rattle.early_engine.specs.Report.{value_lines}
use Rattle.early_engine.proofs.write.write_part.Given as goal

-- the lines of the first values are written
abbrev pub invariant-loop-i : goal.invariant-loop-i
invariant-loop-i g l = record {
  later : g.O.Sink.faults l.fn.out ≤ g.O.Sink.faults l.out;
  written : (state : ℕ → _) → IsChunk state l.first l.values → g.O.Sink.written l.out ≡ after_told (g.O.Sink.written l.fn.out) (value_lines (g.G.VertexProgram.model l.program) state l.first l.i);
}
