use Rattle.std.proofs.Common.{◌≡◌, ◌≤◌, ℕ, ◌+◌}
use Rattle.lumos_depot.specs.Streams.{after_told}
use Rattle.lumos_law.specs.Sync.{IsChunk}
use Rattle.lumos_report.specs.Report.{value_line}
use Rattle.early_engine.proofs.Repeats.{texts}
use Rattle.lumos_top.proofs.finals.write_chunk.Given as goal

abbrev pub invariant-loop-k : goal.invariant-loop-k
invariant-loop-k g l = record {
  later : g.O.Sink.faults l.fn.out ≤ g.O.Sink.faults l.out;
  written : (state : ℕ → _) → IsChunk state l.first l.values → g.O.Sink.written l.out ≡ after_told (g.O.Sink.written l.fn.out) (texts (λ k. value_line (l.first + k) ((g.G.VertexProgram.model l.program).show (state (l.first + k)))) l.k);
}
