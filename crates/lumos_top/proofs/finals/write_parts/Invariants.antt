use Rattle.std.proofs.Common.{◌≡◌, ◌≤◌}
use Rattle.lumos_depot.specs.Streams.{after_told}
use Rattle.partition.specs.Parts.{chunk_of}
use Rattle.lumos_top.specs.Replays.{chunk_lines}
use Rattle.early_engine.proofs.Repeats.{texts}
use Rattle.lumos_top.proofs.finals.write_parts.Given as goal

abbrev pub invariant-loop-column : goal.invariant-loop-column
invariant-loop-column g l = record {
  later : g.O.Sink.faults l.fn.out ≤ g.O.Sink.faults l.out;
  written : g.O.Sink.written l.out ≡ after_told (g.O.Sink.written l.fn.out) (texts (chunk_lines (g.G.VertexProgram.model l.program) l.replay.edges l.parts.vertices (chunk_of l.parts) l.replay.state l.time) l.column);
}
