use Rattle.std.proofs.Common.{◌≡◌, ◌≤◌}
use Rattle.lumos_depot.specs.Streams.{after_told}
use Rattle.partition.specs.Parts.{chunk_of}
use Rattle.lumos_top.specs.Replays.{parts_lines}
use Rattle.early_engine.proofs.Repeats.{texts}
use Rattle.lumos_top.proofs.finals.write_times.Given as goal

abbrev pub invariant-loop-time : goal.invariant-loop-time
invariant-loop-time g l = record {
  later : g.O.Sink.faults l.fn.out ≤ g.O.Sink.faults l.out;
  written : g.O.Sink.written l.out ≡ after_told (g.O.Sink.written l.fn.out) (texts (parts_lines (g.G.VertexProgram.model l.program) l.replay.edges l.parts.vertices (chunk_of l.parts) l.replay.state l.parts.parts) l.time);
}
