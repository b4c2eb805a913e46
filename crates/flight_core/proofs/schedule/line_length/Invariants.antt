use Rattle.std.proofs.Common.{◌≡◌, ◌≤◌, ◌-◌, [], length, take}
use Rattle.edge_text.specs.Lines.{lines_of}
use Rattle.flight_core.proofs.schedule.line_length.Given as goal

abbrev pub invariant-loop-used : goal.invariant-loop-used
invariant-loop-used l = record {
  used : l.used ≤ length l.text;
  unended : lines_of (take l.used l.text) ≡ [];
}

abbrev pub decreases-loop-used : goal.decreases-loop-used
decreases-loop-used l = length l.text - l.used
