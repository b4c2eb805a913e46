use Rattle.std.proofs.Common.{◌≡◌, ◌≤◌, ◌+◌, ◌-◌, length}
use Rattle.lumos_top.proofs.StreamSteps.{HasTaken}
use Rattle.lumos_top.proofs.stream.read_schedule.Given as goal

abbrev pub invariant-loop-taken : goal.invariant-loop-taken
invariant-loop-taken g l = record {
  short : l.taken ≤ 1099511627776;
  len : length l.piece ≡ length l.fn.piece;
  later : g.I.Source.faults l.fn.input ≤ g.I.Source.faults l.input;
  reads : HasTaken (g.I.Source.left l.fn.input) (g.I.Source.left l.input) l.taken l.schedule;
}

abbrev pub decreases-loop-taken : goal.decreases-loop-taken
decreases-loop-taken g l = 1099511627776 + 1 - l.taken
