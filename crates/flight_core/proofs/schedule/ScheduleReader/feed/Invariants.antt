use Rattle.std.proofs.Common.{◌≡◌, ◌≤◌, ◌-◌, ℕ, List, None, ◌++◌, length, take}
use Rattle.flight_core.specs.ScheduleRead.{HasRead}
use Rattle.flight_core.proofs.schedule.ScheduleReader.feed.Given as goal

abbrev pub invariant-loop-used : goal.invariant-loop-used
invariant-loop-used l = record {
  used : l.used ≤ length l.piece;
  none : l.self.fault ≡ None;
  reads : (seen : List ℕ) → HasRead seen l.fn.self → HasRead (seen ++ take l.used l.piece) l.self;
}

abbrev pub decreases-loop-used : goal.decreases-loop-used
decreases-loop-used l = length l.piece - l.used
