use Rattle.std.proofs.Common.{◌≡◌, None, take}
use Rattle.flight_core.specs.Events.{mark_of}
use Rattle.flight_core.proofs.mark.find_mark.Given as goal

abbrev pub invariant-loop-mark : goal.invariant-loop-mark
invariant-loop-mark l = mark_of (take l.mark-index l.marks) l.time l.row l.column ≡ None
