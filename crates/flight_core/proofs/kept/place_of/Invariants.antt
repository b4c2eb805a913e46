use Rattle.std.proofs.Common.{◌≡◌, None, take}
use Rattle.flight_core.specs.Events.{kept_of}
use Rattle.flight_core.proofs.kept.place_of.Given as goal

abbrev pub invariant-loop-at : goal.invariant-loop-at
invariant-loop-at g l = kept_of (take l.at l.list) l.time l.column ≡ None
