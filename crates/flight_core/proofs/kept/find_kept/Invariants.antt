use Rattle.std.proofs.Common.{◌≡◌, None, take}
use Rattle.flight_core.specs.Events.{kept_of}
use Rattle.flight_core.proofs.kept.find_kept.Given as goal

abbrev pub invariant-loop-kept : goal.invariant-loop-kept
invariant-loop-kept g l = kept_of (take l.kept-index l.list) l.time l.column ≡ None
