use Rattle.std.proofs.Common.{◌≡◌, replicate}
use Rattle.flight_core.proofs.start.copies.Given as goal

abbrev pub invariant-loop-i : goal.invariant-loop-i
invariant-loop-i g l = l.made.items ≡ replicate l._i l.value
