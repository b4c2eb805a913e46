use Rattle.std.proofs.Common.{◌≡◌, None, find, not}
use Rattle.std.specs.List.{range_with_len}
use Rattle.std.specs.Option.{is_some}
use Rattle.flight_core.specs.Events.{mark_of}
use Rattle.flight_core.proofs.made.first_open.Given as goal

abbrev pub invariant-loop-row : goal.invariant-loop-row
invariant-loop-row l = find (λ i. not (is_some (mark_of l.marks.items l.time i l.column))) (range_with_len 0 l.row) ≡ None
