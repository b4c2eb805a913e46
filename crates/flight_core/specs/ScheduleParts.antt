-- What is known of a line of a schedule field by field.
use Rattle.std.specs.Prelude.{ℕ, ◌≡◌, ◌≤◌, List, [], drop, length, Some, None}
use Rattle.edge_text.specs.Fields.{fields_of}
use Rattle.flight_core.specs.ScheduleLine.{number_before, numbers_of}
use Rattle.flight_core.specs.declared.said.Next.{Next}
use Rattle.flight_core.specs.declared.said.Next.TheVariants.{End, Other, Number}

-- what the first field of a text is: there is none, it is no number, or it is this one, and ends before this place
abbrev pub IsNext : List ℕ → Next → Type 0
IsNext text End = numbers_of (fields_of text) ≡ Some []
IsNext text Other = numbers_of (fields_of text) ≡ None
IsNext text (Number n used) = (used ≤ length text) × (numbers_of (fields_of text) ≡ number_before (Some n) (numbers_of (fields_of (drop used text))))
