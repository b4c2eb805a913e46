-- What is known of a line that hasn't ended.
use Rattle.std.specs.Prelude.{ℕ, ◌≡◌, ◌<◌, List, [], ◌∷◌, ◌++◌, length, Bool, true, false, Option, Some, None, Result, Ok, Err}
use Rattle.std.specs.List.{list_all}
use Rattle.lumos_base.specs.declared.records.Edge.{Edge}
use Rattle.edge_text.specs.Fields.{fields_of, is_digit, value_of}
use Rattle.edge_text.specs.Lines.{without_return}
use Rattle.edge_text.specs.Reading.{behind_source, behind_target, behind_weight, edge_in}
use Rattle.edge_text.specs.declared.fault.InputWhat.{InputWhat}
use Rattle.edge_text.specs.declared.fault.TextLimits.{TextLimits}
use Rattle.edge_text.specs.declared.part.Fields.{Fields}
use Rattle.edge_text.specs.declared.part.Fields.TheVariants.{Faulty, Comment, Whole, Good}
use Rattle.edge_text.specs.declared.part.GoodFields.{GoodFields}
use Rattle.edge_text.specs.declared.part.GoodFields.TheVariants.{Nothing, Source, Target}
use Rattle.edge_text.specs.declared.part.LinePart.{LinePart}
use Rattle.edge_text.specs.declared.part.LinePart.TheVariants.{Between, Within}
use Rattle.edge_text.specs.declared.part.OpenLine.{OpenLine}

-- the number of digits, or that it is above 2^64 - 1
abbrev pub IsValue : Option ℕ → List ℕ → Type 0
IsValue None digits = 18446744073709551615 < value_of digits
IsValue (Some n) digits = value_of digits ≡ n

-- one digit and more, and their number
pub record IsNumber (value : Option ℕ) (digits : List ℕ) : Type 0 where
  pub some : 0 < length digits
  pub all_digits : list_all is_digit digits ≡ true
  pub number : IsValue value digits

-- what fields mean behind good ones
abbrev pub behind : TextLimits → GoodFields → List (List ℕ) → Result (Option Edge) InputWhat
behind limits Nothing fields = edge_in limits fields
behind limits (Source source) fields = behind_source limits source fields
behind limits (Target source target) fields = behind_target source target fields

-- and behind others
abbrev pub after : TextLimits → Fields → List (List ℕ) → Result (Option Edge) InputWhat
after limits (Faulty what) fields = Err what
after limits Comment fields = Ok None
after limits (Whole edge) fields = behind_weight edge fields
after limits (Good good) fields = behind limits good fields

-- a line's meaning, as a function of the bytes that it still has
abbrev pub IsRest : TextLimits → LinePart → (List ℕ → Result (Option Edge) InputWhat) → Type 0
IsRest limits (Between fields) rest = (more : List ℕ) → rest more ≡ after limits fields (fields_of more)
IsRest limits (Within good value) rest = (digits : List ℕ) × IsNumber value digits × ((more : List ℕ) → rest more ≡ behind limits good (fields_of (digits ++ more)))

-- the bytes of a line so far; a last carriage return waits for what follows it
abbrev pub IsOpenWith : TextLimits → LinePart → Bool → List ℕ → Type 0
IsOpenWith limits part false bytes = IsRest limits part (λ more. edge_in limits (fields_of (bytes ++ more))) × (without_return bytes ≡ bytes)
IsOpenWith limits part true bytes = (front : List ℕ) × (bytes ≡ front ++ 13 ∷ []) × IsRest limits part (λ more. edge_in limits (fields_of (front ++ more)))

abbrev pub IsOpen : TextLimits → OpenLine → List ℕ → Type 0
IsOpen limits line bytes = IsOpenWith limits line.part line.returned bytes
