-- Plain lines, as the fast path reads them.
use Rattle.std.specs.Prelude.{ℕ, ◌≡◌, ◌<◌, ◌≤◌, ◌⊎◌, Bool, ◌||◌, List, [], ◌∷◌, ◌++◌, length, take, slice_index, true, Some, Ok}
use Rattle.std.specs.List.{list_all}
use Rattle.lumos_base.specs.declared.records.Edge.{Edge}
use Rattle.edge_text.specs.Fields.{begins_blank, fields_of, is_blank, is_digit}
use Rattle.edge_text.specs.Lines.{lines_of}
use Rattle.edge_text.specs.Parts.{IsNumber}
use Rattle.edge_text.specs.Reading.{behind_target, edge_between, edge_in, line_edge}
use Rattle.edge_text.specs.declared.fault.TextLimits.{TextLimits}

-- a plain line has no other bytes
abbrev pub is_plain : ℕ → Bool
is_plain byte = is_digit byte || is_blank byte

-- bytes that blanks and then digits are, of which the next field is made
pub record IsFieldAt (text : List ℕ) (len : ℕ) (value : ℕ) : Type 0 where
  pub digits : List ℕ
  pub number : IsNumber (Some value) digits
  pub within : len ≤ length text
  pub plain : list_all is_plain (take len text) ≡ true
  pub blank : (more : List ℕ) → begins_blank (take len text ++ more) ≡ true
  pub fields : (more : List ℕ) → begins_blank more ≡ true → fields_of (take len text ++ more) ≡ digits ∷ fields_of more

-- the line feed of a line with so many bytes, behind which one carriage return may stand
pub record IsEnd (text : List ℕ) (at len : ℕ) : Type 0 where
  pub inside : len < length text
  pub ends : slice_index text len ≡ 10
  pub line : (take len text ≡ take at text) ⊎ (take len text ≡ take at text ++ 13 ∷ [])

-- bytes up to a line feed that give an edge its weight
pub record IsWeightAt (text : List ℕ) (len : ℕ) (weight : ℕ) : Type 0 where
  pub at : ℕ
  pub end : IsEnd text at len
  pub plain : list_all is_plain (take at text) ≡ true
  pub blank : begins_blank (take at text) ≡ true
  pub reads : (source target : ℕ) → behind_target source target (fields_of (take at text)) ≡ Ok (Some (edge_between source target weight))

-- a whole line at the front of a text, without its line feed, and its edge, also behind bytes that are nothing of a line
pub record IsPlain (limits : TextLimits) (text : List ℕ) (len : ℕ) (edge : Edge) : Type 0 where
  pub inside : len < length text
  pub ends : slice_index text len ≡ 10
  pub open_before : lines_of (take len text) ≡ []
  pub reads : (bytes : List ℕ) → ((more : List ℕ) → edge_in limits (fields_of (bytes ++ more)) ≡ edge_in limits (fields_of more)) → line_edge limits (bytes ++ take len text) ≡ Ok (Some edge)
