-- What a line of a schedule says.
use Rattle.std.specs.Prelude.{ℕ, ◌&&◌, List, [], ◌∷◌, length, Option, Some, None, option_map, codes, nat_le, nat_lt, if◌then◌else◌}
use Rattle.std.specs.List.{list_all}
use Rattle.std.specs.Str.{bytes_eq}
use Rattle.edge_text.specs.Fields.{fields_of, is_comment, is_digit, value_of}
use Rattle.edge_text.specs.Lines.{without_return}
use Rattle.flight_core.specs.declared.event.Event.TheVariants.{Feed, Skip, Finalise}
use Rattle.flight_core.specs.declared.said.Said.{Said}
use Rattle.flight_core.specs.declared.said.Said.TheVariants.{Nothing, Does, Edges, Unclear}

-- the number of a field that is all digits, at most 2^32 - 1
abbrev pub number_of : List ℕ → Option ℕ
number_of field = if list_all is_digit field && nat_le (value_of field) 4294967295 then Some (value_of field) else None

-- a number in front of others
abbrev pub number_before : Option ℕ → Option (List ℕ) → Option (List ℕ)
number_before None others = None
number_before (Some n) others = option_map (λ ns. n ∷ ns) others

-- the numbers of fields, if each of them is one
abbrev pub numbers_of : List (List ℕ) → Option (List ℕ)
numbers_of [] = Some []
numbers_of (field ∷ fields) = number_before (number_of field) (numbers_of fields)

-- what a word says with the numbers behind it
abbrev pub said_with : List ℕ → List ℕ → Said
said_with word [] = if bytes_eq word (codes "edges") then Edges else Unclear
said_with word (t ∷ []) = Unclear
said_with word (t ∷ j ∷ []) = if bytes_eq word (codes "final") then Does (Finalise t j) else Unclear
said_with word (t ∷ i ∷ j ∷ []) = if bytes_eq word (codes "feed") then Does (Feed t i j)
    else (if bytes_eq word (codes "skip") then Does (Skip t i j) else Unclear)
said_with word (t ∷ i ∷ j ∷ n ∷ ns) = Unclear

abbrev pub said_behind : List ℕ → Option (List ℕ) → Said
said_behind word None = Unclear
said_behind word (Some numbers) = said_with word numbers

-- what fields say; blank lines and comments say nothing
abbrev pub said_in : List (List ℕ) → Said
said_in [] = Nothing
said_in (word ∷ fields) = if is_comment word then Nothing else said_behind word (numbers_of fields)

-- what a line says, of which 128 bytes are the most, with a carriage return at its end
abbrev pub said_by : List ℕ → Said
said_by line = if nat_lt 128 (length line) then Unclear else said_in (fields_of (without_return line))
