-- Numbers, and the seeds that a text lists.
use Rattle.std.specs.Prelude.{ℕ, ◌^◌, ◌-◌, Bool, true, not, ◌==◌, ◌&&◌, ◌||◌, List, [], ◌∷◌, length, Option, Some, None, if◌then◌else◌, nat_le, nat_lt, option_and_then}
use Rattle.std.specs.List.{list_all, list_any, slice_split, before_first, after_first}
use Rattle.std.specs.Str.Parse.{digits_value}
use Rattle.lumos_words.specs.Options.{Text}
use Rattle.lumos_words.specs.declared.request.SeedWord.{SeedWord}

abbrev pub is_digit : ℕ → Bool
is_digit byte = nat_le 48 byte && nat_le byte 57

-- one digit or more, leading zeros allowed, of a value below 2^64
abbrev pub number_of : Text → Option ℕ
number_of text = if nat_lt 0 (length text) && list_all is_digit text && nat_lt (digits_value 10 text) (2 ^ 64)
    then Some (digits_value 10 text) else None

-- ---- one seed

-- a number of at most 268435455
abbrev pub vertex_of : Text → Option ℕ
vertex_of text = option_and_then (λ n. if nat_le n 268435455 then Some n else None) (number_of text)

-- one of the digits 0 to 3
abbrev pub class_of : Text → Option ℕ
class_of (byte ∷ []) = if nat_le 48 byte && nat_le byte 51 then Some (byte - 48) else None
class_of _ = None

abbrev pub seed_of_parts : Option ℕ → Option ℕ → Option SeedWord
seed_of_parts (Some vertex) (Some class) = Some (record { vertex = vertex; class = class })
seed_of_parts (Some vertex) None = None
seed_of_parts None class = None

-- `v:k`, cut at the first colon
abbrev pub seed_of : Text → Option SeedWord
seed_of item = if list_any (λ b. b == 58) item
    then seed_of_parts (vertex_of (before_first (λ b. b == 58) item)) (class_of (after_first (λ b. b == 58) item)) else None

-- ---- a list of seeds

-- the seeds of all items, where each item is one
abbrev pub seed_before : Option SeedWord → Option (List SeedWord) → Option (List SeedWord)
seed_before None seeds = None
seed_before (Some seed) None = None
seed_before (Some seed) (Some seeds) = Some (seed ∷ seeds)

abbrev pub seeds_in : List Text → Option (List SeedWord)
seeds_in [] = Some []
seeds_in (item ∷ rest) = seed_before (seed_of item) (seeds_in rest)

-- no vertex stands twice
abbrev pub has_vertex : ℕ → List SeedWord → Bool
has_vertex vertex seeds = list_any (λ seed. seed.vertex == vertex) seeds

abbrev pub are_distinct : List SeedWord → Bool
are_distinct [] = true
are_distinct (seed ∷ rest) = not (has_vertex seed.vertex rest) && are_distinct rest

abbrev pub are_seeds : List SeedWord → Bool
are_seeds seeds = nat_le (length seeds) 64 && are_distinct seeds

-- the seeds that a text lists, with a comma between two: at most 64, each vertex once. An empty text is one item, and no seed
abbrev pub seeds_of : Text → Option (List SeedWord)
seeds_of text = option_and_then (λ seeds. if are_seeds seeds then Some seeds else None) (seeds_in (slice_split (λ b. b == 44) text))

-- a seed that may follow those before
abbrev pub if_new : List SeedWord → Option SeedWord → Option SeedWord
if_new before None = None
if_new before (Some seed) = if has_vertex seed.vertex before || not (nat_lt (length before) 64) then None else Some seed
