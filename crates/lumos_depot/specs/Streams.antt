-- What a read takes from a source and a write puts into a sink, where these tell what they hold.
use Rattle.std.specs.Prelude.{◌≡◌, ℕ, List, [], ◌++◌, take, Option, Some, Result, MatchResult, OnOk}
use Rattle.std.specs.Option.{option_map}

-- the bytes in front of those that are told
abbrev pub before_told : List ℕ → Option (List ℕ) → Option (List ℕ)
before_told bytes told = option_map (λ rest. bytes ++ rest) told

-- the bytes behind those that are told
abbrev pub after_told : Option (List ℕ) → List ℕ → Option (List ℕ)
after_told told bytes = option_map (λ held. held ++ bytes) told

-- Bytes were taken from the front; whether the object tells stays.
abbrev pub Takes : Option (List ℕ) → Option (List ℕ) → List ℕ → Type 0
Takes old new bytes = old ≡ before_told bytes new

-- A read gives the first bytes of what is left, none exactly at the end; a failed one leaves all.
abbrev pub ReadGives : {E : Type 0} → Option (List ℕ) → Option (List ℕ) → Result ℕ E → List ℕ → Type 0
ReadGives old new result buf = MatchResult result (λ n. Takes old new (take n buf) × (n ≡ 0 → (xs : List ℕ) → old ≡ Some xs → xs ≡ []))
    (λ _. new ≡ old)

-- Behind what was held comes a front of the text.
pub record AppendsFront (old new : Option (List ℕ)) (text : List ℕ) : Type 0 where
  pub count : ℕ
  pub front : new ≡ after_told old (take count text)

-- A front of the bytes was put behind what was held, and all of them where the write didn't fail.
pub record Writes {E : Type 0} (old new : Option (List ℕ)) (result : Result (Unit {0}) E) (bytes : List ℕ) : Type 0 where
  pub front : AppendsFront old new bytes
  pub whole : OnOk result (new ≡ after_told old bytes)
