-- What the calls of a depot do to its files and its counters.
use Rattle.std.specs.Prelude.{◌≡◌, ◌≢◌, ◌≤◌, ◌<◌, ◌⊎◌, ◌+◌, ◌-◌, ◌^◌, ℕ, List, ◌++◌, length, take, drop, min, replicate, slice_index, Option, None, Result, MatchResult, MatchOption, IsSomeAnd, IsErrOf, OnErr}
use Rattle.lumos_depot.specs.Causes.{Rose}
use Rattle.lumos_depot.specs.declared.depot.FileKind.{FileKind}
use Rattle.lumos_depot.specs.declared.depot.DepotFault.{DepotFault}
use Rattle.lumos_depot.specs.declared.depot.DepotFault.TheVariants.{Failed, NoMemory}

-- what is told of each file, or counted for it, is as it was
abbrev pub Same : {A : Type 0} → (FileKind → A) → (FileKind → A) → Type 0
Same old new = (kind : FileKind) → new kind ≡ old kind

-- it is as it was for the other files
abbrev pub SameBut : {A : Type 0} → FileKind → (FileKind → A) → (FileKind → A) → Type 0
SameBut changed old new = (kind : FileKind) → kind ≢ changed → new kind ≡ old kind

-- a file cut, or extended with zero bytes, to a length
abbrev pub resized : ℕ → List ℕ → List ℕ
resized n file = take n file ++ replicate (n - length file) 0

-- a file with these bytes at a place inside it
abbrev pub overwritten : ℕ → List ℕ → List ℕ → List ℕ
overwritten place bytes file = take place file ++ bytes ++ drop (place + length bytes) file

-- the bytes of a range
abbrev pub range_at : ℕ → ℕ → List ℕ → List ℕ
range_at place n file = take n (drop place file)

-- a counter after n more, which stops at the end of its type
abbrev pub raised : ℕ → ℕ → ℕ
raised count n = min (count + n) (2 ^ 64 - 1)

-- After a write that failed each byte in the range is the old or the new one; the others are as before.
pub record Mixed (place : ℕ) (bytes old new : List ℕ) : Type 0 where
  pub before : take place new ≡ take place old
  pub behind : drop (place + length bytes) new ≡ drop (place + length bytes) old
  pub same_length : length new ≡ length old
  pub each : (k : ℕ) → k < length bytes → (slice_index new (place + k) ≡ slice_index old (place + k)) ⊎ (slice_index new (place + k) ≡ slice_index bytes k)

-- the same of what is told; a depot that tells nothing goes on telling nothing
abbrev pub MixedTold : ℕ → List ℕ → Option (List ℕ) → Option (List ℕ) → Type 0
MixedTold place bytes old new = MatchOption old (new ≡ None) (λ file. IsSomeAnd new (Mixed place bytes file))

-- A transfer of n bytes raised the counter by n, or by at most n where it failed.
abbrev pub Raises : {T E : Type 0} → ℕ → ℕ → ℕ → Result T E → Type 0
Raises old new n result = MatchResult result (λ _. new ≡ raised old n) (λ _. (old ≤ new) × (new ≤ raised old n))

-- The count never falls; a failure is told only where it rose.
pub record HasDepotCause {T : Type 0} (before now : ℕ) (result : Result T DepotFault) : Type 0 where
  pub later : before ≤ now
  pub failed : IsErrOf result Failed → Rose before now

-- The count never falls; a failure is told only where it rose, and want of memory never.
pub record HasCauseOutside {T : Type 0} (before now : ℕ) (result : Result T DepotFault) : Type 0 where
  pub later : before ≤ now
  pub failed : OnErr result (Rose before now)
  pub no_memory : IsErrOf result NoMemory → ⊥

-- Outside n bytes from a place on the bytes are as they were, and as many.
pub record SameOutside (place n : ℕ) (old new : List ℕ) : Type 0 where
  pub before : take place new ≡ take place old
  pub behind : drop (place + n) new ≡ drop (place + n) old
  pub long : length new ≡ length old

-- the same of what is told; a depot that tells nothing goes on telling nothing
abbrev pub SameOutsideTold : ℕ → ℕ → Option (List ℕ) → Option (List ℕ) → Type 0
SameOutsideTold place n old new = MatchOption old (new ≡ None) (λ file. IsSomeAnd new (SameOutside place n file))
