-- The values and the sums that windows and their files keep from one iteration to the next.
use Rattle.std.specs.Prelude.{◌≡◌, ◌≢◌, ◌≤◌, ◌<◌, ◌⊎◌, ℕ, ◌*◌, ◌-◌, ◌%◌, List, length, nat_lt, cond, Option}
use Rattle.lumos_depot.specs.declared.depot.FileKind.TheVariants.{Values, Sums}
use Rattle.lumos_law.specs.Sync.{IsChunk}
use Rattle.partition.specs.Parts.{Cut, chunk_of, first_vertex, part_length}
use Rattle.value_files.specs.Kept.{sum_place, value_place}
use Rattle.value_files.specs.Records.{AreTold, ShowsBroken, damage_at}
use Rattle.value_files.specs.declared.fault.FileFault.{FileFault}
use Rattle.windows.specs.Windows.{Coding, Told, WindowState, IsSameRoom, chunk_count, chunk_first, chunk_in, turn_list}

module _ {V : Type 0} (value_of : List ℕ → Option V) (w : ℕ) (cut : Cut) (pinned : ℕ) where
  -- The values of chunk j after iteration t are these, in memory where the chunk is among the first `pinned`, and in Values,
  -- which is told, where it isn't. Those of the iteration before the last stood there too.
  pub record AreKept (t j : ℕ) (even odd : List V) (values : Option (List ℕ)) (xs : List V) : Type 0 where
    pub long : length xs ≡ part_length cut.vertices (chunk_of cut) j
    pub in_memory : j < pinned → xs ≡ chunk_in cut j (turn_list t even odd)
    pub in_file : pinned ≤ j → AreTold value_of w (value_place w cut.vertices t (first_vertex cut.vertices (chunk_of cut) j)) xs values

  -- they are those of a state
  pub record KeepsPart (t j : ℕ) (even odd : List V) (values : Option (List ℕ)) (state : ℕ → V) : Type 0 where
    pub items : List V
    pub kept : AreKept t j even odd values items
    pub chunk : IsChunk state (first_vertex cut.vertices (chunk_of cut) j) items

module _ {V : Type 0} (value_of : List ℕ → Option V) (w : ℕ) (cut : Cut) where
  -- the values of chunk j after iteration t in Values, which is told, are these
  pub record AreFiled (t j : ℕ) (values : Option (List ℕ)) (xs : List V) : Type 0 where
    pub long : length xs ≡ part_length cut.vertices (chunk_of cut) j
    pub in_file : AreTold value_of w (value_place w cut.vertices t (first_vertex cut.vertices (chunk_of cut) j)) xs values

-- the values of another chunk than j, or after iterations that are odd where t is even, or even where it is odd
abbrev pub IsOther : ℕ → ℕ → ℕ → ℕ → Type 0
IsOther t j u k = (u % 2 ≢ t % 2) ⊎ (k ≢ j)

module _ {S : Type 0} (sum_of : List ℕ → Option S) (s : ℕ) (cut : Cut) where
  -- the sums of chunk j in Sums, which is told, are these
  pub record AreStored (j : ℕ) (sums : Option (List ℕ)) (xs : List S) : Type 0 where
    pub long : length xs ≡ part_length cut.vertices (chunk_of cut) j
    pub in_file : AreTold sum_of s (sum_place s (first_vertex cut.vertices (chunk_of cut) j)) xs sums

-- how many bytes of Values the values of chunk j take, where the first `pinned` chunks are kept in memory: none if it is one
-- of these
abbrev pub load_of : Cut → ℕ → ℕ → ℕ → ℕ
load_of cut w pinned j = cond (nat_lt j pinned) 0 (w * part_length cut.vertices (chunk_of cut) j)

module _ {V S : Type 0} (coding : Coding V S) where
  -- the values of chunk j after iteration t, which windows and their files keep, are these
  abbrev pub KeepsList : WindowState V S → Told → ℕ → ℕ → List V → Type 0
  KeepsList w told t j xs = AreKept coding.value_of coding.value_width w.cut w.pinned t j w.even w.odd (told Values) xs

  -- they are those of a state
  abbrev pub Keeps : WindowState V S → Told → ℕ → ℕ → (ℕ → V) → Type 0
  Keeps w told t j state = KeepsPart coding.value_of coding.value_width w.cut w.pinned t j w.even w.odd (told Values) state

  -- the sums of chunk j that the file keeps are these
  abbrev pub StoresList : WindowState V S → Told → ℕ → List S → Type 0
  StoresList w told j xs = AreStored coding.sum_of coding.sum_width w.cut j (told Sums) xs

  -- The windows are the same ones, and all values that were kept are kept, and all sums that were stored are stored.
  pub record Stays (old : WindowState V S) (before : Told) (new : WindowState V S) (after : Told) : Type 0 where
    pub room : IsSameRoom old new
    pub values : (t j : ℕ) (xs : List V) → KeepsList old before t j xs → KeepsList new after t j xs
    pub sums : (j : ℕ) (xs : List S) → StoresList old before j xs → StoresList new after j xs

  -- The same, but for the values of chunk j after iteration t and those that stand in the same place.
  pub record StaysBut (t j : ℕ) (old : WindowState V S) (before : Told) (new : WindowState V S) (after : Told) : Type 0 where
    pub room : IsSameRoom old new
    pub values : (u k : ℕ) (xs : List V) → IsOther t j u k → KeepsList old before u k xs → KeepsList new after u k xs
    pub sums : (k : ℕ) (xs : List S) → StoresList old before k xs → StoresList new after k xs

  -- The same, but for the stored sums of chunk j.
  pub record StaysButSums (j : ℕ) (old : WindowState V S) (before : Told) (new : WindowState V S) (after : Told) : Type 0 where
    pub room : IsSameRoom old new
    pub values : (u k : ℕ) (xs : List V) → KeepsList old before u k xs → KeepsList new after u k xs
    pub sums : (k : ℕ) (xs : List S) → k ≢ j → StoresList old before k xs → StoresList new after k xs

  -- the same of windows
  abbrev pub load_bytes : WindowState V S → ℕ → ℕ
  load_bytes w j = load_of w.cut coding.value_width w.pinned j

  -- what is wrong with the values of chunk j after iteration t in Values: the first record that stands for no value
  abbrev pub values_damage : WindowState V S → ℕ → ℕ → List ℕ → Option FileFault
  values_damage w t j file = damage_at coding.value_of coding.value_width Values (value_place coding.value_width w.cut.vertices t (chunk_first w j)) (chunk_count w j) file

  -- what is wrong with the sums of chunk j in Sums
  abbrev pub sums_damage : WindowState V S → ℕ → List ℕ → Option FileFault
  sums_damage w j file = damage_at coding.sum_of coding.sum_width Sums (sum_place coding.sum_width (chunk_first w j)) (chunk_count w j) file

  -- a fault that, where it isn't the depot's, shows a record of chunk j after iteration t in Values that stands for no value
  abbrev pub BrokenValues : WindowState V S → ℕ → ℕ → FileFault → Type 0
  BrokenValues w t j fault = ShowsBroken coding.value_of coding.value_width Values (value_place coding.value_width w.cut.vertices t (chunk_first w j)) (chunk_count w j) fault

  -- the same of a record of chunk j in Sums
  abbrev pub BrokenSums : WindowState V S → ℕ → FileFault → Type 0
  BrokenSums w j fault = ShowsBroken coding.sum_of coding.sum_width Sums (sum_place coding.sum_width (chunk_first w j)) (chunk_count w j) fault

-- how many vertices lie in chunks that aren't kept in memory
abbrev pub held_out : {V S : Type 0} → WindowState V S → ℕ
held_out w = w.cut.vertices - chunk_first w w.pinned
