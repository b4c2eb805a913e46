-- Records of one width, one after another in a file, and the values that they stand for.
use Rattle.std.specs.Prelude.{◌≡◌, ◌<◌, ⊤, ℕ, zero, suc, ◌+◌, ◌-◌, ◌*◌, List, [], ◌∷◌, length, drop, map, Option, None, Some, Result, Ok, Err, IsSomeAnd}
use Rattle.byteorder.specs.Endian.{little_number}
use Rattle.lumos_base.specs.Bytes.{IsBytes}
use Rattle.lumos_depot.specs.Files.{range_at}
use Rattle.lumos_depot.specs.declared.depot.FileKind.{FileKind}
use Rattle.value_files.specs.declared.fault.FileFault.{FileFault}
use Rattle.value_files.specs.declared.fault.FileFault.TheVariants.{Depot, Damaged}

-- the n records of w bytes each from a place on
abbrev pub records_at : ℕ → ℕ → ℕ → List ℕ → List (List ℕ)
records_at w place zero bytes = []
records_at w place (suc n) bytes = range_at place w bytes ∷ records_at w (place + w) n bytes

-- the last eight bytes of a record, as a number
abbrev pub last_number : ℕ → List ℕ → ℕ
last_number w bytes = little_number 8 (drop (w - 8) bytes)

-- a call answers the fault that there is, if there is one, or that the depot failed
abbrev pub FaultIs : {T : Type 0} → Result T FileFault → Option FileFault → Type 0
FaultIs (Ok x) fault = fault ≡ None
FaultIs (Err Depot) fault = ⊤
FaultIs (Err (Damaged file place found)) fault = fault ≡ Some (Damaged file place found)

-- the depot failed, and no record was damaged
abbrev pub IsIntact : FileFault → Type 0
IsIntact Depot = ⊤
IsIntact (Damaged file place found) = ⊥

module _ {V : Type 0} (value_of : List ℕ → Option V) (w : ℕ) where
  -- the records from a place on stand for these values
  abbrev pub AreRecords : ℕ → List V → List ℕ → Type 0
  AreRecords place items bytes = map value_of (records_at w place (length items) bytes) ≡ map Some items

  -- the same of bytes that are told
  abbrev pub AreTold : ℕ → List V → Option (List ℕ) → Type 0
  AreTold place items told = IsSomeAnd told (AreRecords place items)

  -- the fault that a record at a place is, where it stands for no value; else one behind it
  abbrev pub damage_by : FileKind → ℕ → List ℕ → Option FileFault → Option V → Option FileFault
  damage_by file place bytes later None = Some (Damaged file place (last_number w bytes))
  damage_by file place bytes later (Some v) = later

  -- what is wrong with records from a place on: the first one that stands for no value
  abbrev pub first_damage : FileKind → ℕ → List (List ℕ) → Option FileFault
  first_damage file place [] = None
  first_damage file place (r ∷ rs) = damage_by file place r (first_damage file (place + w) rs) (value_of r)

  -- what is wrong with the n records from a place of a file on
  abbrev pub damage_at : FileKind → ℕ → ℕ → List ℕ → Option FileFault
  damage_at file place n bytes = first_damage file place (records_at w place n bytes)

  -- One of n records from a start on stands for no value, and ends in the bytes of a number.
  pub record IsBroken (start n place found : ℕ) : Type 0 where
    pub index : ℕ
    pub low : index < n
    pub place_is : place ≡ start + w * index
    pub bytes : List ℕ
    pub are_bytes : IsBytes bytes
    pub long : length bytes ≡ w
    pub no_value : value_of bytes ≡ None
    pub found_is : found ≡ last_number w bytes

  -- a fault that shows such a record
  abbrev pub ShowsBroken : FileKind → ℕ → ℕ → FileFault → Type 0
  ShowsBroken file start n Depot = ⊤
  ShowsBroken file start n (Damaged other place found) = (other ≡ file) × IsBroken start n place found
