-- What a call over a depot may answer and change.
use Rattle.std.specs.Prelude.{◌≡◌, ◌≢◌, ◌≤◌, ◌<◌, ◌⊎◌, ◌*◌, ⊤, ℕ, List, Option, Some, Result, Ok, Err}
use Rattle.lumos_depot.specs.declared.depot.FileKind.{FileKind}
use Rattle.lumos_depot.specs.declared.depot.FileKind.TheVariants.{Meta, Primary, Secondary, Info, Values, Sums, Spool}
use Rattle.grid_format.specs.Checks.{GridFiles}
use Rattle.grid_format.specs.Heads.{meta_length}
use Rattle.grid_format.specs.Tables.{IsCountPlace}
use Rattle.grid_format.specs.declared.head.GridFault.{GridFault}
use Rattle.grid_format.specs.declared.head.GridFault.TheVariants.{NotAGrid, WrongVersion, BadLength, BadMeta, Depot}

-- a depot tells its files, and these are the four of the grid
pub record Holds (told : FileKind → Option (List ℕ)) (files : GridFiles) : Type 0 where
  pub meta_file : told Meta ≡ Some files.meta
  pub primary_file : told Primary ≡ Some files.primary
  pub secondary_file : told Secondary ≡ Some files.secondary
  pub info_file : told Info ≡ Some files.info

-- a fact that is owed where the answer is that the depot failed
abbrev pub FaultOwes : GridFault → Type 0 → Type 0
FaultOwes Depot fact = fact
FaultOwes NotAGrid fact = ⊤
FaultOwes (WrongVersion found) fact = ⊤
FaultOwes (BadLength file want found) fact = ⊤
FaultOwes (BadMeta place found) fact = ⊤

abbrev pub DepotOwes : {A : Type 0} → Result A GridFault → Type 0 → Type 0
DepotOwes (Ok x) fact = ⊤
DepotOwes (Err fault) fact = FaultOwes fault fact

-- the answer is the one that is wanted, but where the depot failed
abbrev pub FaultGives : {A : Type 0} → GridFault → Result A GridFault → Type 0
FaultGives Depot want = ⊤
FaultGives NotAGrid want = want ≡ Err NotAGrid
FaultGives (WrongVersion found) want = want ≡ Err (WrongVersion found)
FaultGives (BadLength file wanted found) want = want ≡ Err (BadLength file wanted found)
FaultGives (BadMeta place found) want = want ≡ Err (BadMeta place found)

abbrev pub Gives : {A : Type 0} → Result A GridFault → Result A GridFault → Type 0
Gives (Ok x) want = want ≡ Ok x
Gives (Err fault) want = FaultGives fault want

-- a number at a place of Meta that can't stand there in a grid
abbrev pub IsWrongNumber : ℕ → ℕ → Type 0
IsWrongNumber place found =
    ((place ≡ 12) × ((found ≡ 0) ⊎ (256 < found)))
    ⊎ ((place ≡ 16) × (268435456 < found))
    ⊎ ((place ≡ 20) × (0 < found))
    ⊎ ((place ≡ 24) × (0 < found))
    ⊎ (IsCountPlace 65536 place × (0 < found))

-- A file of a grid within the limits may have to have so many bytes, and has another number of them; a Meta that is too
-- short for a head has to have the head's.
abbrev pub IsWrongLength : FileKind → ℕ → ℕ → Type 0
IsWrongLength Meta want found =
    ((want ≡ 32) × (found < 32)) ⊎ ((p : ℕ) × (0 < p) × (p ≤ 256) × (want ≡ meta_length p) × (found ≢ want))
IsWrongLength Primary want found = (n : ℕ) × (n ≤ 2147483648) × (want ≡ 12 * n) × (found ≢ want)
IsWrongLength Secondary want found = (n : ℕ) × (n ≤ 2147483648) × (want ≡ 12 * n) × (found ≢ want)
IsWrongLength Info want found = (n : ℕ) × (n ≤ 268435456) × (want ≡ 12 * n) × (found ≢ want)
IsWrongLength Values want found = ⊥
IsWrongLength Sums want found = ⊥
IsWrongLength Spool want found = ⊥

-- what a fault carries isn't what a grid within the limits has there
abbrev pub Shows : GridFault → Type 0
Shows Depot = ⊤
Shows NotAGrid = ⊤
Shows (WrongVersion found) = found ≢ 1
Shows (BadLength file want found) = IsWrongLength file want found
Shows (BadMeta place found) = IsWrongNumber place found
