-- Answers and changes, one call after another.
use Rattle.std.proofs.Common.{◌≡◌, ℕ, Result, Ok, Err, refl}
use Rattle.grid_format.specs.Checks.{◌>>=◌, in_meta}
use Rattle.grid_format.specs.declared.counts.Mismatch.{Mismatch}
use Rattle.grid_format.specs.Outside.{Gives, FaultGives}
use Rattle.grid_format.specs.Tables.{IfDamaged}
use Rattle.grid_format.specs.declared.head.GridFault.{GridFault}
use Rattle.grid_format.specs.declared.table.TableFault.{TableFault}
use Rattle.grid_format.specs.declared.table.TableFault.TheVariants as table
use Rattle.grid_format.specs.declared.head.GridFault.TheVariants.{NotAGrid, WrongVersion, BadLength, BadMeta, Depot}

-- counts that fit, as an answer about the grid
pub in_meta-ok : {A : Type 0} (x : A) (first : Result A Mismatch) → in_meta first ≡ Ok x → first ≡ Ok x
in_meta-ok x (Ok y) h = cc
in_meta-ok x (Err mismatch) h = absurd (cc)

-- a count that doesn't fit is a fault whatever comes behind
pub fault_counts : {A B : Type 0} (fault : GridFault) (first : Result A Mismatch) (next : A → Result B Mismatch) → FaultGives fault (in_meta first) → FaultGives fault (in_meta (first >>= next))
fault_counts Depot first next h = tt
fault_counts NotAGrid (Err m) next h = absurd (cc)
fault_counts (WrongVersion found) (Err m) next h = absurd (cc)
fault_counts (BadLength file want found) (Err m) next h = absurd (cc)
fault_counts (BadMeta place found) (Err m) next h = cc
fault_counts NotAGrid (Ok x) next h = absurd (cc)
fault_counts (WrongVersion found) (Ok x) next h = absurd (cc)
fault_counts (BadLength file want found) (Ok x) next h = absurd (cc)
fault_counts (BadMeta place found) (Ok x) next h = absurd (cc)

fault_same : (A : Type 0) (fault : GridFault) → FaultGives {A = A} fault (Err fault)
fault_same A Depot = tt
fault_same A NotAGrid = refl
fault_same A (WrongVersion n) = refl
fault_same A (BadLength file want n) = refl
fault_same A (BadMeta p n) = refl

gives_same : {A : Type 0} (result : Result A GridFault) → Gives result result
gives_same (Ok x) = refl
gives_same {A = A} (Err fault) = fault_same A fault

-- an answer is the one that is wanted
pub gives_exact : {A : Type 0} (result want : Result A GridFault) → result ≡ want → Gives result want
gives_exact result want is = rw (← is) (gives_same result)

-- what is owed for a number that doesn't fit, by way of another fact
pub damaged_then : (fault : TableFault) (P Q : ℕ → ℕ → Type 0) → IfDamaged fault P → ((p n : ℕ) → P p n → Q p n) → IfDamaged fault Q
damaged_then table.Depot P Q h to = tt
damaged_then table.NoMemory P Q h to = tt
damaged_then (table.Damaged place found) P Q h to = to place found h
