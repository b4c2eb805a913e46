-- What comes of the beginning of a run.
use Rattle.std.specs.Prelude.{◌≡◌, ⊤, ℕ, List, Option, Result, Ok, Err}
use Rattle.lumos_base.specs.declared.records.Edge.{Edge}
use Rattle.lumos_depot.specs.Streams.{AppendsFront, after_told}
use Rattle.lumos_law.specs.Program.{Program}
use Rattle.lumos_law.specs.Sync.{values}
use Rattle.partition.specs.Parts.{Cut}
use Rattle.value_files.specs.declared.fault.FileFault.{FileFault}
use Rattle.value_files.specs.declared.fault.FileFault.TheVariants as file
use Rattle.windows.specs.Windows.{Coding, Told, WindowState}
use Rattle.early_engine.specs.Grids.{IsOfValues}
use Rattle.early_engine.specs.Report.{first_lines}
use Rattle.early_engine.specs.Shown.{KeepsAll}
use Rattle.early_engine.specs.declared.options.Phase.{Phase}
use Rattle.early_engine.specs.declared.options.Phase.TheVariants as phase
use Rattle.early_engine.specs.declared.options.RunFault.{RunFault}
use Rattle.early_engine.specs.declared.options.RunFault.TheVariants.{Depot, Out, Range, Damaged}
use Rattle.early_engine.specs.declared.options.Show.{Show}

-- What a fault of the beginning shows over every depot: a record of Values that stands for no value.
abbrev pub StartShows : {V S : Type 0} → Coding V S → WindowState V S → RunFault → Type 0
StartShows coding windows Depot = ⊤
StartShows coding windows Out = ⊤
StartShows coding windows (Range t v) = ⊥
StartShows coding windows (Damaged kind place found) = IsOfValues coding windows (file.Damaged kind place found)

-- the depot or the sink failed
abbrev pub IsFromOutside : RunFault → Type 0
IsFromOutside Depot = ⊤
IsFromOutside Out = ⊤
IsFromOutside (Range t v) = ⊥
IsFromOutside (Damaged kind place found) = ⊥

-- why a run stops at a file
abbrev pub fault_of_file : FileFault → RunFault
fault_of_file file.Depot = Depot
fault_of_file (file.Damaged kind place found) = Damaged kind place found

-- how far an engine is after the beginning
abbrev pub phase_begun : Result (Unit {0}) RunFault → Phase
phase_begun (Ok done) = phase.Going
phase_begun (Err fault) = phase.Stopped

module _ {V S : Type 0} (coding : Coding V S) (p : Program V S) where
  -- What comes of the beginning: the values at first are kept, and their lines and the head are written; or the outside
  -- failed, and a front of these was written.
  abbrev pub StartComes : List ℕ → Show → List Edge → Cut → WindowState V S → Told → Option (List ℕ) → Option (List ℕ) → Result (Unit {0}) RunFault → Type 0
  StartComes name show edges cut windows told old new (Ok done) = KeepsAll coding windows told 0 (values p edges 0) × (new ≡ after_told old (first_lines p name show edges cut.vertices cut.parts))
  StartComes name show edges cut windows told old new (Err Depot) = AppendsFront old new (first_lines p name show edges cut.vertices cut.parts)
  StartComes name show edges cut windows told old new (Err Out) = AppendsFront old new (first_lines p name show edges cut.vertices cut.parts)
  StartComes name show edges cut windows told old new (Err (Range t v)) = ⊥
  StartComes name show edges cut windows told old new (Err (Damaged kind place found)) = ⊥
