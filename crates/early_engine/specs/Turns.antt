-- What comes of an iteration.
use Rattle.std.specs.Prelude.{◌≡◌, ◌≤◌, ◌<◌, ◌⊎◌, ◌-◌, ⊤, ℕ, suc, Bool, List, Option, Result, Ok, Err}
use Rattle.lumos_base.specs.declared.records.Edge.{Edge}
use Rattle.lumos_depot.specs.Streams.{AppendsFront, after_told}
use Rattle.lumos_law.specs.Program.{Program}
use Rattle.lumos_law.specs.Sync.{Ending as EndingOf, over_in, still_in, limit_at, ending, ending_from}
use Rattle.partition.specs.Parts.{Cut}
use Rattle.flight_core.specs.Finish.{IsOver}
use Rattle.grid_format.specs.Tables.{BlockCounts}
use Rattle.lumos_report.specs.declared.records.Ending.{Ending}
use Rattle.lumos_report.specs.declared.records.Why.{Why}
use Rattle.lumos_report.specs.declared.records.Why.TheVariants.{Still, Limit}
use Rattle.value_files.specs.declared.fault.FileFault.TheVariants as file
use Rattle.windows.specs.Windows.{Coding, Told, WindowState}
use Rattle.early_engine.specs.Early.{IsKept}
use Rattle.early_engine.specs.Grids.{IsOfIteration}
use Rattle.early_engine.specs.Passes.{kind_of}
use Rattle.early_engine.specs.Report.{finished, turn_text}
use Rattle.early_engine.specs.declared.part.Stop.{Stop}
use Rattle.early_engine.specs.declared.part.Stop.TheVariants as stop
use Rattle.early_engine.specs.declared.options.Mode.{Mode}
use Rattle.early_engine.specs.declared.options.Phase.{Phase}
use Rattle.early_engine.specs.declared.options.Phase.TheVariants as phase
use Rattle.early_engine.specs.declared.options.RunFault.{RunFault}
use Rattle.early_engine.specs.declared.options.RunFault.TheVariants.{Depot, Out, Range, Damaged}
use Rattle.early_engine.specs.declared.options.Show.{Show}
use Rattle.early_engine.specs.declared.options.Turn.{Turn}
use Rattle.early_engine.specs.declared.options.Turn.TheVariants.{Going, Ended}

-- an ending, as a report tells it
abbrev pub ending_by_why : Why → ℕ → EndingOf
ending_by_why Still t = still_in t
ending_by_why Limit t = limit_at t

abbrev pub ending_told : Ending → EndingOf
ending_told end = ending_by_why end.why end.iterations

-- why a run stops, where iteration t isn't made
abbrev pub fault_of : ℕ → Stop → RunFault
fault_of t (stop.File file.Depot) = Depot
fault_of t (stop.File (file.Damaged kind place found)) = Damaged kind place found
fault_of t (stop.Over vertex) = Range t vertex.0

-- how far an engine is after an iteration
abbrev pub phase_after : Turn → Phase
phase_after Going = phase.Going
phase_after (Ended end) = phase.Stopped

abbrev pub phase_of : Result Turn RunFault → Phase
phase_of (Ok turn) = phase_after turn
phase_of (Err fault) = phase.Stopped

module _ {V S : Type 0} (ValueIn : V → Type 0) (SumIn : S → Type 0) (coding : Coding V S) (p : Program V S) (windows : WindowState V S) (mode : Mode) (table : BlockCounts) where
  -- What a fault of iteration t shows over every depot: the iteration, and a vertex of the grid that is over; or a word of a
  -- block that this iteration goes through, in the file of its kind, that is no vertex of its part; or a record of Values or
  -- of Sums that stands for no number.
  abbrev pub RunShows : ℕ → RunFault → Type 0
  RunShows t Depot = ⊤
  RunShows t Out = ⊤
  RunShows t (Range iteration v) = (iteration ≡ t) × (v < windows.cut.vertices) × IsOver ValueIn SumIn p v
  RunShows t (Damaged kind place found) = IsOfIteration coding windows (kind_of mode t) table (file.Damaged kind place found)

  -- what a fault of some iteration shows, of the first `limit` of them
  pub record SomeShows (limit : ℕ) (fault : RunFault) : Type 0 where
    pub iteration : ℕ
    pub some : 1 ≤ iteration
    pub few : iteration ≤ limit
    pub shown : RunShows iteration fault

module _ {V S : Type 0} (p : Program V S) (show : Show) (mode : Mode) (edges : List Edge) (cut : Cut) (limit t : ℕ) where
  -- how the run ends
  abbrev pub run_end : EndingOf
  run_end = ending p edges cut.vertices limit

  -- The run goes on after iteration t + 1, or ends with it as the report tells.
  abbrev pub TurnTells : Turn → Type 0
  TurnTells Going = (suc t < limit) × (run_end ≡ ending_from p edges cut.vertices (limit - suc t) (suc t))
  TurnTells (Ended end) = (run_end ≡ ending_told end) × (end.iterations ≡ suc t)

  -- Iteration t + 1 was made and reported.
  pub record HasTurned (coding : Coding V S) (windows : WindowState V S) (told : Told) (flags : List Bool) (old new : Option (List ℕ)) (turn : Turn) : Type 0 where
    pub kept : IsKept coding p edges cut mode limit (suc t) windows told flags
    pub written : new ≡ after_told old (turn_text p show mode edges cut.vertices cut.parts limit t)
    pub tells : TurnTells turn

  -- It was made, and a front of its text was written.
  pub record HasFront (old new : Option (List ℕ)) : Type 0 where
    pub front : AppendsFront old new (turn_text p show mode edges cut.vertices cut.parts limit t)
    pub made : suc t ≤ finished run_end

  -- What comes of iteration t + 1: it is made and reported; or a vertex is over in it, as the run ends, and nothing was
  -- reported; or the outside failed, and a front of its text was written.
  abbrev pub TurnComes : Coding V S → WindowState V S → Told → List Bool → Option (List ℕ) → Option (List ℕ) → Result Turn RunFault → Type 0
  TurnComes coding windows told flags old new (Ok turn) = HasTurned coding windows told flags old new turn
  TurnComes coding windows told flags old new (Err (Range iteration vertex)) = (run_end ≡ over_in iteration vertex) × (iteration ≡ suc t) × (new ≡ old)
  TurnComes coding windows told flags old new (Err Out) = HasFront old new
  TurnComes coding windows told flags old new (Err Depot) = (new ≡ old) ⊎ HasFront old new
  TurnComes coding windows told flags old new (Err (Damaged kind place found)) = ⊥
