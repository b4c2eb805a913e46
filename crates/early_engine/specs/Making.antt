-- What an iteration makes of the values before it.
use Rattle.std.specs.Prelude.{◌≡◌, ◌<◌, ℕ, suc, Bool, List, Some, None, find}
use Rattle.std.specs.List.{range_with_len}
use Rattle.lumos_base.specs.declared.records.Edge.{Edge}
use Rattle.lumos_law.specs.Program.{Program}
use Rattle.lumos_law.specs.Sync.{is_over, moved_count}
use Rattle.partition.specs.Parts.{Cut}
use Rattle.flight_core.specs.Finish.{IsOver}
use Rattle.grid_format.specs.Tables.{BlockCounts}
use Rattle.io_account.specs.declared.Counts.{Counts}
use Rattle.lumos_report.specs.declared.records.Kind.{Kind}
use Rattle.value_files.specs.Records.{IsIntact}
use Rattle.windows.specs.Windows.{Coding, Told, WindowState}
use Rattle.early_engine.specs.Early.{IsKept}
use Rattle.early_engine.specs.Grids.{IsOfIteration}
use Rattle.early_engine.specs.Passes.{counts_in}
use Rattle.early_engine.specs.declared.part.Stop.{Stop}
use Rattle.early_engine.specs.declared.part.Stop.TheVariants.{File, Over}
use Rattle.early_engine.specs.declared.options.Mode.{Mode}

module _ {V S : Type 0} (p : Program V S) where
  -- Iteration t + 1 is made: what is kept after it, its counts, and no vertex is over in it.
  pub record IsMade (coding : Coding V S) (edges : List Edge) (cut : Cut) (mode : Mode) (limit t : ℕ) (windows : WindowState V S) (told : Told) (flags : List Bool) (counts : Counts) : Type 0 where
    pub kept : IsKept coding p edges cut mode limit (suc t) windows told flags
    pub counted : counts ≡ counts_in p edges cut.vertices cut.parts mode limit (suc t) (moved_count p edges cut.vertices t)
    pub none : find (is_over p edges t) (range_with_len 0 cut.vertices) ≡ None

  -- Iteration t + 1 isn't made: its least vertex that is over was met, or the depot failed.
  abbrev pub IsUnmade : List Edge → Cut → ℕ → Stop → Type 0
  IsUnmade edges cut t (File fault) = IsIntact fault
  IsUnmade edges cut t (Over vertex) = find (is_over p edges t) (range_with_len 0 cut.vertices) ≡ Some vertex.0

-- An iteration of a kind stops at a block that it goes through, at a record of Values or of Sums, or for a vertex that is over.
abbrev pub StopShows : {V S : Type 0} → (V → Type 0) → (S → Type 0) → Coding V S → Program V S → WindowState V S → Kind → BlockCounts → Stop → Type 0
StopShows ValueIn SumIn coding p windows kind table (File fault) = IsOfIteration coding windows kind table fault
StopShows ValueIn SumIn coding p windows kind table (Over vertex) = (vertex.0 < windows.cut.vertices) × IsOver ValueIn SumIn p vertex.0
