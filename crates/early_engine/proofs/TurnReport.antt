-- What a turn reports over every depot.
use Rattle.std.proofs.Common.{◌≡◌, ◌<◌, inl, inr, ℕ, Bool, List, Option, Result, Ok, Err, refl, sym, ap}
use Rattle.std.specs.Prelude.{IfErr, IfOk, OnOk}
use Rattle.active_sets.specs.Active.{hot_at}
use Rattle.lumos_depot.specs.declared.depot.FileKind.{FileKind}
use Rattle.lumos_law.specs.Program.{Program}
use Rattle.partition.specs.Parts.{Cut}
use Rattle.grid_format.specs.Tables.{BlockCounts}
use Rattle.io_account.specs.declared.Counts.{Counts}
use Rattle.value_files.specs.declared.fault.FileFault.TheVariants as file
use Rattle.windows.specs.Windows.{Coding, Told, WindowState}
use Rattle.early_engine.specs.Gone.{AreOf, Beside, HasGone, HasPassed, IsTallied, loads_by, size_in}
use Rattle.early_engine.specs.Making.{StopShows}
use Rattle.early_engine.specs.Passes.{Place, feeds_ahead, kind_of, need_by, passes}
use Rattle.early_engine.specs.Report.{turn_of}
use Rattle.early_engine.specs.Reported.{TurnReports, turn_stage}
use Rattle.early_engine.specs.Shown.{ShowsKept}
use Rattle.early_engine.specs.Starts.{StartShows}
use Rattle.early_engine.specs.Turns.{RunShows, fault_of}
use Rattle.early_engine.specs.declared.options.Mode.{Mode}
use Rattle.early_engine.specs.declared.options.RunFault.{RunFault}
use Rattle.early_engine.specs.declared.options.RunFault.TheVariants.{Depot, Out, Range, Damaged}
use Rattle.early_engine.specs.declared.options.Show.{Show}
use Rattle.early_engine.specs.declared.options.Turn.{Turn}
use Rattle.early_engine.specs.declared.part.Stop.{Stop}
use Rattle.early_engine.specs.declared.part.Stop.TheVariants as stop
use Rattle.early_engine.proofs.BytesLemmas.{gone_as}
use Rattle.early_engine.proofs.KeepLemmas.{values_fault}
use Rattle.windows.specs.Windows.{IsSameRoom}

module _ {V S : Type 0} (coding : Coding V S) (p : Program V S) (show : Show) (mode : Mode) (limit n : ℕ) (Counted Tallied : ℕ → Counts → Type 0) where
  -- an iteration that wasn't made reports nothing
  pub unreported : (t iteration : ℕ) (why : Stop) (windows : WindowState V S) (told : Told) (held : Option (List ℕ)) → TurnReports coding p show mode limit n Counted Tallied t windows told held held (Err (fault_of iteration why))
  unreported t iteration (stop.File file.Depot) windows told held = inl refl
  unreported t iteration (stop.File (file.Damaged kind place found)) windows told held = inl refl
  unreported t iteration (stop.Over vertex) windows told held = refl

  -- one that was made is reported as far as the outside lets it be
  pub reported : (start : WindowState V S) (t : ℕ) (counts : Counts) (windows : WindowState V S) (told : Told) (old new : Option (List ℕ)) (result : Result Turn RunFault) → OnOk result (Counted t counts) → Tallied t counts
      → IfOk result (λ turn. turn ≡ turn_of t limit counts.moved) → IfErr result (StartShows coding start) → ShowsKept coding windows told t (turn_stage coding p show mode limit n Counted t counts) old new result
      → TurnReports coding p show mode limit n Counted Tallied t windows told old new result
  reported start t counts windows told old new (Ok turn) counted tallied tells shows shown = record { counts = counts; counted = counted; tells = tells; shown = shown }
  reported start t counts windows told old new (Err Depot) counted tallied tells shows front = inr (record { counts = counts; counted = tallied; shown = front })
  reported start t counts windows told old new (Err Out) counted tallied tells shows front = record { counts = counts; counted = tallied; shown = front }
  reported start t counts windows told old new (Err (Range u v)) counted tallied tells shows front = absurd shows
  reported start t counts windows told old new (Err (Damaged kind place found)) counted tallied tells shows front = inr (record { counts = counts; counted = tallied; shown = front })

-- by the table and the flags themselves
pub has_passed : (mode : Mode) (limit t : ℕ) (cut : Cut) (table : BlockCounts) (load : ℕ → ℕ) (were are : List Bool) (beside : Beside) (taken stored taken_now stored_now : FileKind → ℕ) (counts : Counts) → table.parts ≡ cut.parts
    → ((size : Place → ℕ) (need : Place → Bool) (loads : Place → ℕ) → ((i j : ℕ) → i < cut.parts → j < cut.parts → AreOf table load were are (feeds_ahead mode limit t) size need loads i j) → HasGone (kind_of mode t) size need loads (passes (kind_of mode t) cut.parts) beside taken stored taken_now stored_now counts)
    → HasPassed mode limit table load were are t beside taken stored taken_now stored_now counts
has_passed mode limit t cut table load were are beside taken stored taken_now stored_now counts fits gone =
    let need = need_by (hot_at were) (hot_at are) (feeds_ahead mode limit t) in
    let loads = loads_by load (hot_at were) (hot_at are) (feeds_ahead mode limit t) in
    gone_as (kind_of mode t) (size_in table) need loads (passes (kind_of mode t) cut.parts) (passes (kind_of mode t) table.parts) beside beside taken stored taken_now stored_now counts (ap (passes (kind_of mode t)) (sym fits)) refl
    (gone (size_in table) need loads (λ i j row column. record { size_is = refl; need_is = refl; loads_is = refl }))

pub tallied : (mode : Mode) (limit t : ℕ) (table : BlockCounts) (load : ℕ → ℕ) (were are : List Bool) (beside : Beside) (taken stored taken_now stored_now : FileKind → ℕ) (counts : Counts) → HasPassed mode limit table load were are t beside taken stored taken_now stored_now counts → IsTallied mode table t counts
tallied mode limit t table load were are beside taken stored taken_now stored_now counts passed = record { need = need_by (hot_at were) (hot_at are) (feeds_ahead mode limit t); counted = passed.counted }

module _ {V S : Type 0} (ValueIn : V → Type 0) (SumIn : S → Type 0) (coding : Coding V S) (p : Program V S) (windows : WindowState V S) (mode : Mode) (table : BlockCounts) (t : ℕ) where
  -- a run's fault shows what stops its iteration
  pub stop_shows : (why : Stop) → StopShows ValueIn SumIn coding p windows (kind_of mode t) table why → RunShows ValueIn SumIn coding p windows mode table t (fault_of t why)
  stop_shows (stop.File file.Depot) shown = tt
  stop_shows (stop.File (file.Damaged kind place found)) shown = shown
  stop_shows (stop.Over vertex) shown = (refl, shown.0, shown.1)

  -- or what stops its report
  pub report_shows : {T : Type 0} (later : WindowState V S) (result : Result T RunFault) → IsSameRoom windows later → IfErr result (StartShows coding later) → IfErr result (RunShows ValueIn SumIn coding p windows mode table t)
  report_shows later (Ok x) room shows = tt
  report_shows later (Err Depot) room shows = tt
  report_shows later (Err Out) room shows = tt
  report_shows later (Err (Range u v)) room shows = absurd shows
  report_shows later (Err (Damaged kind place found)) room shows = inr (inl (values_fault coding windows later (file.Damaged kind place found) room shows))
