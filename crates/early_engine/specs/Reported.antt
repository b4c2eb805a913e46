-- What a run reports over every depot, also over one that tells nothing.
use Rattle.std.specs.Prelude.{◌≡◌, ◌≤◌, ◌⊎◌, ℕ, zero, suc, List, [], ◌++◌, Option, Result, Ok, Err}
use Rattle.io_account.specs.declared.Counts.{Counts}
use Rattle.grid_format.specs.Tables.{BlockCounts}
use Rattle.grid_format.specs.declared.head.GridInfo.{GridInfo}
use Rattle.lumos_depot.specs.Streams.{after_told}
use Rattle.lumos_law.specs.Program.{Program}
use Rattle.lumos_report.specs.Report.{ending_line}
use Rattle.lumos_report.specs.declared.records.Ending.{Ending}
use Rattle.windows.specs.Windows.{Coding, Told, WindowState}
use Rattle.early_engine.specs.Gone.{IsTallied}
use Rattle.early_engine.specs.Report.{opening_lines, stage_lines, turn_line, turn_of}
use Rattle.early_engine.specs.Shown.{IsFront, IsShown}
use Rattle.early_engine.specs.declared.options.Mode.{Mode}
use Rattle.early_engine.specs.declared.options.RunFault.{RunFault}
use Rattle.early_engine.specs.declared.options.RunFault.TheVariants.{Depot, Out, Range, Damaged}
use Rattle.early_engine.specs.declared.options.Show.{Show}
use Rattle.early_engine.specs.declared.options.Turn.{Turn}
use Rattle.early_engine.specs.declared.options.Turn.TheVariants.{Going, Ended}

module _ {V S : Type 0} (coding : Coding V S) (p : Program V S) where
  -- The values at first, which are kept, were reported behind what stood there, with the head.
  abbrev pub IsOpening : List ℕ → Show → GridInfo → WindowState V S → Told → Option (List ℕ) → Option (List ℕ) → Type 0
  IsOpening name show info windows told old new = IsShown coding windows told 0 (opening_lines p name show info) old new

  module _ (show : Show) (mode : Mode) (limit n : ℕ) (Counted : ℕ → Counts → Type 0) where
    -- what is written of iteration t, by what it counted and by a state
    abbrev pub turn_stage : ℕ → Counts → (ℕ → V) → List ℕ
    turn_stage t counts state = stage_lines p show mode n t counts state ++ turn_line (turn_of t limit counts.moved)

    -- Iteration t was reported behind what stood there: what it counted, the values after it, where they are shown, and the
    -- last line exactly where the run ended with it, which is still where no value moved.
    pub record IsReported (t : ℕ) (windows : WindowState V S) (told : Told) (old new : Option (List ℕ)) (turn : Turn) : Type 0 where
      pub counts : Counts
      pub counted : Counted t counts
      pub tells : turn ≡ turn_of t limit counts.moved
      pub shown : IsShown coding windows told t (turn_stage t counts) old new

    -- Iteration t was made, with counts of its blocks, and a front of its report was written.
    pub record IsCutShort (Tallied : ℕ → Counts → Type 0) (t : ℕ) (old new : Option (List ℕ)) : Type 0 where
      pub counts : Counts
      pub counted : Tallied t counts
      pub shown : IsFront (turn_stage t counts) old new

    -- Iteration t was reported; or nothing was written, or a front of the report of the iteration that was made; and nothing
    -- where a vertex is over.
    abbrev pub TurnReports : (ℕ → Counts → Type 0) → ℕ → WindowState V S → Told → Option (List ℕ) → Option (List ℕ) → Result Turn RunFault → Type 0
    TurnReports Tallied t windows told old new (Ok turn) = IsReported t windows told old new turn
    TurnReports Tallied t windows told old new (Err Out) = IsCutShort Tallied t old new
    TurnReports Tallied t windows told old new (Err Depot) = (new ≡ old) ⊎ IsCutShort Tallied t old new
    TurnReports Tallied t windows told old new (Err (Range iteration vertex)) = new ≡ old
    TurnReports Tallied t windows told old new (Err (Damaged kind place found)) = (new ≡ old) ⊎ IsCutShort Tallied t old new

module _ {V S : Type 0} (p : Program V S) where
  module _ (show : Show) (mode : Mode) (limit n : ℕ) (Counted : ℕ → Counts → Type 0) where
    -- the text is that of the first t iterations, after each of which the run goes on
    abbrev pub AreReported : ℕ → List ℕ → Type 0
    AreReported zero text = text ≡ []
    AreReported (suc t) text = (before : List ℕ) × AreReported t before × (counts : Counts) × (state : ℕ → V)
        × Counted (suc t) counts × (turn_of (suc t) limit counts.moved ≡ Going) × (text ≡ before ++ stage_lines p show mode n (suc t) counts state)

    -- The iterations of a run that ended were reported behind what stood there: each one after which it went on, the last
    -- one, with which it ended, and how it ended.
    pub record AreEnded (old new : Option (List ℕ)) (end : Ending) : Type 0 where
      pub before : ℕ
      pub early : List ℕ
      pub went : AreReported before early
      pub counts : Counts
      pub counted : Counted (suc before) counts
      pub state : ℕ → V
      pub tells : turn_of (suc before) limit counts.moved ≡ Ended end
      pub last : suc before ≡ end.iterations
      pub most : end.iterations ≤ limit
      pub written : new ≡ after_told old ((early ++ stage_lines p show mode n (suc before) counts state) ++ ending_line end)

  -- A run over a grid with this head and table was reported whole behind what stood there, each iteration with the counts of
  -- all its blocks.
  pub record IsReport (name : List ℕ) (show : Show) (mode : Mode) (limit : ℕ) (info : GridInfo) (table : BlockCounts) (old new : Option (List ℕ)) (end : Ending) : Type 0 where
    pub state : ℕ → V
    pub ended : AreEnded show mode limit info.vertices (IsTallied mode table) (after_told old (opening_lines p name show info state)) new end
