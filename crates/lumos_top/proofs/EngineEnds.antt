-- What an engine gives a run over a grid.
use Rattle.std.proofs.Common.{◌≡◌, ◌≤◌, ◌<◌, inl, inr, ℕ, true, false, List, [], ◌∷◌, Option, Result, Ok, Err, All, IsSome, is_some, refl, sym, ap, subst, ◌∙◌}
use Rattle.std.specs.Prelude.{IfErr, IfOk}
use Rattle.std.specs.List.{list_any, range_with_len}
use Rattle.lumos_base.specs.Records.{IsEdge}
use Rattle.lumos_base.specs.declared.records.Edge.{Edge}
use Rattle.lumos_depot.specs.Files.{Same}
use Rattle.lumos_depot.specs.Steps.{RoseBy, SameOff}
use Rattle.lumos_depot.specs.declared.depot.FileKind.{FileKind}
use Rattle.lumos_depot.specs.declared.depot.FileKind.TheVariants.{Meta, Primary, Secondary, Info, Values, Sums, Spool}
use Rattle.lumos_depot.proofs.Written.{front_none}
use Rattle.edge_text.specs.Reading.{Listed}
use Rattle.grid_format.specs.Grid.{HasGrid, grid, grid_head}
use Rattle.grid_format.specs.Outside.{Holds}
use Rattle.grid_format.specs.declared.head.GridInfo.{GridInfo}
use Rattle.lumos_law.specs.Program.{Program}
use Rattle.lumos_law.specs.Sync.{ending}
use Rattle.flight_core.specs.Finish.{IsOver}
use Rattle.lumos_report.specs.declared.records.Ending.{Ending as EndingRecord}
use Rattle.lumos_report.specs.declared.records.Why.{Why}
use Rattle.lumos_report.specs.declared.records.Why.TheVariants.{Still, Limit}
use Rattle.windows.specs.Budget.{need_of, pinned_of}
use Rattle.windows.specs.Windows.{Coding, WindowState}
use Rattle.early_engine.specs.Engines.{EngineState, IsOpened, cut_in}
use Rattle.early_engine.specs.Files.{open_takes, run_stores, stores_of}
use Rattle.early_engine.specs.Opens.{IsTooSmall as IsSmallOpen, OpenShows}
use Rattle.early_engine.specs.Report.{finished, report}
use Rattle.early_engine.specs.Reported.{IsReport}
use Rattle.early_engine.specs.Runs.{RoseAll, RunComes, stored_by, taken_by}
use Rattle.early_engine.specs.Turns.{SomeShows, ending_by_why}
use Rattle.grid_format.specs.Tables.{BlockCounts}
use Rattle.early_engine.specs.declared.options.Mode.{Mode}
use Rattle.early_engine.specs.declared.options.OpenFault.{OpenFault}
use Rattle.early_engine.specs.declared.options.OpenFault.TheVariants as open_fault
use Rattle.early_engine.specs.declared.options.RunFault.{RunFault}
use Rattle.early_engine.specs.declared.options.RunFault.TheVariants as run_fault
use Rattle.early_engine.specs.declared.options.RunOptions.{RunOptions}
use Rattle.lumos_top.specs.Answers.{Ran, mode_of, ran_with}
use Rattle.lumos_words.specs.declared.request.IterWords.{IterWords}
use Rattle.lumos_top.specs.Building.{IsGridOf}
use Rattle.lumos_top.specs.Running.{DamageShown, EndShown, IsOverAt, IsTooSmall, IsWithin, IsWrongIn, Leaves, LeavesGrid, OpenStops, RoseRun, RunMoves, ended_why, ending_of, ending_told, run_stop_of}
use Rattle.lumos_top.specs.Sides.{WhereTold}
use Rattle.lumos_top.specs.declared.running.RunStop.{RunStop}
use Rattle.lumos_top.specs.declared.status.Ended.{Ended}

-- what an engine answers, as the command tells it
abbrev pub told_run : Result EndingRecord RunFault → Result Ended RunStop
told_run (Ok end) = Ok (ending_of end)
told_run (Err fault) = run_stop_of fault

same_ending : (why : Why) (t : ℕ) → ending_told (ended_why why t) ≡ ending_by_why why t
same_ending Still t = refl
same_ending Limit t = refl

run_leaves : (ran : Ran) (files : FileKind → Option (List ℕ)) (old new : Option (List ℕ)) (r : Result EndingRecord RunFault) → WhereTold files (RunComes ran.ending ran.text old new r) → Leaves ran files old new (told_run r)
run_leaves ran files old new (Ok end) h = λ told. (same_ending end.why end.iterations ∙ sym (h told).0, (h told).1)
run_leaves ran files old new (Err (run_fault.Range iteration vertex)) h = λ told. (sym (h told).0, (h told).1)
run_leaves ran files old new (Err run_fault.Out) h = h
run_leaves ran files old new (Err run_fault.Depot) h = h
run_leaves ran files old new (Err (run_fault.Damaged kind place found)) h = h

-- a grid's engine, where the files are told
opened_at : {G V S : Type 0} (list : Listed) (parts : ℕ) (info : GridInfo) (was is : FileKind → Option (List ℕ)) (engine : EngineState G V S) → IsGridOf list parts info was → IsSome (was Meta) →
    ((edges : List Edge) → All IsEdge edges → HasGrid edges info.vertices info.parts → Holds was (grid edges info.vertices info.parts) → IsOpened edges is engine) → IsOpened list.edges is engine
opened_at list parts info was is engine g told opens =
    opens list.edges g.numbers (subst (λ (i : GridInfo). HasGrid list.edges i.vertices i.parts) (sym g.head) g.limits) (subst (λ (i : GridInfo). Holds was (grid list.edges i.vertices i.parts)) (sym g.head) (g.holds told))

-- An engine was opened for a program over the grid with this head, with windows under a budget.
pub record IsFor {G V S : Type 0} (v s : ℕ) (program : G) (options : RunOptions) (info : GridInfo) (engine : EngineState G V S) : Type 0 where
  pub program_is : engine.program ≡ program
  pub options_is : engine.options ≡ options
  pub info_is : engine.info ≡ info
  pub cut_is : engine.windows.cut ≡ cut_in info
  pub pinned_is : engine.windows.pinned ≡ pinned_of (cut_in info) v s options.budget

pub made_for : {G V S : Type 0} (v s : ℕ) (program : G) (given options : RunOptions) (info : GridInfo) (engine : EngineState G V S) → engine.program ≡ program → engine.options ≡ given → given ≡ options → engine.info ≡ info →
    engine.windows.cut ≡ cut_in info → engine.windows.pinned ≡ pinned_of (cut_in info) v s given.budget → IsFor v s program options info engine
made_for v s program given options info engine program_is options_is given_is info_is cut_is pinned_is = record {
  program_is = program_is;
  options_is = options_is ∙ given_is;
  info_is = info_is;
  cut_is = cut_is;
  pinned_is = pinned_is ∙ ap (λ (o : RunOptions). pinned_of (cut_in info) v s o.budget) given_is;
}

-- what its run comes to
abbrev own_ran : {G V S : Type 0} → (G → Program V S) → (G → List ℕ) → ℕ → ℕ → EngineState G V S → Listed → Ran
own_ran model name v s engine list = ran_with (model engine.program) v s (name engine.program) engine.options engine.info list

ran_is : {G V S : Type 0} (model : G → Program V S) (name : G → List ℕ) (v s : ℕ) (program : G) (options : RunOptions) (info : GridInfo) (engine : EngineState G V S) (list : Listed) (parts : ℕ) →
    IsFor v s program options info engine → info ≡ grid_head list.edges list.vertices parts → own_ran model name v s engine list ≡ ran_with (model program) v s (name program) options (grid_head list.edges list.vertices parts) list
ran_is model name v s program options info engine list parts made head =
    ap (λ (g : _). ran_with (model g) v s (name g) engine.options engine.info list) made.program_is
    ∙ ap (λ (o : RunOptions). ran_with (model program) v s (name program) o engine.info list) made.options_is
    ∙ ap (λ (i : GridInfo). ran_with (model program) v s (name program) options i list) (made.info_is ∙ head)

-- an engine that was opened on a grid, and what came of its run
pub run_told : {G V S : Type 0} (model : G → Program V S) (name : G → List ℕ) (v s : ℕ) (program : G) (list : Listed) (parts : ℕ) (options : RunOptions) (info : GridInfo) (was is : FileKind → Option (List ℕ)) (engine : EngineState G V S) (old new : Option (List ℕ)) (r : Result EndingRecord RunFault) →
    IsFor v s program options info engine → IsGridOf list parts info was →
    ((edges : List Edge) → All IsEdge edges → HasGrid edges info.vertices info.parts → Holds was (grid edges info.vertices info.parts) → IsOpened edges is engine) →
    ((edges : List Edge) → IsOpened edges is engine → RunComes (ending (model engine.program) edges engine.info.vertices engine.options.iterations) (report (model engine.program) (name engine.program) engine.options.show engine.options.mode edges engine.info.vertices engine.info.parts engine.options.iterations) old new r) →
    Leaves (ran_with (model program) v s (name program) options (grid_head list.edges list.vertices parts) list) was old new (told_run r)
run_told model name v s program list parts options info was is engine old new r made g opens runs =
    subst (λ (ran : Ran). Leaves ran was old new (told_run r)) (ran_is model name v s program options info engine list parts made g.head)
    (run_leaves (own_ran model name v s engine list) was old new r (λ told. runs list.edges (opened_at list parts info was is engine g told opens)))

finished_told : (why : Why) (t : ℕ) → finished (ending_by_why why t) ≡ t
finished_told Still t = refl
finished_told Limit t = refl

moves_why : (ran : Ran) (files : FileKind → Option (List ℕ)) (taken taken_now stored stored_now : FileKind → ℕ) (why : Why) (t : ℕ) → WhereTold files (RoseRun ran.moved taken taken_now stored stored_now) → RunMoves ran files taken taken_now stored stored_now (Ok (ended_why why t))
moves_why ran files taken taken_now stored stored_now Still t h = h
moves_why ran files taken taken_now stored stored_now Limit t h = h

pub moves_stop : (ran : Ran) (files : FileKind → Option (List ℕ)) (taken taken_now stored stored_now : FileKind → ℕ) (fault : RunFault) → RunMoves ran files taken taken_now stored stored_now (run_stop_of fault)
moves_stop ran files taken taken_now stored stored_now run_fault.Depot = tt
moves_stop ran files taken taken_now stored stored_now run_fault.Out = tt
moves_stop ran files taken taken_now stored stored_now (run_fault.Range iteration vertex) = tt
moves_stop ran files taken taken_now stored stored_now (run_fault.Damaged kind place found) = tt

-- the counters of a run, behind those of what stands before it
rose_run : (ran : Ran) (taken taken_then taken_now stored stored_then stored_now taken_bytes stored_bytes : FileKind → ℕ) →
    ran.moved.primary_taken ≡ taken_bytes Primary → ran.moved.secondary_taken ≡ taken_bytes Secondary → ran.moved.values_taken ≡ taken_bytes Values → ran.moved.values_stored ≡ stored_bytes Values → ran.moved.sums_taken ≡ taken_bytes Sums → ran.moved.sums_stored ≡ stored_bytes Sums →
    SameOff open_takes taken taken_then → Same stored stored_then → RoseAll taken_then taken_now taken_bytes → RoseAll stored_then stored_now stored_bytes → RoseRun ran.moved taken taken_now stored stored_now
rose_run ran taken taken_then taken_now stored stored_then stored_now taken_bytes stored_bytes primary secondary values_in values_out sums_in sums_out same_taken same_stored took put = record {
  primary = rose taken taken_then taken_now Primary ran.moved.primary_taken (taken_bytes Primary) primary (same_taken Primary refl) (took Primary);
  secondary = rose taken taken_then taken_now Secondary ran.moved.secondary_taken (taken_bytes Secondary) secondary (same_taken Secondary refl) (took Secondary);
  values_taken = rose taken taken_then taken_now Values ran.moved.values_taken (taken_bytes Values) values_in (same_taken Values refl) (took Values);
  values_stored = rose stored stored_then stored_now Values ran.moved.values_stored (stored_bytes Values) values_out (same_stored Values) (put Values);
  sums_taken = rose taken taken_then taken_now Sums ran.moved.sums_taken (taken_bytes Sums) sums_in (same_taken Sums refl) (took Sums);
  sums_stored = rose stored stored_then stored_now Sums ran.moved.sums_stored (stored_bytes Sums) sums_out (same_stored Sums) (put Sums);
}
  where
    rose : (first then now : FileKind → ℕ) (kind : FileKind) (n m : ℕ) → n ≡ m → then kind ≡ first kind → RoseBy (then kind) (now kind) m → RoseBy (first kind) (now kind) n
    rose first then now kind n m is same h = subst (λ (b : ℕ). RoseBy b (now kind) n) same (subst (λ (k : ℕ). RoseBy (then kind) (now kind) k) (sym is) h)

-- what its run took of the files, and stored in them
pub run_moved : {G V S : Type 0} (model : G → Program V S) (name : G → List ℕ) (v s : ℕ) (program : G) (list : Listed) (parts : ℕ) (options : RunOptions) (info : GridInfo) (was is : FileKind → Option (List ℕ)) (engine : EngineState G V S) (old new : Option (List ℕ)) (end : EndingRecord) (taken taken_then taken_now stored stored_then stored_now : FileKind → ℕ) →
    IsFor v s program options info engine → IsGridOf list parts info was →
    ((edges : List Edge) → All IsEdge edges → HasGrid edges info.vertices info.parts → Holds was (grid edges info.vertices info.parts) → IsOpened edges is engine) →
    ((edges : List Edge) → IsOpened edges is engine → RunComes (ending (model engine.program) edges engine.info.vertices engine.options.iterations) (report (model engine.program) (name engine.program) engine.options.show engine.options.mode edges engine.info.vertices engine.info.parts engine.options.iterations) old new (Ok end)) →
    ((edges : List Edge) → IsOpened edges is engine → RoseAll taken_then taken_now (taken_by (cut_in engine.info) v s engine.windows.pinned (model engine.program) edges engine.options.show engine.options.mode engine.options.iterations end.iterations)) →
    ((edges : List Edge) → IsOpened edges is engine → RoseAll stored_then stored_now (stored_by (cut_in engine.info) v s engine.windows.pinned engine.options.mode engine.options.iterations end.iterations)) →
    SameOff open_takes taken taken_then → Same stored stored_then →
    RunMoves (ran_with (model program) v s (name program) options (grid_head list.edges list.vertices parts) list) was taken taken_now stored stored_now (Ok (ending_of end))
run_moved model name v s program list parts options info was is engine old new end taken taken_then taken_now stored stored_then stored_now made g opens runs took put same_taken same_stored =
    moves_why (ran_with (model program) v s (name program) options (grid_head list.edges list.vertices parts) list) was taken taken_now stored stored_now end.why end.iterations (λ told.
    let opened = opened_at list parts info was is engine g told opens in
    let done = finished (ending (model engine.program) list.edges engine.info.vertices engine.options.iterations) in
    let count : end.iterations ≡ done = sym (ap finished (runs list.edges opened).0 ∙ finished_told end.why end.iterations) in
    let pinned = pinned_of (cut_in engine.info) v s engine.options.budget in
    let kept : engine.windows.pinned ≡ pinned = made.pinned_is ∙ ap (λ (i : GridInfo). pinned_of (cut_in i) v s options.budget) (sym made.info_is) ∙ ap (λ (o : RunOptions). pinned_of (cut_in engine.info) v s o.budget) (sym made.options_is) in
    let taken_bytes : ℕ → ℕ → FileKind → ℕ = λ w k. taken_by (cut_in engine.info) v s w (model engine.program) list.edges engine.options.show engine.options.mode engine.options.iterations k in
    let stored_bytes : ℕ → ℕ → FileKind → ℕ = λ w k. stored_by (cut_in engine.info) v s w engine.options.mode engine.options.iterations k in
    let took_at : RoseAll taken_then taken_now (taken_bytes pinned done) = subst (λ (k : ℕ). RoseAll taken_then taken_now (taken_bytes pinned k)) count (subst (λ (w : ℕ). RoseAll taken_then taken_now (taken_bytes w end.iterations)) kept (took list.edges opened)) in
    let put_at : RoseAll stored_then stored_now (stored_bytes pinned done) = subst (λ (k : ℕ). RoseAll stored_then stored_now (stored_bytes pinned k)) count (subst (λ (w : ℕ). RoseAll stored_then stored_now (stored_bytes w end.iterations)) kept (put list.edges opened)) in
    subst (λ (ran : Ran). RoseRun ran.moved taken taken_now stored stored_now) (ran_is model name v s program options info engine list parts made g.head)
    (rose_run (own_ran model name v s engine list) taken taken_then taken_now stored stored_then stored_now (taken_bytes pinned done) (stored_bytes pinned done) refl refl refl refl refl refl same_taken same_stored took_at put_at))

-- an engine that wasn't opened
pub unopened : (ran : Ran) (info : GridInfo) (v s budget : ℕ) (files : FileKind → Option (List ℕ)) (out : Option (List ℕ)) (fault : OpenFault) (why : RunStop) → OpenStops fault why → OpenShows info v s budget (files Meta) fault → Leaves ran files out out (Err why)
unopened ran info v s budget files out (open_fault.BudgetTooSmall need given) why is h = subst (λ w. Leaves ran files out out (Err w)) (sym is) refl
unopened ran info v s budget files out (open_fault.Damaged file place found) why is h = subst (λ w. Leaves ran files out out (Err w)) (sym is) (λ told. let e : true ≡ false = sym told ∙ ap is_some h.3 in absurd (cc))
unopened ran info v s budget files out open_fault.Depot why is h = subst (λ w. Leaves ran files out out (Err w)) (sym is) (λ told. front_none out out ran.text refl)
unopened ran info v s budget files out open_fault.NoMemory why is h = subst (λ w. Leaves ran files out out (Err w)) (sym is) refl

-- its budget is too small exactly where it says so
pub open_within : (info : GridInfo) (v s budget : ℕ) (told : Option (List ℕ)) (fault : OpenFault) (why : RunStop) → OpenStops fault why → OpenShows info v s budget told fault → IsWithin (need_of (cut_in info) v s) budget (Err why)
open_within info v s budget told (open_fault.BudgetTooSmall need given) why is h = subst (λ w. IsWithin (need_of (cut_in info) v s) budget (Err w)) (sym is) h
open_within info v s budget told (open_fault.Damaged file place found) why is h = subst (λ w. IsWithin (need_of (cut_in info) v s) budget (Err w)) (sym is) h.0
open_within info v s budget told open_fault.Depot why is h = subst (λ w. IsWithin (need_of (cut_in info) v s) budget (Err w)) (sym is) h
open_within info v s budget told open_fault.NoMemory why is h = subst (λ w. IsWithin (need_of (cut_in info) v s) budget (Err w)) (sym is) h

pub run_within : (need budget : ℕ) (fault : RunFault) → need ≤ budget → IsWithin need budget (run_stop_of fault)
run_within need budget run_fault.Depot enough = enough
run_within need budget run_fault.Out enough = enough
run_within need budget (run_fault.Range iteration vertex) enough = enough
run_within need budget (run_fault.Damaged kind place found) enough = enough

-- a command stops for its budget only where its engine does
pub small_open : (fault : OpenFault) (why : RunStop) → OpenStops fault why → IsTooSmall why → IsSmallOpen fault
small_open (open_fault.BudgetTooSmall need given) why is small = tt
small_open (open_fault.Damaged file place found) why is small = absurd (subst IsTooSmall is small)
small_open open_fault.Depot why is small = absurd (subst IsTooSmall is small)
small_open open_fault.NoMemory why is small = absurd (subst IsTooSmall is small)

pub never_small : (fault : RunFault) (A : Type 0) → IfErr (run_stop_of fault) (λ why. IsTooSmall why → A)
never_small run_fault.Depot A = λ small. absurd small
never_small run_fault.Out A = λ small. absurd small
never_small (run_fault.Range iteration vertex) A = tt
never_small (run_fault.Damaged kind place found) A = λ small. absurd small

-- a run stores in Values and Sums alone
none_of : (ts : List ℕ) → list_any (λ (t : ℕ). false) ts ≡ false
none_of [] = refl
none_of (t ∷ ts) = none_of ts

stores_few : (mode : Mode) (limit : ℕ) (kind : FileKind) → stores_of true kind ≡ false → run_stores mode limit kind ≡ false
stores_few mode limit Meta isnt = none_of (range_with_len 1 limit)
stores_few mode limit Primary isnt = none_of (range_with_len 1 limit)
stores_few mode limit Secondary isnt = none_of (range_with_len 1 limit)
stores_few mode limit Info isnt = none_of (range_with_len 1 limit)
stores_few mode limit Values isnt = absurd (cc)
stores_few mode limit Sums isnt = absurd (cc)
stores_few mode limit Spool isnt = none_of (range_with_len 1 limit)

pub run_leaves_grid : (mode : Mode) (limit : ℕ) (was mid is : FileKind → Option (List ℕ)) → LeavesGrid was mid → SameOff (run_stores mode limit) mid is → LeavesGrid was is
run_leaves_grid mode limit was mid is first second = λ kind isnt. second kind (stores_few mode limit kind isnt) ∙ first kind isnt

-- what an engine reported, by what it was opened with
pub reported_at : {G V S : Type 0} (model : G → Program V S) (name : G → List ℕ) (program : G) (options : RunOptions) (info : GridInfo) (engine : EngineState G V S) (old new : Option (List ℕ)) (end : EndingRecord) →
    engine.program ≡ program → engine.options ≡ options → engine.info ≡ info →
    IsReport (model engine.program) (name engine.program) engine.options.show engine.options.mode engine.options.iterations engine.info engine.table old new end →
    (table : BlockCounts) × IsReport (model program) (name program) options.show options.mode options.iterations info table old new end
reported_at model name program options info engine old new end program_is options_is info_is h = (
  engine.table,
  subst (λ (pr : _). IsReport (model pr) (name pr) options.show options.mode options.iterations info engine.table old new end) program_is
      (subst (λ (i : GridInfo). IsReport (model engine.program) (name engine.program) options.show options.mode options.iterations i engine.table old new end) info_is
      (subst (λ (o : RunOptions). IsReport (model engine.program) (name engine.program) o.show o.mode o.iterations engine.info engine.table old new end) options_is h)),
)

-- what its fault shows
pub shows_at : {G V S : Type 0} (ValueIn : V → Type 0) (SumIn : S → Type 0) (coding : Coding V S) (model : G → Program V S) (program : G) (options : RunOptions) (engine : EngineState G V S) (fault : RunFault) →
    engine.program ≡ program → engine.options ≡ options →
    SomeShows ValueIn SumIn coding (model engine.program) engine.windows engine.options.mode engine.table engine.options.iterations fault →
    SomeShows ValueIn SumIn coding (model program) engine.windows options.mode engine.table options.iterations fault
shows_at ValueIn SumIn coding model program options engine fault program_is options_is h =
    subst (λ (pr : _). SomeShows ValueIn SumIn coding (model pr) engine.windows options.mode engine.table options.iterations fault) program_is
    (subst (λ (o : RunOptions). SomeShows ValueIn SumIn coding (model engine.program) engine.windows o.mode engine.table o.iterations fault) options_is h)

-- what an end shows
pub shown_end : (over : ℕ → ℕ → Type 0) (reported : EndingRecord → Type 0) (end : EndingRecord) → reported end → EndShown over reported (ending_of end)
shown_end over reported end h = by_why end.why end.iterations h
  where
    by_why : (why : Why) (t : ℕ) → reported (record { iterations = t; why = why }) → EndShown over reported (ended_why why t)
    by_why Still t h = h
    by_why Limit t h = h

module _ {V S : Type 0} (ValueIn : V → Type 0) (SumIn : S → Type 0) (coding : Coding V S) (p : Program V S) (iterate : IterWords) (info : GridInfo) (windows : WindowState V S) (table : BlockCounts) (cut_is : windows.cut ≡ cut_in info) where
  pub shown_stop : (reported : EndingRecord → Type 0) (fault : RunFault) → SomeShows ValueIn SumIn coding p windows (mode_of iterate) table iterate.iterations fault → IfOk (run_stop_of fault) (EndShown (IsOverAt iterate.iterations info (IsOver ValueIn SumIn p)) reported)
  shown_stop reported run_fault.Depot h = tt
  shown_stop reported run_fault.Out h = tt
  shown_stop reported (run_fault.Range iteration vertex) h =
      (subst (λ (k : ℕ). 1 ≤ k) (sym h.shown.0) h.some, subst (λ (k : ℕ). k ≤ iterate.iterations) (sym h.shown.0) h.few, subst (λ (c : _). vertex < c.vertices) cut_is h.shown.1, h.shown.2)
  shown_stop reported (run_fault.Damaged kind place found) h = tt

  pub damaged_stop : (fault : RunFault) → SomeShows ValueIn SumIn coding p windows (mode_of iterate) table iterate.iterations fault → IfErr (run_stop_of fault) (DamageShown (IsWrongIn coding iterate info))
  damaged_stop run_fault.Depot h = tt
  damaged_stop run_fault.Out h = tt
  damaged_stop (run_fault.Range iteration vertex) h = tt
  damaged_stop (run_fault.Damaged kind place found) h = inr (record { iteration = h.iteration; some = h.some; few = h.few; table = table; windows = windows; cut = cut_is; found = h.shown })

pub damaged_open : {V S : Type 0} (coding : Coding V S) (iterate : IterWords) (info : GridInfo) (v s budget : ℕ) (told : Option (List ℕ)) (fault : OpenFault) (why : RunStop) → OpenStops fault why → OpenShows info v s budget told fault → DamageShown (IsWrongIn coding iterate info) why
damaged_open coding iterate info v s budget told (open_fault.BudgetTooSmall need given) why is h = subst (DamageShown (IsWrongIn coding iterate info)) (sym is) tt
damaged_open coding iterate info v s budget told (open_fault.Damaged file place found) why is h = subst (DamageShown (IsWrongIn coding iterate info)) (sym is) (inl (h.1, h.2))
damaged_open coding iterate info v s budget told open_fault.Depot why is h = subst (DamageShown (IsWrongIn coding iterate info)) (sym is) tt
damaged_open coding iterate info v s budget told open_fault.NoMemory why is h = subst (DamageShown (IsWrongIn coding iterate info)) (sym is) tt
