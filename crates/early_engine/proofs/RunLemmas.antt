-- The iterations of a run, one after another.
use Rattle.std.proofs.Common.{◌≡◌, ◌⊎◌, inl, inr, ◌<◌, ◌≤◌, ℕ, suc, ◌+◌, ◌-◌, Bool, List, [], ◌++◌, Option, Result, Ok, Err, refl, sym, ap, ap₂, ◌∙◌, subst, arith, add-one, append-nil, append_assoc}
use Rattle.std.specs.Prelude.{IfErr}
use Rattle.std.proofs.lemmas.Bool.{cases_eq}
use Rattle.lumos_base.specs.declared.records.Edge.{Edge}
use Rattle.lumos_depot.specs.Streams.{AppendsFront, after_told}
use Rattle.lumos_depot.specs.declared.depot.FileKind.{FileKind}
use Rattle.lumos_depot.proofs.Written.{after_told-after, front_behind, front_longer, front_whole}
use Rattle.lumos_law.specs.Program.{Program}
use Rattle.lumos_law.specs.Sync.{Ending as EndingOf, over_in, ending, ending_from}
use Rattle.partition.specs.Parts.{Cut}
use Rattle.grid_format.specs.Tables.{BlockCounts}
use Rattle.grid_format.specs.declared.head.GridInfo.{GridInfo}
use Rattle.lumos_report.specs.declared.records.Ending.{Ending}
use Rattle.lumos_report.specs.declared.records.Why.{Why}
use Rattle.lumos_report.specs.declared.records.Why.TheVariants.{Still, Limit}
use Rattle.value_files.specs.declared.fault.FileFault.TheVariants as file
use Rattle.windows.specs.Windows.{Coding, IsSameRoom, Told, WindowState}
use Rattle.early_engine.specs.Engines.{EngineState, IsSameRun, IsStanding, cut_in}
use Rattle.early_engine.specs.Gone.{Beside, HasPassed, IsTallied}
use Rattle.early_engine.specs.Grids.{IsOfPass}
use Rattle.early_engine.specs.Passes.{kind_of}
use Rattle.early_engine.specs.Report.{closing_line, end_line, finished, first_lines, later_lines, turn_lines, turn_text}
use Rattle.early_engine.specs.Reported.{IsReported}
use Rattle.early_engine.specs.Runs.{RoseAll, RunComes, stored_in, taken_in}
use Rattle.early_engine.specs.Starts.{StartComes, StartShows}
use Rattle.early_engine.specs.Turns.{ending_by_why, HasFront, HasTurned, RunShows, SomeShows, TurnComes}
use Rattle.early_engine.specs.declared.options.Mode.{Mode}
use Rattle.early_engine.specs.declared.options.RunFault.{RunFault}
use Rattle.early_engine.specs.declared.options.RunFault.TheVariants.{Depot, Out, Range, Damaged}
use Rattle.early_engine.specs.declared.options.RunOptions.{RunOptions}
use Rattle.early_engine.specs.declared.options.Show.{Show}
use Rattle.early_engine.specs.declared.options.Turn.TheVariants.{Going, Ended}
use Rattle.early_engine.specs.declared.options.Turn.{Turn}
use Rattle.early_engine.proofs.KeepLemmas.{sums_fault, values_fault}
use Rattle.early_engine.proofs.ReportLemmas.{reported_as, told_none}
use Rattle.early_engine.proofs.Repeats.{texts, texts_cut, texts_from, texts_more}
use Rattle.early_engine.proofs.TakenLemmas.{all_none, moved_to}
use Rattle.early_engine.proofs.TurnLemmas.{closing_elsewhere, closing_here, closing_next, reaches}
use Rattle.early_engine.proofs.TurnReport.{tallied}

by_why_finished : (why : Why) (t : ℕ) → finished (ending_by_why why t) ≡ t
by_why_finished Still t = refl
by_why_finished Limit t = refl

module _ {V S : Type 0} (p : Program V S) (show : Show) (mode : Mode) (edges : List Edge) (cut : Cut) (limit t : ℕ) (is : ending p edges cut.vertices limit ≡ ending_from p edges cut.vertices (limit - t) t) (written mid after : Option (List ℕ)) where
  abbrev lines : ℕ → List ℕ
  lines = turn_lines p show mode edges cut.vertices cut.parts limit

  abbrev end : EndingOf
  end = ending p edges cut.vertices limit

  abbrev later : List ℕ
  later = later_lines p show mode edges cut.vertices cut.parts limit

  abbrev text : List ℕ
  text = turn_text p show mode edges cut.vertices cut.parts limit t

  -- the text of the last iteration is the last of the report
  last_text : finished end ≡ suc t → texts lines t ++ text ≡ later
  last_text last =
      let next : suc t ≡ t + 1 = sym (add-one t) in
      ap (λ l. texts lines t ++ (lines t ++ l)) (closing_here (suc t) end last)
      ∙ sym (append_assoc (texts lines t) (lines t) (end_line end))
      ∙ ap (λ l. l ++ end_line end) (sym (texts_more lines t) ∙ ap (texts lines) (sym next ∙ sym last))

  -- an iteration's text is a part of the report
  text_within : suc t ≤ finished end → (suc t ≡ finished end) ⊎ (suc t ≡ finished end → ⊥) → (more : List ℕ) × ((texts lines t ++ text) ++ more ≡ later)
  text_within low (inl last) = ([], append-nil (texts lines t ++ text) ∙ last_text (sym last))
  text_within low (inr apart) =
      let none = closing_elsewhere (suc t) end (λ same. apart (sym same)) in
      let next : t + 1 ≡ suc t = add-one t in
      let here : texts lines t ++ text ≡ texts lines (suc t) =
      ap (λ l. texts lines t ++ (lines t ++ l)) none ∙ ap (λ l. texts lines t ++ l) (append-nil (lines t)) ∙ sym (texts_more lines t) ∙ ap (texts lines) next in
      let rest = texts_from lines (suc t) (finished end) in (
        rest ++ end_line end,
        ap (λ l. l ++ (rest ++ end_line end)) here ∙ sym (append_assoc (texts lines (suc t)) rest (end_line end))
            ∙ ap (λ l. l ++ end_line end) (sym (texts_cut lines (suc t) (finished end) low)),
      )

  before_front : mid ≡ after_told written (texts lines t) → AppendsFront written mid later
  before_front before =
      let low : t ≤ finished end = subst (λ e. t ≤ finished e) (sym is) (reaches p edges cut.vertices (limit - t) t) in
      let rest = texts_from lines t (finished end) in
      let whole : texts lines t ++ (rest ++ end_line end) ≡ later = sym (append_assoc (texts lines t) rest (end_line end)) ∙ ap (λ l. l ++ end_line end) (sym (texts_cut lines t (finished end) low)) in
      subst (AppendsFront written mid) whole (front_longer written mid (texts lines t) (rest ++ end_line end) (front_whole written mid (texts lines t) before))

  over_text : (iteration vertex : ℕ) → end ≡ over_in iteration vertex → iteration ≡ suc t → texts lines t ≡ later
  over_text iteration vertex over at =
      let done : finished end ≡ t = ap finished over ∙ (let e : iteration - 1 ≡ t = omega arith in e) in
      sym (append-nil (texts lines t)) ∙ ap₂ (λ (k : ℕ) (e : EndingOf). texts lines k ++ end_line e) (sym done) (sym over)

  -- a front of an iteration's text is one of the report
  front_within : mid ≡ after_told written (texts lines t) → HasFront p show mode edges cut limit t mid after → AppendsFront written after later
  front_within before cut_off =
      let within = text_within cut_off.made (cases_eq (suc t) (finished end)) in
      subst (AppendsFront written after) within.1
      (front_longer written after (texts lines t ++ text) within.0 (front_behind written mid after (texts lines t) text before cut_off.front))

  module _ (coding : Coding V S) (windows : WindowState V S) (told : Told) (flags : List Bool) where
    -- the lines of an iteration behind which the run goes on
    pub going_text : mid ≡ after_told written (texts lines t) → HasTurned p show mode edges cut limit t coding windows told flags mid after Going → after ≡ after_told written (texts lines (t + 1))
    going_text before turned =
        let left : limit - suc t ≡ suc (limit - suc t - 1) = let low : suc t < limit = turned.tells.0 in omega arith in
        let none = ap (closing_line (suc t)) (turned.tells.1 ∙ ap (λ (k : ℕ). ending_from p edges cut.vertices k (suc t)) left) ∙ closing_next p edges cut.vertices (limit - suc t - 1) (suc t) in
        turned.written ∙ ap (after_told mid) (ap (λ l. lines t ++ l) none ∙ append-nil (lines t))
        ∙ ap (λ m. after_told m (lines t)) before ∙ after_told-after written (texts lines t) (lines t) ∙ ap (after_told written) (sym (texts_more lines t))

    -- the run ends with an iteration
    pub ended_comes : (ending : Ending) → mid ≡ after_told written (texts lines t) → HasTurned p show mode edges cut limit t coding windows told flags mid after (Ended ending) → RunComes end later written after (Ok ending)
    ended_comes ending before turned =
        let last : finished end ≡ suc t = ap finished turned.tells.0 ∙ by_why_finished ending.why ending.iterations ∙ turned.tells.1 in (
          turned.tells.0,
          turned.written ∙ ap (λ m. after_told m text) before ∙ after_told-after written (texts lines t) text ∙ ap (after_told written) (last_text last),
        )

    -- the run stops in an iteration
    pub stopped_comes : (fault : RunFault) → mid ≡ after_told written (texts lines t) → TurnComes p show mode edges cut limit t coding windows told flags mid after (Err fault) → RunComes end later written after (Err fault)
    stopped_comes Depot before (inl same) = subst (λ m. AppendsFront written m later) (sym same) (before_front before)
    stopped_comes Depot before (inr cut_off) = front_within before cut_off
    stopped_comes Out before cut_off = front_within before cut_off
    stopped_comes (Range iteration vertex) before over = (over.0, over.2 ∙ before ∙ ap (after_told written) (over_text iteration vertex over.0 over.1))
    stopped_comes (Damaged kind place found) before never = absurd never

-- the program, the options and the grid of a run, and how many chunks it keeps in memory
pub record Key (G : Type 0) : Type 0 where
  pub program : G
  pub options : RunOptions
  pub info : GridInfo
  pub table : BlockCounts
  pub pinned : ℕ

abbrev pub key_of : {G V S : Type 0} → EngineState G V S → Key G
key_of w = record { program = w.program; options = w.options; info = w.info; table = w.table; pinned = w.windows.pinned }

pub same_key : {G V S : Type 0} (a b : EngineState G V S) → IsSameRun a b → key_of b ≡ key_of a
same_key a b same = λ i. record { program = same.program i; options = same.options i; info = same.info i; table = same.table i; pinned = same.room.pinned i }

pub same_run : {G V S : Type 0} (a b d : EngineState G V S) → IsSameRun a b → IsSameRun b d → IsSameRun a d
same_run a b d first second = record {
  program = second.program ∙ first.program;
  options = second.options ∙ first.options;
  info = second.info ∙ first.info;
  table = second.table ∙ first.table;
  room = record {
    cut = second.room.cut ∙ first.room.cut;
    budget = second.room.budget ∙ first.room.budget;
    pinned = second.room.pinned ∙ first.room.pinned;
    value_room = second.room.value_room ∙ first.room.value_room;
    sum_room = second.room.sum_room ∙ first.room.sum_room;
  };
}

pub same_self : {G V S : Type 0} (a : EngineState G V S) → IsSameRun a a
same_self a = record { program = refl; options = refl; info = refl; table = refl; room = record { cut = refl; budget = refl; pinned = refl; value_room = refl; sum_room = refl } }

module _ {V S : Type 0} (ValueIn : V → Type 0) (SumIn : S → Type 0) (coding : Coding V S) (p : Program V S) where
  -- a fault of later windows of a run is one of those at its start
  pub shows_same : (old new : WindowState V S) (mode : Mode) (table : BlockCounts) (t : ℕ) (fault : RunFault) → IsSameRoom old new → RunShows ValueIn SumIn coding p new mode table t fault → RunShows ValueIn SumIn coding p old mode table t fault
  shows_same old new mode table t Depot room shown = tt
  shows_same old new mode table t Out room shown = tt
  shows_same old new mode table t (Range iteration v) room shown = (shown.0, subst (λ (c : Cut). v < c.vertices) room.cut shown.1, shown.2)
  shows_same old new mode table t (Damaged kind place found) room (inl block) = inl (subst (λ (c : Cut). IsOfPass (kind_of mode t) c table (file.Damaged kind place found)) room.cut block)
  shows_same old new mode table t (Damaged kind place found) room (inr (inl of)) = inr (inl (values_fault coding old new (file.Damaged kind place found) room of))
  shows_same old new mode table t (Damaged kind place found) room (inr (inr of)) = inr (inr (sums_fault coding (kind_of mode t) old new (file.Damaged kind place found) room of))

  some_same : (old new : WindowState V S) (mode : Mode) (table : BlockCounts) (limit : ℕ) (r : Result Ending RunFault) → IsSameRoom old new → IfErr r (SomeShows ValueIn SumIn coding p new mode table limit) → IfErr r (SomeShows ValueIn SumIn coding p old mode table limit)
  some_same old new mode table limit (Ok done) room shown = tt
  some_same old new mode table limit (Err fault) room shown = record { iteration = shown.iteration; some = shown.some; few = shown.few; shown = shows_same old new mode table shown.iteration fault room shown.shown }

  -- a fault of the beginning is one of the first iteration
  pub start_shows : (windows : WindowState V S) (mode : Mode) (table : BlockCounts) (limit : ℕ) (fault : RunFault) → 0 < limit → StartShows coding windows fault → SomeShows ValueIn SumIn coding p windows mode table limit fault
  start_shows windows mode table limit Depot some shown = record { iteration = 1; some = omega arith; few = omega (arith, some); shown = tt }
  start_shows windows mode table limit Out some shown = record { iteration = 1; some = omega arith; few = omega (arith, some); shown = tt }
  start_shows windows mode table limit (Range t v) some shown = absurd shown
  start_shows windows mode table limit (Damaged kind place found) some shown = record { iteration = 1; some = omega arith; few = omega (arith, some); shown = inr (inl shown) }

module _ {G V S : Type 0} (model : G → Program V S) (coding : Coding V S) (a w : EngineState G V S) (same : IsSameRun a w) where
  -- an iteration of a run was reported with the counts of all its blocks
  pub turn_tallied : (load : ℕ → ℕ) (are : List Bool) (beside : Beside) (taken stored taken_now stored_now : FileKind → ℕ) (windows : WindowState V S) (told : Told) (old new : Option (List ℕ)) (turn : Turn)
      → IsReported coding (model w.program) w.options.show w.options.mode w.options.iterations w.info.vertices (λ t. HasPassed w.options.mode w.options.iterations w.table load w.active are t beside taken stored taken_now stored_now) (w.finished + 1) windows told old new turn
      → IsReported coding (model a.program) a.options.show a.options.mode a.options.iterations a.info.vertices (IsTallied a.options.mode a.table) (w.finished + 1) windows told old new turn
  turn_tallied load are beside taken stored taken_now stored_now windows told old new turn made =
      subst (λ (k : Key G). IsReported coding (model k.program) k.options.show k.options.mode k.options.iterations k.info.vertices (IsTallied k.options.mode k.table) (w.finished + 1) windows told old new turn) (same_key a w same)
      (reported_as (model w.program) w.options.show w.options.mode w.options.iterations w.info.vertices (IsTallied w.options.mode w.table) coding
      (λ t. HasPassed w.options.mode w.options.iterations w.table load w.active are t beside taken stored taken_now stored_now) (w.finished + 1) windows told old new turn
      (λ counts passed. tallied w.options.mode w.options.iterations (w.finished + 1) w.table load w.active are beside taken stored taken_now stored_now counts passed) made)

  -- a fault of an iteration is one of some iteration of the run
  pub turn_shows : (ValueIn : V → Type 0) (SumIn : S → Type 0) (fault : RunFault) → w.finished < a.options.iterations → RunShows ValueIn SumIn coding (model w.program) w.windows w.options.mode w.table (w.finished + 1) fault
      → SomeShows ValueIn SumIn coding (model a.program) a.windows a.options.mode a.table a.options.iterations fault
  turn_shows ValueIn SumIn fault low shown = record {
    iteration = w.finished + 1;
    some = omega arith;
    few = omega (arith, low);
    shown = shows_same ValueIn SumIn coding (model a.program) a.windows w.windows a.options.mode a.table (w.finished + 1) fault same.room
        (subst (λ (k : Key G). RunShows ValueIn SumIn coding (model k.program) w.windows k.options.mode k.table (w.finished + 1) fault) (same_key a w same) shown);
  }

  -- a fault of the iterations is one of the whole run
  pub run_shows : (ValueIn : V → Type 0) (SumIn : S → Type 0) (r : Result Ending RunFault) → IfErr r (SomeShows ValueIn SumIn coding (model w.program) w.windows w.options.mode w.table w.options.iterations)
      → IfErr r (SomeShows ValueIn SumIn coding (model a.program) a.windows a.options.mode a.table a.options.iterations)
  run_shows ValueIn SumIn r shown =
      some_same ValueIn SumIn coding (model a.program) a.windows w.windows a.options.mode a.table a.options.iterations r same.room
      (subst (λ (k : Key G). IfErr r (SomeShows ValueIn SumIn coding (model k.program) w.windows k.options.mode k.table k.options.iterations)) (same_key a w same) shown)

-- what iteration t of a run stores of each file
abbrev pub stored_at : {G : Type 0} → ℕ → ℕ → Key G → ℕ → FileKind → ℕ
stored_at v s k t = stored_in (cut_in k.info) v s k.pinned k.options.mode k.options.iterations t

module _ {G V S : Type 0} (model : G → Program V S) (edges : List Edge) where
  abbrev pub lines_of : Key G → ℕ → List ℕ
  lines_of k = turn_lines (model k.program) k.options.show k.options.mode edges k.info.vertices k.info.parts k.options.iterations

  abbrev pub end_of : Key G → EndingOf
  end_of k = ending (model k.program) edges k.info.vertices k.options.iterations

  abbrev pub later_of : Key G → List ℕ
  later_of k = later_lines (model k.program) k.options.show k.options.mode edges k.info.vertices k.info.parts k.options.iterations

  -- what iteration t of a run takes of each file
  abbrev pub taken_at : ℕ → ℕ → Key G → ℕ → FileKind → ℕ
  taken_at v s k t = taken_in (cut_in k.info) v s k.pinned (model k.program) edges k.options.show k.options.mode k.options.iterations t

  -- An engine that goes on in a run: it stands, the lines of its iterations are written, and their bytes were taken.
  pub record IsRunning (coding : Coding V S) (v s : ℕ) (k : Key G) (w : EngineState G V S) (told : Told) (written now : Option (List ℕ)) (before taken : FileKind → ℕ) : Type 0 where
    pub stands : IsStanding coding (model k.program) edges told w
    pub text : now ≡ after_told written (texts (lines_of k) w.finished)
    pub moved : RoseAll before taken (moved_to (taken_at v s k) w.finished)

  pub running_first : (coding : Coding V S) (v s : ℕ) (w : EngineState G V S) (told : Told) (written : Option (List ℕ)) (before : FileKind → ℕ) → w.finished ≡ 0 → IsStanding coding (model w.program) edges told w
      → IsRunning coding v s (key_of w) w told written written before before
  running_first coding v s w told written before none stands = record {
    stands = stands;
    text = told_none written ∙ ap (λ (k : ℕ). after_told written (texts (lines_of (key_of w)) k)) (sym none);
    moved = all_none (taken_at v s (key_of w)) w.finished before none;
  }

-- what comes of the iterations, behind the lines at first
pub run_then : (last : EndingOf) (first rest : List ℕ) (old mid new : Option (List ℕ)) (r : Result Ending RunFault) → mid ≡ after_told old first → RunComes last rest mid new r → RunComes last (first ++ rest) old new r
run_then last first rest old mid new (Ok ending) is h = (h.0, h.1 ∙ ap (λ m. after_told m rest) is ∙ after_told-after old first rest)
run_then last first rest old mid new (Err (Range iteration vertex)) is h = (h.0, h.1 ∙ ap (λ m. after_told m rest) is ∙ after_told-after old first rest)
run_then last first rest old mid new (Err Out) is h = front_behind old mid new first rest is h
run_then last first rest old mid new (Err Depot) is h = front_behind old mid new first rest is h
run_then last first rest old mid new (Err (Damaged kind place found)) is h = absurd h

-- a run that stops at its beginning
pub run_stops : {V S : Type 0} (coding : Coding V S) (p : Program V S) (name : List ℕ) (show : Show) (edges : List Edge) (cut : Cut) (windows : WindowState V S) (told : Told) (last : EndingOf) (rest : List ℕ) (old new : Option (List ℕ)) (fault : RunFault)
    → StartComes coding p name show edges cut windows told old new (Err fault) → RunComes last (first_lines p name show edges cut.vertices cut.parts ++ rest) old new (Err fault)
run_stops coding p name show edges cut windows told last rest old new Depot h = front_longer old new (first_lines p name show edges cut.vertices cut.parts) rest h
run_stops coding p name show edges cut windows told last rest old new Out h = front_longer old new (first_lines p name show edges cut.vertices cut.parts) rest h
run_stops coding p name show edges cut windows told last rest old new (Range t v) h = absurd h
run_stops coding p name show edges cut windows told last rest old new (Damaged kind place found) h = absurd h
