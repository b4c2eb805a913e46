-- What a command over a grid comes to.
use Rattle.std.proofs.Common.{◌≡◌, ◌≤◌, ◌<◌, inl, inr, ℕ, true, false, List, [], Option, Some, None, Result, Ok, Err, IsErrOf, IsOk, IsSome, is_some, length, refl, sym, ap, subst, ◌∙◌, arith}
use Rattle.std.specs.Option.{ok_or, option_map}
use Rattle.std.proofs.lemmas.Bool.{le-ltb, lt-ltb}
use Rattle.std.specs.Prelude.{IfErr, IfOk, IfSome, OnOk, unwrap_or, nat_lt, if◌then◌else◌}
use Rattle.lumos_base.specs.declared.records.Edge.{Edge}
use Rattle.lumos_depot.specs.Files.{Same, SameBut}
use Rattle.lumos_depot.specs.Streams.{AppendsFront, Writes, after_told}
use Rattle.lumos_depot.specs.declared.depot.FileKind.{FileKind}
use Rattle.lumos_depot.specs.declared.depot.FileKind.TheVariants.{Meta, Primary, Secondary, Info, Values, Sums, Spool}
use Rattle.lumos_depot.specs.declared.stream.Failed.{Failed}
use Rattle.edge_text.specs.Reading.{Listed, reading}
use Rattle.edge_text.specs.declared.fault.TextLimits.{TextLimits}
use Rattle.grid_format.specs.Checks.{GridFiles, head_of}
use Rattle.grid_format.specs.Grid.{HasGrid, IsRead, grid}
use Rattle.grid_format.specs.Outside.{Holds}
use Rattle.lumos_depot.specs.Steps.{RoseBy}
use Rattle.grid_format.specs.declared.head.GridInfo.{GridInfo}
use Rattle.grid_build.specs.Built.{BuildsAs, HasBuilt, HasFiles, IsBuilt}
use Rattle.grid_build.specs.declared.options.BuildFault.{BuildFault}
use Rattle.grid_build.specs.Chosen.{parts_for}
use Rattle.grid_build.specs.declared.options.BuildFault.TheVariants as build_fault
use Rattle.grid_build.specs.declared.options.PartsChoice.{PartsChoice}
use Rattle.grid_build.specs.declared.options.PartsChoice.TheVariants.{Stated, Fitted}
use Rattle.partition.specs.Fitting.{least_parts, need_at}
use Rattle.grid_build.specs.Outside.{LeavesRuns as BuildLeaves}
use Rattle.grid_build.proofs.Building.{AreLimits, list_within}
use Rattle.lumos_depot.proofs.StepLemmas.{rose_then}
use Rattle.lumos_top.specs.Answers.{Built, Did, Halted, Ran, built_head, built_on, copied_bytes, did_build, did_run, done_with, halted, need_in, parts_or, ran_as, ran_on, ran_over, ran_parts, stated_parts, window_bytes}
use Rattle.lumos_top.specs.Building.{BuildStops, IsGridOf, run_choice, stated_or}
use Rattle.lumos_top.specs.Ends.{Ends, HasDone, IsBeforeRun, done_status, end_status}
use Rattle.lumos_top.specs.Report.{grid_line}
use Rattle.lumos_top.specs.Running.{DamageShown, EndShown, IsOverAt, IsOverIn, IsReportOf, IsTooSmall, IsWithin, IsWrongOf, Leaves, LeavesGrid, RoseRun, RunMoves, command_stop}
use Rattle.lumos_top.specs.Sides.{InputEnds, IsMoved, LeavesRuns, NoMeta, SameGrid, Sides, WhereTold}
use Rattle.lumos_top.specs.Stops.{ending_line, ending_status}
use Rattle.lumos_top.specs.declared.running.RunStop.{RunStop}
use Rattle.lumos_top.specs.declared.running.RunStop.TheVariants as by
use Rattle.lumos_top.specs.declared.status.Completed.{Completed}
use Rattle.lumos_top.specs.declared.status.Completed.TheVariants.{Run, Build}
use Rattle.lumos_top.specs.declared.status.Ended.{Ended}
use Rattle.lumos_top.specs.declared.status.Ended.TheVariants as ended
use Rattle.lumos_top.specs.declared.status.Refusal.TheVariants as refuse
use Rattle.lumos_top.specs.declared.status.Status.TheVariants as status
use Rattle.lumos_top.specs.declared.status.Outside.TheVariants as outside
use Rattle.lumos_top.specs.declared.status.Stop.{Stop}
use Rattle.lumos_top.specs.declared.status.Stop.TheVariants as stop
use Rattle.lumos_words.specs.Fits.{GridFits}
use Rattle.lumos_words.specs.declared.request.BuildWords.{BuildWords}
use Rattle.lumos_words.specs.declared.request.IterWords.{IterWords}
use Rattle.lumos_words.specs.declared.request.ProgramWords.{ProgramWords}
use Rattle.lumos_top.proofs.RunLemmas.{all_told, contents, entry_of}

-- what belongs to the grid stays where only Spool may change
same_grid_files : (was is : FileKind → Option (List ℕ)) → SameBut Spool was is → SameGrid was is
same_grid_files was is h = record {
  meta_file = h Meta (λ same. absurd (cc));
  primary_file = h Primary (λ same. absurd (cc));
  secondary_file = h Secondary (λ same. absurd (cc));
  info_file = h Info (λ same. absurd (cc));
}

-- A command refuses the lists that a choice of parts refuses, with the same numbers.
abbrev pub Refuses : (Listed → Result Did Halted) → PartsChoice → Type 0
Refuses command choice = (list : Listed) (need given : ℕ) → parts_for choice list.vertices ≡ Err (build_fault.BudgetTooSmall need given) → command list ≡ Err (halted (refuse.BudgetTooSmall need given))

-- a grid that wasn't built, and nothing was written
unbuilt_ends : (command : Listed → Result Did Halted) (limits : TextLimits) (choice : PartsChoice) (bytes : List ℕ) (sides : Sides) (fault : BuildFault) (why : Stop) → Refuses command choice → BuildStops fault why → BuildsAs limits choice bytes sides.left_old sides.left_new sides.was sides.is (Err fault) →
    (IsErrOf {T = GridInfo} (Err fault) build_fault.NoMemory → NoMeta sides) → sides.new_out ≡ sides.old_out → Ends (done_with command (reading limits bytes)) sides (Err why)
unbuilt_ends command limits choice bytes sides (build_fault.Input faulty) why fits is h none same =
    subst (λ w. Ends (done_with command (reading limits bytes)) sides (Err w)) (sym is) (record { built = None; gives = ap (done_with command) h.0; same = same; files = same_grid_files sides.was sides.is h.1 })
unbuilt_ends command limits choice bytes sides (build_fault.TooManyEdges limit) why fits is h none same =
    subst (λ w. Ends (done_with command (reading limits bytes)) sides (Err w)) (sym is) (record { built = None; gives = ap (done_with command) h.0; same = same; files = same_grid_files sides.was sides.is h.1 })
unbuilt_ends command limits choice bytes sides (build_fault.InputTooLong limit) why fits is h none same =
    subst (λ w. Ends (done_with command (reading limits bytes)) sides (Err w)) (sym is) (record { built = None; gives = ap (done_with command) h.0; same = same; files = same_grid_files sides.was sides.is h.1 })
unbuilt_ends command limits choice bytes sides (build_fault.BudgetTooSmall need given) why fits is h none same =
    subst (λ w. Ends (done_with command (reading limits bytes)) sides (Err w)) (sym is) (record { built = None; gives = ap (done_with command) h.0.is ∙ fits h.0.list need given h.0.refused; same = same; files = same_grid_files sides.was sides.is h.0.grid_files })
unbuilt_ends command limits choice bytes sides build_fault.Read why fits is h none same =
    subst (λ w. Ends (done_with command (reading limits bytes)) sides (Err w)) (sym is) (record { same = same; files = same_grid_files sides.was sides.is h })
unbuilt_ends command limits choice bytes sides build_fault.Depot why fits is h none same =
    subst (λ w. Ends (done_with command (reading limits bytes)) sides (Err w)) (sym is) (inl same)
unbuilt_ends command limits choice bytes sides build_fault.NoMemory why fits is h none same =
    subst (λ w. Ends (done_with command (reading limits bytes)) sides (Err w)) (sym is) (record { same = same; files = inl (none refl) })

pub unbuilt_done : (command : Listed → Result Did Halted) (limits : TextLimits) (choice : PartsChoice) (sides : Sides) (fault : BuildFault) (why : Stop) → Refuses command choice → BuildStops fault why → HasBuilt limits choice sides.left_old sides.left_new sides.was sides.is (Err fault) →
    (IsErrOf {T = GridInfo} (Err fault) build_fault.NoMemory → NoMeta sides) → sides.new_out ≡ sides.old_out → HasDone command limits sides (Err why)
unbuilt_done command limits choice sides fault why fits is h none same = record {
  input = h.bytes;
  files = contents sides.was;
  entry = entry_of h.bytes sides h.told;
  ends = unbuilt_ends command limits choice h.bytes sides fault why fits is h.builds none same;
}

-- the grid that was built of a list, over the parts that it got
abbrev pub own_of : Listed → GridInfo → Built
own_of list info = record { list = list; parts = info.parts }

-- its line
line_is : (limits : TextLimits) (choice : PartsChoice) (bytes : List ℕ) (was is : FileKind → Option (List ℕ)) (info : GridInfo) (b : IsBuilt limits choice bytes was is info) → grid_line info.vertices info.edges info.parts ≡ (did_build (own_of b.list info)).text
line_is limits choice bytes was is info b = ap (λ (i : GridInfo). grid_line i.vertices i.edges i.parts) b.head

pub written_whole : (old new : Option (List ℕ)) (r : Result (Unit {0}) Failed) (text : List ℕ) → IsOk r → Writes old new r text → new ≡ after_told old text
written_whole old new (Ok done) text ok wrote = wrote.whole
written_whole old new (Err failed) text ok wrote = absurd (cc)

-- what is told of a file that is the grid's
file_is : {A : Type 0} (was is : Option A) (own other : A) → is ≡ option_map (λ _. own) was → is ≡ Some other → other ≡ own
file_is None is own other h k = absurd (let e : None ≡ Some other = sym h ∙ k in cc)
file_is (Some x) is own other h k = let e : Some own ≡ Some other = sym h ∙ k in cc

file_told : {A : Type 0} (was is : Option A) (own : A) → is ≡ option_map (λ _. own) was → is_some is ≡ true → is ≡ Some own
file_told None is own h some = absurd (let e : false ≡ true = sym (ap is_some h) ∙ some in cc)
file_told (Some x) is own h some = h

pub told_before : {A : Type 0} (was is : Option A) (own : A) → is ≡ option_map (λ _. own) was → is_some was ≡ true → is_some is ≡ true
told_before None is own h some = absurd (cc)
told_before (Some x) is own h some = ap is_some h

files_are : (own files : GridFiles) (was is : FileKind → Option (List ℕ)) → HasFiles own was is → Holds is files → files ≡ own
files_are own files was is h k =
    let meta = file_is (was Meta) (is Meta) own.meta files.meta h.meta_file k.meta_file in
    let primary = file_is (was Primary) (is Primary) own.primary files.primary h.primary_file k.primary_file in
    let secondary = file_is (was Secondary) (is Secondary) own.secondary files.secondary h.secondary_file k.secondary_file in
    let info = file_is (was Info) (is Info) own.info files.info h.info_file k.info_file in
    ap (λ (x : List ℕ). record { meta = x; primary = files.primary; secondary = files.secondary; info = files.info }) meta
    ∙ ap (λ (x : List ℕ). record { meta = own.meta; primary = x; secondary = files.secondary; info = files.info }) primary
    ∙ ap (λ (x : List ℕ). record { meta = own.meta; primary = own.primary; secondary = x; info = files.info }) secondary
    ∙ ap (λ (x : List ℕ). record { meta = own.meta; primary = own.primary; secondary = own.secondary; info = x }) info

-- the files that were built are those of a grid with their head
pub accepted : (limits : TextLimits) (choice : PartsChoice) (bytes : List ℕ) (was is : FileKind → Option (List ℕ)) (info : GridInfo) (files : GridFiles) → ((edges : List Edge) (n p : ℕ) → HasGrid edges n p → IsRead edges n p) → IsBuilt limits choice bytes was is info → Holds is files → head_of files ≡ Ok info
accepted limits choice bytes was is info files law b holds =
    ap head_of (files_are (grid b.list.edges b.list.vertices info.parts) files was is b.files holds)
    ∙ (law b.list.edges b.list.vertices info.parts b.within).head ∙ ap (λ (i : GridInfo). Ok i) (sym b.head)

-- the grid that was built is that of the list
pub built_grid : (limits : TextLimits) (choice : PartsChoice) (bytes : List ℕ) (was is : FileKind → Option (List ℕ)) (info : GridInfo) → ((j k : FileKind) → is_some (is j) ≡ is_some (is k)) → AreLimits limits → (b : IsBuilt limits choice bytes was is info) → IsGridOf b.list info.parts info is
built_grid limits choice bytes was is info all h b =
    let own = grid b.list.edges b.list.vertices info.parts in record {
      numbers = (list_within limits 1 bytes b.list h (omega arith) (omega arith) b.is).1;
      limits = b.within;
      head = b.head;
      holds = λ told. record {
        meta_file = file_told (was Meta) (is Meta) own.meta b.files.meta_file told;
        primary_file = file_told (was Primary) (is Primary) own.primary b.files.primary_file (all Primary Meta ∙ told);
        secondary_file = file_told (was Secondary) (is Secondary) own.secondary b.files.secondary_file (all Secondary Meta ∙ told);
        info_file = file_told (was Info) (is Info) own.info b.files.info_file (all Info Meta ∙ told);
      };
    }

still_files : (own : GridFiles) (was is now : FileKind → Option (List ℕ)) → LeavesGrid is now → HasFiles own was is → HasFiles own was now
still_files own was is now same h = record {
  meta_file = same Meta refl ∙ h.meta_file;
  primary_file = same Primary refl ∙ h.primary_file;
  secondary_file = same Secondary refl ∙ h.secondary_file;
  info_file = same Info refl ∙ h.info_file;
  spool_file = same Spool refl ∙ h.spool_file;
}

-- the counters of what is kept for runs stand
pub record Kept (taken_was taken_is stored_was stored_is : FileKind → ℕ) : Type 0 where
  pub values_taken : taken_is Values ≡ taken_was Values
  pub values_stored : stored_is Values ≡ stored_was Values
  pub sums_taken : taken_is Sums ≡ taken_was Sums
  pub sums_stored : stored_is Sums ≡ stored_was Sums

pub kept_by : {D : Type 0} (h : D → FileKind → Option (List ℕ)) (t s : D → FileKind → ℕ) (a b : D) → LeavesRuns h t s a b → Kept (t a) (t b) (s a) (s b)
kept_by h t s a b l = record { values_taken = l.values_taken; values_stored = l.values_stored; sums_taken = l.sums_taken; sums_stored = l.sums_stored }

stands : (before after : ℕ) → after ≡ before → RoseBy before after 0
stands before after same below = omega (arith, same)

pub on_ok_by : {A E : Type 0} (r : Result A E) (P : A → Type 0) (Q : Type 0) → IfOk r P → ((a : A) → P a → Q) → OnOk r Q
on_ok_by (Ok a) P Q h step = step a h
on_ok_by (Err e) P Q h step = tt

-- what was read for Secondary, by the bytes that it then has
pub copied_by : (told : Option (List ℕ)) (first before after : ℕ) (other : List ℕ → Type 0) → before ≡ first → IfSome told (λ file. RoseBy before after (length file) × other file) → IfSome told (λ file. RoseBy first after (length file))
copied_by None first before after other same h = tt
copied_by (Some file) first before after other same h = subst (λ (k : ℕ). RoseBy k after (length file)) same h.0

-- those are the grid's
copied_is : (own : GridFiles) (was is : FileKind → Option (List ℕ)) (before after : ℕ) → ((j k : FileKind) → is_some (is j) ≡ is_some (is k)) → HasFiles own was is → IfSome (is Secondary) (λ file. RoseBy before after (length file)) → WhereTold was (RoseBy before after (length own.secondary))
copied_is own was is before after all h copied = λ told.
    let some = told_before (was Meta) (is Meta) own.meta h.meta_file told in
    subst (λ (o : Option (List ℕ)). IfSome o (λ file. RoseBy before after (length file))) (file_told (was Secondary) (is Secondary) own.secondary h.secondary_file (all Secondary Meta ∙ some)) copied

-- A grid was built between these files and these counters, of a list that was read to the end of the input.
pub record WasBuilt (limits : TextLimits) (choice : PartsChoice) (left_old left_new : Option (List ℕ)) (was is : FileKind → Option (List ℕ)) (taken_was taken_is : FileKind → ℕ) (info : GridInfo) : Type 0 where
  pub built : HasBuilt limits choice left_old left_new was is (Ok info)
  pub all : (j k : FileKind) → is_some (is j) ≡ is_some (is k)
  pub copied : IfSome (is Secondary) (λ file. RoseBy (taken_was Primary) (taken_is Primary) (length file))
  pub unread : taken_is Secondary ≡ taken_was Secondary

-- what it copied, by the list
copied_of : (limits : TextLimits) (choice : PartsChoice) (left_old left_new : Option (List ℕ)) (was is : FileKind → Option (List ℕ)) (taken_was taken_is : FileKind → ℕ) (info : GridInfo) (h : WasBuilt limits choice left_old left_new was is taken_was taken_is info) →
    WhereTold was (RoseBy (taken_was Primary) (taken_is Primary) (copied_bytes (own_of h.built.builds.0.list info)))
copied_of limits choice left_old left_new was is taken_was taken_is info h =
    let b = h.built.builds.0 in copied_is (grid b.list.edges b.list.vertices info.parts) was is (taken_was Primary) (taken_is Primary) h.all b.files h.copied

-- the input was read to its end
read_whole : (sides : Sides) (bytes : List ℕ) → ((all : List ℕ) → sides.left_old ≡ Some all → bytes ≡ all) → (sides.left_old ≡ Some bytes → sides.left_new ≡ Some []) → InputEnds true sides
read_whole sides bytes told ended = λ all is. ended (is ∙ ap Some (sym (told all is)))

-- the parts of a choice that states them
stated_is : (parts p : ℕ) → ◌≡◌ {A = Result ℕ BuildFault} (Ok parts) (Ok p) → parts ≡ p
stated_is parts p is = cc

-- a grid that was built, and its line was written
module _ (limits : TextLimits) (words : BuildWords) (sides : Sides) (info : GridInfo) (h : WasBuilt limits (Stated (stated_parts words)) sides.left_old sides.left_new sides.was sides.is sides.taken_was sides.taken_is info) where
  pub built_done : Kept sides.taken_was sides.taken_is sides.stored_was sides.stored_is → sides.new_out ≡ after_told sides.old_out (grid_line info.vertices info.edges info.parts) → HasDone (built_on words) limits sides (Ok Build)
  built_done kept wrote =
      let b = h.built.builds.0 in record {
        input = h.built.bytes;
        files = contents sides.was;
        entry = entry_of h.built.bytes sides h.built.told;
        ends = record {
          did = did_build (own_of b.list info);
          gives = ap (done_with (built_on words)) b.is ∙ ap (λ (p : ℕ). Ok (did_build (record { list = b.list; parts = p }))) (stated_is (stated_parts words) info.parts b.chosen);
          kind = refl;
          input = read_whole sides h.built.bytes h.built.told h.built.builds.1;
          shown = tt;
          exact = record { status = refl; line = refl; written = wrote ∙ ap (after_told sides.old_out) (line_is limits (Stated (stated_parts words)) h.built.bytes sides.was sides.is info b) };
          files = b.files;
          moved = λ done. record {
            primary = copied_of limits (Stated (stated_parts words)) sides.left_old sides.left_new sides.was sides.is sides.taken_was sides.taken_is info h;
            secondary = stands (sides.taken_was Secondary) (sides.taken_is Secondary) h.unread;
            values_taken = stands (sides.taken_was Values) (sides.taken_is Values) kept.values_taken;
            values_stored = stands (sides.stored_was Values) (sides.stored_is Values) kept.values_stored;
            sums_taken = stands (sides.taken_was Sums) (sides.taken_is Sums) kept.sums_taken;
            sums_stored = stands (sides.stored_was Sums) (sides.stored_is Sums) kept.sums_stored;
          };
        };
      }

  pub built_cut : AppendsFront sides.old_out sides.new_out (grid_line info.vertices info.edges info.parts) → HasDone (built_on words) limits sides (Err (stop.Outside outside.Write))
  built_cut front =
      let b = h.built.builds.0 in record {
        input = h.built.bytes;
        files = contents sides.was;
        entry = entry_of h.built.bytes sides h.built.told;
        ends = record {
          did = did_build (own_of b.list info);
          gives = ap (done_with (built_on words)) b.is ∙ ap (λ (p : ℕ). Ok (did_build (record { list = b.list; parts = p }))) (stated_is (stated_parts words) info.parts b.chosen);
          front = subst (AppendsFront sides.old_out sides.new_out) (line_is limits (Stated (stated_parts words)) h.built.bytes sides.was sides.is info b) front;
          files = b.files;
        };
      }

-- how a command ended that ran so
abbrev pub completed_run : Result Ended RunStop → Result Completed Stop
completed_run (Ok end) = Ok (Run end)
completed_run (Err why) = Err (command_stop why)

-- a budget that is enough, and one that isn't
fits : (own : Built) (did : Did) (need budget : ℕ) → need ≤ budget → ◌≡◌ {A = Result Did Halted} (if nat_lt budget need then Err (record { why = stop.Refused (refuse.BudgetTooSmall need budget); built = Some own }) else Ok did) (Ok did)
fits own did need budget enough = let e : nat_lt budget need ≡ false = le-ltb budget need enough in rw e refl

too_small : (own : Built) (did : Did) (need budget needed given : ℕ) → budget < need → needed ≡ need → given ≡ budget →
    ◌≡◌ {A = Result Did Halted} (if nat_lt budget need then Err (record { why = stop.Refused (refuse.BudgetTooSmall need budget); built = Some own }) else Ok did) (Err (record { why = stop.Refused (refuse.BudgetTooSmall needed given); built = Some own }))
too_small own did need budget needed given small needs gives = let e : nat_lt budget need ≡ true = lt-ltb budget need small in rw (e, needs, gives) refl

-- the parts that a run's grid gets, by the choice
some_by : {A E : Type 0} (o : Option A) (fault : E) (x : A) → ok_or o fault ≡ Ok x → o ≡ Some x
some_by None fault x is = absurd (cc)
some_by (Some y) fault x is = cc

none_by : {A E : Type 0} (o : Option A) (fault why : E) → ok_or o fault ≡ Err why → (o ≡ None) × (fault ≡ why)
none_by None fault why is = (refl, cc)
none_by (Some y) fault why is = absurd (cc)

got_by : (stated : Option ℕ) (w budget n p : ℕ) → parts_for (stated_or stated (Fitted w budget)) n ≡ Ok p → parts_or stated (least_parts n w budget 16) ≡ Some p
got_by (Some q) w budget n p is = cc
got_by None w budget n p is = some_by (least_parts n w budget 16) (build_fault.BudgetTooSmall (need_at n w 256) budget) p is

unfit_by : (stated : Option ℕ) (w budget n need given : ℕ) → parts_for (stated_or stated (Fitted w budget)) n ≡ Err (build_fault.BudgetTooSmall need given) → (parts_or stated (least_parts n w budget 16) ≡ None) × (build_fault.BudgetTooSmall (need_at n w 256) budget ≡ build_fault.BudgetTooSmall need given)
unfit_by (Some q) w budget n need given is = absurd (cc)
unfit_by None w budget n need given is = none_by (least_parts n w budget 16) (build_fault.BudgetTooSmall (need_at n w 256) budget) (build_fault.BudgetTooSmall need given) is

same_refusal : (need given needed gave : ℕ) → build_fault.BudgetTooSmall need given ≡ build_fault.BudgetTooSmall needed gave → halted (refuse.BudgetTooSmall need given) ≡ halted (refuse.BudgetTooSmall needed gave)
same_refusal need given needed gave is = cc

-- a run refuses the lists that its choice refuses, and a build none
pub run_refuses : (program : ProgramWords) (words : BuildWords) (iterate : IterWords) → Refuses (ran_on program words iterate) (run_choice program words iterate)
run_refuses program words iterate = λ list need given is.
    let w = window_bytes program in
    let h = unfit_by words.parts w iterate.budget list.vertices need given is in
    ap (ran_parts program iterate list) h.0 ∙ ap Err (same_refusal (need_at list.vertices w 256) iterate.budget need given h.1)

pub build_refuses : (words : BuildWords) (parts : ℕ) → Refuses (built_on words) (Stated parts)
build_refuses words parts = λ list need given is. absurd (cc)

-- A program ran over the grid that was built, between the build and the end.
module _ (program : ProgramWords) (words : BuildWords) (iterate : IterWords) (limits : TextLimits) (sides : Sides) (mid : FileKind → Option (List ℕ)) (taken_mid stored_mid : FileKind → ℕ) (info : GridInfo) (h : WasBuilt limits (run_choice program words iterate) sides.left_old sides.left_new sides.was mid sides.taken_was taken_mid info) (same : LeavesGrid mid sides.is) where
  abbrev own_list : Listed
  own_list = h.built.builds.0.list

  abbrev own_grid : Built
  own_grid = own_of own_list info

  abbrev own_did : Did
  own_did = did_run program iterate own_grid

  abbrev own_need : ℕ
  own_need = need_in program (built_head own_grid)

  own_reads : done_with (ran_on program words iterate) (reading limits h.built.bytes) ≡ ran_over program iterate own_grid
  own_reads = ap (done_with (ran_on program words iterate)) h.built.builds.0.is ∙ ap (ran_parts program iterate own_list) (got_by words.parts (window_bytes program) iterate.budget own_list.vertices info.parts h.built.builds.0.chosen)

  own_gives : own_need ≤ iterate.budget → done_with (ran_on program words iterate) (reading limits h.built.bytes) ≡ Ok own_did
  own_gives enough = own_reads ∙ fits own_grid own_did own_need iterate.budget enough

  own_within : (r : Result Ended RunStop) → IsWithin (need_in program info) iterate.budget r → IsWithin own_need iterate.budget r
  own_within r within = subst (λ (i : GridInfo). IsWithin (need_in program i) iterate.budget r) h.built.builds.0.head within

  abbrev own_ran : Ran
  own_ran = ran_as program info.parts iterate own_list

  own_files : HasFiles (grid own_list.edges own_list.vertices info.parts) sides.was sides.is
  own_files = still_files _ sides.was mid sides.is same h.built.builds.0.files

  told_still : IsSome (sides.was Meta) → IsSome (mid Meta)
  told_still told = told_before (sides.was Meta) (mid Meta) _ h.built.builds.0.files.meta_file told

  both_moved : Kept sides.taken_was taken_mid sides.stored_was stored_mid → WhereTold mid (RoseRun own_ran.moved taken_mid sides.taken_is stored_mid sides.stored_is) → IsMoved own_did.run own_did.moved sides
  both_moved kept moves = record {
    primary = λ told. rose_then (sides.taken_was Primary) (taken_mid Primary) (sides.taken_is Primary) (copied_bytes own_grid) own_ran.moved.primary_taken (copied_of limits (run_choice program words iterate) sides.left_old sides.left_new sides.was mid sides.taken_was taken_mid info h told) (moves (told_still told)).primary;
    secondary = λ told. subst (λ (k : ℕ). RoseBy k (sides.taken_is Secondary) own_ran.moved.secondary_taken) h.unread (moves (told_still told)).secondary;
    values_taken = λ told. subst (λ (k : ℕ). RoseBy k (sides.taken_is Values) own_ran.moved.values_taken) kept.values_taken (moves (told_still told)).values_taken;
    values_stored = λ told. subst (λ (k : ℕ). RoseBy k (sides.stored_is Values) own_ran.moved.values_stored) kept.values_stored (moves (told_still told)).values_stored;
    sums_taken = λ told. subst (λ (k : ℕ). RoseBy k (sides.taken_is Sums) own_ran.moved.sums_taken) kept.sums_taken (moves (told_still told)).sums_taken;
    sums_stored = λ told. subst (λ (k : ℕ). RoseBy k (sides.stored_is Sums) own_ran.moved.sums_stored) kept.sums_stored (moves (told_still told)).sums_stored;
  }

  ended_moved : (end : Ended) → Kept sides.taken_was taken_mid sides.stored_was stored_mid → RunMoves own_ran mid taken_mid sides.taken_is stored_mid sides.stored_is (Ok end) → done_status (Run end) ≡ status.Done → IsMoved own_did.run own_did.moved sides
  ended_moved (ended.Over iteration vertex) kept moves done = absurd (cc)
  ended_moved (ended.Still iteration) kept moves done = both_moved kept moves
  ended_moved (ended.Limit iteration) kept moves done = both_moved kept moves

  ran_ends : (r : Result Ended RunStop) → Kept sides.taken_was taken_mid sides.stored_was stored_mid → IsWithin own_need iterate.budget r → IfOk r (EndShown (IsOverAt iterate.iterations info (IsOverIn program)) (IsReportOf program iterate info sides.old_out sides.new_out)) → IfErr r (DamageShown (IsWrongOf program iterate info)) →
      Leaves own_ran mid sides.old_out sides.new_out r → RunMoves own_ran mid taken_mid sides.taken_is stored_mid sides.stored_is r →
      Ends (done_with (ran_on program words iterate) (reading limits h.built.bytes)) sides (completed_run r)
  ran_ends (Ok end) kept within shown wrong leaves moves = record {
    did = own_did;
    gives = own_gives within;
    kind = refl;
    input = read_whole sides h.built.bytes h.built.told h.built.builds.1;
    shown = subst (λ i. EndShown (IsOverAt iterate.iterations i (IsOverIn program)) (IsReportOf program iterate i sides.old_out sides.new_out) end) h.built.builds.0.head shown;
    exact = λ told. let k = leaves (told_still told) in record { status = ap ending_status k.0; line = ap ending_line k.0; written = k.1 };
    files = own_files;
    moved = ended_moved end kept moves;
  }
  ran_ends (Err by.Write) kept within shown wrong leaves moves = record { did = own_did; gives = own_gives within; front = λ told. leaves (told_still told); files = own_files }
  ran_ends (Err by.Depot) kept within shown wrong leaves moves = inr (record { did = own_did; gives = own_gives within; front = λ told. leaves (told_still told); files = own_files })
  ran_ends (Err (by.Damaged damage)) kept within shown wrong leaves moves = record {
    did = own_did;
    gives = own_gives within;
    untold = λ told. leaves (told_still told);
    files = own_files;
    run = record { program = program; iterate = iterate; own = own_grid };
    is_run = refl;
    wrong = subst (λ i. IsWrongOf program iterate i damage) h.built.builds.0.head wrong;
  }
  ran_ends (Err by.Memory) kept within shown wrong leaves moves = record { same = leaves; files = inr (record { did = own_did; gives = own_gives within; files = own_files }) }
  ran_ends (Err (by.BudgetTooSmall need given)) kept within shown wrong leaves moves = record {
    built = Some own_grid;
    gives = own_reads ∙ too_small own_grid own_did own_need iterate.budget need given within.0 within.1 within.2;
    same = leaves;
    files = own_files;
  }

  pub ran_done : (r : Result Ended RunStop) → Kept sides.taken_was taken_mid sides.stored_was stored_mid → IsWithin (need_in program info) iterate.budget r → IfOk r (EndShown (IsOverAt iterate.iterations info (IsOverIn program)) (IsReportOf program iterate info sides.old_out sides.new_out)) → IfErr r (DamageShown (IsWrongOf program iterate info)) →
      Leaves own_ran mid sides.old_out sides.new_out r → RunMoves own_ran mid taken_mid sides.taken_is stored_mid sides.stored_is r → HasDone (ran_on program words iterate) limits sides (completed_run r)
  ran_done r kept within shown wrong leaves moves = record {
    input = h.built.bytes;
    files = contents sides.was;
    entry = entry_of h.built.bytes sides h.built.told;
    ends = ran_ends r kept (own_within r within) shown wrong leaves moves;
  }

-- a run that was ended comes after its engine was opened, and so does each stop but that for the budget
pub ended_late : (end : Ended) → IsBeforeRun (end_status (Ok (Run end))) → ⊥
ended_late (ended.Over iteration vertex) early = early
ended_late (ended.Still iteration) early = early
ended_late (ended.Limit iteration) early = early

pub small_or_late : (why : RunStop) (A : Type 0) → (IsTooSmall why → A) → IsBeforeRun (end_status (Err (command_stop why))) → A
small_or_late by.Memory A small early = absurd early
small_or_late by.Depot A small early = absurd early
small_or_late by.Write A small early = absurd early
small_or_late (by.Damaged damage) A small early = absurd early
small_or_late (by.BudgetTooSmall need given) A small early = small tt

-- what every step leaves
module _ {D : Type 0} (h : D → FileKind → Option (List ℕ)) (t s : D → FileKind → ℕ) where
  pub leaves_then : (a b c : D) → LeavesRuns h t s a b → LeavesRuns h t s b c → LeavesRuns h t s a c
  leaves_then a b c first second = record {
    values = second.values ∙ first.values;
    sums = second.sums ∙ first.sums;
    values_taken = second.values_taken ∙ first.values_taken;
    sums_taken = second.sums_taken ∙ first.sums_taken;
    values_stored = second.values_stored ∙ first.values_stored;
    sums_stored = second.sums_stored ∙ first.sums_stored;
  }

  pub same_leaves : (a b : D) → Same (h a) (h b) → Same (t a) (t b) → Same (s a) (s b) → LeavesRuns h t s a b
  same_leaves a b contents taken stored = record {
    values = contents Values;
    sums = contents Sums;
    values_taken = taken Values;
    sums_taken = taken Sums;
    values_stored = stored Values;
    sums_stored = stored Sums;
  }

module _ {D : Type 0} (h : D → FileKind → Option (List ℕ)) (t s : D → FileKind → ℕ) (f : D → ℕ) (a : D → Option (List ℕ)) where
  pub build_leaves : (old new : D) → BuildLeaves h t s f a old new → LeavesRuns h t s old new
  build_leaves old new b = record {
    values = b.values;
    sums = b.sums;
    values_taken = b.taken Values (λ e. cc) (λ e. cc);
    sums_taken = b.taken Sums (λ e. cc) (λ e. cc);
    values_stored = b.values_stored;
    sums_stored = b.sums_stored;
  }

-- a grid that wasn't built, for a cause that nothing is said of
pub not_built : (limits : TextLimits) (choice : PartsChoice) (left : Option (List ℕ)) (was is : FileKind → Option (List ℕ)) (fault : BuildFault) → ((bytes : List ℕ) → BuildsAs limits choice bytes left left was is (Err fault)) → HasBuilt limits choice left left was is (Err fault)
not_built limits choice left was is fault builds = record { bytes = unwrap_or left []; told = λ all h. all_told left all h; builds = builds (unwrap_or left []) }

-- a grid has some parts
some_of : (parts : Option ℕ) → IfSome parts (λ n. 1 ≤ n) → 1 ≤ unwrap_or parts 16
some_of None h = omega arith
some_of (Some n) h = h

pub some_parts : (words : BuildWords) → GridFits words → 1 ≤ stated_parts words
some_parts words h = some_of words.parts h.parts
