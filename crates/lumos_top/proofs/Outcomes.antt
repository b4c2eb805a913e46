-- The outcome of a command.
use Rattle.std.proofs.Common.{◌≡◌, ◌≢◌, ◌⊎◌, ◌≤◌, true, false, IsSome, inl, inr, ℕ, List, [], Option, Some, None, Result, Ok, Err, IsOk, IsErr, refl, sym, ap, subst, ◌∙◌}
use Rattle.std.proofs.lemmas.List.{append-nil}
use Rattle.std.specs.Prelude.{⊤, IfSome, is_some}
use Rattle.lumos_depot.specs.Causes.{HasCause}
use Rattle.lumos_depot.specs.Streams.{Writes, after_told}
use Rattle.lumos_depot.specs.declared.depot.FileKind.{FileKind}
use Rattle.lumos_depot.specs.declared.depot.FileKind.TheVariants.{Meta}
use Rattle.lumos_depot.proofs.Written.{front_none}
use Rattle.edge_text.specs.declared.fault.TextFault.{TextFault}
use Rattle.edge_text.specs.declared.fault.TextFault.TheVariants.{Input, TooManyEdges, InputTooLong}
use Rattle.lumos_report.specs.declared.records.Ending.{Ending as EndingRecord}
use Rattle.lumos_report.specs.declared.records.Why.TheVariants as why
use Rattle.lumos_top.specs.Answers.{Did, Halted, RunOn, answer, built_head}
use Rattle.lumos_top.specs.Comes.{Comes, HasOutcome, IsCutOutcome, IsDone, IsOutcome, IsRefusedFor, IsReported, IsToldOutcome}
use Rattle.lumos_top.specs.Ends.{Ends, EndsOn, IsCut, IsDamaged, IsMade, IsRefused, IsStopped, IsWritten, RefusedOr, StopsAtWords, StopsOutside, UnlessGrid, UnlessRun, done_line, done_status, end_line, end_status, is_of_run}
use Rattle.lumos_top.specs.Outcome.{outcome_of}
use Rattle.lumos_top.specs.Running.{IsReportOf, RunShown}
use Rattle.lumos_top.specs.Sides.{FilesAre, GetsLine, IfTold, InputEnds, IsAttached, IsMoved, NoMeta, Sides}
use Rattle.lumos_top.specs.Stops.{damage_line, outside_line, outside_status, refusal_line, refusal_status}
use Rattle.lumos_top.specs.declared.status.Completed.{Completed}
use Rattle.lumos_top.specs.declared.status.Completed.TheVariants.{Run, Build, Replay}
use Rattle.lumos_top.specs.declared.status.Damage.{Damage}
use Rattle.lumos_top.specs.declared.status.Ended.TheVariants.{Over, Still, Limit}
use Rattle.lumos_top.specs.declared.status.Outside.{Outside}
use Rattle.lumos_top.specs.declared.status.Outside.TheVariants as outside
use Rattle.lumos_top.specs.declared.status.Refusal.{Refusal}
use Rattle.lumos_top.specs.declared.status.Refusal.TheVariants as refuse
use Rattle.lumos_top.specs.declared.status.Status.{Status}
use Rattle.lumos_top.specs.declared.status.Status.TheVariants as status
use Rattle.lumos_top.specs.declared.status.Stop.{Stop}
use Rattle.lumos_top.specs.declared.status.Stop.TheVariants as stop
use Rattle.lumos_words.specs.declared.faults.UsageFault.{UsageFault}
use Rattle.lumos_words.specs.declared.request.Request.{Request}
use Rattle.lumos_words.specs.declared.request.Request.TheVariants as ask

after_told-nil : (old : Option (List ℕ)) → after_told old [] ≡ old
after_told-nil None = refl
after_told-nil (Some held) = ap Some (append-nil held)

if_told : (run : Option RunOn) (files : FileKind → Option (List ℕ)) {A B : Type 0} → (A → B) → IfTold run files A → IfTold run files B
if_told (Some run) files step h = λ told. step (h told)
if_told None files step h = step h

-- a command that was refused
refused : (answer : Result Did Halted) (why : Refusal) (sides : Sides) → IsRefused answer why sides → IsOutcome (outcome_of answer) (refusal_status why) (refusal_line why) sides
refused answer why sides h =
    subst (λ a. IsOutcome (outcome_of a) (refusal_status why) (refusal_line why) sides) (sym h.gives) (record { status = refl; out = h.same ∙ sym (after_told-nil sides.old_out); line = refl; files = h.files })

faulty : (answer : Result Did Halted) (sides : Sides) (fault : TextFault) → IsRefused answer (refuse.Text fault) sides → Comes (outcome_of answer) (refusal_status (refuse.Text fault)) (refusal_line (refuse.Text fault)) sides
faulty answer sides (Input fault) h = refused answer (refuse.Text (Input fault)) sides h
faulty answer sides (TooManyEdges limit) h = refused answer (refuse.Text (TooManyEdges limit)) sides h
faulty answer sides (InputTooLong limit) h = refused answer (refuse.Text (InputTooLong limit)) sides h

refusal_comes : (answer : Result Did Halted) (sides : Sides) (why : Refusal) → IsRefused answer why sides → Comes (outcome_of answer) (refusal_status why) (refusal_line why) sides
refusal_comes answer sides (refuse.Usage fault) h = refused answer (refuse.Usage fault) sides h
refusal_comes answer sides (refuse.TooMany many) h = refused answer (refuse.TooMany many) sides h
refusal_comes answer sides (refuse.Text fault) h = faulty answer sides fault h
refusal_comes answer sides (refuse.BudgetTooSmall need given) h = refused answer (refuse.BudgetTooSmall need given) sides h
refusal_comes answer sides (refuse.BadSchedule line) h = refused answer (refuse.BadSchedule line) sides h
refusal_comes answer sides (refuse.ScheduleEnded line) h = refused answer (refuse.ScheduleEnded line) sides h
refusal_comes answer sides (refuse.TooManyEvents limit) h = refused answer (refuse.TooManyEvents limit) sides h
refusal_comes answer sides (refuse.Illegal event why) h = refused answer (refuse.Illegal event why) sides h

-- one that was stopped
cut : (answer : Result Did Halted) (sides : Sides) → IsCut answer sides → IsCutOutcome (outcome_of answer) sides
cut answer sides h = subst (λ a. IsCutOutcome (outcome_of a) sides) (sym h.gives) (record { front = h.front; files = h.files })

stopped : (answer : Result Did Halted) (sides : Sides) → IsStopped answer sides → (sides.new_out ≡ sides.old_out) ⊎ IsCutOutcome (outcome_of answer) sides
stopped answer sides (inl same) = inl same
stopped answer sides (inr h) = inr (cut answer sides h)

wanting : (answer : Result Did Halted) (sides : Sides) → NoMeta sides ⊎ IsMade answer sides → NoMeta sides ⊎ FilesAre (outcome_of answer).built sides.was sides.is
wanting answer sides (inl none) = inl none
wanting answer sides (inr made) = inr (subst (λ a. FilesAre (outcome_of a).built sides.was sides.is) (sym made.gives) made.files)

no_files : (told : Option (List ℕ)) → (IsSome told → ⊥) → told ≡ None
no_files None never = refl
no_files (Some file) never = absurd (never refl)

damaged : (answer : Result Did Halted) (sides : Sides) (damage : Damage) → IsDamaged answer sides damage → Comes (outcome_of answer) status.Grid (damage_line damage) sides
damaged answer sides damage h = subst (λ a. Comes (outcome_of a) status.Grid (damage_line damage) sides) (sym h.gives) (record {
  run = h.run;
  is_run = h.is_run;
  untold = no_files (sides.was Meta) h.untold;
  files = h.files;
  damage = damage;
  wrong = h.wrong;
  line = refl;
})

-- one that is done
done : (answer : Result Did Halted) (sides : Sides) (completed : Completed) → IsWritten answer sides completed → IsToldOutcome (outcome_of answer) (done_status completed) (done_line completed) sides
done answer sides completed h = subst (λ a. IsToldOutcome (outcome_of a) (done_status completed) (done_line completed) sides) (sym h.gives) (record {
  exact = if_told h.did.run sides.was (λ exact. record { status = exact.status; out = exact.written; line = exact.line; files = h.files }) h.exact;
  files = h.files;
})

-- the run that was done
record IsRunWith (asked : Option RunOn) (fact : RunOn → Type 0) : Type 0 where
  pub run : RunOn
  pub is_run : asked ≡ Some run
  pub holds : fact run

run_with : (asked : Option RunOn) (fact : RunOn → Type 0) → is_some asked ≡ true → IfSome asked fact → IsRunWith asked fact
run_with (Some run) fact some h = record { run = run; is_run = refl; holds = h }
run_with None fact some h = absurd (cc)

over_run : (answer : Result Did Halted) (sides : Sides) (iteration vertex : ℕ) → IsWritten answer sides (Run (Over iteration vertex)) → Comes (outcome_of answer) status.Range (end_line (Ok (Run (Over iteration vertex)))) sides
over_run answer sides iteration vertex h =
    let ran = run_with h.did.run (RunShown sides.old_out sides.new_out (Over iteration vertex)) h.kind h.shown in record {
      run = ran.run;
      is_run = ap (λ a. (outcome_of a).run) h.gives ∙ ran.is_run;
      outcome = done answer sides (Run (Over iteration vertex)) h;
      iteration = iteration;
      vertex = vertex;
      is_over = ran.holds;
      line = refl;
    }

-- a run that wrote its report, and commands that are none
reported_by : (asked : Option RunOn) (old new : Option (List ℕ)) (end : EndingRecord) → IfSome asked (λ run. IsReportOf run.program run.iterate (built_head run.own) old new end) →
    IfSome asked (λ run. (end : EndingRecord) × IsReportOf run.program run.iterate (built_head run.own) old new end)
reported_by (Some run) old new end h = (end, h)
reported_by None old new end h = tt

none_run : (asked : Option RunOn) (fact : RunOn → Type 0) → is_some asked ≡ false → IfSome asked fact
none_run None fact none = tt
none_run (Some run) fact none = absurd (cc)

run_done : (answer : Result Did Halted) (sides : Sides) (completed : Completed) (end : EndingRecord) → (h : IsWritten answer sides completed) → IfSome h.did.run (λ run. IsReportOf run.program run.iterate (built_head run.own) sides.old_out sides.new_out end) → IsReported (outcome_of answer) sides
run_done answer sides completed end h shown = subst (λ a. IsReported (outcome_of a) sides) (sym h.gives) (reported_by h.did.run sides.old_out sides.new_out end shown)

other_done : (answer : Result Did Halted) (sides : Sides) (completed : Completed) → is_of_run completed ≡ false → IsWritten answer sides completed → IsReported (outcome_of answer) sides
other_done answer sides completed none h = subst (λ a. IsReported (outcome_of a) sides) (sym h.gives) (none_run h.did.run _ (h.kind ∙ none))

-- one that is done, up to its ending
done_comes : (answer : Result Did Halted) (sides : Sides) (completed : Completed) → (h : IsWritten answer sides completed) → done_status completed ≡ status.Done → done_line completed ≡ [] → IsReported (outcome_of answer) sides → IsDone (outcome_of answer) (done_line completed) sides
done_comes answer sides completed h ended line reported = record {
  line = line;
  outcome = subst (λ s. IsToldOutcome (outcome_of answer) s (done_line completed) sides) ended (done answer sides completed h);
  reported = reported;
  input = subst (λ a. InputEnds (outcome_of a).reads sides) (sym h.gives) h.input;
  moved = subst (λ a. IsMoved (outcome_of a).run (outcome_of a).moved sides) (sym h.gives) (h.moved ended);
}

outside_comes : (answer : Result Did Halted) (sides : Sides) (why : Outside) → StopsOutside answer sides why → Comes (outcome_of answer) (outside_status why) (outside_line why) sides
outside_comes answer sides outside.Memory h = record { line = refl; same = h.same; files = wanting answer sides h.files }
outside_comes answer sides outside.Read h = (refl, h)
outside_comes answer sides outside.Depot h = (refl, stopped answer sides h)
outside_comes answer sides outside.Write h = (refl, cut answer sides h)

comes_at : (answer : Result Did Halted) (sides : Sides) (r : Result Completed Stop) → Ends answer sides r → Comes (outcome_of answer) (end_status r) (end_line r) sides
comes_at answer sides (Ok (Run (Over iteration vertex))) h = over_run answer sides iteration vertex h
comes_at answer sides (Ok (Run (Still iteration))) h = done_comes answer sides (Run (Still iteration)) h refl refl (run_done answer sides (Run (Still iteration)) (record { iterations = iteration; why = why.Still }) h h.shown)
comes_at answer sides (Ok (Run (Limit iteration))) h = done_comes answer sides (Run (Limit iteration)) h refl refl (run_done answer sides (Run (Limit iteration)) (record { iterations = iteration; why = why.Limit }) h h.shown)
comes_at answer sides (Ok Build) h = done_comes answer sides Build h refl refl (other_done answer sides Build refl h)
comes_at answer sides (Ok Replay) h = done_comes answer sides Replay h refl refl (other_done answer sides Replay refl h)
comes_at answer sides (Err (stop.Outside why)) h = outside_comes answer sides why h
comes_at answer sides (Err (stop.Damaged damage)) h = damaged answer sides damage h
comes_at answer sides (Err (stop.Refused why)) h = refusal_comes answer sides why h

-- what a call of the program comes to
pub has_outcome : (words : List (List ℕ)) (r : Result Completed Stop) (s : Status) (sides : Sides) (old_err new_err : Option (List ℕ)) (before now : ℕ) → end_status r ≡ s → EndsOn (answer words) sides r → GetsLine old_err new_err before now (end_line r) →
    HasOutcome words s sides old_err new_err before now
has_outcome words r s sides old_err new_err before now is h tells = record {
  input = h.input;
  files = h.files;
  entry = h.entry;
  err = end_line r;
  comes = subst (λ t. Comes (outcome_of (answer words h.input h.files)) t (end_line r) sides) is (comes_at (answer words h.input h.files) sides r h.ends);
  tells = tells;
}

-- What a command came to, by its status.
abbrev pub CameTo : Result Completed Stop → Status → Type 0
CameTo r status.Done = IsOk r × (end_line r ≡ [])
CameTo r status.Memory = r ≡ Err (stop.Outside outside.Memory)
CameTo r status.ReadFault = r ≡ Err (stop.Outside outside.Read)
CameTo r status.DepotFault = r ≡ Err (stop.Outside outside.Depot)
CameTo r status.WriteFault = r ≡ Err (stop.Outside outside.Write)
CameTo r status.Usage = (fault : UsageFault) × (r ≡ Err (stop.Refused (refuse.Usage fault)))
CameTo r status.Input = ⊤
CameTo r status.Limit = ⊤
CameTo r status.Range = IsOk r
CameTo r status.Grid = ⊤
CameTo r status.Schedule = ⊤

came_text : (fault : TextFault) → CameTo (Err (stop.Refused (refuse.Text fault))) (refusal_status (refuse.Text fault))
came_text (Input fault) = tt
came_text (TooManyEdges limit) = tt
came_text (InputTooLong limit) = tt

came_outside : (why : Outside) → CameTo (Err (stop.Outside why)) (outside_status why)
came_outside outside.Memory = refl
came_outside outside.Read = refl
came_outside outside.Depot = refl
came_outside outside.Write = refl

came_refused : (why : Refusal) → CameTo (Err (stop.Refused why)) (refusal_status why)
came_refused (refuse.Usage fault) = (fault, refl)
came_refused (refuse.TooMany many) = tt
came_refused (refuse.Text fault) = came_text fault
came_refused (refuse.BudgetTooSmall need given) = tt
came_refused (refuse.BadSchedule line) = tt
came_refused (refuse.ScheduleEnded line) = tt
came_refused (refuse.TooManyEvents limit) = tt
came_refused (refuse.Illegal event why) = tt

came : (r : Result Completed Stop) → CameTo r (end_status r)
came (Ok (Run (Over iteration vertex))) = refl
came (Ok (Run (Still iteration))) = (refl, refl)
came (Ok (Run (Limit iteration))) = (refl, refl)
came (Ok Build) = (refl, refl)
came (Ok Replay) = (refl, refl)
came (Err (stop.Outside why)) = came_outside why
came (Err (stop.Damaged damage)) = tt
came (Err (stop.Refused why)) = came_refused why

pub came_to : (r : Result Completed Stop) (s t : Status) → end_status r ≡ s → s ≡ t → CameTo r t
came_to r s t is same = subst (CameTo r) (is ∙ same) (came r)

-- the status is that of words that ask for nothing where they do, unless memory is wanting, and only there
usage_by : (asked : Result Request UsageFault) (r : Result Completed Stop) (fault : UsageFault) → StopsAtWords asked r → r ≡ Err (stop.Refused (refuse.Usage fault)) → IsErr asked
usage_by (Ok request) r fault h is = absurd (h fault is)
usage_by (Err why) r fault h is = refl

pub usage_at : (asked : Result Request UsageFault) (r : Result Completed Stop) (s : Status) → end_status r ≡ s → StopsAtWords asked r → s ≡ status.Usage → IsErr asked
usage_at asked r s is h usage = let came = came_to r s status.Usage is usage in usage_by asked r came.0 h came.1

refused_status : (r : Result Completed Stop) (s : Status) (why : Refusal) → end_status r ≡ s → RefusedOr r why → (s ≡ status.Memory) ⊎ (s ≡ refusal_status why)
refused_status r s why is (inl memory) = inl (sym is ∙ ap end_status memory)
refused_status r s why is (inr refused) = inr (sym is ∙ ap end_status refused)

pub faulty_at : (asked : Result Request UsageFault) (r : Result Completed Stop) (s : Status) → end_status r ≡ s → StopsAtWords asked r → IsErr asked → (s ≡ status.Memory) ⊎ (s ≡ status.Usage)
faulty_at (Ok request) r s is h err = absurd (cc)
faulty_at (Err why) r s is h err = refused_status r s (refuse.Usage why) is h

-- words that are refused by themselves
refused_line : (r : Result Completed Stop) (s : Status) (old new : Option (List ℕ)) (before now : ℕ) (why : Refusal) → end_status r ≡ s → RefusedOr r why → GetsLine old new before now (end_line r) → s ≢ status.Memory → GetsLine old new before now (refusal_line why)
refused_line r s old new before now why is (inl memory) tells known = absurd (known (sym is ∙ ap end_status memory))
refused_line r s old new before now why is (inr refused) tells known = subst (GetsLine old new before now) (ap end_line refused) tells

pub refused_at : (r : Result Completed Stop) (s : Status) (old new : Option (List ℕ)) (before now : ℕ) (why : Refusal) → end_status r ≡ s → RefusedOr r why → GetsLine old new before now (end_line r) → IsRefusedFor why s old new before now
refused_at r s old new before now why is refused tells = record {
  answers = refused_status r s why is refused;
  tells = refused_line r s old new before now why is refused tells;
}

-- where the depot stands after a status
pub placed : (wanted attached : Option (List ℕ)) (r : Result Completed Stop) (s : Status) → end_status r ≡ s → IsAttached wanted attached (r ≡ Err (stop.Outside outside.Memory)) (r ≡ Err (stop.Outside outside.Depot)) → IsAttached wanted attached (s ≡ status.Memory) (s ≡ status.DepotFault)
placed wanted attached r s is h = record {
  either = h.either;
  sure = λ memory depot. h.sure (λ e. memory (sym is ∙ ap end_status e)) (λ e. depot (sym is ∙ ap end_status e));
}

-- what is kept for runs, by the status that was told
pub unless_run : (asked : Result Request UsageFault) (A : Type 0) (r : Result Completed Stop) (s : Status) → end_status r ≡ s → UnlessRun asked (end_status r) A → UnlessRun asked s A
unless_run asked A r s is h = subst (λ (t : Status). UnlessRun asked t A) is h

-- a command that asks for no grid doesn't fail by the depot
pub kept : (asked : Result Request UsageFault) (A : Type 0) (r : Result Completed Stop) (s : Status) → end_status r ≡ s → UnlessGrid asked (A × (r ≡ Err (stop.Outside outside.Depot) → ⊥)) → UnlessGrid asked (A × (s ≢ status.DepotFault))
kept (Ok (ask.Run program grid iterate)) A r s is h = tt
kept (Ok (ask.Build grid)) A r s is h = tt
kept (Ok (ask.Sample program grid iterate seed edges)) A r s is h = tt
kept (Ok (ask.Replay program parts vertices both)) A r s is h = (h.0, λ e. h.1 (came_to r s status.DepotFault is e))
kept (Err fault) A r s is h = (h.0, λ e. h.1 (came_to r s status.DepotFault is e))

whole_line : {E : Type 0} (old new : Option (List ℕ)) (before now : ℕ) (r : Result (Unit {0}) E) (line : List ℕ) → Writes old new r line → HasCause before now r → GetsLine old new before now line
whole_line old new before now (Ok done) line w cause = record { later = cause.later; front = w.front; whole = λ quiet. w.whole }
whole_line old new before now (Err e) line w cause = record { later = cause.later; front = w.front; whole = λ quiet. absurd (quiet cause.failed) }

pub gets_line : {E : Type 0} (old new : Option (List ℕ)) (before now : ℕ) (r : Result (Unit {0}) E) (line other : List ℕ) → line ≡ other → Writes old new r line → HasCause before now r → GetsLine old new before now other
gets_line old new before now r line other same w cause = subst (GetsLine old new before now) same (whole_line old new before now r line w cause)

-- an empty line
no_line : (old : Option (List ℕ)) (count : ℕ) → count ≤ count → GetsLine old old count count []
no_line old count same = record { later = same; front = front_none old old [] refl; whole = λ quiet. sym (after_told-nil old) }

pub gets_none : (old : Option (List ℕ)) (count : ℕ) (line : List ℕ) → count ≤ count → line ≡ [] → GetsLine old old count count line
gets_none old count line same none = subst (GetsLine old old count count) (sym none) (no_line old count same)
