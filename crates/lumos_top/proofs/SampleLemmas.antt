-- What a command comes to whose list is drawn: it leaves the input that there is, and no line of its list is faulty.
use Rattle.std.proofs.Common.{◌≡◌, ◌⊎◌, ◌≤◌, inl, inr, ℕ, Bool, true, false, List, [], Option, Some, None, Result, Ok, Err, refl, sym, ap, subst, nat_lt, ltb-false, arith}
use Rattle.std.specs.Prelude.{unwrap_or, if◌then◌else◌}
use Rattle.lumos_depot.specs.declared.depot.FileKind.{FileKind}
use Rattle.edge_text.specs.Reading.{Listed, reading}
use Rattle.edge_text.specs.declared.fault.InputFault.{InputFault}
use Rattle.edge_text.specs.declared.fault.TextFault.{TextFault}
use Rattle.edge_text.specs.declared.fault.TextFault.TheVariants as text
use Rattle.edge_text.specs.declared.fault.TextLimits.{TextLimits}
use Rattle.partition.specs.Fitting.{need_at}
use Rattle.lumos_words.specs.declared.faults.UsageFault.{UsageFault}
use Rattle.lumos_words.specs.declared.request.BuildWords.{BuildWords}
use Rattle.lumos_words.specs.declared.request.IterWords.{IterWords}
use Rattle.lumos_words.specs.declared.request.ProgramWords.{ProgramWords}
use Rattle.lumos_words.specs.declared.request.Request.{Request}
use Rattle.lumos_words.specs.declared.request.Request.TheVariants as ask
use Rattle.lumos_top.specs.Answers.{Built, Did, Halted, RunOn, built_head, did_run, done_with, drawn, halted, limits_of, limits_with, need_in, ran_on, ran_parts, run_parts, stated_parts, unread, vertices_within, window_bytes}
use Rattle.lumos_top.specs.Ends.{Ends, EndsOn, HasDone, IsCut, IsExact, IsMade, IsStopped, IsWanting, OfSample, StopsOutside, end_status}
use Rattle.lumos_top.specs.Sides.{IfTold, IsMoved, NoMeta, Sides}
use Rattle.lumos_top.specs.declared.status.Completed.{Completed}
use Rattle.lumos_top.specs.declared.status.Completed.TheVariants.{Run, Build, Replay}
use Rattle.lumos_top.specs.declared.status.Ended.TheVariants as ended
use Rattle.lumos_top.specs.declared.status.Outside.{Outside}
use Rattle.lumos_top.specs.declared.status.Outside.TheVariants as outside
use Rattle.lumos_top.specs.declared.status.Refusal.TheVariants as refuse
use Rattle.lumos_top.specs.declared.status.Status.TheVariants as status
use Rattle.lumos_top.specs.declared.status.Stop.{Stop}
use Rattle.lumos_top.specs.declared.status.Stop.TheVariants as stop
use Rattle.lumos_top.specs.declared.status.TooMany.{TooMany}
use Rattle.lumos_top.specs.declared.status.TooMany.TheVariants.{Parts, Vertices}
use Rattle.lumos_depot.specs.Causes.{Rose}
use Rattle.lumos_top.proofs.Outcomes.{came_to}
use Rattle.lumos_top.proofs.DrawnLemmas.{HasVertices, drawn_free}
use Rattle.lumos_top.proofs.RunLemmas.{all_told}

-- a fact that is owed, by another
pub if_map : (run : Option RunOn) (files : FileKind → Option (List ℕ)) (A B : Type 0) → (A → B) → IfTold run files A → IfTold run files B
if_map (Some run) files A B f h = λ told. f (h told)
if_map None files A B f h = f h

-- beside the sides of the list that is drawn stand those of the input, which stays
module _ (own : Sides) (left : Option (List ℕ)) where
  abbrev pub beside : Sides
  beside = record own { left_old = left; left_new = left }

  cut_beside : (answer : Result Did Halted) → IsCut answer own → IsCut (unread answer) beside
  cut_beside answer h = record { did = record h.did { reads = false }; gives = ap unread h.gives; front = h.front; files = h.files }

  made_beside : (answer : Result Did Halted) → IsMade answer own → IsMade (unread answer) beside
  made_beside answer h = record { did = record h.did { reads = false }; gives = ap unread h.gives; files = h.files }

  moved_beside : (did : Did) → IsMoved did.run did.moved own → IsMoved did.run did.moved beside
  moved_beside did h = record { primary = h.primary; secondary = h.secondary; values_taken = h.values_taken; values_stored = h.values_stored; sums_taken = h.sums_taken; sums_stored = h.sums_stored }

  stopped_beside : (answer : Result Did Halted) → IsStopped answer own → IsStopped (unread answer) beside
  stopped_beside answer (inl same) = inl same
  stopped_beside answer (inr cut) = inr (cut_beside answer cut)

  wanting_beside : (answer : Result Did Halted) → IsWanting answer own → IsWanting (unread answer) beside
  wanting_beside answer h = record { same = h.same; files = files_beside h.files }
    where
      files_beside : NoMeta own ⊎ IsMade answer own → NoMeta beside ⊎ IsMade (unread answer) beside
      files_beside (inl none) = inl none
      files_beside (inr made) = inr (made_beside answer made)

  outside_beside : (answer : Result Did Halted) (why : Outside) → StopsOutside answer own why → StopsOutside (unread answer) beside why
  outside_beside answer outside.Memory h = wanting_beside answer h
  outside_beside answer outside.Read h = record { same = h.same; files = h.files }
  outside_beside answer outside.Depot h = stopped_beside answer h
  outside_beside answer outside.Write h = cut_beside answer h

  ends_beside : (answer : Result Did Halted) (r : Result Completed Stop) → Ends answer own r → Ends (unread answer) beside r
  ends_beside answer (Ok completed) h = record {
    did = record h.did { reads = false };
    gives = ap unread h.gives;
    kind = h.kind;
    input = refl;
    shown = h.shown;
    exact = if_map h.did.run own.was (IsExact h.did own completed) (IsExact (record h.did { reads = false }) beside completed) (λ e. record { status = e.status; line = e.line; written = e.written }) h.exact;
    files = h.files;
    moved = λ done. moved_beside h.did (h.moved done);
  }
  ends_beside answer (Err (stop.Outside why)) h = outside_beside answer why h
  ends_beside answer (Err (stop.Damaged damage)) h = record { did = record h.did { reads = false }; gives = ap unread h.gives; untold = h.untold; files = h.files; run = h.run; is_run = h.is_run; wrong = h.wrong }
  ends_beside answer (Err (stop.Refused why)) h = record { built = h.built; gives = ap unread h.gives; same = h.same; files = h.files }

  -- a command over this text
  pub drawn_ends : (text : List ℕ) (answer_on : List ℕ → Result Did Halted) (r : Result Completed Stop) → own.left_old ≡ Some text → EndsOn (λ input files. answer_on input) own r → EndsOn (λ input files. unread (answer_on text)) beside r
  drawn_ends text answer_on r is h = record {
    input = unwrap_or left [];
    files = h.files;
    entry = record { left = λ all told. all_told left all told; holds = h.entry.holds };
    ends = subst (λ (bytes : List ℕ). Ends (unread (answer_on bytes)) beside r) (h.entry.left text is) (ends_beside (answer_on h.input) r h.ends);
  }

-- Where a list has no fault, no command over it ends at one.
abbrev NotInput : Halted → Type 0
NotInput halt = end_status (Err halt.why) ≡ status.Input → ⊥

limit_not : status.Limit ≡ status.Input → ⊥
limit_not is = absurd (cc)

halt_by : (refused : Bool) (own halt : Halted) (did : Did) → NotInput own → ◌≡◌ {A = Result Did Halted} (if refused then Err own else Ok did) (Err halt) → NotInput halt
halt_by true own halt did not h = let same : own ≡ halt = cc in subst NotInput same not
halt_by false own halt did not h = absurd (cc)

parts_halt : (program : ProgramWords) (iterate : IterWords) (list : Listed) (parts : Option ℕ) (halt : Halted) → ran_parts program iterate list parts ≡ Err halt → NotInput halt
parts_halt program iterate list (Some parts) halt h =
    let own : Built = record { list = list; parts = parts } in
    let need = need_in program (built_head own) in
    halt_by (nat_lt iterate.budget need) (record { why = stop.Refused (refuse.BudgetTooSmall need iterate.budget); built = Some own }) halt (did_run program iterate own) limit_not h
parts_halt program iterate list None halt h =
    let same : halted (refuse.BudgetTooSmall (need_at list.vertices (window_bytes program) 256) iterate.budget) ≡ halt = cc in
    subst NotInput same limit_not

text_halt : (fault : TextFault) → ((why : InputFault) → fault ≡ text.Input why → ⊥) → NotInput (halted (refuse.Text fault))
text_halt (text.Input why) free = absurd (free why refl)
text_halt (text.TooManyEdges limit) free = limit_not
text_halt (text.InputTooLong limit) free = limit_not

list_halt : (program : ProgramWords) (words : BuildWords) (iterate : IterWords) (r : Result Listed TextFault) (halt : Halted) → ((why : InputFault) → r ≡ Err (text.Input why) → ⊥) → done_with (ran_on program words iterate) r ≡ Err halt → NotInput halt
list_halt program words iterate (Ok list) halt free h = parts_halt program iterate list (run_parts program words iterate list.vertices) halt h
list_halt program words iterate (Err fault) halt free h =
    let same : halted (refuse.Text fault) ≡ halt = cc in
    subst NotInput same (text_halt fault (λ why is. free why (ap Err is)))

not_input : (answer : Result Did Halted) (sides : Sides) (r : Result Completed Stop) → ((halt : Halted) → answer ≡ Err halt → NotInput halt) → Ends answer sides r → end_status r ≡ status.Input → ⊥
not_input answer sides (Ok (Run (ended.Over iteration vertex))) halts h is = absurd (cc)
not_input answer sides (Ok (Run (ended.Still iteration))) halts h is = absurd (cc)
not_input answer sides (Ok (Run (ended.Limit iteration))) halts h is = absurd (cc)
not_input answer sides (Ok Build) halts h is = absurd (cc)
not_input answer sides (Ok Replay) halts h is = absurd (cc)
not_input answer sides (Err (stop.Outside outside.Memory)) halts h is = absurd (cc)
not_input answer sides (Err (stop.Outside outside.Read)) halts h is = absurd (cc)
not_input answer sides (Err (stop.Outside outside.Depot)) halts h is = absurd (cc)
not_input answer sides (Err (stop.Outside outside.Write)) halts h is = absurd (cc)
not_input answer sides (Err (stop.Damaged damage)) halts h is = absurd (cc)
not_input answer sides (Err (stop.Refused why)) halts h is = halts (record { why = stop.Refused why; built = h.built }) h.gives is

-- a source whose faults are none is never told as failing
pub no_read : (r : Result Completed Stop) → (r ≡ Err (stop.Outside outside.Read) → Rose 0 0) → end_status r ≡ status.ReadFault → ⊥
no_read r rises is = let rose = rises (came_to r (end_status r) status.ReadFault refl is) in omega (arith, rose)

-- The limits of a sample's list state its vertices.
pass_by : (over : Bool) (many : TooMany) (r : Result TextLimits TooMany) (limits : TextLimits) → (if over then Err many else r) ≡ Ok limits → (over ≡ false) × (r ≡ Ok limits)
pass_by true many r limits h = absurd (cc)
pass_by false many r limits h = (refl, h)

stated_by : (words : BuildWords) (stated : Option ℕ) (limits : TextLimits) → 1 ≤ unwrap_or stated 0 → vertices_within words stated ≡ Ok limits → HasVertices limits (unwrap_or stated 0)
stated_by words None limits some h = absurd (omega arith)
stated_by words (Some n) limits some h =
    let passed = pass_by (nat_lt 268435456 n) (Vertices n 268435456) (Ok (limits_with words (Some n))) limits h in
    let same : limits_with words (Some n) ≡ limits = let e = passed.1 in cc in
    subst (λ (l : TextLimits). HasVertices l n) same (record { most = refl; stated = refl; some = some; few = ltb-false 268435456 n passed.0 })

limits_by : (words : BuildWords) (limits : TextLimits) → 1 ≤ unwrap_or words.vertices 0 → limits_of words ≡ Ok limits → HasVertices limits (unwrap_or words.vertices 0)
limits_by words limits some h = stated_by words words.vertices limits some (pass_by (nat_lt 256 (stated_parts words)) (Parts (stated_parts words) 256) (vertices_within words words.vertices) limits h).1

-- a run over a drawn list
pub drawn_not_input : (program : ProgramWords) (words : BuildWords) (iterate : IterWords) (seed edges : ℕ) (limits : TextLimits) (sides : Sides) (r : Result Completed Stop) → 1 ≤ unwrap_or words.vertices 0 → limits_of words ≡ Ok limits → sides.left_old ≡ Some (drawn words seed edges) →
    HasDone (ran_on program words iterate) limits sides r → end_status r ≡ status.Input → ⊥
drawn_not_input program words iterate seed edges limits sides r some is left h =
    let list = drawn words seed edges in
    not_input (done_with (ran_on program words iterate) (reading limits list)) sides r
    (λ halt. list_halt program words iterate (reading limits list) halt (λ why. drawn_free limits seed (unwrap_or words.vertices 0) edges why (limits_by words limits some is)))
    (subst (λ (bytes : List ℕ). Ends (done_with (ran_on program words iterate) (reading limits bytes)) sides r) (h.entry.left list left) h.ends)

-- a fact of a sample, by another
pub of_sample : (asked : Result Request UsageFault) (A B : Type 0) → (A → B) → OfSample asked A → OfSample asked B
of_sample (Ok (ask.Run program grid iterate)) A B f h = tt
of_sample (Ok (ask.Build grid)) A B f h = tt
of_sample (Ok (ask.Sample program grid iterate seed edges)) A B f h = f h
of_sample (Ok (ask.Replay program parts vertices both)) A B f h = tt
of_sample (Err fault) A B f h = tt
