-- The value lines of `paths` and `components` show what walks along the edges of the list give.
use Rattle.std.proofs.Common.{◌≡◌, ◌⊎◌, ◌≤◌, ◌<◌, ℕ, Bool, true, false, nat_lt, List, All as AllOf, Option, Some, None, Result, Ok, Err, IsOk, refl, sym, ap, subst, ◌∙◌, arith, inl, inr}
use Rattle.std.specs.Prelude.{if◌then◌else◌}
use Rattle.std.specs.List.{AllByRecursion}
use Rattle.std.proofs.lemmas.Bool.{ltb-false}
use Rattle.std.proofs.lemmas.List.Elements.{All-from_recursion, All-weaker}
use Rattle.lumos_base.specs.declared.records.Edge.{Edge}
use Rattle.lumos_base.specs.Records.{IsEdge}
use Rattle.lumos_depot.specs.Streams.{after_told}
use Rattle.lumos_depot.specs.declared.depot.FileKind.{FileKind}
use Rattle.lumos_law.specs.Program.{Program}
use Rattle.lumos_law.specs.Sync.{still_in, ending, values}
use Rattle.edge_text.specs.Reading.{Listed, reading}
use Rattle.edge_text.specs.declared.fault.TextFault.{TextFault}
use Rattle.edge_text.specs.declared.fault.TextLimits.{TextLimits}
use Rattle.edge_text.proofs.Fits.{StatesFew, reading_within}
use Rattle.flight_core.specs.Schedule.{Schedule}
use Rattle.flight_core.specs.declared.event.Event.{Event}
use Rattle.programs.specs.Components.{components_program}
use Rattle.programs.specs.Paths.{cost_text, known, paths_program}
use Rattle.programs.specs.Walks.{HasBothWays, IsLeastTo}
use Rattle.programs.proofs.ComponentsMeaning.{label_least, label_still, least_joined}
use Rattle.programs.proofs.PathsMeaning.{cost_best, cost_none, cost_still}
use Rattle.early_engine.specs.Report.{report}
use Rattle.early_engine.specs.declared.options.Mode.{Mode}
use Rattle.early_engine.specs.declared.options.Show.{Show}
use Rattle.early_engine.specs.declared.options.Show.TheVariants.{All, Brief}
use Rattle.lumos_top.specs.Answers.{Built, Did, Halted, answer, answer_to, built_head, did_replay, did_run, did_within, done_with, done_within, drawn, limits_of, limits_with, mode_of, need_in, ran_on, ran_parts, run_parts, unread, replay_text, replay_vertices, replay_with, replay_within, show_of, stated_parts, vertices_within}
use Rattle.lumos_top.specs.Ends.{Ends, EndsOn, IsExact, end_status}
use Rattle.lumos_top.specs.Meaning.{HasMeaning, Means, ReplayMeans, RunMeans, ShowsBeyond, ShowsStill, ShowsWalks, ShowsWithin, finals_with, report_with}
use Rattle.lumos_top.specs.Programs.{chosen}
use Rattle.lumos_top.specs.Replays.{Refused, Streamed, replay_limits, replay_report, schedule_within, streamed, streamed_behind, streamed_with, unless_refused}
use Rattle.lumos_top.specs.Sides.{IfTold, Sides, WhereTold}
use Rattle.lumos_top.specs.declared.status.Completed.{Completed}
use Rattle.lumos_top.specs.declared.status.Status.{Status}
use Rattle.lumos_top.specs.declared.status.Status.TheVariants as status
use Rattle.lumos_top.specs.declared.status.Refusal.TheVariants as refuse
use Rattle.lumos_top.specs.declared.status.Stop.{Stop}
use Rattle.lumos_top.specs.declared.status.Stop.TheVariants as stop
use Rattle.lumos_top.specs.declared.status.TooMany.{TooMany}
use Rattle.lumos_top.specs.declared.status.TooMany.TheVariants.{Parts, Vertices}
use Rattle.lumos_top.specs.declared.stream.StreamStop.{StreamStop}
use Rattle.lumos_top.proofs.BothWays.{both_read}
use Rattle.lumos_top.proofs.ListLemmas.{numbers_of}
use Rattle.lumos_top.proofs.Outcomes.{came_to}
use Rattle.lumos_top.proofs.SampleLemmas.{if_map}
use Rattle.lumos_words.specs.Requests.{request}
use Rattle.lumos_words.specs.declared.faults.UsageFault.{UsageFault}
use Rattle.lumos_words.specs.declared.request.BuildWords.{BuildWords}
use Rattle.lumos_words.specs.declared.request.IterWords.{IterWords}
use Rattle.lumos_words.specs.declared.request.ProgramWords.{ProgramWords}
use Rattle.lumos_words.specs.declared.request.ProgramWords.TheVariants.{PageRank, Spreading, Paths, Components, Tally}
use Rattle.lumos_words.specs.declared.request.Request.{Request}
use Rattle.lumos_words.specs.declared.request.Request.TheVariants as ask
use Rattle.lumos_words.proofs.RangeLemmas.{IsFew, request_few}

-- ---- the values of a list

-- a list lies within the limits of a command: its numbers are in range, and both ways of each edge stand in it if asked for
record IsSmall (list : Listed) (both : Bool) : Type 0 where
  numbers : AllOf IsEdge list.edges
  sources : AllOf (λ e. e.source.0 < list.vertices) list.edges
  few : list.vertices ≤ 268435456
  ways : both ≡ true → HasBothWays list.edges

-- what is shown of v after t iterations
abbrev shown_of : ProgramWords → Listed → ℕ → ℕ → List ℕ
shown_of program list t v = (chosen program).program.show (values (chosen program).program list.edges t v)

module _ (list : Listed) (both : Bool) (small : IsSmall list both) where
  shows_within : (program : ProgramWords) (t v : ℕ) → t ≤ 1000000 → v < list.vertices → ShowsWithin program list.edges t v (shown_of program list t v)
  shows_within (PageRank unit share) t v few below = tt
  shows_within (Spreading unit share seeds) t v few below = tt
  shows_within (Paths start) t v few below = (known (values (paths_program start) list.edges t v).cost, (refl, cost_best start list.edges small.numbers t v few))
  shows_within Components t v few below =
      let low = small.few in
      ((values components_program list.edges t v).label, (refl, label_least list.edges small.numbers t v (omega arith)))
  shows_within Tally t v few below = tt

  shows_beyond : (program : ProgramWords) (t v : ℕ) → v < list.vertices → ShowsBeyond program list.vertices (shown_of program list t v)
  shows_beyond (PageRank unit share) t v below = tt
  shows_beyond (Spreading unit share seeds) t v below = tt
  shows_beyond (Paths start) t v below = λ past. ap (λ (m : ℕ). cost_text (known m)) (cost_none start list.edges list.vertices small.sources past t v below)
  shows_beyond Components t v below = tt
  shows_beyond Tally t v below = tt

  shows_walks : (program : ProgramWords) (most : ℕ) → most ≤ 1000000 → ShowsWalks program list most (shown_of program list)
  shows_walks program most few = record {
    within = λ t v low below. shows_within program t v (omega arith) below;
    beyond = λ t v below. shows_beyond program t v below;
  }

  -- and where a run ends still
  shows_still : (program : ProgramWords) (limit t v : ℕ) → limit ≤ 1000000 → ending (chosen program).program list.edges list.vertices limit ≡ still_in t → v < list.vertices → ShowsStill program list.edges both v (shown_of program list t v)
  shows_still (PageRank unit share) limit t v few ends below = tt
  shows_still (Spreading unit share seeds) limit t v few ends below = tt
  shows_still (Paths start) limit t v few ends below =
      (known (values (paths_program start) list.edges t v).cost, (refl, cost_still start list.edges small.numbers list.vertices small.sources limit t v few ends))
  shows_still Components limit t v few ends below =
      let low = small.few in
      let label = (values components_program list.edges t v).label in
      let least : IsLeastTo list.edges v label = label_still list.edges small.numbers list.vertices small.sources limit t v ends (omega arith) in
      ((label, (refl, least)), λ asked. (label, (refl, least_joined list.edges (small.ways asked) v label least)))
  shows_still Tally limit t v few ends below = tt

-- ---- the list that was read

-- the limits that words lead to
record IsLimitOf (both : Bool) (limits : TextLimits) : Type 0 where
  low : limits.max_vertex ≤ 268435455
  few : StatesFew 268435456 limits.vertices
  ways : limits.both ≡ both

sources_below : (n : ℕ) (edges : List Edge) → AllByRecursion (λ e. (e.source.0 < n) × (e.target.0 < n)) edges → AllOf (λ e. e.source.0 < n) edges
sources_below n edges all = All-weaker (λ (e : Edge). (e.source.0 < n) × (e.target.0 < n)) (λ (e : Edge). e.source.0 < n) (λ e h. h.0) edges (All-from_recursion _ edges all)

small_of : (both : Bool) (limits : TextLimits) (text : List ℕ) (list : Listed) → IsLimitOf both limits → reading limits text ≡ Ok list → IsSmall list both
small_of both limits text list fits is =
    let within = reading_within limits text list is in
    let low = fits.low in record {
      numbers = All-from_recursion IsEdge list.edges (numbers_of limits list.edges fits.low within.within);
      sources = sources_below list.vertices list.edges within.ends;
      few = within.few_vertices 268435456 fits.few (omega arith);
      ways = λ asked. both_read limits text list (fits.ways ∙ asked) is;
    }

-- those of a run
run_stated : (words : BuildWords) (n : ℕ) (b : Bool) (limits : TextLimits) → nat_lt 268435456 n ≡ b → (if b then Err (Vertices n 268435456) else Ok (limits_with words (Some n))) ≡ Ok limits → IsLimitOf words.both limits
run_stated words n true limits test is = absurd (cc)
run_stated words n false limits test is =
    let same : limits_with words (Some n) ≡ limits = cc in
    subst (IsLimitOf words.both) same (record { low = omega arith; few = ltb-false 268435456 n test; ways = refl })

run_vertices : (words : BuildWords) (stated : Option ℕ) (limits : TextLimits) → vertices_within words stated ≡ Ok limits → IsLimitOf words.both limits
run_vertices words None limits is =
    let same : limits_with words None ≡ limits = cc in
    subst (IsLimitOf words.both) same (record { low = omega arith; few = tt; ways = refl })
run_vertices words (Some n) limits is = run_stated words n (nat_lt 268435456 n) limits refl is

run_few : (words : BuildWords) (b : Bool) (limits : TextLimits) → (if b then Err (Parts (stated_parts words) 256) else vertices_within words words.vertices) ≡ Ok limits → IsLimitOf words.both limits
run_few words true limits is = absurd (cc)
run_few words false limits is = run_vertices words words.vertices limits is

run_limits : (words : BuildWords) (limits : TextLimits) → limits_of words ≡ Ok limits → IsLimitOf words.both limits
run_limits words limits is = run_few words (nat_lt 256 (stated_parts words)) limits is

-- and of a replay
replay_stated : (n : ℕ) (both b : Bool) (limits : TextLimits) → nat_lt 4096 n ≡ b → (if b then Err (Vertices n 4096) else Ok (replay_limits (Some n) both)) ≡ Ok limits → IsLimitOf both limits
replay_stated n both true limits test is = absurd (cc)
replay_stated n both false limits test is =
    let same : replay_limits (Some n) both ≡ limits = cc in
    let low = ltb-false 4096 n test in
    subst (IsLimitOf both) same (record { low = omega arith; few = omega arith; ways = refl })

replay_few : (vertices : Option ℕ) (both : Bool) (limits : TextLimits) → replay_vertices vertices both ≡ Ok limits → IsLimitOf both limits
replay_few None both limits is =
    let same : replay_limits None both ≡ limits = cc in
    subst (IsLimitOf both) same (record { low = omega arith; few = tt; ways = refl })
replay_few (Some n) both limits is = replay_stated n both (nat_lt 4096 n) limits refl is

replay_parts : (parts : ℕ) (vertices : Option ℕ) (both b : Bool) (limits : TextLimits) → (if b then Err (Parts parts 64) else replay_vertices vertices both) ≡ Ok limits → IsLimitOf both limits
replay_parts parts vertices both true limits is = absurd (cc)
replay_parts parts vertices both false limits is = replay_few vertices both limits is

replay_limited : (parts : ℕ) (vertices : Option ℕ) (both : Bool) (limits : TextLimits) → replay_within parts vertices both ≡ Ok limits → IsLimitOf both limits
replay_limited parts vertices both limits is = replay_parts parts vertices both (nat_lt 64 parts) limits is

-- ---- the reports

-- a report is the one whose value lines show the values
report_is : {V S : Type 0} (p : Program V S) (name : List ℕ) (show : Show) (mode : Mode) (edges : List Edge) (n parts limit : ℕ)
    → report p name show mode edges n parts limit ≡ report_with p (λ t v. p.show (values p edges t v)) name show mode edges n parts limit
report_is p name All mode edges n parts limit = refl
report_is p name Brief mode edges n parts limit = refl

finals_are : {V S : Type 0} (p : Program V S) (name : List ℕ) (edges : List Edge) (n parts : ℕ) (events : List Event)
    → replay_report p edges n parts name 1025 events ≡ finals_with p (λ t v. p.show (values p edges t v)) name edges n parts events
finals_are p name edges n parts events = refl

-- ---- what a command writes

-- what was done is what the answer says
abbrev DidSo : Sides → Completed → Result Did Halted → Type 0
DidSo sides completed (Ok did) = IfTold did.run sides.was (IsExact did sides completed)
DidSo sides completed (Err halt) = ⊥

-- a run that wasn't refused
ran_so : (sides : Sides) (completed : Completed) (b : Bool) (small : Halted) (did : Did) → DidSo sides completed (if b then Err small else Ok did) → IfTold did.run sides.was (IsExact did sides completed)
ran_so sides completed true small did so = absurd so
ran_so sides completed false small did so = so

module _ (sides : Sides) (completed : Completed) (input : List ℕ) where
  module _ (program : ProgramWords) (grid : BuildWords) (iterate : IterWords) (few : iterate.iterations ≤ 1000000) where
    run_fitted : (limits : TextLimits) (list : Listed) (fitted : Option ℕ) → limits_of grid ≡ Ok limits → reading limits input ≡ Ok list → run_parts program grid iterate list.vertices ≡ fitted → DidSo sides completed (ran_parts program iterate list fitted) → WhereTold sides.was (RunMeans program grid iterate input sides)
    run_fitted limits list (Some parts) within reads fits so = λ told.
        let small = small_of grid.both limits input list (run_limits grid limits within) reads in
        let c = chosen program in
        let own : Built = record { list = list; parts = parts } in
        let need = need_in program (built_head own) in
        let small_budget : Halted = record { why = stop.Refused (refuse.BudgetTooSmall need iterate.budget); built = Some own } in record {
          limits = limits;
          within = within;
          list = list;
          reads = reads;
          parts = parts;
          fitted = fits;
          shown = shown_of program list;
          written = (ran_so sides completed (nat_lt iterate.budget need) small_budget (did_run program iterate own) so told).written ∙ ap (after_told sides.old_out) (report_is c.program c.name (show_of iterate) (mode_of iterate) list.edges list.vertices parts iterate.iterations);
          walks = shows_walks list grid.both small program iterate.iterations few;
          still = λ t v ends below. shows_still list grid.both small program iterate.iterations t v few ends below;
        }
    run_fitted limits list None within reads fits so = absurd so

    run_listed : (limits : TextLimits) (l : Result Listed TextFault) → limits_of grid ≡ Ok limits → reading limits input ≡ l → DidSo sides completed (done_with (ran_on program grid iterate) l) → WhereTold sides.was (RunMeans program grid iterate input sides)
    run_listed limits (Ok list) within reads so = run_fitted limits list (run_parts program grid iterate list.vertices) within reads refl so
    run_listed limits (Err fault) within reads so = absurd so

    run_means : (r : Result TextLimits TooMany) → limits_of grid ≡ r → DidSo sides completed (done_within (ran_on program grid iterate) r input) → WhereTold sides.was (RunMeans program grid iterate input sides)
    run_means (Ok limits) within so = run_listed limits (reading limits input) within refl so
    run_means (Err many) within so = absurd so

  module _ (program : ProgramWords) (parts : ℕ) (vertices : Option ℕ) (both : Bool) where
    text_is : (o : Option Refused) (report text : List ℕ) → unless_refused o report ≡ Ok text → text ≡ report
    text_is (Some refused) report text is = absurd (cc)
    text_is None report text is = cc

    listed_small : (limits : TextLimits) (schedule : Schedule) (l : Result Listed TextFault) (stream : Streamed) → IsLimitOf both limits → reading limits schedule.edges ≡ l → streamed_with schedule.events l ≡ Ok stream → IsSmall stream.list both
    listed_small limits schedule (Ok list) stream fits reads is =
        let same : list ≡ stream.list = cc in
        subst (λ (l : Listed). IsSmall l both) same (small_of both limits schedule.edges list fits reads)
    listed_small limits schedule (Err fault) stream fits reads is = absurd (cc)

    stream_small : (limits : TextLimits) (r : Result Schedule StreamStop) (stream : Streamed) → IsLimitOf both limits → streamed_behind limits r ≡ Ok stream → IsSmall stream.list both
    stream_small limits (Ok schedule) stream fits is = listed_small limits schedule (reading limits schedule.edges) stream fits refl is
    stream_small limits (Err why) stream fits is = absurd (cc)

    replay_shown : (limits : TextLimits) (stream : Streamed) (r : Result (List ℕ) Refused) → replay_within parts vertices both ≡ Ok limits → streamed limits 1099511627776 input ≡ Ok stream → replay_text program parts stream ≡ r → DidSo sides completed (did_replay r) → ReplayMeans program parts vertices both input sides
    replay_shown limits stream (Ok text) within reads is so =
        let small = stream_small limits (schedule_within 1099511627776 input) stream (replay_limited parts vertices both limits within) reads in
        let c = chosen program in record {
          limits = limits;
          within = within;
          stream = stream;
          reads = reads;
          shown = shown_of program stream.list;
          written = so.written ∙ ap (after_told sides.old_out) (text_is _ _ text is ∙ finals_are c.program c.name stream.list.edges stream.list.vertices parts stream.events);
          walks = shows_walks stream.list both small program 1024 (omega arith);
        }
    replay_shown limits stream (Err refused) within reads is so = absurd so

    replay_streamed : (limits : TextLimits) (r : Result Streamed StreamStop) → replay_within parts vertices both ≡ Ok limits → streamed limits 1099511627776 input ≡ r → DidSo sides completed (replay_with program parts r) → ReplayMeans program parts vertices both input sides
    replay_streamed limits (Ok stream) within reads so = replay_shown limits stream (replay_text program parts stream) within reads refl so
    replay_streamed limits (Err why) within reads so = absurd so

    replay_means : (r : Result TextLimits TooMany) → replay_within parts vertices both ≡ r → DidSo sides completed (did_within program parts r input) → ReplayMeans program parts vertices both input sides
    replay_means (Ok limits) within so = replay_streamed limits (streamed limits 1099511627776 input) within refl so
    replay_means (Err many) within so = absurd so

-- what was done with a list that is drawn, but for the input
did_unread : (sides : Sides) (completed : Completed) (r : Result Did Halted) → DidSo sides completed (unread r) → DidSo sides completed r
did_unread sides completed (Ok did) so = if_map did.run sides.was _ (IsExact did sides completed) (λ so. record { status = so.status; line = so.line; written = so.written }) so
did_unread sides completed (Err halt) so = so

means_asked : (sides : Sides) (completed : Completed) (input : List ℕ) (asked : Result Request UsageFault) (files : FileKind → List ℕ) → ((r : Request) → asked ≡ Ok r → IsFew r) → DidSo sides completed (answer_to asked input files) → Means asked input sides
means_asked sides completed input (Ok (ask.Run program grid iterate)) files few so = run_means sides completed input program grid iterate (few (ask.Run program grid iterate) refl) (limits_of grid) refl so
means_asked sides completed input (Ok (ask.Build grid)) files few so = tt
means_asked sides completed input (Ok (ask.Replay program parts vertices both)) files few so = replay_means sides completed input program parts vertices both (replay_within parts vertices both) refl so
means_asked sides completed input (Ok (ask.Sample program grid iterate seed edges)) files few so =
    run_means sides completed (drawn grid seed edges) program grid iterate (few (ask.Sample program grid iterate seed edges) refl) (limits_of grid) refl
    (did_unread sides completed (done_within (ran_on program grid iterate) (limits_of grid) (drawn grid seed edges)) so)
means_asked sides completed input (Err fault) files few so = tt

means_ended : (words : List (List ℕ)) (sides : Sides) (r : Result Completed Stop) (input : List ℕ) (files : FileKind → List ℕ) → IsOk r → Ends (answer words input files) sides r → Means (request words) input sides
means_ended words sides (Ok completed) input files ok h =
    means_asked sides completed input (request words) files (request_few words) (subst (DidSo sides completed) (sym h.gives) h.exact)
means_ended words sides (Err why) input files ok h = absurd (cc)

ended_well : (r : Result Completed Stop) (s : Status) → end_status r ≡ s → (s ≡ status.Done) ⊎ (s ≡ status.Range) → IsOk r
ended_well r s is (inl done) = (came_to r s status.Done is done).0
ended_well r s is (inr over) = came_to r s status.Range is over

-- the value lines of a command that came to its end show what walks give
pub has_meaning : (words : List (List ℕ)) (r : Result Completed Stop) (s : Status) (sides : Sides) → end_status r ≡ s → EndsOn (answer words) sides r → HasMeaning words s sides
has_meaning words r s sides is h = record {
  input = h.input;
  entry = h.entry.left;
  means = λ well. means_ended words sides r h.input h.files (ended_well r s is well) h.ends;
}
