-- How a replay ends over the outside.
use Rattle.std.proofs.Common.{sym, inl, true, arith, ◌≡◌, ℕ, List, [], ◌++◌, length, Option, None, Result, Ok, Err, refl, ap, subst, ◌∙◌}
use Rattle.flight_core.specs.Replayed.{Replayed, begun}
use Rattle.flight_core.specs.declared.event.Event.{Event}
use Rattle.lumos_base.specs.declared.records.Edge.{Edge}
use Rattle.lumos_depot.specs.Streams.{Writes}
use Rattle.lumos_depot.specs.declared.depot.FileKind.{FileKind}
use Rattle.lumos_depot.specs.declared.depot.FileKind.TheVariants.{Primary, Secondary, Values, Sums}
use Rattle.lumos_depot.specs.declared.stream.Failed.{Failed}
use Rattle.lumos_law.specs.Program.{Program}
use Rattle.partition.specs.Parts.{Cut, chunk_of}
use Rattle.lumos_depot.specs.Steps.{RoseBy}
use Rattle.lumos_top.specs.Answers.{did_replay, did_within, halted, replay_text, replay_with, taken_blocks}
use Rattle.lumos_top.specs.Ends.{Ends, EndsOn}
use Rattle.lumos_top.specs.Replaying.{EventsEnd, Shows, done_all, event_stop, refused_in, replay_stop}
use Rattle.lumos_top.specs.Replays.{Refused, Streamed, final_lines, events_line, replay_report, replayed, streamed, unless_refused}
use Rattle.lumos_report.specs.Report.{head_line}
use Rattle.lumos_top.specs.Sides.{IsMoved, Sides}
use Rattle.lumos_top.specs.Stops.{stream_stop}
use Rattle.lumos_top.specs.Streaming.{HasStreamed, StopsBy, streamed_of}
use Rattle.lumos_top.specs.declared.replaying.EventStop.{EventStop}
use Rattle.lumos_top.specs.declared.replaying.EventStop.TheVariants as event
use Rattle.lumos_top.specs.declared.replaying.ReplayStop.{ReplayStop}
use Rattle.lumos_top.specs.declared.replaying.ReplayStop.TheVariants as replay
use Rattle.lumos_top.specs.declared.status.Completed.TheVariants.{Replay}
use Rattle.lumos_top.specs.declared.status.Refusal.TheVariants as refuse
use Rattle.lumos_top.specs.declared.status.Status.TheVariants as status
use Rattle.lumos_top.specs.declared.status.Outside.TheVariants as outside
use Rattle.lumos_top.specs.declared.status.Stop.TheVariants as stop
use Rattle.lumos_top.specs.declared.status.TooMany.{TooMany}
use Rattle.lumos_words.specs.declared.faults.UsageFault.{UsageFault}
use Rattle.lumos_words.specs.declared.request.ProgramWords.{ProgramWords}
use Rattle.edge_text.specs.declared.fault.TextLimits.{TextLimits}
use Rattle.lumos_top.specs.declared.stream.Stream.{Stream}
use Rattle.lumos_top.specs.declared.stream.StreamStop.{StreamStop}
use Rattle.lumos_top.specs.declared.stream.StreamStop.TheVariants as stream
use Rattle.lumos_top.proofs.RunLemmas.{contents, entry_of, same_grid}

-- what is left where the events were stopped
pub stopped : {G V S : Type 0} (p : Program V S) (name : List ℕ) (shown : ℕ) (program : G) (edges : List Edge) (cut : Cut) (events : List Event) (new : Replayed G V S) (why : EventStop) (out : Option (List ℕ)) →
    EventsEnd p (begun p program edges cut) events new (Err why) → Shows (replayed p edges cut.vertices cut.parts name shown events) out out (Err (event_stop why))
stopped p name shown program edges cut events new event.Memory out h = refl
stopped p name shown program edges cut events new (event.Illegal number why) out h =
    (ap (λ refused. unless_refused refused (replay_report p edges cut.vertices cut.parts name shown events)) h, refl)

-- what is left where all events were done, and the report was written or cut
pub shown_by : {G V S : Type 0} (p : Program V S) (name : List ℕ) (shown : ℕ) (program : G) (edges : List Edge) (cut : Cut) (events : List Event) (old new : Option (List ℕ)) →
    refused_in p (begun p program edges cut) events ≡ None → Writes {E = Failed} old new (Ok tt) (replay_report p edges cut.vertices cut.parts name shown events) → Shows (replayed p edges cut.vertices cut.parts name shown events) old new (Ok tt)
shown_by p name shown program edges cut events old new none wrote = record {
  text = replay_report p edges cut.vertices cut.parts name shown events;
  gives = ap (λ refused. unless_refused refused (replay_report p edges cut.vertices cut.parts name shown events)) none;
  written = wrote.whole;
}

pub cut_by : {G V S : Type 0} (p : Program V S) (name : List ℕ) (shown : ℕ) (program : G) (edges : List Edge) (cut : Cut) (events : List Event) (old new : Option (List ℕ)) (failed : Failed) →
    refused_in p (begun p program edges cut) events ≡ None → Writes old new (Err failed) (replay_report p edges cut.vertices cut.parts name shown events) → Shows (replayed p edges cut.vertices cut.parts name shown events) old new (Err replay.Write)
cut_by p name shown program edges cut events old new failed none wrote = record {
  text = replay_report p edges cut.vertices cut.parts name shown events;
  gives = ap (λ refused. unless_refused refused (replay_report p edges cut.vertices cut.parts name shown events)) none;
  front = wrote.front;
}

-- the answer of a replay whose numbers are small enough, and of another
within_as : (program : ProgramWords) (parts : ℕ) (r : Result TextLimits TooMany) (limits : TextLimits) (input : List ℕ) → r ≡ Ok limits → did_within program parts r input ≡ replay_with program parts (streamed limits 1099511627776 input)
within_as program parts r limits input is = ap (λ l. did_within program parts l input) is

pub within_many : (program : ProgramWords) (parts : ℕ) (r : Result TextLimits TooMany) (many : TooMany) (input : List ℕ) → r ≡ Err many → did_within program parts r input ≡ Err (halted (refuse.TooMany many))
within_many program parts r many input is = ap (λ l. did_within program parts l input) is

-- the outside of a command that leaves the depot as it is
abbrev pub still_sides : Option (List ℕ) → Option (List ℕ) → (FileKind → Option (List ℕ)) → (FileKind → ℕ) → (FileKind → ℕ) → Option (List ℕ) → Option (List ℕ) → Sides
still_sides left_old left_new files taken stored old_out new_out = record {
  left_old = left_old;
  left_new = left_new;
  was = files;
  is = files;
  taken_was = taken;
  taken_is = taken;
  stored_was = stored;
  stored_is = stored;
  old_out = old_out;
  new_out = new_out;
}

stays : (n : ℕ) → RoseBy n n 0
stays n below = omega arith

module _ (r : Result TextLimits TooMany) (limits : TextLimits) (within : r ≡ Ok limits) (left_old left_new : Option (List ℕ)) (files : FileKind → Option (List ℕ)) (taken stored : FileKind → ℕ) where
  still_moved : (old new : Option (List ℕ)) → IsMoved None (taken_blocks 0 0) (still_sides left_old left_new files taken stored old new)
  still_moved old new = record {
    primary = λ told. stays (taken Primary);
    secondary = stays (taken Secondary);
    values_taken = stays (taken Values);
    values_stored = stays (stored Values);
    sums_taken = stays (taken Sums);
    sums_stored = stays (stored Sums);
  }

  -- an input that stops it
  stream_ends : (program : ProgramWords) (parts : ℕ) (bytes : List ℕ) (out : Option (List ℕ)) (why : StreamStop) → StopsBy (streamed limits 1099511627776 bytes) why →
      Ends (did_within program parts r bytes) (still_sides left_old left_new files taken stored out out) (Err (stream_stop why))
  stream_ends program parts bytes out stream.Memory h = record { same = refl; files = inl refl }
  stream_ends program parts bytes out stream.Read h = record { same = refl; files = same_grid files }
  stream_ends program parts bytes out (stream.Text fault) h = record { built = None; gives = within_as program parts r limits bytes within ∙ ap (replay_with program parts) h; same = refl; files = same_grid files }
  stream_ends program parts bytes out (stream.BadSchedule line) h = record { built = None; gives = within_as program parts r limits bytes within ∙ ap (replay_with program parts) h; same = refl; files = same_grid files }
  stream_ends program parts bytes out (stream.ScheduleEnded line) h = record { built = None; gives = within_as program parts r limits bytes within ∙ ap (replay_with program parts) h; same = refl; files = same_grid files }
  stream_ends program parts bytes out (stream.TooManyEvents limit) h = record { built = None; gives = within_as program parts r limits bytes within ∙ ap (replay_with program parts) h; same = refl; files = same_grid files }

  pub stream_stopped : (program : ProgramWords) (parts : ℕ) (out : Option (List ℕ)) (why : StreamStop) → HasStreamed limits left_old left_new (Err why) →
      EndsOn (λ input files. did_within program parts r input) (still_sides left_old left_new files taken stored out out) (Err (stream_stop why))
  stream_stopped program parts out why h = record {
    input = h.bytes;
    files = contents files;
    entry = entry_of h.bytes (still_sides left_old left_new files taken stored out out) h.told;
    ends = stream_ends program parts h.bytes out why h.reads;
  }

  -- events and a list that were read, and what is shown of them
  pub replay_done : (program : ProgramWords) (parts : ℕ) (stream : Stream) (old new : Option (List ℕ)) → HasStreamed limits left_old left_new (Ok stream) → Shows (replay_text program parts (streamed_of stream)) old new (Ok tt) →
      EndsOn (λ input files. did_within program parts r input) (still_sides left_old left_new files taken stored old new) (Ok Replay)
  replay_done program parts stream old new h shows = record {
    input = h.bytes;
    files = contents files;
    entry = entry_of h.bytes (still_sides left_old left_new files taken stored old new) h.told;
    ends = record {
      did = record { text = shows.text; status = status.Done; line = []; reads = true; built = None; run = None; moved = taken_blocks 0 0 };
      gives = within_as program parts r limits h.bytes within ∙ ap (replay_with program parts) h.reads.0 ∙ ap did_replay shows.gives;
      kind = refl;
      input = h.reads.1;
      shown = tt;
      exact = record { status = refl; line = refl; written = shows.written };
      files = same_grid files;
      moved = λ done. still_moved old new;
    };
  }

  failed_ends : (program : ProgramWords) (parts : ℕ) (bytes : List ℕ) (s : Streamed) (old new : Option (List ℕ)) (why : ReplayStop) → streamed limits 1099511627776 bytes ≡ Ok s → Shows (replay_text program parts s) old new (Err why) →
      Ends (did_within program parts r bytes) (still_sides left_old left_new files taken stored old new) (Err (replay_stop why))
  failed_ends program parts bytes s old new replay.Memory is h = record { same = h; files = inl refl }
  failed_ends program parts bytes s old new replay.Write is h = record {
    did = record { text = h.text; status = status.Done; line = []; reads = true; built = None; run = None; moved = taken_blocks 0 0 };
    gives = within_as program parts r limits bytes within ∙ ap (replay_with program parts) is ∙ ap did_replay h.gives;
    front = h.front;
    files = same_grid files;
  }
  failed_ends program parts bytes s old new (replay.Illegal number why) is h =
      record { built = None; gives = within_as program parts r limits bytes within ∙ ap (replay_with program parts) is ∙ ap did_replay h.0; same = h.1; files = same_grid files }

  pub replay_failed : (program : ProgramWords) (parts : ℕ) (stream : Stream) (old new : Option (List ℕ)) (why : ReplayStop) → HasStreamed limits left_old left_new (Ok stream) → Shows (replay_text program parts (streamed_of stream)) old new (Err why) →
      EndsOn (λ input files. did_within program parts r input) (still_sides left_old left_new files taken stored old new) (Err (replay_stop why))
  replay_failed program parts stream old new why h shows = record {
    input = h.bytes;
    files = contents files;
    entry = entry_of h.bytes (still_sides left_old left_new files taken stored old new) h.told;
    ends = failed_ends program parts h.bytes (streamed_of stream) old new why h.reads.0 shows;
  }

-- the same replay by other names of its list, its parts and its events
replay_same : {V S : Type 0} (Q : Result (List ℕ) Refused → Type 0) (p : Program V S) (name : List ℕ) (shown n parts : ℕ) (edges items : List Edge) (cut : Cut) (evs events : List Event) →
    edges ≡ items → cut ≡ record { vertices = n; parts = parts } → evs ≡ events → Q (replayed p edges cut.vertices cut.parts name shown evs) → Q (replayed p items n parts name shown events)
replay_same Q p name shown n parts edges items cut evs events edges_is cut_is events_is h =
    subst (λ e. Q (replayed p items n parts name shown e)) events_is
    (subst (λ (k : Cut). Q (replayed p items k.vertices k.parts name shown evs)) cut_is
    (subst (λ es. Q (replayed p es cut.vertices cut.parts name shown evs)) edges_is h))

pub program_stopped : {G V S : Type 0} (model : G → Program V S) (own : Program V S) (name : List ℕ) (shown n parts : ℕ) (program : G) (edges items : List Edge) (cut : Cut) (evs events : List Event) (old new : Replayed G V S) (why : EventStop) (out : Option (List ℕ)) →
    model program ≡ own → edges ≡ items → cut ≡ record { vertices = n; parts = parts } → evs ≡ events → old ≡ begun (model program) program edges cut → EventsEnd (model old.program) old evs new (Err why) →
    Shows (replayed own items n parts name shown events) out out (Err (event_stop why))
program_stopped model own name shown n parts program edges items cut evs events old new why out same edges_is cut_is events_is made h =
    subst (λ q. Shows (replayed q items n parts name shown events) out out (Err (event_stop why))) same
    (replay_same (λ answer. Shows answer out out (Err (event_stop why))) (model program) name shown n parts edges items cut evs events edges_is cut_is events_is
    (stopped (model program) name shown program edges cut evs new why out (subst (λ (o : Replayed _ _ _). EventsEnd (model o.program) o evs new (Err why)) made h)))

-- the report that is written of the state after the events
abbrev report_of : {G V S : Type 0} (p : Program V S) (name : List ℕ) (shown : ℕ) (cut : Cut) (now : Replayed G V S) (edge_count event_count : ℕ) → List ℕ
report_of p name shown cut now edge_count event_count =
    head_line name (record { version = 1; parts = cut.parts; vertices = cut.vertices; edges = edge_count }) ++ (final_lines p now.edges cut.vertices (chunk_of cut) now.state cut.parts shown ++ events_line event_count)

reports_same : {G V S : Type 0} (p : Program V S) (name : List ℕ) (shown : ℕ) (program : G) (edges : List Edge) (cut : Cut) (evs : List Event) (now : Replayed G V S) (edge_count event_count : ℕ) →
    now ≡ done_all p (begun p program edges cut) evs → edge_count ≡ length edges → event_count ≡ length evs → report_of p name shown cut now edge_count event_count ≡ replay_report p edges cut.vertices cut.parts name shown evs
reports_same p name shown program edges cut evs now edge_count event_count done count events =
    ap (λ r. report_of p name shown cut r edge_count event_count) done
    ∙ ap (λ (k : ℕ). report_of p name shown cut (done_all p (begun p program edges cut) evs) k event_count) count
    ∙ ap (λ (k : ℕ). report_of p name shown cut (done_all p (begun p program edges cut) evs) (length edges) k) events

pub program_shown : {G V S : Type 0} (model : G → Program V S) (own : Program V S) (name : List ℕ) (shown n parts : ℕ) (program : G) (edges items : List Edge) (cut : Cut) (evs events : List Event) (begins now : Replayed G V S) (edge_count event_count : ℕ) (old new : Option (List ℕ)) →
    model program ≡ own → edges ≡ items → cut ≡ record { vertices = n; parts = parts } → evs ≡ events → begins ≡ begun (model program) program edges cut → edge_count ≡ length edges → event_count ≡ length evs →
    EventsEnd (model begins.program) begins evs now (Ok tt) →
    Writes {E = Failed} old new (Ok tt) (head_line name (record { version = 1; parts = cut.parts; vertices = cut.vertices; edges = edge_count }) ++ (final_lines own now.edges cut.vertices (chunk_of cut) now.state cut.parts shown ++ events_line event_count)) →
    Shows (replayed own items n parts name shown events) old new (Ok tt)
program_shown model own name shown n parts program edges items cut evs events begins now edge_count event_count old new same edges_is cut_is events_is made edge_is event_is h wrote =
    let p = model program in
    let ends = subst (λ (o : Replayed _ _ _). EventsEnd (model o.program) o evs now (Ok tt)) made h in
    let report = reports_same p name shown program edges cut evs now edge_count event_count ends.1 edge_is event_is in
    subst (λ q. Shows (replayed q items n parts name shown events) old new (Ok tt)) same
    (replay_same (λ answer. Shows answer old new (Ok tt)) p name shown n parts edges items cut evs events edges_is cut_is events_is
    (shown_by p name shown program edges cut evs old new ends.0 (subst (Writes old new (Ok tt)) report (subst (λ q. Writes {E = Failed} old new (Ok tt) (report_of q name shown cut now edge_count event_count)) (sym same) wrote))))

pub program_cut : {G V S : Type 0} (model : G → Program V S) (own : Program V S) (name : List ℕ) (shown n parts : ℕ) (program : G) (edges items : List Edge) (cut : Cut) (evs events : List Event) (begins now : Replayed G V S) (edge_count event_count : ℕ) (old new : Option (List ℕ)) (failed : Failed) →
    model program ≡ own → edges ≡ items → cut ≡ record { vertices = n; parts = parts } → evs ≡ events → begins ≡ begun (model program) program edges cut → edge_count ≡ length edges → event_count ≡ length evs →
    EventsEnd (model begins.program) begins evs now (Ok tt) →
    Writes old new (Err failed) (head_line name (record { version = 1; parts = cut.parts; vertices = cut.vertices; edges = edge_count }) ++ (final_lines own now.edges cut.vertices (chunk_of cut) now.state cut.parts shown ++ events_line event_count)) →
    Shows (replayed own items n parts name shown events) old new (Err replay.Write)
program_cut model own name shown n parts program edges items cut evs events begins now edge_count event_count old new failed same edges_is cut_is events_is made edge_is event_is h wrote =
    let p = model program in
    let ends = subst (λ (o : Replayed _ _ _). EventsEnd (model o.program) o evs now (Ok tt)) made h in
    let report = reports_same p name shown program edges cut evs now edge_count event_count ends.1 edge_is event_is in
    subst (λ q. Shows (replayed q items n parts name shown events) old new (Err replay.Write)) same
    (replay_same (λ answer. Shows answer old new (Err replay.Write)) p name shown n parts edges items cut evs events edges_is cut_is events_is
    (cut_by p name shown program edges cut evs old new failed ends.0 (subst (Writes old new (Err failed)) report (subst (λ q. Writes old new (Err failed) (report_of q name shown cut now edge_count event_count)) (sym same) wrote))))

-- what a stop isn't
pub stream_known : (why : StreamStop) (fault : UsageFault) → stream_stop why ≡ stop.Refused (refuse.Usage fault) → ⊥
stream_known stream.Memory fault is = cc
stream_known stream.Read fault is = cc
stream_known (stream.Text text) fault is = cc
stream_known (stream.BadSchedule line) fault is = cc
stream_known (stream.ScheduleEnded line) fault is = cc
stream_known (stream.TooManyEvents limit) fault is = cc

pub replay_known : (why : ReplayStop) (fault : UsageFault) → replay_stop why ≡ stop.Refused (refuse.Usage fault) → ⊥
replay_known replay.Memory fault is = cc
replay_known replay.Write fault is = cc
replay_known (replay.Illegal number illegal) fault is = cc

pub replay_read : (why : ReplayStop) → replay_stop why ≡ stop.Outside outside.Read → ⊥
replay_read replay.Memory is = cc
replay_read replay.Write is = cc
replay_read (replay.Illegal number illegal) is = cc

pub replay_depot : (why : ReplayStop) → replay_stop why ≡ stop.Outside outside.Depot → ⊥
replay_depot replay.Memory is = cc
replay_depot replay.Write is = cc
replay_depot (replay.Illegal number illegal) is = cc

pub replay_write : (why : ReplayStop) → replay_stop why ≡ stop.Outside outside.Write → why ≡ replay.Write
replay_write replay.Memory is = absurd (cc)
replay_write replay.Write is = refl
replay_write (replay.Illegal number illegal) is = absurd (cc)
