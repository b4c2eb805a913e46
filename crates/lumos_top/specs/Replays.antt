-- What a schedule and the list behind it come to: the events are done in turn, and then the final values are shown.
use Rattle.std.specs.Prelude.{ℕ, suc, ◌+◌, Bool, List, [], ◌∷◌, ◌++◌, codes, flat_map, length, take, nat_lt, Option, Some, None, Result, Ok, Err, if◌then◌else◌}
use Rattle.std.specs.List.{range_with_len}
use Rattle.std.specs.Fmt.{decimal}
use Rattle.lumos_base.specs.declared.records.Edge.{Edge}
use Rattle.lumos_law.specs.Program.{Program}
use Rattle.lumos_law.specs.Sync.{values}
use Rattle.partition.specs.Parts.{chunk_size, first_vertex, part_length}
use Rattle.edge_text.specs.Reading.{Listed, reading}
use Rattle.edge_text.specs.declared.fault.TextFault.{TextFault}
use Rattle.edge_text.specs.declared.fault.TextFault.TheVariants.{InputTooLong}
use Rattle.edge_text.specs.declared.fault.TextLimits.{TextLimits}
use Rattle.flight_core.specs.Events.{State, after, is_final, refusal, start, step}
use Rattle.flight_core.specs.Schedule.{Schedule, decided_lines, read_lines, schedule, schedule_with}
use Rattle.flight_core.specs.declared.event.Event.{Event}
use Rattle.flight_core.specs.declared.event.Illegal.{Illegal}
use Rattle.flight_core.specs.declared.schedule.ScheduleFault.{ScheduleFault}
use Rattle.flight_core.specs.declared.schedule.ScheduleFault.TheVariants.{Bad, Ended, TooManyEvents, NoMemory}
use Rattle.grid_format.specs.Grid.{grid_head}
use Rattle.lumos_report.specs.Report.{head_line, value_line}
use Rattle.lumos_top.specs.declared.stream.StreamStop.{StreamStop}
use Rattle.lumos_top.specs.declared.stream.StreamStop.TheVariants as stop

-- how the list behind a schedule is read
abbrev pub replay_limits : Option ℕ → Bool → TextLimits
replay_limits vertices both = record { max_vertex = 4095; vertices = vertices; max_edges = 65536; max_bytes = 1099511627776; both = both }

-- why a schedule with a fault isn't read
abbrev pub schedule_stop : ScheduleFault → StreamStop
schedule_stop (Bad line) = stop.BadSchedule line
schedule_stop (Ended line) = stop.ScheduleEnded line
schedule_stop (TooManyEvents limit) = stop.TooManyEvents limit
schedule_stop NoMemory = stop.Memory

-- and at one that is cut after so many bytes: where it hasn't ended by then, it is too long
abbrev pub cut_stop : ℕ → ScheduleFault → StreamStop
cut_stop most (Bad line) = stop.BadSchedule line
cut_stop most (Ended line) = stop.Text (InputTooLong most)
cut_stop most (TooManyEvents limit) = stop.TooManyEvents limit
cut_stop most NoMemory = stop.Memory

abbrev pub or_stop : (ScheduleFault → StreamStop) → Result Schedule ScheduleFault → Result Schedule StreamStop
or_stop why (Ok schedule) = Ok schedule
or_stop why (Err fault) = Err (why fault)

-- The schedule of a text and the bytes behind it, where so many bytes are the most that a schedule has, or its first fault.
abbrev pub schedule_within : ℕ → List ℕ → Result Schedule StreamStop
schedule_within most text =
    if nat_lt most (length text)
    then or_stop (cut_stop most) (schedule_with text (read_lines 0 [] (decided_lines (take most text))))
    else or_stop schedule_stop (schedule text)

-- events and a list
pub record Streamed : Type 0 where
  pub events : List Event
  pub list : Listed

abbrev pub streamed_with : List Event → Result Listed TextFault → Result Streamed StreamStop
streamed_with events (Ok list) = Ok (record { events = events; list = list })
streamed_with events (Err fault) = Err (stop.Text fault)

abbrev pub streamed_behind : TextLimits → Result Schedule StreamStop → Result Streamed StreamStop
streamed_behind limits (Ok schedule) = streamed_with schedule.events (reading limits schedule.edges)
streamed_behind limits (Err why) = Err why

-- the events of a text and the list behind them, which is read within limits, or the first fault
abbrev pub streamed : TextLimits → ℕ → List ℕ → Result Streamed StreamStop
streamed limits most text = streamed_behind limits (schedule_within most text)

-- an event that is refused, by its number from 1, and why
pub record Refused : Type 0 where
  pub event : ℕ
  pub why : Illegal

-- of the event behind so many others, or the first one behind it
abbrev pub refused_by : ℕ → Option Illegal → Option Refused → Option Refused
refused_by count (Some why) later = Some (record { event = suc count; why = why })
refused_by count None later = later

-- the line of a chunk that is final
unfoldable pub final_line : ℕ → ℕ → List ℕ
final_line t j = codes "final " ++ decimal t ++ 32 ∷ decimal j ++ 10 ∷ []

-- the last line, with the number of events
unfoldable pub events_line : ℕ → List ℕ
events_line count = codes "events " ++ decimal count ++ 10 ∷ []

module _ {V S : Type 0} (p : Program V S) (edges : List Edge) (n c : ℕ) where
  -- the first event that is refused, in a state behind so many events, where 1024 is the greatest iteration
  abbrev pub first_refused : ℕ → ℕ → State V S → List Event → Option Refused
  first_refused parts count s [] = None
  first_refused parts count s (e ∷ es) = refused_by count (refusal p n c parts 1024 s e) (first_refused parts (suc count) (step p edges n c s e) es)

  -- a line for each vertex of chunk j, with its value after t iterations
  abbrev pub chunk_values : ℕ → ℕ → List ℕ
  chunk_values t j = flat_map (λ k. value_line (first_vertex n c j + k) (p.show (values p edges t (first_vertex n c j + k)))) (range_with_len 0 (part_length n c j))

  -- the lines of chunk j after t iterations: none where it isn't final in them
  abbrev pub chunk_lines : State V S → ℕ → ℕ → List ℕ
  chunk_lines s t j = if is_final s t j then final_line t j ++ chunk_values t j else []

  -- the lines of all chunks after t iterations, and of those below `shown`
  abbrev pub parts_lines : State V S → ℕ → ℕ → List ℕ
  parts_lines s parts t = flat_map (chunk_lines s t) (range_with_len 0 parts)

  abbrev pub final_lines : State V S → ℕ → ℕ → List ℕ
  final_lines s parts shown = flat_map (parts_lines s parts) (range_with_len 0 shown)

-- a text, unless an event is refused
abbrev pub unless_refused : Option Refused → List ℕ → Result (List ℕ) Refused
unless_refused (Some refused) text = Err refused
unless_refused None text = Ok text

module _ {V S : Type 0} (p : Program V S) (edges : List Edge) (n parts : ℕ) where
  -- the state before all events, and after them
  abbrev pub before_events : State V S
  before_events = start p edges n (chunk_size n parts) parts

  abbrev pub after_events : List Event → State V S
  after_events events = after p edges n (chunk_size n parts) before_events events

  -- The report of a replay: the head, the synchronous values of each chunk that is final after the events, in each of the
  -- iterations below `shown`, and the number of events.
  abbrev pub replay_report : List ℕ → ℕ → List Event → List ℕ
  replay_report name shown events =
      head_line name (grid_head edges n parts) ++ (final_lines p edges n (chunk_size n parts) (after_events events) parts shown ++ events_line (length events))

  -- the same, unless an event is refused: then the first that is
  abbrev pub replayed : List ℕ → ℕ → List Event → Result (List ℕ) Refused
  replayed name shown events = unless_refused (first_refused p edges n (chunk_size n parts) parts 0 before_events events) (replay_report name shown events)
