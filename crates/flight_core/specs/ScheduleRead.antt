-- What a reader of a schedule stands for.
use Rattle.std.specs.Prelude.{ℕ, suc, ◌≡◌, ◌≢◌, ◌<◌, ◌≤◌, ◌⊎◌, Bool, true, false, List, [], ◌∷◌, ◌++◌, length, Option, None, Ok, Err}
use Rattle.edge_text.specs.Lines.{lines_of, rest_of}
use Rattle.flight_core.specs.Schedule.{decided_lines, read_lines, schedule, told}
use Rattle.flight_core.specs.ScheduleLine.{said_by}
use Rattle.flight_core.specs.declared.event.Event.{Event}
use Rattle.flight_core.specs.declared.said.Said.TheVariants.{Does, Unclear}
use Rattle.flight_core.specs.declared.schedule.ScheduleFault.{ScheduleFault}
use Rattle.flight_core.specs.declared.schedule.ScheduleFault.TheVariants.{Bad, Ended, TooManyEvents, NoMemory}

-- a reader, as contracts see it
pub record ScheduleState : Type 0 where
  pub lines : ℕ
  pub events : List Event
  pub line : List ℕ
  pub complete : Bool
  pub fault : Option ScheduleFault

-- The reader has taken these bytes and found neither a fault nor the line `edges` in them: whatever lines follow, they are read behind its events.
pub record IsWithin (seen : List ℕ) (reader : ScheduleState) : Type 0 where
  pub lines : reader.lines ≡ told (length (lines_of seen))
  pub events : (others : List (List ℕ)) → read_lines 0 [] (lines_of seen ++ others) ≡ read_lines (length (lines_of seen)) reader.events others
  pub line : reader.line ≡ rest_of seen
  pub short : length (rest_of seen) ≤ 128

-- The line `edges` ends in these bytes, behind these events, and they are the schedule, whatever comes behind.
pub record IsEnded (seen : List ℕ) (events : List Event) : Type 0 where
  pub lines : ℕ
  pub decided : (others : List (List ℕ)) → read_lines 0 [] (lines_of seen ++ others) ≡ Ok (record { events = events; lines = lines })
  pub whole : (more : List ℕ) → schedule (seen ++ more) ≡ Ok (record { events = events; edges = more })

-- The reader has taken these bytes, and found no fault in them. Where it is complete, they end with the line `edges`.
pub record HasRead (seen : List ℕ) (reader : ScheduleState) : Type 0 where
  pub fault : reader.fault ≡ None
  pub within : reader.complete ≡ false → IsWithin seen reader
  pub complete : reader.complete ≡ true → IsEnded seen reader.events

-- A text has this fault, and its lines have it that its bytes decide, whatever comes behind. It isn't that the text ends.
pub record HasFault (text : List ℕ) (fault : ScheduleFault) : Type 0 where
  pub decided : read_lines 0 [] (decided_lines text) ≡ Err fault
  pub whole : schedule text ≡ Err fault
  pub going : (line : ℕ) → fault ≢ Ended line

-- a fault of each text that begins with these bytes, unless it is want of memory
abbrev pub IsFaultOf : List ℕ → ScheduleFault → Type 0
IsFaultOf seen fault = (fault ≡ NoMemory) ⊎ ((more : List ℕ) → HasFault (seen ++ more) fault)

-- a line says an event
abbrev pub IsEvent : List ℕ → Type 0
IsEvent line = (event : Event) × (said_by line ≡ Does event)

-- A line behind so many lines and these events stops the reader by this fault: the line is bad, or its event is one too
-- many, or it is want of memory for its event.
abbrev pub StopsAt : List ℕ → ℕ → List Event → ScheduleFault → Type 0
StopsAt line lines events (Bad number) = (said_by line ≡ Unclear) × (number ≡ told (suc lines))
StopsAt line lines events (TooManyEvents limit) = IsEvent line × (100000 ≤ length events) × (limit ≡ 100000)
StopsAt line lines events (Ended number) = ⊥
StopsAt line lines events NoMemory = IsEvent line × (length events < 100000)

-- The reader was stopped at a line of a text that didn't end in the bytes seen before: the lines in front of it have no fault and give these events.
pub record HasStopped (seen text : List ℕ) (events : List Event) (fault : ScheduleFault) : Type 0 where
  pub front : List (List ℕ)
  pub line : List ℕ
  pub behind : List (List ℕ)
  pub lines : decided_lines text ≡ front ++ line ∷ behind
  pub later : length (lines_of seen) ≤ length front
  pub good : (others : List (List ℕ)) → read_lines 0 [] (front ++ others) ≡ read_lines (length front) events others
  pub stops : StopsAt line (length front) events fault

-- the reader was stopped so in a text that begins with these bytes, whatever comes behind
abbrev pub StopsIn : List ℕ → List ℕ → List Event → ScheduleFault → Type 0
StopsIn seen bytes events fault = (more : List ℕ) → HasStopped seen (bytes ++ more) events fault
