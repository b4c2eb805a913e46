-- What the text of a schedule reads as: its events and the bytes behind them, or its first fault.
use Rattle.std.specs.Prelude.{ℕ, zero, suc, min, nat_lt, List, [], ◌∷◌, ◌++◌, length, Result, Ok, Err, ◌==◌, if◌then◌else◌}
use Rattle.edge_text.specs.Lines.{last_line, lines_of, rest_of}
use Rattle.flight_core.specs.ScheduleLine.{said_by}
use Rattle.flight_core.specs.declared.event.Event.{Event}
use Rattle.flight_core.specs.declared.said.Said.{Said}
use Rattle.flight_core.specs.declared.said.Said.TheVariants.{Nothing, Does, Edges, Unclear}
use Rattle.flight_core.specs.declared.schedule.ScheduleFault.{ScheduleFault}
use Rattle.flight_core.specs.declared.schedule.ScheduleFault.TheVariants.{Bad, Ended, TooManyEvents}

-- the number of a line as a fault tells it, which is 2^64 - 1 at most
abbrev pub told : ℕ → ℕ
told line = min line 18446744073709551615

-- events, and how many lines they took with the line that ends them
pub record Found : Type 0 where
  pub events : List Event
  pub lines : ℕ

-- A line behind so many lines and these events: the events with its own go to what comes behind, unless it ends them or has a fault.
abbrev pub line_then : Said → ℕ → List Event → (List Event → Result Found ScheduleFault) → Result Found ScheduleFault
line_then Nothing lines events others = others events
line_then (Does event) lines events others = if nat_lt (length events) 100000 then others (events ++ event ∷ []) else Err (TooManyEvents 100000)
line_then Edges lines events others = Ok (record { events = events; lines = suc lines })
line_then Unclear lines events others = Err (Bad (told (suc lines)))

-- what lines give behind so many lines and these events
abbrev pub read_lines : ℕ → List Event → List (List ℕ) → Result Found ScheduleFault
read_lines lines events [] = Err (Ended (told lines))
read_lines lines events (line ∷ others) = line_then (said_by line) lines events (λ made. read_lines (suc lines) made others)

-- the bytes behind so many lines
abbrev pub behind_lines : ℕ → List ℕ → List ℕ
behind_lines zero bytes = bytes
behind_lines (suc lines) [] = []
behind_lines (suc lines) (byte ∷ bytes) = if byte == 10 then behind_lines lines bytes else behind_lines (suc lines) bytes

-- a line is too long already
abbrev pub too_long : List ℕ → List (List ℕ)
too_long line = if nat_lt 128 (length line) then line ∷ [] else []

-- The lines that the first bytes of a text decide, whatever comes behind these: those that end in them, and one behind those that is too long already.
abbrev pub decided_lines : List ℕ → List (List ℕ)
decided_lines front = lines_of front ++ too_long (rest_of front)

-- events, and the bytes behind the line that ends them
pub record Schedule : Type 0 where
  pub events : List Event
  pub edges : List ℕ

abbrev pub schedule_with : List ℕ → Result Found ScheduleFault → Result Schedule ScheduleFault
schedule_with text (Err fault) = Err fault
schedule_with text (Ok found) = Ok (record { events = found.events; edges = behind_lines found.lines text })

-- The events of a text and the bytes behind them, or its first fault. A last line needs no line feed.
abbrev pub schedule : List ℕ → Result Schedule ScheduleFault
schedule text = schedule_with text (read_lines 0 [] (lines_of text ++ last_line (rest_of text)))
