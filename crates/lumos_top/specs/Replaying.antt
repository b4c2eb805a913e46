-- How the events of a replay are done, and how it ends.
use Rattle.std.specs.Prelude.{◌≡◌, ℕ, List, Option, Some, None, Result, Ok, Err}
use Rattle.flight_core.specs.Events.{State, after}
use Rattle.flight_core.specs.Replayed.{Replayed}
use Rattle.flight_core.specs.declared.event.Event.{Event}
use Rattle.lumos_depot.specs.Streams.{AppendsFront, after_told}
use Rattle.lumos_law.specs.Program.{Program}
use Rattle.partition.specs.Parts.{chunk_of}
use Rattle.lumos_top.specs.Replays.{Refused, first_refused}
use Rattle.lumos_top.specs.declared.replaying.EventStop.{EventStop}
use Rattle.lumos_top.specs.declared.replaying.EventStop.TheVariants as events
use Rattle.lumos_top.specs.declared.replaying.ReplayStop.{ReplayStop}
use Rattle.lumos_top.specs.declared.replaying.ReplayStop.TheVariants as replay
use Rattle.lumos_top.specs.declared.status.Outside.TheVariants as outside
use Rattle.lumos_top.specs.declared.status.Refusal.TheVariants as refuse
use Rattle.lumos_top.specs.declared.status.Stop.{Stop}
use Rattle.lumos_top.specs.declared.status.Stop.TheVariants as stop

-- the same program, edges and parts in another state
abbrev pub at_state : {G V S : Type 0} → Replayed G V S → State V S → Replayed G V S
at_state r state = record { program = r.program; edges = r.edges; cut = r.cut; state = state }

module _ {G V S : Type 0} (p : Program V S) where
  -- the first event that is refused
  abbrev pub refused_in : Replayed G V S → List Event → Option Refused
  refused_in r events = first_refused p r.edges r.cut.vertices (chunk_of r.cut) r.cut.parts 0 r.state events

  -- after all events
  abbrev pub done_all : Replayed G V S → List Event → Replayed G V S
  done_all r events = at_state r (after p r.edges r.cut.vertices (chunk_of r.cut) r.state events)

-- All events were done, or the first that is refused stopped them, or it is want of memory.
abbrev pub EventsEnd : {G V S : Type 0} → Program V S → Replayed G V S → List Event → Replayed G V S → Result (Unit {0}) EventStop → Type 0
EventsEnd p old es new (Ok done) = (refused_in p old es ≡ None) × (new ≡ done_all p old es)
EventsEnd p old es new (Err (events.Illegal event why)) = refused_in p old es ≡ Some (record { event = event; why = why })
EventsEnd p old es new (Err events.Memory) = Unit {0}

-- the text was written whole
pub record IsShown (answer : Result (List ℕ) Refused) (old new : Option (List ℕ)) : Type 0 where
  pub text : List ℕ
  pub gives : answer ≡ Ok text
  pub written : new ≡ after_told old text

-- a front of it was
pub record IsShort (answer : Result (List ℕ) Refused) (old new : Option (List ℕ)) : Type 0 where
  pub text : List ℕ
  pub gives : answer ≡ Ok text
  pub front : AppendsFront old new text

-- What a replay leaves behind `out`: its text whole, or a front of it, or nothing where an event is refused or it is
-- want of memory.
abbrev pub Shows : Result (List ℕ) Refused → Option (List ℕ) → Option (List ℕ) → Result (Unit {0}) ReplayStop → Type 0
Shows answer old new (Ok done) = IsShown answer old new
Shows answer old new (Err replay.Write) = IsShort answer old new
Shows answer old new (Err replay.Memory) = new ≡ old
Shows answer old new (Err (replay.Illegal event why)) = (answer ≡ Err (record { event = event; why = why })) × (new ≡ old)

-- why events that aren't done show no replay
abbrev pub event_stop : EventStop → ReplayStop
event_stop events.Memory = replay.Memory
event_stop (events.Illegal event why) = replay.Illegal event why

-- why a command stops where its replay does
abbrev pub replay_stop : ReplayStop → Stop
replay_stop replay.Memory = stop.Outside outside.Memory
replay_stop replay.Write = stop.Outside outside.Write
replay_stop (replay.Illegal event why) = stop.Refused (refuse.Illegal event why)
