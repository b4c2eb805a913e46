-- What contracts see of a state with what it is a state of.
use Rattle.std.specs.Prelude.{◌≡◌, ◌<◌, ◌≤◌, List, Option, Result, Ok, Err, ◌⊎◌}
use Rattle.flight_core.specs.EdgeList.{IsEdgeList}
use Rattle.flight_core.specs.Events.{State, start, step, refusal}
use Rattle.flight_core.specs.Sound.{IsSound}
use Rattle.flight_core.specs.declared.event.Event.{Event}
use Rattle.flight_core.specs.declared.event.Illegal.{Illegal}
use Rattle.flight_core.specs.declared.event.StepFault.{StepFault}
use Rattle.flight_core.specs.declared.event.StepFault.TheVariants.{NoMemory, Illegal as NotLegal}
use Rattle.lumos_base.specs.declared.records.Edge.{Edge}
use Rattle.lumos_law.specs.Program.{Program}
use Rattle.partition.specs.Parts.{Cut, chunk_of}

-- a program, the edges and the cut of the vertices, and the state of its iterations
pub record Replayed (G V S : Type 0) : Type 0 where
  pub program : G
  pub edges : List Edge
  pub cut : Cut
  pub state : State V S

-- the state is sound, over a list of edges between the vertices of a cut
pub record IsReplay {V S : Type 0} (p : Program V S) (edges : List Edge) (cut : Cut) (state : State V S) : Type 0 where
  pub some : 0 < cut.parts
  pub few : cut.vertices ≤ 268435456
  pub list : IsEdgeList cut.vertices edges
  pub sound : IsSound p edges cut.vertices (chunk_of cut) cut.parts state

module _ {G V S : Type 0} (p : Program V S) where
  -- before all events
  abbrev pub begun : G → List Edge → Cut → Replayed G V S
  begun program edges cut = record {
    program = program;
    edges = edges;
    cut = cut;
    state = start p edges cut.vertices (chunk_of cut) cut.parts;
  }

  -- why an event is refused, if it is, where 1024 is the greatest iteration
  abbrev pub refused : Replayed G V S → Event → Option Illegal
  refused r event = refusal p r.cut.vertices (chunk_of r.cut) r.cut.parts 1024 r.state event

  -- after an event
  abbrev pub stepped : Replayed G V S → Event → Replayed G V S
  stepped r event = record {
    program = r.program;
    edges = r.edges;
    cut = r.cut;
    state = step p r.edges r.cut.vertices (chunk_of r.cut) r.state event;
  }

  -- the state is sound
  abbrev pub IsSoundReplay : Replayed G V S → Type 0
  IsSoundReplay r = IsSound p r.edges r.cut.vertices (chunk_of r.cut) r.cut.parts r.state

-- an answer to a legal event: it is done, or it is want of memory
abbrev pub IsDoneOrFull : Result (Unit {0}) StepFault → Type 0
IsDoneOrFull result = (result ≡ Ok tt) ⊎ (result ≡ Err NoMemory)

-- the answer to an event that is refused for a reason
abbrev pub refused_by : Illegal → Result (Unit {0}) StepFault
refused_by why = Err (NotLegal why)
