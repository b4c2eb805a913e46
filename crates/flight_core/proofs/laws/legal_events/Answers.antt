use Rattle.std.proofs.Common.{ℕ, ◌<◌, arith}
use Rattle.flight_core.proofs.EventLemmas.{legal_event}
use Rattle.flight_core.proofs.StartLemmas.{sound_start, legal_list}
use Rattle.flight_core.proofs.laws.legal_events.Goals as goal
use Rattle.partition.specs.Parts.{chunk_size}
use Rattle.partition.proofs.BlockLemmas.{hold_once}
use Rattle.partition.proofs.RangeLemmas.{parts_suffice}

some_vertex : (n parts : ℕ) → 0 < chunk_size n parts
some_vertex n parts = omega arith

pub returns-clause-begins : goal.returns-clause-begins
returns-clause-begins g c program edges n parts some ends =
    sound_start (g.G.VertexProgram.model program) edges n (chunk_size n parts) parts (hold_once edges n parts some ends)

pub returns-clause-each : goal.returns-clause-each
returns-clause-each g c program edges n parts bound some list state event sound legal =
    legal_event (g.G.VertexProgram.model program) (g.met.G.VertexProgram.lawful program) edges n (chunk_size n parts) parts
    (some_vertex n parts) list.few list.numbers list.ends state sound bound (parts_suffice n parts some) event legal

pub returns-clause-all : goal.returns-clause-all
returns-clause-all g c program edges n parts bound some list events legal =
    let p = g.G.VertexProgram.model program in
    legal_list p (g.met.G.VertexProgram.lawful program) edges n (chunk_size n parts) parts bound (some_vertex n parts)
    (parts_suffice n parts some) list.few list.numbers list.ends events _ (sound_start p edges n (chunk_size n parts) parts (hold_once edges n parts some list.ends)) legal
