use Rattle.std.proofs.Common.{◌≡◌, ℕ, ◌<◌, ◌≤◌, sym, subst}
use Rattle.flight_core.specs.EdgeList.{IsEdgeList}
use Rattle.flight_core.specs.Events.{start}
use Rattle.flight_core.specs.Replayed.{IsReplay}
use Rattle.flight_core.proofs.ReplayLemmas.{state_by, state_is}
use Rattle.flight_core.proofs.StartLemmas.{sound_start}
use Rattle.partition.specs.Parts.{chunk_of}
use Rattle.partition.proofs.BlockLemmas.{hold_once}
use Rattle.flight_core.proofs.replay.Replay.new.Goals as goal

pub invariant_of-result : goal.invariant_of-result
invariant_of-result g c =
    let p = g.G.VertexProgram.model c.args.program in
    let edges = c.args.edges.now in
    let cut = c.args.parts in
    let n = cut.vertices in
    let size = chunk_of cut in
    let begun = start p edges n size cut.parts in
    let some : 0 < cut.parts = subst (λ (m : ℕ). 0 < m) c.parts-some.ensures.value c.parts-some.ensures.some in
    let few : n ≤ 268435456 = subst (λ (m : ℕ). m ≤ 268435456) c.vertices-few.ensures.value c.vertices-few.ensures.few in
    let list : IsEdgeList n edges = record { few = c.requires.few; numbers = c.copy_edges.ensures.numbers; ends = c.requires.ends } in
    let state : state_by c.new.result.items c.new-2.result.items c.in-Ok-first_finals.finals.items ≡ begun = state_is c.new.ensures.items c.new-2.ensures.items c.in-Ok-first_finals.ensures in
    let sound = sound_start p edges n size cut.parts (hold_once edges n cut.parts some c.requires.ends) in
    let whole : IsReplay p edges cut begun = record { some = some; few = few; list = list; sound = sound } in
    subst (λ es. IsReplay p es cut (state_by c.new.result.items c.new-2.result.items c.in-Ok-first_finals.finals.items)) (sym c.in-Ok.ensures.items) (subst (IsReplay p edges cut) (sym state) whole)

pub returns-clause-sound : goal.returns-clause-sound
returns-clause-sound g c = (invariant_of-result g c).sound
