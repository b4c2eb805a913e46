use Rattle.std.proofs.Common.{◌≡◌, ◌∷◌, None, refl, sym, ap₂, ◌∙◌, subst}
use Rattle.flight_core.specs.declared.event.Event.TheVariants.{Feed}
use Rattle.flight_core.specs.Events.{keep, without, fed_sums, step, refusal}
use Rattle.flight_core.specs.Replayed.{IsReplay, refused}
use Rattle.flight_core.proofs.ReplayLemmas.{state_by, state_is, replay_step}
use Rattle.partition.specs.Parts.{chunk_of}
use Rattle.flight_core.proofs.replay.Replay.feed.Goals as goal

pub invariant_of-self-2 : goal.invariant_of-self-2
invariant_of-self-2 g c =
    let inside = c.self.inside in
    let p = g.G.VertexProgram.model inside.program in
    let t = c.args.t in
    let i = c.args.i in
    let j = c.args.j in
    let event = Feed t i j in
    let n = inside.parts.vertices in
    let size = chunk_of inside.parts in
    let edges = inside.edges.items in
    let s = state_by inside.done.items inside.sums.items inside.finals.items in
    let legal : refusal p n size inside.parts.parts 1024 s event ≡ None =
    subst (λ w. refused (g.G.VertexProgram.model w.program) w event ≡ None) (sym c.self.view_is) c.requires in
    let fed : c.in-Ok.items.items ≡ fed_sums p edges n size s t i j =
    subst (λ w. c.in-Ok.items.items ≡ fed_sums (g.G.VertexProgram.model w.program) w.edges w.cut.vertices (chunk_of w.cut) w.state t i j) (sym c.self.view_is) c.in-Ok.ensures in
    let done = c.push_front_reserved.ensures.items ∙ ap₂ ◌∷◌ c.marked.ensures c.reserve.ensures.items in
    let sums = c.replace_kept.ensures ∙ ap₂ (λ xs ks. keep t j xs ∷ without ks t j) fed c.reserve-else-is_err.ensures.items in
    let state : state_by c.push_front_reserved.new.self.items c.replace_kept.new.list.items inside.finals.items ≡ step p edges n size s event =
    state_is done sums refl in
    subst (IsReplay p edges inside.parts) (sym state)
    (replay_step p (g.met.G.VertexProgram.lawful inside.program) edges inside.parts s event c.self.invariant legal)
