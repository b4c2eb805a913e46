use Rattle.std.proofs.Common.{◌≡◌, ◌∷◌, None, cond, refl, sym, ap, ◌∙◌, subst}
use Rattle.flight_core.specs.declared.event.Event.TheVariants.{Skip}
use Rattle.flight_core.specs.Events.{step, refusal}
use Rattle.flight_core.specs.Replayed.{IsReplay, refused}
use Rattle.flight_core.proofs.ReplayLemmas.{state_by, state_is, replay_step}
use Rattle.partition.specs.Parts.{chunk_of}
use Rattle.flight_core.proofs.replay.Replay.skip.Goals as goal

pub invariant_of-self-2 : goal.invariant_of-self-2
invariant_of-self-2 g c =
    let inside = c.self.inside in
    let p = g.G.VertexProgram.model inside.program in
    let event = Skip c.args.t c.args.i c.args.j in
    let done = inside.done.items in
    let s = state_by done inside.sums.items inside.finals.items in
    let legal : refusal p inside.parts.vertices (chunk_of inside.parts) inside.parts.parts 1024 s event ≡ None =
    subst (λ w. refused (g.G.VertexProgram.model w.program) w event ≡ None) (sym c.self.view_is) c.requires in
    let pushed = c.push_front.ensures.items ∙ ap (λ b. cond b (c.marked.result ∷ done) done) c.if-is_err.ensures.negation
    ∙ ap (λ m. m ∷ done) c.marked.ensures in
    let state : state_by c.push_front.new.self.items inside.sums.items inside.finals.items ≡ step p inside.edges.items inside.parts.vertices (chunk_of inside.parts) s event =
    state_is pushed refl refl in
    subst (IsReplay p inside.edges.items inside.parts) (sym state)
    (replay_step p (g.met.G.VertexProgram.lawful inside.program) inside.edges.items inside.parts s event c.self.invariant legal)
