use Rattle.std.proofs.Common.{◌+◌, refl, sym, ap, ◌∙◌}
use Rattle.flight_core.proofs.RangeLemmas.{find_hit, find_miss}
use Rattle.flight_core.proofs.made.first_giver.Goals as goal

pub returns-then-contributes : goal.returns-then-contributes
returns-then-contributes g c state held =
    let p = g.G.VertexProgram.model c.args.program.now in
    let i = c.loop-i.i in
    let value = c.index-values-i.is ∙ held.at c.index-values-i.result i c.loop-i-test.true in
    sym (find_hit (λ v. p.contributes (state v)) c.args.first _ i (c.args.first + i) refl c.loop-i-test.true (c.loop-i.invariant state held)
    (ap p.contributes (sym value) ∙ sym c.contributes.ensures ∙ c.if-contributes.true))

pub loop-i-preserved : goal.loop-i-preserved
loop-i-preserved g c state held =
    let p = g.G.VertexProgram.model c.args.program.now in
    let i = c.loop-i.i in
    let value = c.index-values-i.is ∙ held.at c.index-values-i.result i c.loop-i-test.true in
    find_miss (λ v. p.contributes (state v)) c.args.first i (c.args.first + i) refl (c.loop-i.invariant state held)
    (ap p.contributes (sym value) ∙ sym c.contributes.ensures ∙ c.if-contributes.false)
