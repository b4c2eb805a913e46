use Rattle.std.proofs.Common.{◌+◌, [], ◌∷◌, ◌++◌, cond, sym, ap, ap₂, ◌∙◌}
use Rattle.lumos_base.specs.Leaving.{no_info}
use Rattle.lumos_law.specs.Sync.{values}
use Rattle.flight_core.proofs.EachLemmas.{chunk_one_more}
use Rattle.flight_core.proofs.start.first_values.Goals as goal

pub loop-i-preserved : goal.loop-i-preserved
loop-i-preserved g c edges held =
    let p = g.G.VertexProgram.model c.args.program.now in
    let first = c.args.first in
    let i = c.loop-i.i in
    let made = c.loop-i.made.items in
    let read = c.init-value.ensures ∙ ap (p.init (first + i)) (held.at no_info i c.loop-i-test.true) in
    c.push.ensures.items ∙ ap (λ b. cond b (made ++ c.init-value.result ∷ []) made) c.if-is_err.ensures.negation
    ∙ ap₂ (λ l x. l ++ x ∷ []) (c.loop-i.invariant edges held) read ∙ sym (chunk_one_more (values p edges 0) first i)
