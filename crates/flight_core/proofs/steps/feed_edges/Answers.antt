use Rattle.std.proofs.Common.{◌≡◌, ℕ, ◌+◌, ◌-◌, ◌<◌, ◌≤◌, length, get_or, set, take, sym, ap, ap₂, ◌∙◌, subst, arith}
use Rattle.std.proofs.lemmas.List.{take_more, take_all, get_or_read}
use Rattle.lumos_base.specs.declared.records.Edge.{Edge}
use Rattle.lumos_law.specs.Sync.{fed_sum, IsChunk}
use Rattle.lumos_law.proofs.SumLemmas.{fed_chunk-more}
use Rattle.flight_core.proofs.steps.feed_edges.Goals as goal

-- read where there is no other edge
abbrev no_edge : Edge
no_edge = record { source = record { 0 = 0 }; target = record { 0 = 0 }; weight = record { 0 = 0 } }

pub loop-edge-preserved : goal.loop-edge-preserved
loop-edge-preserved g c state first_sum values sums =
    let p = g.G.VertexProgram.model c.args.program.now in
    let edges = c.args.edges.now in
    let i = c.loop-edge.edge-index in
    let e = get_or edges i no_edge in
    let source = c.requires.sources i no_edge c.loop-edge-test.true in
    let target = c.requires.targets i no_edge c.loop-edge-test.true in
    let low_source : c.args.source_first ≤ e.source.0 = source.low in
    let high_source : e.source.0 < c.args.source_first + length c.args.values.now = source.high in
    let low_target : c.args.target_first ≤ e.target.0 = target.low in
    let high_target : e.target.0 < c.args.target_first + length c.args.sums.now = target.high in
    let from : ℕ = e.source.0 - c.args.source_first in
    let at : ℕ = e.target.0 - c.args.target_first in
    let new = c.join.result in
    let back : c.args.source_first + from ≡ e.source.0 = omega arith in
    let read = c.index-values-source.is ∙ values.at c.index-values-source.result from (omega arith) ∙ ap state back in
    let given = c.contribution-given.ensures ∙ ap (λ x. p.contribution x e.weight.0) read in
    let within : at < length c.loop-edge.sums = omega (arith, c.loop-edge.auto.sums) in
    let old = get_or_read c.loop-edge.sums at c.index-sums-target.result within c.index-sums-target.is new in
    let joined = c.join.ensures ∙ ap₂ g.G.Sum.Combine.joined old given
    ∙ ap (λ j. j (get_or c.loop-edge.sums at new) (p.contribution (state e.source.0) e.weight.0)) (sym (g.met.G.VertexProgram.join_is c.args.program.now)) in
    let kept = c.loop-edge.invariant state first_sum values sums in
    subst (λ es. IsChunk (λ v. fed_sum p es state v (first_sum v)) c.args.target_first (set c.loop-edge.sums at new))
    (sym (take_more edges i no_edge c.loop-edge-test.true))
    (fed_chunk-more p (take i edges) e state first_sum c.args.target_first c.loop-edge.sums at new (omega arith) within kept joined)

pub returns : goal.returns
returns g c state first_sum values sums =
    let p = g.G.VertexProgram.model c.args.program.now in
    subst (λ es. IsChunk (λ v. fed_sum p es state v (first_sum v)) c.args.target_first c.loop-edge.sums)
    (take_all c.loop-edge.edge-index c.args.edges.now c.loop-edge-test.false)
    (c.loop-edge.invariant state first_sum values sums)
