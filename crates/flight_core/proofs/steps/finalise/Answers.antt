use Rattle.std.proofs.Common.{◌≡◌, ℕ, ◌+◌, ◌<◌, ◌≤◌, length, refl, sym, ap, ap₂, ◌∙◌, subst, arith}
use Rattle.std.proofs.lemmas.List.{take_all}
use Rattle.flight_core.proofs.FinishLemmas.{finish_more, chunk_more, noted_few, noted_same}
use Rattle.flight_core.proofs.OverLemmas.{over_at, over_both, over_within}
use Rattle.flight_core.proofs.steps.finalise.Goals as goal
use Rattle.flight_core.specs.Finish.{finish_of, applied}
use Rattle.lumos_base.specs.Records.{vertex_of}
use Rattle.lumos_law.specs.Sync.{IsChunk}

pub loop-i-preserved : goal.loop-i-preserved
loop-i-preserved g c =
    let p = g.G.VertexProgram.model c.args.program.now in
    let i = c.loop-i.i in
    let v : ℕ = c.args.first + i in
    let vertex = vertex_of v in
    let in_before : i < length c.args.before.now = c.loop-i-test.true in
    let in_sums : i < length c.args.sums.now = omega arith in
    let in_after : i < length c.loop-i.after = omega (arith, c.loop-i.auto.after) in
    record {
      few = subst (λ e. e.moved ≤ i + 1) (sym c.noted-end.ensures)
          (noted_few c.loop-i.end vertex c.moved-moved.result c.contributes-hot.result c.over-over.result i c.loop-i.invariant.few);
      done = λ state sum values sums.
          let kept = c.loop-i.invariant.done state sum values sums in
          let value = c.index-before-i.is ∙ values.at _ i in_before in
          let given = c.index-sums-i.is ∙ sums.at _ i in_sums in
          let next = c.apply-next.ensures ∙ ap₂ (p.apply v) value given in
          let moved = c.moved-moved.ensures ∙ ap₂ p.moved value next in
          let hot = c.contributes-hot.ensures ∙ ap p.contributes next in
          let over = c.over-over.ensures ∙ ap₂ (p.over v) value given in (
            chunk_more (applied p state sum) c.args.first c.loop-i.after i c.apply-next.result in_after kept.0 next,
            c.noted-end.ensures ∙ noted_same _ _ vertex _ _ _ _ _ _ kept.1 moved hot over ∙ sym (finish_more p state sum c.args.first i),
          );
    }

pub returns-clause-step : goal.returns-clause-step
returns-clause-step g c state sum values sums =
    let p = g.G.VertexProgram.model c.args.program.now in
    let kept = c.loop-i.invariant.done state sum values sums in
    let all : c.loop-i.i ≡ length c.args.before.now = omega (arith, c.loop-i.auto.i-end) in (
      subst (IsChunk (applied p state sum) c.args.first) (take_all c.loop-i.i c.loop-i.after (omega (arith, c.loop-i.auto.after))) kept.0,
      kept.1 ∙ ap (finish_of p state sum c.args.first) all,
    )

pub see_over-requires : goal.see_over-requires
see_over-requires g c =
    let p = g.G.VertexProgram.model c.args.program.now in
    let fit = c.requires.sums_fit in
    let end = c.loop-i.end in
    let all : c.loop-i.i ≡ length c.args.before.now = omega (arith, c.loop-i.auto.i-end) in
    record {
      sums_fit = fit;
      within = over_within p c.args.first c.args.before.now c.args.sums.now fit end c.loop-i.i all (λ state sum a b. (c.loop-i.invariant.done state sum a b).1) end.over refl;
      over = over_at p c.args.first c.args.before.now c.args.sums.now fit end c.loop-i.i all (λ state sum a b. (c.loop-i.invariant.done state sum a b).1) end.over refl;
    }

pub returns-clause-over : goal.returns-clause-over
returns-clause-over g c =
    let p = g.G.VertexProgram.model c.args.program.now in
    let end = c.loop-i.end in
    let all : c.loop-i.i ≡ length c.args.before.now = omega (arith, c.loop-i.auto.i-end) in
    over_both end.over _ _
    (over_within p c.args.first c.args.before.now c.args.sums.now c.requires.sums_fit end c.loop-i.i all (λ state sum a b. (c.loop-i.invariant.done state sum a b).1) end.over refl)
    c.see_over.ensures
