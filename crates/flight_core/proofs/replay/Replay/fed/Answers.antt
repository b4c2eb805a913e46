use Rattle.std.proofs.Common.{◌≡◌, ◌+◌, ◌-◌, [], Some, IfOk, replicate, sym, ap, ap₂, ◌∙◌, subst}
use Rattle.std.specs.Option.{option_copied, unwrap_or}
use Rattle.flight_core.specs.Events.{kept_of, prior, values_of}
use Rattle.flight_core.proofs.ReplayLemmas.{state_by, fed_is, sums_are}
use Rattle.partition.specs.Blocks.{block}
use Rattle.partition.specs.Parts.{chunk_of, first_vertex}
use Rattle.flight_core.proofs.replay.Replay.fed.Goals as goal

pub returns : goal.returns
returns g c =
    let inside = c.self.inside in
    let p = g.G.VertexProgram.model inside.program in
    let edges = inside.edges.items in
    let n = inside.parts.vertices in
    let size = chunk_of inside.parts in
    let t = c.args.t in
    let i = c.args.i in
    let j = c.args.j in
    let s = state_by inside.done.items inside.sums.items inside.finals.items in
    let xs = c.in-Some.values.now in
    let from : c.range_of-from.result.first ≡ first_vertex n size i = ap (λ r. r.first) c.range_of-from.ensures.value in
    let into : c.range_of-into.result.first ≡ first_vertex n size j = ap (λ r. r.first) c.range_of-into.ensures.value in
    let past : c.range_of-into.result.past ≡ first_vertex n size (j + 1) = ap (λ r. r.past) c.range_of-into.ensures.value in
    let kept : Some xs ≡ kept_of s.finals (prior t) i =
    sym (ap option_copied c.in-Some.is) ∙ c.kept_in.ensures ∙ ap (λ u. kept_of s.finals u i) c.before-2.ensures in
    let values : xs ≡ values_of s (prior t) i = ap (λ o. unwrap_or o []) kept in
    let fed : c.deref-2.result.now ≡ block edges size i j = c.deref-2.ensures.value ∙ c.in-Ok.ensures ∙ ap (λ es. block es size i j) c.deref.ensures.value in
    let sums = sums_are p n size s t j (c.range_of-into.result.past - c.range_of-into.result.first) g.G.Sum.Combine.unit
    (option_copied c.kept_among-sums.result) c.kept_among-sums.ensures (ap₂ ◌-◌ past into) (sym (g.met.G.VertexProgram.unit_is inside.program)) in
    let whole = fed_is p edges n size s t i j c.deref-2.result.now c.range_of-from.result.first c.range_of-into.result.first xs
    (unwrap_or (option_copied c.kept_among-sums.result) (replicate (c.range_of-into.result.past - c.range_of-into.result.first) g.G.Sum.Combine.unit))
    fed from into values sums in
    rw (← c.self.view_is) (subst (λ l. IfOk c.fed_copy.result (λ made. made.items ≡ l)) whole c.fed_copy.ensures)
