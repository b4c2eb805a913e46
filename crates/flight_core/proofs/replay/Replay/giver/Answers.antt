use Rattle.std.proofs.Common.{◌≡◌, [], Some, sym, ap, ◌∙◌}
use Rattle.std.specs.Option.{option_copied, unwrap_or}
use Rattle.flight_core.specs.Events.{kept_of, prior, values_of}
use Rattle.flight_core.proofs.ReplayLemmas.{state_by, giver_is}
use Rattle.partition.specs.Parts.{chunk_of, first_vertex}
use Rattle.flight_core.proofs.replay.Replay.giver.Goals as goal

pub returns : goal.returns
returns g c =
    let inside = c.self.inside in
    let p = g.G.VertexProgram.model inside.program in
    let n = inside.parts.vertices in
    let size = chunk_of inside.parts in
    let t = c.args.t in
    let i = c.args.i in
    let s = state_by inside.done.items inside.sums.items inside.finals.items in
    let xs = c.in-Some.values.now in
    let first : c.range_of-first.result.first ≡ first_vertex n size i = ap (λ r. r.first) c.range_of-first.ensures.value in
    let kept : Some xs ≡ kept_of s.finals (prior t) i =
    sym (ap option_copied c.in-Some.is) ∙ c.kept_in.ensures ∙ ap (λ u. kept_of s.finals u i) c.before-2.ensures in
    let values : xs ≡ values_of s (prior t) i = ap (λ o. unwrap_or o []) kept in
    rw (← c.self.view_is) (giver_is p n size s t i c.range_of-first.result.first xs c.first_giver.result first values
    (c.self.invariant.sound.synchronous (prior t) i xs (sym kept)).long c.first_giver.ensures)
