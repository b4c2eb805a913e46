use Rattle.std.proofs.Common.{◌≡◌, [], length, Some, IfOk, sym, ap, ◌∙◌, subst}
use Rattle.std.specs.Option.{option_copied, unwrap_or}
use Rattle.flight_core.specs.Events.{kept_of, prior, values_of}
use Rattle.flight_core.proofs.ReplayLemmas.{state_by, made_is, sums_are}
use Rattle.partition.specs.Parts.{chunk_of, first_vertex, part_length}
use Rattle.flight_core.proofs.replay.Replay.made.Goals as goal

pub returns : goal.returns
returns g c =
    let inside = c.self.inside in
    let p = g.G.VertexProgram.model inside.program in
    let n = inside.parts.vertices in
    let size = chunk_of inside.parts in
    let t = c.args.t in
    let j = c.args.j in
    let s = state_by inside.done.items inside.sums.items inside.finals.items in
    let xs = c.in-Some.values.now in
    let first : c.range_of-first.result.first ≡ first_vertex n size j = ap (λ r. r.first) c.range_of-first.ensures.value in
    let kept : Some xs ≡ kept_of s.finals (prior t) j =
    sym (ap option_copied c.in-Some.is) ∙ c.kept_in.ensures ∙ ap (λ u. kept_of s.finals u j) c.before-2.ensures in
    let values : xs ≡ values_of s (prior t) j = ap (λ o. unwrap_or o []) kept in
    let long : length xs ≡ part_length n size j = (c.self.invariant.sound.synchronous (prior t) j xs (sym kept)).long in
    let sums = sums_are p n size s t j (length xs) g.G.Sum.Combine.unit (option_copied c.kept_among.result) c.kept_among.ensures long
    (sym (g.met.G.VertexProgram.unit_is inside.program)) in
    let whole = made_is p n size s t j c.range_of-first.result.first xs c.deref.result.now first values (c.deref.ensures.value ∙ c.in-Ok.ensures ∙ sums) in
    rw (← c.self.view_is) (subst (λ l. IfOk c.next_copy.result (λ made. made.items ≡ l)) whole c.next_copy.ensures)
