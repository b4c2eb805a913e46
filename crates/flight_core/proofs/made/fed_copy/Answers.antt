use Rattle.std.proofs.Common.{◌≡◌, ℕ, ◌-◌, length, drop, get_or, replicate, sym, ap, ◌∙◌, subst}
use Rattle.std.specs.Option.{option_copied, unwrap_or}
use Rattle.std.proofs.lemmas.List.{take_at}
use Rattle.lumos_law.specs.Sync.{fed_sum, IsChunk}
use Rattle.flight_core.specs.Events.{state_of}
use Rattle.flight_core.proofs.EachLemmas.{chunk_own, each_is}
use Rattle.flight_core.proofs.made.fed_copy.Goals as goal

pub returns : goal.returns
returns g c =
    let p = g.G.VertexProgram.model c.args.program.now in
    let first = c.args.target_first in
    let old = unwrap_or (option_copied c.args.sums) (replicate c.args.count g.G.Sum.Combine.unit) in
    let new = c.feed_edges.new.sums in
    let copied : c.deref_mut.result.now ≡ old = c.deref_mut.ensures.value ∙ c.in-Ok.ensures in
    let long : length new ≡ c.in-Ok.made.len = c.feed_edges.auto.sums ∙ c.deref_mut.ensures.len in
    let whole = take_at new (drop (length new) c.in-Ok.made.items) c.in-Ok.made.len long in
    let state : ℕ → _ = state_of p c.args.source_first c.args.values.now in
    let sum : ℕ → _ = λ v. get_or old (v - first) p.unit in
    let own = chunk_own old first p.unit in
    let made = c.feed_edges.ensures state sum (chunk_own c.args.values.now c.args.source_first (p.init 0 (record { degree = 0; weight = 0 })))
    (subst (IsChunk sum first) (sym copied) own) in
    whole ∙ each_is (λ v s. fed_sum p c.args.edges.now state v s) sum first old new (c.feed_edges.auto.sums ∙ ap length copied) own made
