use Rattle.std.proofs.Common.{◌≡◌, ℕ, ◌-◌, length, drop, get_or, ◌∙◌}
use Rattle.std.proofs.lemmas.List.{take_at}
use Rattle.flight_core.specs.Events.{state_of}
use Rattle.flight_core.proofs.EachLemmas.{chunk_own, each_is}
use Rattle.flight_core.proofs.made.next_copy.Goals as goal

pub returns : goal.returns
returns g c =
    let p = g.G.VertexProgram.model c.args.program.now in
    let first = c.args.first in
    let before = c.args.before.now in
    let sums = c.args.sums.now in
    let new = c.finalise.new.after in
    let long : length new ≡ c.in-Ok.after.len = c.finalise.auto.after ∙ c.deref_mut.ensures.len in
    let whole = take_at new (drop (length new) c.in-Ok.after.items) c.in-Ok.after.len long in
    let state : ℕ → _ = state_of p first before in
    let sum : ℕ → _ = λ v. get_or sums (v - first) p.unit in
    let own = chunk_own before first (p.init 0 (record { degree = 0; weight = 0 })) in
    let made = (c.finalise.ensures.step state sum own (chunk_own sums first p.unit)).0 in
    whole ∙ each_is (λ v x. p.apply v x (sum v)) state first before new (long ∙ c.in-Ok.ensures.len) own made
