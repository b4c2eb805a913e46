use Rattle.std.proofs.Common.{◌≡◌, ◌<◌, length, ap, arith}
use Rattle.chain_pool.proofs.tests.chains_share_the_nodes.Goals as goal

pub push-requires-5 : goal.push-requires-5
push-requires-5 g c =
    let two : length c.in-Ok.pool.chains ≡ 2 = ap (λ p. length p.chains) c.in-Ok.ensures in
    omega (arith, two, c.push.ensures.chains, c.push-2.ensures.chains, c.push-3.ensures.chains, c.push-4.ensures.chains, c.take.ensures.chains)

pub len_of-requires : goal.len_of-requires
len_of-requires g c =
    let two : length c.in-Ok.pool.chains ≡ 2 = ap (λ p. length p.chains) c.in-Ok.ensures in
    omega (arith, two, c.push.ensures.chains, c.push-2.ensures.chains, c.push-3.ensures.chains, c.push-4.ensures.chains, c.take.ensures.chains, c.push-5.ensures.chains)
