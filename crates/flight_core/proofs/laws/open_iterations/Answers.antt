use Rattle.std.proofs.Common.{arith}
use Rattle.flight_core.proofs.EventLemmas.{consecutive}
use Rattle.flight_core.proofs.laws.open_iterations.Goals as goal

pub returns-clause-consecutive : goal.returns-clause-consecutive
returns-clause-consecutive g c program edges n size parts state sound t u first second before =
    consecutive (g.G.VertexProgram.model program) edges n size parts state sound t u first second before

pub returns-clause-at_most_two : goal.returns-clause-at_most_two
returns-clause-at_most_two g c program edges n size parts state sound t u v first second before later third =
    let p = g.G.VertexProgram.model program in
    let near = consecutive p edges n size parts state sound t u first second before in
    let far = consecutive p edges n size parts state sound t v first third (omega (arith, before, later)) in
    omega (arith, near, far, later)
