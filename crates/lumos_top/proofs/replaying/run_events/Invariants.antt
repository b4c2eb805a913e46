use Rattle.std.proofs.Common.{drop}
use Rattle.lumos_top.proofs.EventSteps.{HasReached}
use Rattle.lumos_top.proofs.replaying.run_events.Given as goal

abbrev pub invariant-loop-k : goal.invariant-loop-k
invariant-loop-k g l = record {
  reached : HasReached g.G.VertexProgram.model l.fn.replay l.replay l.k l.events (drop l.k l.events);
}
