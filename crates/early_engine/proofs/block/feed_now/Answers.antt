use Rattle.std.proofs.Common.{Bool, ◌++◌, sym, subst}
use Rattle.windows.specs.Sums.{HasSums}
use Rattle.early_engine.specs.Steps.{fed_if}
use Rattle.early_engine.proofs.block.feed_now.Goals as goal

pub returns-then-visit-clause-fed : goal.returns-then-visit-clause-fed
returns-then-visit-clause-fed g c i j state before first has =
    subst (λ (b : Bool). HasSums (g.G.VertexProgram.model c.args.program.now) c.feed_now.new.self j state (before ++ fed_if b c.args.edges.now)) (sym c.if-visit.true)
    (c.feed_now.ensures.fed i j state before (first c.if-visit.true) has)
