use Rattle.std.proofs.Common.{ap, ◌∙◌, arith}
use Rattle.graph_gen.specs.Generated.{generated}
use Rattle.graph_gen.proofs.TextLemmas.{generated_none, left_behind}
use Rattle.graph_gen.proofs.drawing.Drawing.has_bytes.Goals as goal

pub returns-then-self-eq0-clause-end : goal.returns-then-self-eq0-clause-end
returns-then-self-eq0-clause-end c =
    let s = c.args.self.now in
    λ _. left_behind s.line (generated s.number s.vertices s.edges) s.start (omega arith) ∙ ap (generated s.number s.vertices) c.if-self-eq0.true ∙ generated_none s.number s.vertices
