use Rattle.std.proofs.Common.{◌-◌, sym, arith}
use Rattle.graph_gen.specs.Generated.{generated}
use Rattle.graph_gen.proofs.TextLemmas.{generated_more, left_behind}
use Rattle.graph_gen.proofs.drawing.Drawing.draw_line.Goals as goal

pub returns-clause-same : goal.returns-clause-same
returns-clause-same c =
    let s = c.args.self.now in
    let more = generated_more s.number s.vertices s.edges (s.edges - 1) (omega arith) in
    let spent = left_behind s.line (generated s.number s.vertices s.edges) s.start (omega arith) in
    rw (c.write_line-self.ensures, c.draw_edge-edge.ensures.edge, c.draw_edge-edge.ensures.drawn, spent) (sym more)
