use Rattle.graph_gen.proofs.DrawLemmas.{drawn_thrice, edge_drawn}
use Rattle.graph_gen.proofs.drawing.Drawing.draw_edge.Goals as goal

pub returns-clause-edge : goal.returns-clause-edge
returns-clause-edge c =
    edge_drawn c.args.self.now c.draw.new.self c.draw-2.new.self _ _ _ c.draw.ensures.drawn c.draw-2.ensures.drawn c.draw.ensures.value c.draw-2.ensures.value c.draw-3.ensures.value

pub returns-clause-drawn : goal.returns-clause-drawn
returns-clause-drawn c =
    drawn_thrice c.args.self.now c.draw.new.self c.draw-2.new.self c.draw-3.new.self c.draw.ensures.drawn c.draw-2.ensures.drawn c.draw-3.ensures.drawn
