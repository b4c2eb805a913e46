-- What is left of a text that is being drawn.
use Rattle.std.specs.Prelude.{ℕ, ◌≡◌, ◌≤◌, List, ◌++◌, length, drop}
use Rattle.graph_gen.specs.Generated.{generated}
use Rattle.graph_gen.specs.declared.drawing.Drawing.{Drawing}

-- the rest of the line that was drawn last, and the text of the edges that aren't drawn yet, whose seed is the last number
abbrev pub left_of : Drawing → List ℕ
left_of d = drop d.start d.line ++ generated d.number d.vertices d.edges

pub record IsDrawing (d : Drawing) : Type 0 where
  pub vertices : 1 ≤ d.vertices
  pub line : length d.line ≡ 33
  pub start : d.start ≤ 33
