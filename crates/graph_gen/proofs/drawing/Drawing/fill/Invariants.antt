use Rattle.std.proofs.Common.{length, ◌-◌, ◌≡◌, ◌≤◌, ◌++◌, take, drop}
use Rattle.graph_gen.specs.Drawings.{IsDrawing, left_of}
use Rattle.graph_gen.proofs.drawing.Drawing.fill.Given as goal

abbrev pub invariant-loop-given : goal.invariant-loop-given
invariant-loop-given l = IsDrawing l.self
    × (take l.given l.buf ++ left_of l.self ≡ left_of l.initial.self)
    × (l.given ≤ length l.buf)
    × (drop l.given l.buf ≡ drop l.given l.initial.buf)

abbrev pub decreases-loop-given : goal.decreases-loop-given
decreases-loop-given l = length l.initial.buf - l.given
