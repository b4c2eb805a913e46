use Rattle.std.proofs.Common.{ℕ, List, ◌++◌, take, ap, ◌∙◌, arith}
use Rattle.graph_gen.proofs.TextLemmas.{drop_later}
use Rattle.graph_gen.proofs.drawing.Drawing.fill.Goals as goal

pub loop-given-preserved : goal.loop-given-preserved
loop-given-preserved c =
    let front = take c.loop-given.given c.loop-given.buf in (
      c.give-given.ensures.sound,
      c.give-given.ensures.bytes ∙ ap (λ (xs : List ℕ). front ++ xs) c.has_bytes.ensures.same ∙ c.loop-given.invariant.1,
      omega arith,
      c.give-given.ensures.behind ∙ drop_later c.loop-given.buf c.args.buf.now c.loop-given.given c.give-given.result c.loop-given.invariant.3 (omega arith),
    )
