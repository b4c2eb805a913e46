use Rattle.std.proofs.Common.{◌≤◌, ◌-◌, length, take, drop, ap, ◌∙◌, arith}
use Rattle.std.proofs.lemmas.Grind.{common_steps}
use Rattle.std.proofs.lemmas.List.{take_all}
use Rattle.std.proofs.lemmas.Slice.{drop-put_mid}
use Rattle.graph_gen.specs.Generated.{generated}
use Rattle.graph_gen.proofs.TextLemmas.{given_on}
use Rattle.graph_gen.proofs.drawing.Drawing.give.Goals as goal

pub returns-clause-bytes : goal.returns-clause-bytes
returns-clause-bytes c =
    let s = c.args.self.now in
    let count = c.min-count.result in
    let fits : count ≤ length (drop s.start s.line) = grind (arith, common_steps) in
    let rest = take_all (33 - s.start) (drop s.start s.line) (grind (arith, common_steps)) in
    given_on c.args.buf.now s.line (generated s.number s.vertices s.edges) c.copy_from_slice.new.self c.args.given count s.start _ (c.copy_from_slice.ensures.after ∙ ap (take count) rest) fits (omega arith)

pub returns-clause-behind : goal.returns-clause-behind
returns-clause-behind c =
    drop-put_mid c.args.given _ c.args.buf.now c.copy_from_slice.new.self _ (omega arith) (omega arith) (grind (arith, common_steps))
