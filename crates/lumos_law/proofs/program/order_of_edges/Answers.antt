use Rattle.std.proofs.lemmas.List.Elements.{recursion_from_All}
use Rattle.lumos_law.proofs.OrderLemmas.{ending-permutation, moved-permutation, values-permutation}
use Rattle.lumos_law.proofs.program.order_of_edges.Goals as goal

pub returns-clause-value : goal.returns-clause-value
returns-clause-value g c program xs ys same few all =
    values-permutation (g.G.VertexProgram.model program) (g.met.G.VertexProgram.lawful program) xs ys same few (recursion_from_All _ xs all)

pub returns-clause-moves : goal.returns-clause-moves
returns-clause-moves g c program xs ys same few all =
    moved-permutation (g.G.VertexProgram.model program) (g.met.G.VertexProgram.lawful program) xs ys same few (recursion_from_All _ xs all)

pub returns-clause-ends : goal.returns-clause-ends
returns-clause-ends g c program xs ys same few all n limit low =
    ending-permutation (g.G.VertexProgram.model program) (g.met.G.VertexProgram.lawful program) xs ys same few (recursion_from_All _ xs all) n limit 0 low
