use Rattle.std.proofs.lemmas.List.Elements.{recursion_from_All}
use Rattle.lumos_law.proofs.JoinLemmas.{join_from-append, join_from-permutation}
use Rattle.lumos_law.proofs.combine.join_order.Goals as goal

pub returns-clause-any_order : goal.returns-clause-any_order
returns-clause-any_order g c xs ys all same =
    let laws = g.met.C.Combine.join_laws in
    (join_from-permutation laws xs ys same (recursion_from_All _ xs all)).1 _ laws.unit_in

pub returns-clause-in_parts : goal.returns-clause-in_parts
returns-clause-in_parts g c xs ys all more =
    join_from-append g.met.C.Combine.join_laws xs ys (recursion_from_All _ xs all) (recursion_from_All _ ys more)
