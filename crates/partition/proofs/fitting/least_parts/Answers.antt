use Rattle.std.proofs.Common.{rules}
use Rattle.partition.specs.Fitting.{IsLeast, NoneFits}
use Rattle.partition.proofs.FittingLemmas.{least_is, none_is}
use Rattle.partition.proofs.fitting.least_parts.Goals as goal

pub returns-then-from-per_vertex-clause-value : goal.returns-then-from-per_vertex-clause-value
returns-then-from-per_vertex-clause-value c =
    let is : IsLeast c.args.vertices c.args.per_vertex c.args.budget c.args.first c.loop-parts.parts = search rules in
    least_is _ _ _ _ _ is

pub returns-clause-value : goal.returns-clause-value
returns-clause-value c =
    let none : NoneFits c.args.vertices c.args.per_vertex c.args.budget c.args.first = search rules in
    none_is _ _ _ _ none
