use Rattle.std.proofs.Common.{ap, decimal}
use Rattle.programs.specs.Walks.{IsWalkWithin}
use Rattle.programs.proofs.ComponentsMeaning.{label_least}
use Rattle.programs.proofs.WalkLemmas.{least_same}
use Rattle.programs.proofs.meaning.components_are_least.Goals as goal

pub returns-clause-label : goal.returns-clause-label
returns-clause-label c edges numbers t v below = label_least edges numbers t v below

pub returns-clause-shown : goal.returns-clause-shown
returns-clause-shown c edges numbers t v below a is =
    ap decimal (least_same (λ b walk. IsWalkWithin t edges b v walk) _ a (label_least edges numbers t v below) is)
