use Rattle.std.proofs.Common.{ℕ, ap}
use Rattle.programs.specs.Paths.{cost_text, known}
use Rattle.programs.specs.Walks.{IsWalkWithin}
use Rattle.programs.proofs.PathsMeaning.{cost_best, cost_none}
use Rattle.programs.proofs.WalkLemmas.{best_cheap, best_same}
use Rattle.programs.proofs.meaning.paths_are_least.Goals as goal

pub returns-clause-cost : goal.returns-clause-cost
returns-clause-cost c start edges numbers t v low = cost_best start edges numbers t v low

pub returns-clause-shown : goal.returns-clause-shown
returns-clause-shown c start edges numbers t v low best is =
    ap cost_text (best_same (IsWalkWithin t edges start v) _ best (cost_best start edges numbers t v low) is)

pub returns-clause-beyond : goal.returns-clause-beyond
returns-clause-beyond c start edges n sources beyond t v below =
    ap (λ (m : ℕ). cost_text (known m)) (cost_none start edges n sources beyond t v below)

pub returns-clause-cheap : goal.returns-clause-cheap
returns-clause-cheap c start edges numbers t v low cost is = best_cheap t edges start v cost numbers low is
