use Rattle.std.proofs.Common.{ap}
use Rattle.programs.specs.Paths.{cost_text}
use Rattle.programs.specs.Walks.{IsWalk}
use Rattle.programs.proofs.PathsMeaning.{cost_still}
use Rattle.programs.proofs.WalkLemmas.{best_same}
use Rattle.programs.proofs.meaning.still_paths.Goals as goal

pub returns-clause-cost : goal.returns-clause-cost
returns-clause-cost c start edges numbers n sources limit t low ends v = cost_still start edges numbers n sources limit t v low ends

pub returns-clause-shown : goal.returns-clause-shown
returns-clause-shown c start edges numbers n sources limit t low ends v best is =
    ap cost_text (best_same (IsWalk edges start v) _ best (cost_still start edges numbers n sources limit t v low ends) is)
