-- What `Paths` does: its values and its functions.
use Rattle.std.specs.Prelude.{◌==◌, ℕ, ◌^◌, ◌<◌, Bool, true, false, not, if◌then◌else◌, min, nat_lt, List, Option, Some, None, decimal, codes}
use Rattle.lumos_law.specs.Combines.{least, least_of, saturating}
use Rattle.lumos_law.specs.Program.{Program}
use Rattle.lumos_law.specs.declared.combines.Least.{Least}
use Rattle.programs.specs.declared.paths.Cost.{Cost}

-- the cost of this number, fresh or not
abbrev pub cost_with : ℕ → Bool → Cost
cost_with n b = record { cost = n; fresh = b }

-- the number of a cost lies within its type
abbrev pub IsCost : Cost → Type 0
IsCost x = x.cost < 2 ^ 64

-- the greatest number stands for no cost at all
abbrev pub known : ℕ → Option ℕ
known n = if n == 18446744073709551615 then None else Some n

-- a cost's text, which is `-` where there is none
abbrev pub cost_text : Option ℕ → List ℕ
cost_text None = codes "-"
cost_text (Some n) = decimal n

-- each vertex takes the least cost at which it is reached from the start, and tells it on where it is news
abbrev pub paths_program : ℕ → Program Cost Least
paths_program start = record {
  init = λ v info. if v == start then cost_with 0 true else cost_with 18446744073709551615 false;
  contributes = λ x. x.fresh;
  contribution = λ x w. if x.fresh then least (saturating x.cost w) else least 18446744073709551615;
  over = λ v x s. false;
  apply = λ v x s. cost_with (min x.cost s.0) (nat_lt s.0 x.cost);
  moved = λ x y. not (x.cost == y.cost);
  show = λ x. cost_text (known x.cost);
  unit = least 18446744073709551615;
  join = least_of;
}
