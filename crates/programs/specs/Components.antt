-- What `Components` does: its values and its functions.
use Rattle.std.specs.Prelude.{◌==◌, ℕ, ◌^◌, ◌<◌, Bool, true, false, not, if◌then◌else◌, min, nat_lt, decimal}
use Rattle.lumos_law.specs.Combines.{least, least_of}
use Rattle.lumos_law.specs.Program.{Program}
use Rattle.lumos_law.specs.declared.combines.Least.{Least}
use Rattle.programs.specs.declared.components.Label.{Label}

-- the label of this number, fresh or not
abbrev pub label_of : ℕ → Bool → Label
label_of n b = record { label = n; fresh = b }

-- the number of a label lies within its type
abbrev pub IsLabel : Label → Type 0
IsLabel x = x.label < 2 ^ 64

-- each vertex takes the least label that it hears of, and tells it on where it is news
abbrev pub components_program : Program Label Least
components_program = record {
  init = λ v info. label_of v true;
  contributes = λ x. x.fresh;
  contribution = λ x w. if x.fresh then least x.label else least 18446744073709551615;
  over = λ v x s. false;
  apply = λ v x s. label_of (min x.label s.0) (nat_lt s.0 x.label);
  moved = λ x y. not (x.label == y.label);
  show = λ x. decimal x.label;
  unit = least 18446744073709551615;
  join = least_of;
}
