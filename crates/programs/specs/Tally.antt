-- What `Tally` does: its functions on numbers.
use Rattle.std.specs.Prelude.{◌==◌, ◌||◌, ℕ, ◌+◌, true, not, min, nat_lt, decimal}
use Rattle.lumos_law.specs.Combines.{total, total_of}
use Rattle.lumos_law.specs.Program.{Program}
use Rattle.lumos_law.specs.declared.combines.Total.{Total}

-- each vertex adds the number of edges into it
abbrev pub tally_program : Program ℕ Total
tally_program = record {
  init = λ v info. 0;
  contributes = λ x. true;
  contribution = λ x w. total 1;
  over = λ v x s. (s.0 == 18446744073709551615) || nat_lt 18446744073709551615 (x + s.0);
  apply = λ v x s. min (x + s.0) 18446744073709551615;
  moved = λ x y. not (x == y);
  show = λ x. decimal x;
  unit = total 0;
  join = total_of;
}
