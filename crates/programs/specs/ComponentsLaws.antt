-- The laws of `Components`.
use Rattle.std.proofs.Common.{ℕ, ◌^◌, ◌<◌, Bool, true, false, cond, refl, arith}
use Rattle.lumos_law.specs.CombineLaws.{least_laws}
use Rattle.lumos_law.specs.Combines.{least, IsLeast}
use Rattle.lumos_law.specs.Program.{Lawful}
use Rattle.programs.specs.Components.{IsLabel, components_program}
use Rattle.programs.specs.ShownLaws.{shown_apart, shown_short}

given_in : (b : Bool) (n : ℕ) → n < 2 ^ 64 → IsLeast (cond b (least n) (least 18446744073709551615))
given_in true n h = h
given_in false n h = omega arith

pub components_lawful : Lawful IsLabel IsLeast components_program
components_lawful = record {
  joins = least_laws;
  init_in = λ v info h k. omega arith;
  contribution_in = λ x w h k. given_in x.fresh x.label h;
  apply_in = λ v x s h k l. omega arith;
  silent = λ x w h k none. rw none refl;
  moves = λ x y h k. shown_apart x.label y.label h k;
  short = λ x h. shown_short x.label h;
}
