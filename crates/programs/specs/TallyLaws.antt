-- The laws of `Tally`.
use Rattle.std.proofs.Common.{◌^◌, ◌<◌, arith}
use Rattle.lumos_law.specs.CombineLaws.{total_laws}
use Rattle.lumos_law.specs.Combines.{IsTotal}
use Rattle.lumos_law.specs.Program.{Lawful}
use Rattle.programs.specs.ShownLaws.{shown_apart, shown_short}
use Rattle.programs.specs.Tally.{tally_program}

pub tally_lawful : Lawful (λ n. n < 2 ^ 64) IsTotal tally_program
tally_lawful = record {
  joins = total_laws;
  init_in = λ v info h k. omega arith;
  contribution_in = λ x w h k. omega arith;
  apply_in = λ v x s h k l. omega arith;
  silent = λ x w h k none. cc;
  moves = λ x y h k. shown_apart x y h k;
  short = λ x h. shown_short x h;
}
