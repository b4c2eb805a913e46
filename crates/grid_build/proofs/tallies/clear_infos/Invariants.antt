use Rattle.std.proofs.Common.{◌≡◌, replicate, take}
use Rattle.lumos_base.specs.Leaving.{no_info}
use Rattle.grid_build.proofs.tallies.clear_infos.Given as goal

abbrev pub invariant-loop-i : goal.invariant-loop-i
invariant-loop-i l = take l.i l.infos ≡ replicate l.i no_info
