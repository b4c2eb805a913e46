use Rattle.std.proofs.Common.{◌≡◌, None, take}
use Rattle.programs.specs.Seeds.{class_of}
use Rattle.programs.proofs.seeds.class_in.Given as goal

abbrev pub invariant-loop-seed : goal.invariant-loop-seed
invariant-loop-seed l = class_of (take l.seed-index l.seeds) l.vertex ≡ None
