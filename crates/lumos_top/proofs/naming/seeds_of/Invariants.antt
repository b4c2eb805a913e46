use Rattle.std.proofs.Common.{◌≡◌, take}
use Rattle.lumos_top.specs.Programs.{seeds_from}
use Rattle.lumos_top.proofs.naming.seeds_of.Given as goal

abbrev pub invariant-loop-k : goal.invariant-loop-k
invariant-loop-k l = l.seeds ≡ seeds_from (take l.k l.words)
