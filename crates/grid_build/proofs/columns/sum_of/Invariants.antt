use Rattle.std.proofs.Common.{◌≡◌, sum, take}
use Rattle.grid_build.proofs.columns.sum_of.Given as goal

-- the counts so far are in the total
abbrev pub invariant-loop-count : goal.invariant-loop-count
invariant-loop-count l = l.total ≡ sum (take l.count-index l.counts)
