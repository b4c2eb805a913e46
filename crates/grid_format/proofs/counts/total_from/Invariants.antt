use Rattle.std.proofs.Common.{◌≡◌, ◌+◌, ◌-◌, ◌*◌, sum}
use Rattle.grid_format.specs.Heads.{numbers}
use Rattle.grid_format.proofs.counts.total_from.Given as goal

-- the counts so far are in the total, and the rest is still to be added
abbrev pub invariant-loop-i : goal.invariant-loop-i
invariant-loop-i l = l.total + sum (numbers (8 * l.i) (l.parts - l.i) l.bytes) ≡ sum (numbers (8 * l.first) (l.parts - l.first) l.bytes)
