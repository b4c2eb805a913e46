use Rattle.std.proofs.Common.{◌≡◌, ◌≤◌, ◌+◌, ◌-◌, ◌*◌}
use Rattle.grid_format.specs.Checks.{added}
use Rattle.grid_format.specs.Heads.{numbers}
use Rattle.grid_format.proofs.counts.add_column.Given as goal

-- the counts so far are in the total, and the rest is still to be added
abbrev pub invariant-loop-i : goal.invariant-loop-i
invariant-loop-i l = record {
  rest : added l.edges l.place l.before (numbers 0 l.parts l.bytes) ≡ added l.edges (l.place + 8 * l.i) l.total (numbers (8 * l.i) (l.parts - l.i) l.bytes);
  fits : l.total ≤ l.edges;
}
