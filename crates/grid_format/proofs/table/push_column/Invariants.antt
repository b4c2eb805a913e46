use Rattle.std.proofs.Common.{◌≡◌, ◌≤◌, ◌+◌, ◌++◌, ◌-◌, ◌*◌, vec_len, vec_capacity}
use Rattle.grid_format.specs.Heads.{numbers}
use Rattle.grid_format.proofs.table.push_column.Given as goal

-- what is there and the counts that are left are all
abbrev pub invariant-loop-i : goal.invariant-loop-i
invariant-loop-i l = record {
  items : l.counts.items ++ numbers (8 * l.i) (l.parts - l.i) l.bytes ≡ l.fn.counts.items ++ numbers 0 l.parts l.bytes;
  len : vec_len l.counts ≡ vec_len l.fn.counts + l.i;
  room : vec_capacity l.fn.counts ≤ vec_capacity l.counts;
}
