use Rattle.std.proofs.Common.{◌≡◌, ◌*◌, ◌++◌, take, drop}
use Rattle.std.specs.List.{flat_map}
use Rattle.grid_format.specs.Heads.{field}
use Rattle.grid_format.proofs.write.put_column.Given as goal

-- the counts so far stand in front, and behind them what was there
abbrev pub invariant-loop-i : goal.invariant-loop-i
invariant-loop-i l = l.column ≡ flat_map (field 8) (take l.i l.counts) ++ drop (8 * l.i) l.fn.column
