use Rattle.std.proofs.Common.{◌≡◌, ◌≤◌, ◌*◌}
use Rattle.grid_format.specs.Tables.{low_edges}
use Rattle.grid_build.specs.Copied.{cut_table}
use Rattle.grid_build.specs.Sorting.{start_of}
use Rattle.grid_build.proofs.columns.low_total.Given as goal

-- the columns so far are in the total, which is no more than all their edges
abbrev pub invariant-loop-j : goal.invariant-loop-j
invariant-loop-j l = record {
  total : l.total ≡ low_edges (cut_table l.parts l.counts) l.j;
  fewer : l.total ≤ start_of l.counts (l.j * l.parts.parts);
}
