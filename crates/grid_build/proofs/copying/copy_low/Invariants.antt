use Rattle.std.proofs.Common.{◌≡◌, ◌≤◌, ◌*◌}
use Rattle.lumos_depot.specs.declared.depot.FileKind.TheVariants.{Primary, Secondary}
use Rattle.grid_format.specs.Tables.{low_edges}
use Rattle.grid_build.specs.Copied.{HasCopied, cut_table, low_ranges}
use Rattle.lumos_depot.specs.Steps.{Moves, RoseBy}
use Rattle.grid_build.specs.Sorting.{start_of}
use Rattle.grid_build.proofs.copying.copy_low.Given as goal

-- the ranges of the columns so far are copied
abbrev pub invariant-loop-j : goal.invariant-loop-j
invariant-loop-j g l = record {
  before : l.first ≡ start_of l.counts (l.j * l.parts.parts);
  low : l.into ≡ low_edges (cut_table l.parts l.counts) l.j;
  fewer : l.into ≤ l.first;
  copied : HasCopied (low_ranges (cut_table l.parts l.counts) l.j) 0 (12 * l.into) (g.D.Depot.holds l.fn.depot Primary) (g.D.Depot.holds l.fn.depot Secondary) (g.D.Depot.holds l.depot Secondary);
  taken : RoseBy (g.D.Depot.taken l.fn.depot Primary) (g.D.Depot.taken l.depot Primary) (12 * l.into);
  stored : RoseBy (g.D.Depot.stored l.fn.depot Secondary) (g.D.Depot.stored l.depot Secondary) (12 * l.into);
  moves : Moves g.D.Depot.holds g.D.Depot.taken g.D.Depot.stored g.D.Depot.faults g.D.Depot.attached Primary Secondary l.fn.depot l.depot;
}
