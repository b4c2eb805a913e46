use Rattle.std.proofs.Common.{◌≡◌, ◌≤◌, ◌+◌, ◌-◌, ◌*◌, ℕ, List, Some}
use Rattle.lumos_depot.specs.declared.depot.FileKind.TheVariants.{Meta}
use Rattle.grid_format.specs.Checks.{added, table_of}
use Rattle.grid_format.specs.Heads.{numbers}
use Rattle.lumos_depot.specs.Steps.{Reads}
use Rattle.grid_format.specs.Tables.{low_edges}
use Rattle.grid_format.proofs.head.check_columns.Given as goal

-- the counts of the columns so far are in the total, and the rest is still to be added
abbrev pub invariant-loop-j : goal.invariant-loop-j
invariant-loop-j g l = record {
  reads : Reads g.D.Depot.holds g.D.Depot.taken g.D.Depot.stored g.D.Depot.faults g.D.Depot.attached Meta l.fn.depot l.depot;
  fits : l.total ≤ l.info.edges;
  few : l.low ≤ l.total;
  lows : (meta : List ℕ) → g.D.Depot.holds l.fn.depot Meta ≡ Some meta → l.low ≡ low_edges (table_of l.parts meta) l.j;
  rest : (meta : List ℕ) → g.D.Depot.holds l.fn.depot Meta ≡ Some meta → added l.info.edges 32 0 (numbers 32 (l.parts * l.parts) meta) ≡ added l.info.edges (32 + 8 * (l.j * l.parts)) l.total (numbers (32 + 8 * (l.j * l.parts)) (l.parts * l.parts - l.j * l.parts) meta);
}
