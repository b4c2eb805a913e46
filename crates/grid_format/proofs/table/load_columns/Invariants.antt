use Rattle.std.proofs.Common.{◌≡◌, ◌≤◌, ◌+◌, ◌-◌, ◌*◌, ◌++◌, ℕ, List, Some, sum, vec_len, vec_capacity}
use Rattle.lumos_depot.specs.declared.depot.FileKind.TheVariants.{Meta}
use Rattle.grid_format.specs.Checks.{added}
use Rattle.grid_format.specs.Heads.{numbers}
use Rattle.lumos_depot.specs.Steps.{Reads}
use Rattle.grid_format.proofs.table.load_columns.Given as goal

-- the counts of the columns so far are there and in the total, and the rest is still to come
abbrev pub invariant-loop-j : goal.invariant-loop-j
invariant-loop-j g l = record {
  reads : Reads g.D.Depot.holds g.D.Depot.taken g.D.Depot.stored g.D.Depot.faults g.D.Depot.attached Meta l.fn.depot l.depot;
  fits : l.total ≤ l.info.edges;
  sums : sum l.counts.items ≡ l.total;
  long : vec_len l.counts ≡ l.j * l.parts;
  room : l.parts * l.parts ≤ vec_capacity l.counts;
  rest : (meta : List ℕ) → g.D.Depot.holds l.fn.depot Meta ≡ Some meta → added l.info.edges 32 0 (numbers 32 (l.parts * l.parts) meta) ≡ added l.info.edges (32 + 8 * (l.j * l.parts)) l.total (numbers (32 + 8 * (l.j * l.parts)) (l.parts * l.parts - l.j * l.parts) meta);
  items : (meta : List ℕ) → g.D.Depot.holds l.fn.depot Meta ≡ Some meta → l.counts.items ++ numbers (32 + 8 * (l.j * l.parts)) (l.parts * l.parts - l.j * l.parts) meta ≡ numbers 32 (l.parts * l.parts) meta;
}
