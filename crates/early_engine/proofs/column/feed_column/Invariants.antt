use Rattle.std.proofs.Common.{◌≡◌, ◌<◌, ◌≤◌, ◌+◌, ◌-◌, ◌*◌, ◌++◌, [], min, suc, Bool, true, ℕ, List}
use Rattle.lumos_base.specs.declared.records.Edge.{Edge}
use Rattle.lumos_depot.specs.Steps.{Touches}
use Rattle.lumos_depot.specs.declared.depot.FileKind.{FileKind}
use Rattle.lumos_law.specs.Sync.{values}
use Rattle.partition.specs.Blocks.{column}
use Rattle.partition.specs.Parts.{chunk_of}
use Rattle.windows.specs.Kept.{Stays, load_bytes}
use Rattle.windows.specs.Sums.{HasNext, HasSums}
use Rattle.windows.specs.Windows.{Coding}
use Rattle.grid_format.specs.Tables.{edges_in_rows}
use Rattle.early_engine.specs.Files.{stores_none, takes_of}
use Rattle.early_engine.specs.Gone.{AreOf, Beside, HasGone}
use Rattle.early_engine.specs.Grids.{FitsFiles, IsOnGrid}
use Rattle.early_engine.specs.Passes.{Place, file_of, first_row}
use Rattle.early_engine.specs.Steps.{IsReady, below, blocks_in}
use Rattle.early_engine.proofs.PassLemmas.{rows_from}
use Rattle.early_engine.proofs.column.feed_column.Given as goal

abbrev pub invariant-loop-i : goal.invariant-loop-i
invariant-loop-i g l =
    let p = g.G.VertexProgram.model l.program in
    let coding : Coding _ _ = record { value_of = g.G.Value.Fixed.value_of; value_width = g.G.Value.Fixed.WIDTH; sum_of = g.G.Sum.Fixed.value_of; sum_width = g.G.Sum.Fixed.WIDTH } in
    let cut = l.layout.parts in
    let first = first_row l.kind l.j in
    let begun = g.D.Depot.holds l.fn.depot in
    record {
      touches : Touches g.D.Depot.holds g.D.Depot.taken g.D.Depot.stored g.D.Depot.faults g.D.Depot.attached (takes_of l.kind) stores_none l.fn.depot l.depot;
      from : first ≤ l.i;
      few : blocks_in l.counts ≤ blocks_in l.fn.counts + l.i;
      moved : l.counts.moved ≡ l.fn.counts.moved;
      part : l.windows.sums_part ≡ l.fn.windows.sums_part;
      stays : Stays coding l.fn.windows begun l.windows (g.D.Depot.holds l.depot);
      fits : FitsFiles coding cut l.layout.table l.windows (g.D.Depot.holds l.depot);
      fed : (edges : List Edge) (u : ℕ) → IsOnGrid edges cut l.layout.table begun → l.t ≡ suc u → IsReady coding p edges cut (below l.j) u l.fn.windows begun l.active.was_hot l.active.is_hot
          → HasSums p l.fn.windows l.j (values p edges u) (column edges (chunk_of cut) l.j first) → HasSums p l.windows l.j (values p edges u) (column edges (chunk_of cut) l.j l.i);
      early : (edges : List Edge) (u : ℕ) → IsOnGrid edges cut l.layout.table begun → l.t ≡ suc u → l.ahead ≡ true → IsReady coding p edges cut (below l.j) u l.fn.windows begun l.active.was_hot l.active.is_hot
          → HasNext p l.fn.windows l.j (values p edges (suc u)) [] → HasNext p l.windows l.j (values p edges (suc u)) (column edges (chunk_of cut) l.j (min l.i l.j));
      most : g.D.Depot.taken l.depot (file_of l.kind) ≤ g.D.Depot.taken l.fn.depot (file_of l.kind) + 12 * edges_in_rows l.layout.table l.j first (l.i - first);
      gone : (size : Place → ℕ) (need : Place → Bool) (loads : Place → ℕ) (bs : List Place) (beside : Beside) (taken stored : FileKind → ℕ)
          → ((i : ℕ) → i < cut.parts → AreOf l.layout.table (load_bytes coding l.fn.windows) l.active.was_hot l.active.is_hot l.ahead size need loads i l.j)
          → HasGone l.kind size need loads bs beside taken stored (g.D.Depot.taken l.fn.depot) (g.D.Depot.stored l.fn.depot) l.fn.counts
          → HasGone l.kind size need loads (bs ++ rows_from first (l.i - first) l.j) beside taken stored (g.D.Depot.taken l.depot) (g.D.Depot.stored l.depot) l.counts;
    }
