use Rattle.std.proofs.Common.{◌≡◌, ◌<◌, ◌≤◌, ◌+◌, ◌*◌, suc, Bool, ℕ, List}
use Rattle.lumos_base.specs.declared.records.Edge.{Edge}
use Rattle.lumos_depot.specs.Steps.{Touches}
use Rattle.partition.specs.Parts.{chunk_of, first_vertex}
use Rattle.windows.specs.Kept.{load_bytes}
use Rattle.windows.specs.Windows.{Coding, IsSameRoom}
use Rattle.early_engine.specs.Early.{IsKept}
use Rattle.early_engine.specs.Files.{stores_of, takes_of}
use Rattle.early_engine.specs.Gone.{AreOf, HasGone, beside_of}
use Rattle.early_engine.specs.Grids.{FitsFiles, IsOnGrid}
use Rattle.early_engine.specs.Passes.{Place, file_of, places_below}
use Rattle.early_engine.specs.Steps.{AreEarly, IsMadeBelow, blocks_in}
use Rattle.early_engine.proofs.IterationLemmas.{edges_below}
use Rattle.early_engine.proofs.iteration.iterate.Given as goal

abbrev pub invariant-loop-j : goal.invariant-loop-j
invariant-loop-j g l =
    let p = g.G.VertexProgram.model l.program in
    let coding : Coding _ _ = record { value_of = g.G.Value.Fixed.value_of; value_width = g.G.Value.Fixed.WIDTH; sum_of = g.G.Sum.Fixed.value_of; sum_width = g.G.Sum.Fixed.WIDTH } in
    let cut = l.layout.parts in
    let begun = g.D.Depot.holds l.fn.depot in
    let held = g.D.Depot.holds l.depot in
    record {
      touches : Touches g.D.Depot.holds g.D.Depot.taken g.D.Depot.stored g.D.Depot.faults g.D.Depot.attached (takes_of l.kind) (stores_of l.ahead) l.fn.depot l.depot;
      few : blocks_in l.counts ≤ 256 * l.j;
      moved : l.counts.moved ≤ first_vertex cut.vertices (chunk_of cut) l.j;
      active_fits : l.room.active.parts ≡ l.fn.room.active.parts;
      was_hot : l.room.active.was_hot ≡ l.fn.room.active.was_hot;
      room : IsSameRoom l.fn.room.windows l.room.windows;
      fits : FitsFiles coding cut l.layout.table l.room.windows held;
      made : (edges : List Edge) (u : ℕ) → IsOnGrid edges cut l.layout.table begun → l.t ≡ suc u → IsKept coding p edges cut l.fn.options.mode l.fn.options.iterations u l.fn.room.windows begun l.fn.room.active.was_hot
          → IsMadeBelow coding p edges cut l.j u l.room.windows held l.room.active.was_hot l.room.active.is_hot l.counts.moved;
      early : (edges : List Edge) (u : ℕ) → IsOnGrid edges cut l.layout.table begun → l.t ≡ suc u → IsKept coding p edges cut l.fn.options.mode l.fn.options.iterations u l.fn.room.windows begun l.fn.room.active.was_hot
          → AreEarly coding p edges cut l.kind l.ahead l.j u l.room.windows held;
      most : g.D.Depot.taken l.depot (file_of l.kind) ≤ g.D.Depot.taken l.fn.depot (file_of l.kind) + 12 * edges_below l.kind l.layout.table l.j;
      gone : (size : Place → ℕ) (need : Place → Bool) (loads : Place → ℕ)
          → ((i k : ℕ) → i < cut.parts → k < l.j → AreOf l.layout.table (load_bytes coding l.fn.room.windows) l.fn.room.active.was_hot l.room.active.is_hot l.ahead size need loads i k)
          → HasGone l.kind size need loads (places_below l.kind cut.parts l.j) (beside_of cut g.G.Value.Fixed.WIDTH g.G.Sum.Fixed.WIDTH l.fn.room.windows.pinned l.kind l.ahead l.j)
          (g.D.Depot.taken l.fn.depot) (g.D.Depot.stored l.fn.depot) (g.D.Depot.taken l.depot) (g.D.Depot.stored l.depot) l.counts;
    }
