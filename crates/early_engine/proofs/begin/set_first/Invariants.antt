use Rattle.std.proofs.Common.{◌≡◌, ◌<◌, ◌*◌, ℕ, sum_by}
use Rattle.std.specs.Prelude.{IfSome}
use Rattle.std.specs.List.{list_any, range_with_len}
use Rattle.active_sets.specs.Active.{hot_at}
use Rattle.lumos_depot.specs.Steps.{Moves, RoseBy}
use Rattle.lumos_depot.specs.declared.depot.FileKind.TheVariants.{Info, Values}
use Rattle.windows.specs.Kept.{Keeps, load_bytes}
use Rattle.windows.specs.Sums.{given_values}
use Rattle.windows.specs.Windows.{IsSameRoom, chunk_count, chunk_first}
use Rattle.windows.proofs.StayLemmas.{coding}
use Rattle.early_engine.specs.Grids.{FitsFiles}
use Rattle.early_engine.proofs.begin.set_first.Given as goal

-- the values of the first chunks are kept, and marked
abbrev pub invariant-loop-i : goal.invariant-loop-i
invariant-loop-i g l = record {
  parts : l.room.active.parts ≡ l.layout.parts.parts;
  kept : IfSome (g.D.Depot.holds l.fn.depot Info) (λ file. (k : ℕ) → k < l.i
      → Keeps (coding g.G.Value.Fixed.value_of g.G.Value.Fixed.WIDTH g.G.Sum.Fixed.value_of g.G.Sum.Fixed.WIDTH) l.room.windows (g.D.Depot.holds l.depot) 0 k (given_values (g.G.VertexProgram.model l.program) file));
  hot : IfSome (g.D.Depot.holds l.fn.depot Info) (λ file. (k : ℕ) → k < l.i
      → hot_at l.room.active.is_hot k ≡ list_any (λ v. (g.G.VertexProgram.model l.program).contributes (given_values (g.G.VertexProgram.model l.program) file v)) (range_with_len (chunk_first l.fn.room.windows k) (chunk_count l.fn.room.windows k)));
  room : IsSameRoom l.fn.room.windows l.room.windows;
  fits : FitsFiles (coding g.G.Value.Fixed.value_of g.G.Value.Fixed.WIDTH g.G.Sum.Fixed.value_of g.G.Sum.Fixed.WIDTH) l.layout.parts l.layout.table l.room.windows (g.D.Depot.holds l.depot);
  moves : Moves g.D.Depot.holds g.D.Depot.taken g.D.Depot.stored g.D.Depot.faults g.D.Depot.attached Info Values l.fn.depot l.depot;
  taken : RoseBy (g.D.Depot.taken l.fn.depot Info) (g.D.Depot.taken l.depot Info) (12 * chunk_first l.fn.room.windows l.i);
  stored : RoseBy (g.D.Depot.stored l.fn.depot Values) (g.D.Depot.stored l.depot Values)
      (sum_by (load_bytes (coding g.G.Value.Fixed.value_of g.G.Value.Fixed.WIDTH g.G.Sum.Fixed.value_of g.G.Sum.Fixed.WIDTH) l.fn.room.windows) (range_with_len 0 l.i));
}
