use Rattle.std.proofs.Common.{◌≡◌, ◌≤◌, sum_by}
use Rattle.std.specs.List.{range_with_len}
use Rattle.lumos_depot.specs.Steps.{Reads, RoseBy}
use Rattle.lumos_depot.specs.declared.depot.FileKind.TheVariants.{Values}
use Rattle.windows.specs.Kept.{Stays, load_bytes}
use Rattle.windows.proofs.StayLemmas.{coding}
use Rattle.early_engine.specs.Grids.{FitsFiles}
use Rattle.early_engine.proofs.ShownLemmas.{HasShown}
use Rattle.early_engine.proofs.write.write_values.Given as goal

-- the lines of the first chunks are written
abbrev pub invariant-loop-j : goal.invariant-loop-j
invariant-loop-j g l = record {
  reads : Reads g.D.Depot.holds g.D.Depot.taken g.D.Depot.stored g.D.Depot.faults g.D.Depot.attached Values l.fn.depot l.depot;
  alone : l.windows ≡ record l.fn.windows { first_part = l.windows.first_part; first = l.windows.first };
  stays : Stays (coding g.G.Value.Fixed.value_of g.G.Value.Fixed.WIDTH g.G.Sum.Fixed.value_of g.G.Sum.Fixed.WIDTH) l.fn.windows (g.D.Depot.holds l.fn.depot) l.windows (g.D.Depot.holds l.depot);
  fits : FitsFiles (coding g.G.Value.Fixed.value_of g.G.Value.Fixed.WIDTH g.G.Sum.Fixed.value_of g.G.Sum.Fixed.WIDTH) l.layout.parts l.layout.table l.windows (g.D.Depot.holds l.depot);
  taken : RoseBy (g.D.Depot.taken l.fn.depot Values) (g.D.Depot.taken l.depot Values) (sum_by (load_bytes (coding g.G.Value.Fixed.value_of g.G.Value.Fixed.WIDTH g.G.Sum.Fixed.value_of g.G.Sum.Fixed.WIDTH) l.fn.windows) (range_with_len 0 l.j));
  later : g.O.Sink.faults l.fn.out ≤ g.O.Sink.faults l.out;
  shown : HasShown (coding g.G.Value.Fixed.value_of g.G.Value.Fixed.WIDTH g.G.Sum.Fixed.value_of g.G.Sum.Fixed.WIDTH) l.fn.windows (g.D.Depot.holds l.fn.depot) l.t (g.G.VertexProgram.model l.program) l.j
      (g.O.Sink.written l.fn.out) (g.O.Sink.written l.out);
}
