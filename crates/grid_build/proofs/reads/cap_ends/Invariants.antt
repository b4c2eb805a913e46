use Rattle.std.proofs.Common.{◌≡◌, map, take, drop}
use Rattle.grid_build.specs.Passes.{capped}
use Rattle.grid_build.proofs.reads.cap_ends.Given as goal

abbrev pub invariant-loop-i : goal.invariant-loop-i
invariant-loop-i l = record {
  front : take l.i l.edges ≡ map (capped l.vertices) (take l.i l.fn.edges);
  rest : drop l.i l.edges ≡ drop l.i l.fn.edges;
}
