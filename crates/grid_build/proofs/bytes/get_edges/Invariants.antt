use Rattle.std.proofs.Common.{◌≡◌, ◌*◌, List, length, take}
use Rattle.std.specs.Prelude.{All, flat_map}
use Rattle.lumos_base.specs.Records.{IsEdge, edge_bytes}
use Rattle.lumos_base.specs.declared.records.Edge.{Edge}
use Rattle.grid_build.proofs.bytes.get_edges.Given as goal

abbrev pub invariant-loop-i : goal.invariant-loop-i
invariant-loop-i l = record {
  room : length l.bytes ≡ 12 * length l.edges;
  read : (list : List Edge) → All IsEdge list → l.bytes ≡ flat_map edge_bytes list → take l.i l.edges ≡ take l.i list;
  bytes : flat_map edge_bytes (take l.i l.edges) ≡ take (12 * l.i) l.bytes;
}
