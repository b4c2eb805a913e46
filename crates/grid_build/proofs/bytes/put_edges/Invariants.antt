use Rattle.std.proofs.Common.{◌≡◌, ◌*◌, length, take}
use Rattle.std.specs.Prelude.{flat_map}
use Rattle.lumos_base.specs.Records.{edge_bytes}
use Rattle.grid_build.proofs.bytes.put_edges.Given as goal

abbrev pub invariant-loop-i : goal.invariant-loop-i
invariant-loop-i l = record {
  room : length l.bytes ≡ 12 * length l.edges;
  made : take (12 * l.i) l.bytes ≡ flat_map edge_bytes (take l.i l.edges);
}
