use Rattle.std.proofs.Common.{◌≡◌, ◌*◌, length, take}
use Rattle.std.specs.Prelude.{flat_map}
use Rattle.lumos_base.specs.Records.{info_bytes}
use Rattle.grid_build.proofs.tallies.put_infos.Given as goal

abbrev pub invariant-loop-i : goal.invariant-loop-i
invariant-loop-i l = record {
  room : length l.bytes ≡ 12 * length l.infos;
  made : take (12 * l.i) l.bytes ≡ flat_map info_bytes (take l.i l.infos);
}
