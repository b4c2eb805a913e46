use Rattle.std.proofs.Common.{◌≡◌, ◌≤◌, ◌-◌, ◌*◌, length, take}
use Rattle.std.specs.Prelude.{flat_map}
use Rattle.std.specs.Option.{option_map}
use Rattle.lumos_base.specs.Records.{info_bytes}
use Rattle.lumos_depot.specs.Files.{overwritten}
use Rattle.lumos_depot.specs.declared.depot.FileKind.TheVariants.{Info, Spool}
use Rattle.lumos_depot.specs.Steps.{Moves}
use Rattle.grid_build.proofs.tallies.write_infos.Given as goal

-- the tallies so far are written
abbrev pub invariant-loop-i : goal.invariant-loop-i
invariant-loop-i g l = record {
  within : l.i ≤ length l.infos;
  moves : Moves g.D.Depot.holds g.D.Depot.taken g.D.Depot.stored g.D.Depot.faults g.D.Depot.attached Spool Info l.fn.depot l.depot;
  written : g.D.Depot.holds l.depot Info ≡ option_map (overwritten (12 * l.first) (flat_map info_bytes (take l.i l.infos))) (g.D.Depot.holds l.fn.depot Info);
}

abbrev pub decreases-loop-i : goal.decreases-loop-i
decreases-loop-i g l = length l.infos - l.i
