use Rattle.std.proofs.Common.{◌≡◌, ◌≤◌, ◌+◌, ◌-◌, ◌*◌, All, flat_map, length, take}
use Rattle.std.specs.Option.{option_map}
use Rattle.lumos_depot.specs.Files.{SameOutsideTold, overwritten}
use Rattle.lumos_depot.specs.Steps.{RoseBy, Stores}
use Rattle.value_files.proofs.writes.write_values.Given as goal

-- the first values are written
abbrev pub invariant-loop-done : goal.invariant-loop-done
invariant-loop-done g l = record {
  within : l.done ≤ length l.items;
  stores : Stores g.D.Depot.holds g.D.Depot.taken g.D.Depot.stored g.D.Depot.faults g.D.Depot.attached l.file l.fn.depot l.depot;
  written : g.D.Depot.holds l.depot l.file ≡ option_map (overwritten l.place (flat_map g.V.Fixed.bytes_of (take l.done l.items))) (g.D.Depot.holds l.fn.depot l.file);
  outside : SameOutsideTold l.place (g.V.Fixed.WIDTH * length l.items) (g.D.Depot.holds l.fn.depot l.file) (g.D.Depot.holds l.depot l.file);
  in_range : All g.V.Fixed.is_in_range (take l.done l.items);
  stored : RoseBy (g.D.Depot.stored l.fn.depot l.file) (g.D.Depot.stored l.depot l.file) (g.V.Fixed.WIDTH * l.done);
  most : g.D.Depot.stored l.depot l.file ≤ g.D.Depot.stored l.fn.depot l.file + g.V.Fixed.WIDTH * l.done;
}

abbrev pub decreases-loop-done : goal.decreases-loop-done
decreases-loop-done g l = length l.items - l.done
