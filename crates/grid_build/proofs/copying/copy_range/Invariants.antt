use Rattle.std.proofs.Common.{◌≤◌, ◌-◌}
use Rattle.lumos_depot.specs.Files.{range_at}
use Rattle.lumos_depot.specs.declared.depot.FileKind.TheVariants.{Primary, Secondary}
use Rattle.grid_build.specs.Copied.{HasCopied}
use Rattle.lumos_depot.specs.Steps.{Moves, RoseBy}
use Rattle.grid_build.proofs.copying.copy_range.Given as goal

-- so many bytes are copied
abbrev pub invariant-loop-done : goal.invariant-loop-done
invariant-loop-done g l = record {
  within : l.done ≤ l.size;
  copied : HasCopied (range_at l.from l.done) l.into l.done (g.D.Depot.holds l.fn.depot Primary) (g.D.Depot.holds l.fn.depot Secondary) (g.D.Depot.holds l.depot Secondary);
  taken : RoseBy (g.D.Depot.taken l.fn.depot Primary) (g.D.Depot.taken l.depot Primary) l.done;
  stored : RoseBy (g.D.Depot.stored l.fn.depot Secondary) (g.D.Depot.stored l.depot Secondary) l.done;
  moves : Moves g.D.Depot.holds g.D.Depot.taken g.D.Depot.stored g.D.Depot.faults g.D.Depot.attached Primary Secondary l.fn.depot l.depot;
}

abbrev pub decreases-loop-done : goal.decreases-loop-done
decreases-loop-done g l = l.size - l.done
