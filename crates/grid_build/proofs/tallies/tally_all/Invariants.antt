use Rattle.std.proofs.Common.{◌≤◌, ◌-◌}
use Rattle.lumos_depot.specs.declared.depot.FileKind.TheVariants.{Spool}
use Rattle.grid_build.specs.Tallied.{HasTallied}
use Rattle.lumos_depot.specs.Steps.{Reads}
use Rattle.grid_build.proofs.tallies.tally_all.Given as goal

-- the edges before the place are tallied
abbrev pub invariant-loop-place : goal.invariant-loop-place
invariant-loop-place g l = record {
  within : l.place ≤ l.count;
  reads : Reads g.D.Depot.holds g.D.Depot.taken g.D.Depot.stored g.D.Depot.faults g.D.Depot.attached Spool l.fn.depot l.depot;
  tallied : HasTallied l.vertices (g.D.Depot.holds l.fn.depot Spool) l.place l.first l.infos;
}

abbrev pub decreases-loop-place : goal.decreases-loop-place
decreases-loop-place g l = l.count - l.place
