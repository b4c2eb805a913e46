use Rattle.std.proofs.Common.{◌≤◌, ◌-◌}
use Rattle.lumos_depot.specs.declared.depot.FileKind.TheVariants.{Info, Spool}
use Rattle.lumos_depot.specs.Steps.{Moves}
use Rattle.grid_build.specs.Tallied.{HasWritten}
use Rattle.grid_build.proofs.tallies.write_windows.Given as goal

-- what leads out of the vertices below the first is written
abbrev pub invariant-loop-first : goal.invariant-loop-first
invariant-loop-first g l = record {
  within : l.first ≤ l.vertices;
  moves : Moves g.D.Depot.holds g.D.Depot.taken g.D.Depot.stored g.D.Depot.faults g.D.Depot.attached Spool Info l.fn.depot l.depot;
  written : HasWritten l.vertices (g.D.Depot.holds l.fn.depot Spool) l.count l.first (g.D.Depot.holds l.fn.depot Info) (g.D.Depot.holds l.depot Info);
}

abbrev pub decreases-loop-first : goal.decreases-loop-first
decreases-loop-first g l = l.vertices - l.first
