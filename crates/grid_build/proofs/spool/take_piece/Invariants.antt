use Rattle.std.proofs.Common.{◌≡◌, ◌≤◌, ◌-◌, ◌+◌, ℕ, List, ◌++◌, length, take}
use Rattle.lumos_depot.specs.declared.depot.FileKind.{FileKind}
use Rattle.lumos_depot.specs.Steps.{Moves}
use Rattle.grid_build.specs.SpoolSteps.{IsSpooling}
use Rattle.grid_build.proofs.spool.take_piece.Given as goal

abbrev pub invariant-loop-used : goal.invariant-loop-used
invariant-loop-used g l = record {
  used : l.used ≤ length l.text;
  places : length l.places ≡ length l.fn.places;
  room : length l.bytes ≡ length l.fn.bytes;
  limits : l.reader.limits ≡ l.fn.reader.limits;
  bytes : l.reader.bytes ≡ l.fn.reader.bytes + l.used;
  moves : Moves g.D.Depot.holds g.D.Depot.taken g.D.Depot.stored g.D.Depot.faults g.D.Depot.attached FileKind.Spool FileKind.Spool l.fn.depot l.depot;
  reads : (before : ℕ) (seen : List ℕ)
      → IsSpooling before seen l.fn.reader l.fn.count (g.D.Depot.holds l.fn.depot FileKind.Spool) (g.D.Depot.stored l.fn.depot FileKind.Spool)
      → IsSpooling before (seen ++ take l.used l.text) l.reader l.count (g.D.Depot.holds l.depot FileKind.Spool) (g.D.Depot.stored l.depot FileKind.Spool);
}

abbrev pub decreases-loop-used : goal.decreases-loop-used
decreases-loop-used g l = length l.text - l.used
