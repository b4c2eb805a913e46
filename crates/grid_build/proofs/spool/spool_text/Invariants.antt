use Rattle.std.proofs.Common.{◌≡◌, ◌≤◌, ◌+◌, ◌-◌, ℕ, List, length, false, cond}
use Rattle.lumos_depot.specs.Streams.{Takes}
use Rattle.lumos_depot.specs.declared.depot.FileKind.{FileKind}
use Rattle.lumos_depot.specs.Steps.{Moves}
use Rattle.grid_build.specs.SpoolSteps.{IsAtEnd, IsSpooling}
use Rattle.grid_build.proofs.spool.spool_text.Given as goal

abbrev pub invariant-loop-more : goal.invariant-loop-more
invariant-loop-more g l = record {
  limits : l.reader.limits ≡ l.fn.limits;
  piece : length l.piece ≡ length l.fn.piece;
  places : length l.places ≡ length l.fn.places;
  room : length l.bytes ≡ length l.fn.bytes;
  later : g.I.Source.faults l.fn.input ≤ g.I.Source.faults l.input;
  moves : Moves g.D.Depot.holds g.D.Depot.taken g.D.Depot.stored g.D.Depot.faults g.D.Depot.attached FileKind.Spool FileKind.Spool l.fn.depot l.depot;
  reads : (seen : List ℕ) × Takes (g.I.Source.left l.fn.input) (g.I.Source.left l.input) seen
      × IsSpooling (g.D.Depot.stored l.fn.depot FileKind.Spool) seen l.reader l.count (g.D.Depot.holds l.depot FileKind.Spool) (g.D.Depot.stored l.depot FileKind.Spool);
  ended : l.more ≡ false → IsAtEnd (g.I.Source.left l.input);
}

abbrev pub decreases-loop-more : goal.decreases-loop-more
decreases-loop-more g l = cond l.more 1 0 + (l.fn.limits.max_bytes - l.reader.bytes)
