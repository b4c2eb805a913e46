use Rattle.std.proofs.Common.{refl, sym, ◌∙◌, arith}
use Rattle.std.proofs.lemmas.List.{length-take-le}
use Rattle.lumos_depot.specs.declared.depot.FileKind.TheVariants.{Info, Spool}
use Rattle.lumos_depot.proofs.StepLemmas.{moves_none, moves_then}
use Rattle.grid_build.proofs.TallyLemmas.{tallied_as}
use Rattle.grid_build.proofs.WindowLemmas.{windows_long, windows_next, windows_none}
use Rattle.grid_build.proofs.tallies.write_windows.Goals as goal

pub loop-first-init : goal.loop-first-init
loop-first-init g c = record {
  within = omega arith;
  moves = moves_none g.D.Depot.holds g.D.Depot.taken g.D.Depot.stored g.D.Depot.faults g.D.Depot.attached Spool Info c.args.depot.now;
  written = windows_none c.args.vertices (g.D.Depot.holds c.args.depot.now Spool) c.args.count (g.D.Depot.holds c.args.depot.now Info);
}

pub write_window-requires-clause-info : goal.write_window-requires-clause-info
write_window-requires-clause-info g c =
    windows_long c.args.vertices (g.D.Depot.holds c.args.depot.now Spool) c.args.count c.loop-first.first _ _ c.loop-first.invariant.written c.requires.info c.loop-first.invariant.within

pub loop-first-preserved : goal.loop-first-preserved
loop-first-preserved g c =
    let is = c.loop-first.invariant in
    let size = c.write_window.auto.infos ∙ length-take-le c.min-len.result c.loop-first.infos (omega arith) in
    let same = is.moves.contents Spool (λ e. absurd (cc)) in
    record {
      within = omega arith;
      moves = moves_then g.D.Depot.holds g.D.Depot.taken g.D.Depot.stored g.D.Depot.faults g.D.Depot.attached Spool Info _ _ _ is.moves c.in-Ok.ensures.moves;
      written = windows_next c.args.vertices (g.D.Depot.holds c.args.depot.now Spool) c.args.count c.loop-first.first c.min-len.result c.write_window.new.infos _ _ _ is.written
          (tallied_as _ _ _ _ _ _ _ (sym same) refl c.in-Ok.ensures.tallied) size c.requires.info (omega arith) c.in-Ok.ensures.written;
    }
