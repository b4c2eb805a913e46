use Rattle.std.proofs.Common.{arith}
use Rattle.lumos_depot.specs.declared.depot.FileKind.TheVariants.{Info, Spool}
use Rattle.grid_build.proofs.InfoBytes.{infos_next}
use Rattle.lumos_depot.proofs.StepLemmas.{moves_then}
use Rattle.grid_build.proofs.tallies.write_infos.Goals as goal

pub loop-i-preserved : goal.loop-i-preserved
loop-i-preserved g c =
    let is = c.loop-i.invariant in
    record {
      within = omega arith;
      moves = moves_then g.D.Depot.holds g.D.Depot.taken g.D.Depot.stored g.D.Depot.faults g.D.Depot.attached Spool Info _ _ _ is.moves c.in-Ok.ensures.moves;
      written = infos_next c.args.first c.from.result c.loop-i.i c.min-len.result c.args.infos.now _ _ _ c.from.ensures (omega arith) c.requires.inside is.written c.in-Ok.ensures.written;
    }
