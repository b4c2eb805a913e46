use Rattle.grid_build.proofs.WindowLemmas.{windows_whole}
use Rattle.lumos_depot.specs.declared.depot.FileKind.TheVariants.{Info, Spool}
use Rattle.grid_build.proofs.tallies.write_info.Goals as goal

pub returns-clause-value : goal.returns-clause-value
returns-clause-value g c = λ list told many.
    windows_whole c.args.vertices (g.D.Depot.holds c.args.depot.now Spool) c.args.count (g.D.Depot.holds c.args.depot.now Info) _ c.in-Ok-write_windows.ensures.written c.requires.info
    (g.D.Depot.tells_all c.args.depot.now Info Spool) list told many
