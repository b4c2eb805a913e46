use Rattle.lumos_depot.specs.declared.depot.FileKind.TheVariants.{Values}
use Rattle.lumos_depot.proofs.StepLemmas.{moves_then, reads_moves}
use Rattle.windows.proofs.ResultLemmas.{stores_moves}
use Rattle.windows.proofs.close.close_in_file.Goals as goal

pub returns-in-Ok-store_filed-clause-moves : goal.returns-in-Ok-store_filed-clause-moves
returns-in-Ok-store_filed-clause-moves g c =
    moves_then g.D.Depot.holds g.D.Depot.taken g.D.Depot.stored g.D.Depot.faults g.D.Depot.attached Values Values _ c.load_filed.new.depot _
    (reads_moves g.D.Depot.holds g.D.Depot.taken g.D.Depot.stored g.D.Depot.faults g.D.Depot.attached Values Values _ _ c.in-Ok.ensures.reads)
    (stores_moves g.D.Depot.holds g.D.Depot.taken g.D.Depot.stored g.D.Depot.faults g.D.Depot.attached Values Values _ _ c.in-Ok-store_filed.ensures.stores)

pub returns-in-Err-store_filed-clause-moves : goal.returns-in-Err-store_filed-clause-moves
returns-in-Err-store_filed-clause-moves g c =
    moves_then g.D.Depot.holds g.D.Depot.taken g.D.Depot.stored g.D.Depot.faults g.D.Depot.attached Values Values _ c.load_filed.new.depot _
    (reads_moves g.D.Depot.holds g.D.Depot.taken g.D.Depot.stored g.D.Depot.faults g.D.Depot.attached Values Values _ _ c.in-Ok.ensures.reads)
    (stores_moves g.D.Depot.holds g.D.Depot.taken g.D.Depot.stored g.D.Depot.faults g.D.Depot.attached Values Values _ _ c.in-Err-store_filed.ensures.stores)
