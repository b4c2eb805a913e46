use Rattle.std.proofs.Common.{IfOk, sym, subst}
use Rattle.std.specs.Prelude.{codes}
use Rattle.lumos_law.specs.Combines.{IsTotal4}
use Rattle.flight_core.specs.Finish.{IsOver}
use Rattle.programs.specs.Spreading.{IsScores}
use Rattle.lumos_top.specs.Answers.{ran_as, ran_by}
use Rattle.lumos_top.specs.Programs.{seeds_from}
use Rattle.lumos_top.specs.Running.{EndShown, HasReport, IsOverAt, IsOverIn, IsReportOf, Leaves, RunMoves}
use Rattle.lumos_top.proofs.RunLemmas.{spread_as}
use Rattle.lumos_top.proofs.running.run_grid.Goals as goal

pub returns-in-PageRank-clause-shown : goal.returns-in-PageRank-clause-shown
returns-in-PageRank-clause-shown g c =
    subst (λ words. IfOk c.run_program.result (EndShown (IsOverAt c.args.iterate.iterations c.args.info (IsOverIn words)) (IsReportOf words c.args.iterate c.args.info (g.O.Sink.written c.args.out.now) (g.O.Sink.written c.run_program.new.out)))) (sym c.in-PageRank.is) c.run_program.ensures.shown

pub returns-in-PageRank-clause-leaves : goal.returns-in-PageRank-clause-leaves
returns-in-PageRank-clause-leaves g c = λ list parts of.
    subst (λ words. Leaves (ran_as words parts c.args.iterate list) (g.D.Depot.holds c.args.depot.now) (g.O.Sink.written c.args.out.now) (g.O.Sink.written c.run_program.new.out) c.run_program.result) (sym c.in-PageRank.is) (c.run_program.ensures.leaves list parts of)

pub returns-in-PageRank-clause-moves : goal.returns-in-PageRank-clause-moves
returns-in-PageRank-clause-moves g c = λ list parts of.
    subst (λ words. RunMoves (ran_as words parts c.args.iterate list) (g.D.Depot.holds c.args.depot.now) (g.D.Depot.taken c.args.depot.now) (g.D.Depot.taken c.run_program.new.depot) (g.D.Depot.stored c.args.depot.now) (g.D.Depot.stored c.run_program.new.depot) c.run_program.result) (sym c.in-PageRank.is) (c.run_program.ensures.moves list parts of)

pub returns-in-Spreading-clause-shown : goal.returns-in-Spreading-clause-shown
returns-in-Spreading-clause-shown g c =
    subst (λ words. IfOk c.run_program-in-Spreading.result (EndShown (IsOverAt c.args.iterate.iterations c.args.info (IsOverIn words)) (IsReportOf words c.args.iterate c.args.info (g.O.Sink.written c.args.out.now) (g.O.Sink.written c.run_program-in-Spreading.new.out)))) (sym c.in-Spreading.is)
    (spread_as (λ p. IfOk c.run_program-in-Spreading.result (EndShown (IsOverAt c.args.iterate.iterations c.args.info (IsOver IsScores IsTotal4 p)) (HasReport p (codes "spreading") c.args.iterate c.args.info (g.O.Sink.written c.args.out.now) (g.O.Sink.written c.run_program-in-Spreading.new.out)))) _ c.in-Spreading.unit _ c.in-Spreading.share _ (seeds_from c.in-Spreading.seeds) c.spreading-program.ensures.unit c.spreading-program.ensures.share c.spreading-program.ensures.seeds c.run_program-in-Spreading.ensures.shown)

pub returns-in-Spreading-clause-leaves : goal.returns-in-Spreading-clause-leaves
returns-in-Spreading-clause-leaves g c = λ list parts of.
    subst (λ words. Leaves (ran_as words parts c.args.iterate list) (g.D.Depot.holds c.args.depot.now) (g.O.Sink.written c.args.out.now) (g.O.Sink.written c.run_program-in-Spreading.new.out) c.run_program-in-Spreading.result) (sym c.in-Spreading.is)
    (spread_as (λ p. Leaves (ran_by p 40 32 (codes "spreading") parts c.args.iterate list) (g.D.Depot.holds c.args.depot.now) (g.O.Sink.written c.args.out.now) (g.O.Sink.written c.run_program-in-Spreading.new.out) c.run_program-in-Spreading.result) _ c.in-Spreading.unit _ c.in-Spreading.share _ (seeds_from c.in-Spreading.seeds) c.spreading-program.ensures.unit c.spreading-program.ensures.share c.spreading-program.ensures.seeds (c.run_program-in-Spreading.ensures.leaves list parts of))

pub returns-in-Spreading-clause-moves : goal.returns-in-Spreading-clause-moves
returns-in-Spreading-clause-moves g c = λ list parts of.
    subst (λ words. RunMoves (ran_as words parts c.args.iterate list) (g.D.Depot.holds c.args.depot.now) (g.D.Depot.taken c.args.depot.now) (g.D.Depot.taken c.run_program-in-Spreading.new.depot) (g.D.Depot.stored c.args.depot.now) (g.D.Depot.stored c.run_program-in-Spreading.new.depot) c.run_program-in-Spreading.result) (sym c.in-Spreading.is)
    (spread_as (λ p. RunMoves (ran_by p 40 32 (codes "spreading") parts c.args.iterate list) (g.D.Depot.holds c.args.depot.now) (g.D.Depot.taken c.args.depot.now) (g.D.Depot.taken c.run_program-in-Spreading.new.depot) (g.D.Depot.stored c.args.depot.now) (g.D.Depot.stored c.run_program-in-Spreading.new.depot) c.run_program-in-Spreading.result) _ c.in-Spreading.unit _ c.in-Spreading.share _ (seeds_from c.in-Spreading.seeds) c.spreading-program.ensures.unit c.spreading-program.ensures.share c.spreading-program.ensures.seeds (c.run_program-in-Spreading.ensures.moves list parts of))

pub returns-in-Paths-clause-shown : goal.returns-in-Paths-clause-shown
returns-in-Paths-clause-shown g c =
    subst (λ words. IfOk c.run_program-in-Paths.result (EndShown (IsOverAt c.args.iterate.iterations c.args.info (IsOverIn words)) (IsReportOf words c.args.iterate c.args.info (g.O.Sink.written c.args.out.now) (g.O.Sink.written c.run_program-in-Paths.new.out)))) (sym c.in-Paths.is) c.run_program-in-Paths.ensures.shown

pub returns-in-Paths-clause-leaves : goal.returns-in-Paths-clause-leaves
returns-in-Paths-clause-leaves g c = λ list parts of.
    subst (λ words. Leaves (ran_as words parts c.args.iterate list) (g.D.Depot.holds c.args.depot.now) (g.O.Sink.written c.args.out.now) (g.O.Sink.written c.run_program-in-Paths.new.out) c.run_program-in-Paths.result) (sym c.in-Paths.is) (c.run_program-in-Paths.ensures.leaves list parts of)

pub returns-in-Paths-clause-moves : goal.returns-in-Paths-clause-moves
returns-in-Paths-clause-moves g c = λ list parts of.
    subst (λ words. RunMoves (ran_as words parts c.args.iterate list) (g.D.Depot.holds c.args.depot.now) (g.D.Depot.taken c.args.depot.now) (g.D.Depot.taken c.run_program-in-Paths.new.depot) (g.D.Depot.stored c.args.depot.now) (g.D.Depot.stored c.run_program-in-Paths.new.depot) c.run_program-in-Paths.result) (sym c.in-Paths.is) (c.run_program-in-Paths.ensures.moves list parts of)

pub returns-in-Components-clause-shown : goal.returns-in-Components-clause-shown
returns-in-Components-clause-shown g c =
    subst (λ words. IfOk c.run_program-in-Components.result (EndShown (IsOverAt c.args.iterate.iterations c.args.info (IsOverIn words)) (IsReportOf words c.args.iterate c.args.info (g.O.Sink.written c.args.out.now) (g.O.Sink.written c.run_program-in-Components.new.out)))) (sym c.in-Components.is) c.run_program-in-Components.ensures.shown

pub returns-in-Components-clause-leaves : goal.returns-in-Components-clause-leaves
returns-in-Components-clause-leaves g c = λ list parts of.
    subst (λ words. Leaves (ran_as words parts c.args.iterate list) (g.D.Depot.holds c.args.depot.now) (g.O.Sink.written c.args.out.now) (g.O.Sink.written c.run_program-in-Components.new.out) c.run_program-in-Components.result) (sym c.in-Components.is) (c.run_program-in-Components.ensures.leaves list parts of)

pub returns-in-Components-clause-moves : goal.returns-in-Components-clause-moves
returns-in-Components-clause-moves g c = λ list parts of.
    subst (λ words. RunMoves (ran_as words parts c.args.iterate list) (g.D.Depot.holds c.args.depot.now) (g.D.Depot.taken c.args.depot.now) (g.D.Depot.taken c.run_program-in-Components.new.depot) (g.D.Depot.stored c.args.depot.now) (g.D.Depot.stored c.run_program-in-Components.new.depot) c.run_program-in-Components.result) (sym c.in-Components.is) (c.run_program-in-Components.ensures.moves list parts of)

pub returns-in-Tally-clause-shown : goal.returns-in-Tally-clause-shown
returns-in-Tally-clause-shown g c =
    subst (λ words. IfOk c.run_program-in-Tally.result (EndShown (IsOverAt c.args.iterate.iterations c.args.info (IsOverIn words)) (IsReportOf words c.args.iterate c.args.info (g.O.Sink.written c.args.out.now) (g.O.Sink.written c.run_program-in-Tally.new.out)))) (sym c.in-Tally.is) c.run_program-in-Tally.ensures.shown

pub returns-in-Tally-clause-leaves : goal.returns-in-Tally-clause-leaves
returns-in-Tally-clause-leaves g c = λ list parts of.
    subst (λ words. Leaves (ran_as words parts c.args.iterate list) (g.D.Depot.holds c.args.depot.now) (g.O.Sink.written c.args.out.now) (g.O.Sink.written c.run_program-in-Tally.new.out) c.run_program-in-Tally.result) (sym c.in-Tally.is) (c.run_program-in-Tally.ensures.leaves list parts of)

pub returns-in-Tally-clause-moves : goal.returns-in-Tally-clause-moves
returns-in-Tally-clause-moves g c = λ list parts of.
    subst (λ words. RunMoves (ran_as words parts c.args.iterate list) (g.D.Depot.holds c.args.depot.now) (g.D.Depot.taken c.args.depot.now) (g.D.Depot.taken c.run_program-in-Tally.new.depot) (g.D.Depot.stored c.args.depot.now) (g.D.Depot.stored c.run_program-in-Tally.new.depot) c.run_program-in-Tally.result) (sym c.in-Tally.is) (c.run_program-in-Tally.ensures.moves list parts of)
