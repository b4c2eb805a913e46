use Rattle.std.proofs.Common.{◌++◌, ◌∙◌, [], Err, refl, sym, ap, subst, arith}
use Rattle.lumos_depot.specs.declared.depot.FileKind.{FileKind}
use Rattle.grid_build.specs.Growing.{StopsAt}
use Rattle.grid_build.specs.Spooling.{HasSpooled}
use Rattle.grid_build.specs.declared.options.BuildFault.{BuildFault}
use Rattle.lumos_depot.proofs.StepLemmas.{moves_then}
use Rattle.grid_build.proofs.Growing.{stopped, stops_by, stops_in, takes_none}
use Rattle.grid_build.proofs.SpoolEnds.{spool_end, spool_end_stop, spool_smaller, spool_stop, takes_then}
use Rattle.grid_build.proofs.spool.spool_text.Goals as goal

pub loop-more-smaller : goal.loop-more-smaller
loop-more-smaller g c =
    let reads = c.loop-more.invariant.reads in
    let piece = c.in-Ok.ensures.reads (g.D.Depot.stored c.args.depot.now FileKind.Spool) reads.0 reads.2 in
    spool_smaller _ _ c.read_piece.new.reader _ _ _ c.args.limits c.loop-more.reader.bytes c.loop-more.more c.in-Ok.some c.loop-more-test.true
    (c.in-Ok.ensures.limits ∙ c.loop-more.invariant.limits) piece.ends.0 c.in-Ok.ensures.onward c.in-Ok.ensures.progress

pub loop-more-preserved : goal.loop-more-preserved
loop-more-preserved g c =
    let reads = c.loop-more.invariant.reads in
    let piece = c.in-Ok.ensures.reads (g.D.Depot.stored c.args.depot.now FileKind.Spool) reads.0 reads.2 in
    record {
      limits = c.in-Ok.ensures.limits ∙ c.loop-more.invariant.limits;
      piece = c.read_piece.auto.piece ∙ c.loop-more.invariant.piece;
      places = c.read_piece.auto.places ∙ c.loop-more.invariant.places;
      room = c.read_piece.auto.bytes ∙ c.loop-more.invariant.room;
      later = let had = c.loop-more.invariant.later in let later = c.in-Ok.ensures.later in omega arith;
      moves = moves_then _ _ _ _ _ _ _ _ _ _ c.loop-more.invariant.moves c.in-Ok.ensures.moves;
      reads = (reads.0 ++ piece.piece, takes_then _ _ _ reads.0 piece.piece reads.1 piece.takes, piece.ends.0);
      ended = piece.ends.1;
    }

pub returns-in-Err-clause-list : goal.returns-in-Err-clause-list
returns-in-Err-clause-list g c =
    let reads = c.loop-more.invariant.reads in
    let before = g.D.Depot.stored c.args.depot.now FileKind.Spool in
    let old = g.I.Source.left c.args.input.now in
    let new = g.I.Source.left c.read_piece.new.input in
    let spool = g.D.Depot.holds c.read_piece.new.depot FileKind.Spool in
    subst (λ (why : BuildFault). HasSpooled c.args.limits old new spool (Err why)) (sym c.spool_fault.ensures)
    (spool_stop c.args.limits c.loop-more.reader.limits before reads.0 old _ new spool c.in-Err.stop _ _ _ _ c.loop-more.invariant.limits reads.1 (c.in-Err.ensures.reads before reads.0 reads.2))

pub returns-in-Ok-take_end-clause-list : goal.returns-in-Ok-take_end-clause-list
returns-in-Ok-take_end-clause-list g c =
    let reads = c.loop-more.invariant.reads in
    let before = g.D.Depot.stored c.args.depot.now FileKind.Spool in
    spool_end c.args.limits before reads.0 _ _ _ c.in-Ok-take_end.spooled _ reads.1 (c.loop-more.invariant.ended c.loop-more-test.false) (c.in-Ok-take_end.ensures.ends before reads.0 reads.2)

pub returns-in-Ok-take_end-clause-stored : goal.returns-in-Ok-take_end-clause-stored
returns-in-Ok-take_end-clause-stored g c =
    let reads = c.loop-more.invariant.reads in
    (c.in-Ok-take_end.ensures.ends (g.D.Depot.stored c.args.depot.now FileKind.Spool) reads.0 reads.2).1

pub returns-in-Err-take_end-clause-list : goal.returns-in-Err-take_end-clause-list
returns-in-Err-take_end-clause-list g c =
    let reads = c.loop-more.invariant.reads in
    let before = g.D.Depot.stored c.args.depot.now FileKind.Spool in
    let old = g.I.Source.left c.args.input.now in
    let new = g.I.Source.left c.loop-more.input in
    let spool = g.D.Depot.holds c.take_end.new.depot FileKind.Spool in
    subst (λ (why : BuildFault). HasSpooled c.args.limits old new spool (Err why)) (sym c.spool_fault-in-Err-take_end.ensures)
    (spool_end_stop c.args.limits before reads.0 old new spool c.in-Err-take_end.stop (g.D.Depot.stored c.take_end.new.depot FileKind.Spool) reads.1 (c.loop-more.invariant.ended c.loop-more-test.false) (c.in-Err-take_end.ensures.ends before reads.0 reads.2))

pub returns-in-Err-clause-grown : goal.returns-in-Err-clause-grown
returns-in-Err-clause-grown g c =
    let reads = c.loop-more.invariant.reads in
    let before = g.D.Depot.stored c.args.depot.now FileKind.Spool in
    (stopped c.args.limits _ before reads.0 c.loop-more.reader _ _ _ _ _ _ _ c.in-Err.stop c.loop-more.invariant.limits (c.loop-more.invariant.piece ∙ c.requires.piece) reads.1 reads.2 (c.in-Err.ensures.stopped before reads.0 reads.2)).1

pub returns-in-Err-clause-stops : goal.returns-in-Err-clause-stops
returns-in-Err-clause-stops g c =
    let reads = c.loop-more.invariant.reads in
    let before = g.D.Depot.stored c.args.depot.now FileKind.Spool in
    let old = g.I.Source.left c.args.input.now in
    let new = g.I.Source.left c.read_piece.new.input in
    subst (StopsAt c.args.limits old new) (sym c.spool_fault.ensures)
    (stopped c.args.limits _ before reads.0 c.loop-more.reader _ _ _ _ old _ new c.in-Err.stop c.loop-more.invariant.limits (c.loop-more.invariant.piece ∙ c.requires.piece) reads.1 reads.2 (c.in-Err.ensures.stopped before reads.0 reads.2)).0

pub returns-in-Ok-take_end-clause-grown : goal.returns-in-Ok-take_end-clause-grown
returns-in-Ok-take_end-clause-grown g c =
    let reads = c.loop-more.invariant.reads in
    record { taken = reads.0; takes = reads.1; grown = c.in-Ok-take_end.ensures.grown (g.D.Depot.stored c.args.depot.now FileKind.Spool) reads.0 reads.2 }

pub returns-in-Err-take_end-clause-grown : goal.returns-in-Err-take_end-clause-grown
returns-in-Err-take_end-clause-grown g c =
    let reads = c.loop-more.invariant.reads in
    record { taken = reads.0; takes = reads.1; grown = c.in-Err-take_end.ensures.grown (g.D.Depot.stored c.args.depot.now FileKind.Spool) reads.0 reads.2 }

pub returns-in-Err-take_end-clause-stops : goal.returns-in-Err-take_end-clause-stops
returns-in-Err-take_end-clause-stops g c =
    let reads = c.loop-more.invariant.reads in
    let before = g.D.Depot.stored c.args.depot.now FileKind.Spool in
    let old = g.I.Source.left c.args.input.now in
    let new = g.I.Source.left c.loop-more.input in
    subst (StopsAt c.args.limits old new) (sym c.spool_fault-in-Err-take_end.ensures)
    (stops_by c.args.limits old new c.in-Err-take_end.stop
    (stops_in c.args.limits 65536 before reads.0 [] c.loop-more.reader _ _ _ old new new c.loop-more.invariant.limits reads.1 (takes_none new new refl) (omega arith) reads.2)
    (λ is. absurd (c.in-Err-take_end.ensures.not_read (ap Err is))))
