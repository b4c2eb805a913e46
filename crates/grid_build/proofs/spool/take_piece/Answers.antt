use Rattle.std.proofs.Common.{◌++◌, take, ◌∙◌, ap, arith}
use Rattle.std.proofs.lemmas.List.{take_rest}
use Rattle.std.proofs.lemmas.Grind.{common_steps}
use Rattle.lumos_depot.proofs.StepLemmas.{moves_then}
use Rattle.grid_build.proofs.Growing.{grown_part}
use Rattle.grid_build.proofs.SpoolLemmas.{spooling_part, stops_part}
use Rattle.grid_build.proofs.spool.take_piece.Goals as goal

pub take_some-requires-clause-spooling : goal.take_some-requires-clause-spooling
take_some-requires-clause-spooling g c =
    let had = c.requires.spooling in
    (had.0, had.1 ++ take c.loop-used.used c.args.text.now, c.loop-used.invariant.reads had.0 had.1 had.2)

pub take_some-requires-clause-short : goal.take_some-requires-clause-short
take_some-requires-clause-short g c = let same = ap (λ l. l.max_bytes) c.loop-used.invariant.limits in omega arith

pub loop-used-preserved : goal.loop-used-preserved
loop-used-preserved g c = record {
  used = grind (arith, common_steps);
  places = c.take_some.auto.places ∙ c.loop-used.invariant.places;
  room = c.take_some.auto.bytes ∙ c.loop-used.invariant.room;
  limits = c.in-Ok.ensures.limits ∙ c.loop-used.invariant.limits;
  bytes = let count = c.in-Ok.ensures.counts in omega arith;
  moves = moves_then _ _ _ _ _ _ _ _ _ _ c.loop-used.invariant.moves c.in-Ok.ensures.moves;
  reads = λ before seen had.
      spooling_part before seen c.args.text.now _ c.loop-used.used c.in-Ok.some c.take_some.new.reader c.take_some.new.count _ _
      (take_rest c.args.text.now c.loop-used.used) (c.in-Ok.ensures.reads before (seen ++ take c.loop-used.used c.args.text.now) (c.loop-used.invariant.reads before seen had));
}

pub returns-in-Err-clause-reads : goal.returns-in-Err-clause-reads
returns-in-Err-clause-reads g c = λ before seen had.
    stops_part c.args.reader.now.limits c.loop-used.reader.limits seen c.args.text.now _ c.loop-used.used c.in-Err.stop c.loop-used.invariant.limits
    (take_rest c.args.text.now c.loop-used.used) (c.in-Err.ensures.reads before (seen ++ take c.loop-used.used c.args.text.now) (c.loop-used.invariant.reads before seen had))

pub returns-in-Err-clause-grown : goal.returns-in-Err-clause-grown
returns-in-Err-clause-grown g c = λ before seen had.
    grown_part c.args.reader.now.limits c.loop-used.reader.limits seen c.args.text.now _ c.loop-used.used before _ c.loop-used.invariant.limits
    (take_rest c.args.text.now c.loop-used.used) (c.in-Err.ensures.grown before (seen ++ take c.loop-used.used c.args.text.now) (c.loop-used.invariant.reads before seen had))
