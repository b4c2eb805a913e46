use Rattle.std.proofs.Common.{◌≡◌, ◌-◌, ◌++◌, length, take, drop, ap, ◌∙◌, subst, arith}
use Rattle.std.proofs.lemmas.List.{length-drop, take_rest}
use Rattle.flight_core.specs.ScheduleRead.{HasRead, IsFaultOf, StopsIn}
use Rattle.flight_core.proofs.ScheduleSteps.{part_taken, part_whole, stopped_behind}
use Rattle.flight_core.proofs.schedule.ScheduleReader.feed.Goals as goal

pub loop-used-preserved : goal.loop-used-preserved
loop-used-preserved c =
    let part : take (length c.args.piece.now - c.loop-used.used) (drop c.loop-used.used c.args.piece.now) ≡ drop c.loop-used.used c.args.piece.now = take_rest c.args.piece.now c.loop-used.used in
    let left = ap length part ∙ length-drop c.loop-used.used c.args.piece.now in
    let now = c.in-Ok.ensures.within in
    record {
      used = omega arith;
      none = c.in-Ok.ensures.kept ∙ c.loop-used.invariant.none;
      reads = λ seen read.
          subst (λ t. HasRead t c.take_line.new.self)
          (part_taken seen c.args.piece.now (take (length c.args.piece.now - c.loop-used.used) (drop c.loop-used.used c.args.piece.now)) c.loop-used.used c.in-Ok.taken part)
          (c.in-Ok.ensures.reads (seen ++ take c.loop-used.used c.args.piece.now) (c.loop-used.invariant.reads seen read));
    }

pub returns-in-Err-clause-reads : goal.returns-in-Err-clause-reads
returns-in-Err-clause-reads c = λ seen read.
    let part : take (length c.args.piece.now - c.loop-used.used) (drop c.loop-used.used c.args.piece.now) ≡ drop c.loop-used.used c.args.piece.now = take_rest c.args.piece.now c.loop-used.used in
    subst (λ t. IsFaultOf t c.in-Err.fault)
    (part_whole seen c.args.piece.now (take (length c.args.piece.now - c.loop-used.used) (drop c.loop-used.used c.args.piece.now)) c.loop-used.used part)
    (c.in-Err.ensures.reads (seen ++ take c.loop-used.used c.args.piece.now) (c.loop-used.invariant.reads seen read))

pub returns-in-Err-clause-stopped : goal.returns-in-Err-clause-stopped
returns-in-Err-clause-stopped c = λ seen read.
    let part : take (length c.args.piece.now - c.loop-used.used) (drop c.loop-used.used c.args.piece.now) ≡ drop c.loop-used.used c.args.piece.now = take_rest c.args.piece.now c.loop-used.used in
    subst (λ t. StopsIn seen t c.take_line.new.self.events c.in-Err.fault)
    (part_whole seen c.args.piece.now (take (length c.args.piece.now - c.loop-used.used) (drop c.loop-used.used c.args.piece.now)) c.loop-used.used part)
    (stopped_behind seen (take c.loop-used.used c.args.piece.now) _ c.take_line.new.self.events c.in-Err.fault
    (c.in-Err.ensures.stopped (seen ++ take c.loop-used.used c.args.piece.now) (c.loop-used.invariant.reads seen read)))
