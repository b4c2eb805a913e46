use Rattle.std.proofs.Common.{length, Ok, subst, ◌∙◌, arith}
use Rattle.lumos_top.specs.Streaming.{GoesOn, HasPart}
use Rattle.lumos_top.proofs.StreamSteps.{failed_taken, last_taken, more_taken}
use Rattle.lumos_top.proofs.stream.read_schedule.Goals as goal

pub loop-taken-preserved : goal.loop-taken-preserved
loop-taken-preserved g c =
    let taken = c.loop-taken.invariant.reads in
    let part = subst (λ p. HasPart taken.seen c.read_part.new.piece c.read_part.new.schedule (g.I.Source.left c.loop-taken.input) (g.I.Source.left c.read_part.new.input) (Ok p)) c.in-Further.is (c.in-Ok.ensures.reads taken.seen taken.read taken.count) in
    let goes = subst (λ p. GoesOn c.loop-taken.taken (length c.read_part.new.piece) (Ok p)) c.in-Further.is c.in-Ok.ensures.on in
    record {
      short = goes.1;
      len = c.in-Ok.ensures.len ∙ c.loop-taken.invariant.len;
      later = let step = c.in-Ok.ensures.later in let before = c.loop-taken.invariant.later in omega arith;
      reads = more_taken taken.seen _ c.loop-taken.taken c.in-Further.count c.read_part.new.schedule _ _ _ taken.takes taken.count part;
    }

pub returns-in-Begins-clause-begun : goal.returns-in-Begins-clause-begun
returns-in-Begins-clause-begun g c =
    let taken = c.loop-taken.invariant.reads in
    let part = subst (λ p. HasPart taken.seen c.read_part.new.piece c.read_part.new.schedule (g.I.Source.left c.loop-taken.input) (g.I.Source.left c.read_part.new.input) (Ok p)) c.in-Begins.is (c.in-Ok.ensures.reads taken.seen taken.read taken.count) in
    last_taken taken.seen _ c.in-Begins.begun c.read_part.new.schedule _ _ _ taken.takes part

pub returns-in-Err-clause-begun : goal.returns-in-Err-clause-begun
returns-in-Err-clause-begun g c =
    let taken = c.loop-taken.invariant.reads in
    failed_taken taken.seen _ c.in-Err.stop c.read_part.new.schedule _ _ _ taken.takes (c.in-Err.ensures.reads taken.seen taken.read taken.count)
