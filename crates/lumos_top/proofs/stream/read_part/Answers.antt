use Rattle.std.proofs.Common.{◌≤◌, Ok, length, take, subst, arith}
use Rattle.std.specs.Prelude.{IfSome}
use Rattle.std.proofs.lemmas.List.{length-take}
use Rattle.lumos_top.specs.Streaming.{TakesPart}
use Rattle.lumos_top.proofs.StreamSteps.{behind_part, end_part, failed_part, whole_part}
use Rattle.lumos_top.proofs.stream.read_part.Goals as goal

pub returns-in-Ok-end_schedule-clause-reads : goal.returns-in-Ok-end_schedule-clause-reads
returns-in-Ok-end_schedule-clause-reads g c = λ seen read is.
    let bytes = c.in-Ok.ensures.bytes in
    whole_part seen _ c.end_schedule.new.schedule _ _ c.in-Ok.count c.if-count-eq0.true bytes.0 (bytes.1 c.if-count-eq0.true) (c.in-Ok-end_schedule.ensures.reads seen read (rw is c.requires.short))

pub returns-in-Err-clause-reads : goal.returns-in-Err-clause-reads
returns-in-Err-clause-reads g c = λ seen read is.
    let bytes = c.in-Ok.ensures.bytes in
    end_part seen _ c.end_schedule.new.schedule _ _ c.in-Ok.count c.in-Err.stop c.if-count-eq0.true bytes.0 (bytes.1 c.if-count-eq0.true) (c.in-Err.ensures.reads seen read (rw is c.requires.short))

pub returns-in-Some-clause-reads : goal.returns-in-Some-clause-reads
returns-in-Some-clause-reads g c = λ seen read is.
    let bytes = c.in-Ok.ensures.bytes in
    let before = subst (λ e. TakesPart seen (take c.in-Ok.count c.read.new.buf) c.take_part.new.schedule (Ok e)) c.in-Some.is (c.in-Ok-take_part.ensures.reads seen read is) in
    let inside : c.in-Some.first ≤ length (take c.in-Ok.count c.read.new.buf) = subst (λ e. IfSome e (λ n. n ≤ length (take c.in-Ok.count c.read.new.buf))) c.in-Some.is c.in-Ok-take_part.ensures.within in
    let few = length-take c.in-Ok.count c.read.new.buf in
    behind_part seen _ c.take_part.new.schedule _ _ c.in-Some.first c.in-Ok.count (omega arith) bytes.0 before

pub returns-in-Err-take_part-clause-reads : goal.returns-in-Err-take_part-clause-reads
returns-in-Err-take_part-clause-reads g c = λ seen read is.
    failed_part seen _ c.take_part.new.schedule _ _ c.in-Ok.count c.in-Err-take_part.stop c.in-Ok.ensures.bytes.0 (c.in-Err-take_part.ensures.reads seen read is)
