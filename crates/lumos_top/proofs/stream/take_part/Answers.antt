use Rattle.std.proofs.Common.{◌≡◌, ◌≤◌, ◌++◌, false, length, take, refl, sym, ◌∙◌, subst, arith}
use Rattle.std.proofs.lemmas.List.{length-take-le}
use Rattle.flight_core.specs.ScheduleRead.{IsEnded}
use Rattle.lumos_top.specs.Replays.{schedule_within}
use Rattle.lumos_top.specs.Streaming.{StopsBy}
use Rattle.lumos_top.proofs.StreamLemmas.{first_way, part_ended, part_fault, part_long, part_read, read_front, take_in}
use Rattle.lumos_top.proofs.stream.take_part.Goals as goal

pub returns-then-is_complete-clause-reads : goal.returns-then-is_complete-clause-reads
returns-then-is_complete-clause-reads c = λ seen read is.
    let n = c.min-counted.result in
    let count = c.min-counted.ensures in
    let within = c.in-Ok.ensures.within in
    let inside : n ≤ length c.args.part.now = omega arith in
    let front = length-take-le n c.args.part.now inside in
    let same = take_in c.in-Ok.used n c.args.part.now within in
    let ended = (c.in-Ok.ensures.reads seen read).complete (sym c.is_complete.ensures ∙ c.if-is_complete.true) in
    part_ended c.args.taken seen c.args.part.now c.in-Ok.used _ is (omega arith) (omega (arith, c.requires)) (subst (λ t. IsEnded (seen ++ t) c.feed.new.self.events) same ended)

pub returns-then-counted-part-clause-reads : goal.returns-then-counted-part-clause-reads
returns-then-counted-part-clause-reads c = λ seen read is more.
    let n = c.min-counted.result in
    let count = c.min-counted.ensures in
    let going : c.feed.new.self.complete ≡ false = sym c.is_complete.ensures ∙ c.if-is_complete.false in
    let all = first_way c.feed.new.self.complete c.in-Ok.ensures.stops going in
    let now = read_front seen (take n c.args.part.now) c.in-Ok.used c.feed.new.self all (c.in-Ok.ensures.reads seen read) in
    let less = c.if-counted-part.true in
    part_long 1099511627776 c.args.taken seen c.args.part.now more n c.feed.new.self is less (omega (arith, c.requires)) (now.within going)

pub returns-else-counted-part-clause-reads : goal.returns-else-counted-part-clause-reads
returns-else-counted-part-clause-reads c = λ seen read is.
    let n = c.min-counted.result in
    let count = c.min-counted.ensures in
    let going : c.feed.new.self.complete ≡ false = sym c.is_complete.ensures ∙ c.if-is_complete.false in
    let all = first_way c.feed.new.self.complete c.in-Ok.ensures.stops going in
    let now = read_front seen (take n c.args.part.now) c.in-Ok.used c.feed.new.self all (c.in-Ok.ensures.reads seen read) in
    let not_less = c.if-counted-part.false in
    part_read 1099511627776 c.args.taken seen c.args.part.now n c.feed.new.self refl is (omega arith) (omega (arith, c.requires)) going now

pub returns-in-Err-clause-reads : goal.returns-in-Err-clause-reads
returns-in-Err-clause-reads c = λ seen read is more.
    let n = c.min-counted.result in
    let count = c.min-counted.ensures in
    subst (StopsBy (schedule_within 1099511627776 ((seen ++ c.args.part.now) ++ more))) (sym c.schedule_stop.ensures.value)
    (part_fault 1099511627776 c.args.taken seen c.args.part.now more n c.in-Err.fault is (omega arith) (omega (arith, c.requires)) (c.in-Err.ensures.reads seen read))
