use Rattle.std.proofs.Common.{sym, subst}
use Rattle.lumos_top.specs.Replays.{schedule_within}
use Rattle.lumos_top.specs.Streaming.{StopsBy}
use Rattle.lumos_top.proofs.StreamLemmas.{end_fault, end_good}
use Rattle.lumos_top.proofs.stream.end_schedule.Goals as goal

pub returns-in-Ok-clause-reads : goal.returns-in-Ok-clause-reads
returns-in-Ok-clause-reads c = λ seen read short. end_good 1099511627776 seen _ (c.in-Ok.ensures.reads seen read) short

pub returns-in-Err-clause-reads : goal.returns-in-Err-clause-reads
returns-in-Err-clause-reads c = λ seen read short.
    subst (StopsBy (schedule_within 1099511627776 seen)) (sym c.schedule_stop.ensures.value) (end_fault 1099511627776 seen c.in-Err.fault (c.in-Err.ensures.reads seen read) short)
