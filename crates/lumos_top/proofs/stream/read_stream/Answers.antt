use Rattle.std.proofs.Common.{Err, sym, subst}
use Rattle.lumos_top.specs.Streaming.{HasStreamed}
use Rattle.lumos_top.proofs.StreamSteps.{stream_good, stream_list, stream_stops}
use Rattle.lumos_top.proofs.stream.read_stream.Goals as goal

pub returns-in-Err-clause-streamed : goal.returns-in-Err-clause-streamed
returns-in-Err-clause-streamed g c = stream_stops c.args.limits _ _ _ _ c.in-Err.stop c.in-Err.ensures.begun

pub returns-in-Ok-read_behind-clause-streamed : goal.returns-in-Ok-read_behind-clause-streamed
returns-in-Ok-read_behind-clause-streamed g c = stream_good c.args.limits _ c.in-Ok.begun _ _ _ _ c.in-Ok.ensures.begun c.in-Ok-read_behind.ensures.list

pub returns-in-Err-read_behind-clause-streamed : goal.returns-in-Err-read_behind-clause-streamed
returns-in-Err-read_behind-clause-streamed g c =
    subst (λ why. HasStreamed c.args.limits (g.I.Source.left c.args.input.now) (g.I.Source.left c.read_behind.new.input) (Err why)) (sym c.list_stop.ensures.value)
    (stream_list c.args.limits _ c.in-Ok.begun _ _ _ _ c.in-Err-read_behind.stop c.in-Ok.ensures.begun c.in-Err-read_behind.ensures.list)
