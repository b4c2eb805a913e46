use Rattle.std.proofs.Common.{◌≡◌, ◌∙◌, refl, sym, ap, None, Ok, Err}
use Rattle.lumos_top.specs.declared.status.Outside.TheVariants.{Read, Depot, Write}
use Rattle.lumos_top.specs.declared.status.Refusal.TheVariants.{Usage}
use Rattle.lumos_top.specs.declared.status.Stop.TheVariants.{Outside, Refused}
use Rattle.lumos_top.proofs.ReplayEnds.{replay_depot, replay_done, replay_failed, replay_known, replay_read, replay_write, stream_known, stream_stopped, within_many}
use Rattle.lumos_top.proofs.RunLemmas.{refused, same_grid}
use Rattle.lumos_top.proofs.replaying.replay.Goals as goal

pub returns-in-Err-clause-done : goal.returns-in-Err-clause-done
returns-in-Err-clause-done g c = λ files taken stored.
    refused _ _ _ (λ input held. record { built = None; gives = within_many c.args.program c.args.parts _ c.in-Err.many input (sym c.limits_within.ensures.value ∙ c.in-Err.is); same = refl; files = same_grid files })

pub returns-in-Err-read_stream-clause-done : goal.returns-in-Err-read_stream-clause-done
returns-in-Err-read_stream-clause-done g c = λ files taken stored. rw c.stream_stop.ensures
    (stream_stopped _ c.in-Ok.limits (sym c.limits_within.ensures.value ∙ c.in-Ok.is) _ _ files taken stored c.args.program c.args.parts _ c.in-Err-read_stream.stop c.in-Err-read_stream.ensures.streamed)

pub returns-in-Ok-replay_stream-clause-done : goal.returns-in-Ok-replay_stream-clause-done
returns-in-Ok-replay_stream-clause-done g c = λ files taken stored.
    replay_done _ c.in-Ok.limits (sym c.limits_within.ensures.value ∙ c.in-Ok.is) _ _ files taken stored c.args.program c.args.parts c.in-Ok-read_stream.stream _ _ c.in-Ok-read_stream.ensures.streamed c.in-Ok-replay_stream.ensures.shows

pub returns-clause-done : goal.returns-clause-done
returns-clause-done g c = λ files taken stored. rw c.replay_stop.ensures
    (replay_failed _ c.in-Ok.limits (sym c.limits_within.ensures.value ∙ c.in-Ok.is) _ _ files taken stored c.args.program c.args.parts c.in-Ok-read_stream.stream _ _ c.in-Err-replay_stream.stop c.in-Ok-read_stream.ensures.streamed c.in-Err-replay_stream.ensures.shows)

pub returns-in-Err-read_stream-clause-usage : goal.returns-in-Err-read_stream-clause-usage
returns-in-Err-read_stream-clause-usage g c = λ fault is. stream_known c.in-Err-read_stream.stop fault (sym c.stream_stop.ensures ∙ let same : c.stream_stop.result ≡ Refused (Usage fault) = cc in same)

pub returns-clause-usage : goal.returns-clause-usage
returns-clause-usage g c = λ fault is. replay_known c.in-Err-replay_stream.stop fault (sym c.replay_stop.ensures ∙ let same : c.replay_stop.result ≡ Refused (Usage fault) = cc in same)

pub returns-clause-read : goal.returns-clause-read
returns-clause-read g c = λ is. absurd (replay_read c.in-Err-replay_stream.stop (sym c.replay_stop.ensures ∙ let same : c.replay_stop.result ≡ Outside Read = cc in same))

pub returns-clause-depot : goal.returns-clause-depot
returns-clause-depot g c = λ is. replay_depot c.in-Err-replay_stream.stop (sym c.replay_stop.ensures ∙ let same : c.replay_stop.result ≡ Outside Depot = cc in same)

pub returns-clause-write : goal.returns-clause-write
returns-clause-write g c = λ is.
    c.in-Err-replay_stream.ensures.write (ap Err (replay_write c.in-Err-replay_stream.stop (sym c.replay_stop.ensures ∙ let same : c.replay_stop.result ≡ Outside Write = cc in same)))

pub returns-in-Ok-replay_stream-clause-refused : goal.returns-in-Ok-replay_stream-clause-refused
returns-in-Ok-replay_stream-clause-refused g c = λ many is.
    absurd (let both : Ok c.in-Ok.limits ≡ Err many = sym c.in-Ok.is ∙ c.limits_within.ensures.value ∙ is in cc)
