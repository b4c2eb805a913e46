use Rattle.std.proofs.Common.{refl, subst, ◌∙◌}
use Rattle.lumos_depot.specs.Streams.{Writes}
use Rattle.lumos_depot.proofs.Written.{writes_cut, writes_then}
use Rattle.lumos_top.proofs.finals.write_body.Goals as goal

pub returns-in-Ok-clause-bytes : goal.returns-in-Ok-clause-bytes
returns-in-Ok-clause-bytes g c =
    writes_then _ _ _ c.write_times.result _ _ _ (rw c.in-Ok.is refl) c.write_times.ensures.bytes (subst (Writes _ _ c.write_all.result) (c.bytes.ensures.text ∙ c.events_text.ensures) c.write_all.ensures.bytes)

pub returns-in-Err-clause-bytes : goal.returns-in-Err-clause-bytes
returns-in-Err-clause-bytes g c = writes_cut _ _ c.write_times.result _ _ _ c.write_times.ensures.bytes
