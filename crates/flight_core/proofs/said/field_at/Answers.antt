use Rattle.std.proofs.Common.{ap, ◌∙◌, arith}
use Rattle.std.proofs.lemmas.List.{drop_all}
use Rattle.edge_text.specs.Fields.{begins_blank}
use Rattle.flight_core.proofs.ScheduleFields.{begins_at, field_until}
use Rattle.flight_core.proofs.said.field_at.Goals as goal

pub returns-else-not-is_space-clause-fields : goal.returns-else-not-is_space-clause-fields
returns-else-not-is_space-clause-fields c =
    field_until c.args.text.now c.loop-len.len c.loop-len.invariant.within c.requires c.loop-len.invariant.dark (begins_at c.args.text.now c.loop-len.len c.loop-len-test.true ∙ cc)

pub returns-after-loop-len-clause-fields : goal.returns-after-loop-len-clause-fields
returns-after-loop-len-clause-fields c =
    field_until c.args.text.now c.loop-len.len c.loop-len.invariant.within c.requires c.loop-len.invariant.dark (ap begins_blank (drop_all c.loop-len.len c.args.text.now (omega arith)))
