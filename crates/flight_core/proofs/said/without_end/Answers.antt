use Rattle.std.proofs.Common.{length, ◌-◌, arith}
use Rattle.flight_core.proofs.ScheduleFields.{other_last, return_last}
use Rattle.flight_core.proofs.said.without_end.Goals as goal

pub returns-then-line-last-eq13-clause-line : goal.returns-then-line-last-eq13-clause-line
returns-then-line-last-eq13-clause-line c =
    return_last c.args.line.now (length c.args.line.now - 1) (omega arith) c.if-line-last-eq13.true

pub returns-clause-line : goal.returns-clause-line
returns-clause-line c = other_last c.args.line.now (length c.args.line.now - 1) (omega arith) c.if-line-last-eq13.false
