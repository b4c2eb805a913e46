use Rattle.std.proofs.Common.{◌≡◌, ◌+◌, ◌++◌, length, take, get_or, subst, arith}
use Rattle.edge_text.proofs.Steps.{other_way}
use Rattle.flight_core.specs.ScheduleRead.{HasRead, IsFaultOf, StopsIn}
use Rattle.flight_core.proofs.ScheduleSteps.{fault_in, line_front, stopped_behind, stopped_in}
use Rattle.flight_core.proofs.schedule.ScheduleReader.take_line.Goals as goal

pub returns-in-Err-clause-reads : goal.returns-in-Err-clause-reads
returns-in-Err-clause-reads c = λ seen read. fault_in seen c.args.text.now c.line_length-len.result c.in-Err.fault (c.in-Err.ensures.reads seen read)

pub returns-in-Ok-end_line-clause-reads : goal.returns-in-Ok-end_line-clause-reads
returns-in-Ok-end_line-clause-reads c = λ seen read.
    let line = c.line_length-len.ensures in
    let within = line.within in
    let ends = other_way c.line_length-len.result (length c.args.text.now) (get_or c.args.text.now c.line_length-len.result 0 ≡ 10) line.stops c.if-len-text.false in
    subst (λ t. HasRead t c.end_line.new.self) (line_front seen c.args.text.now c.line_length-len.result (omega arith) ends)
    (c.in-Ok-end_line.ensures.reads (seen ++ take c.line_length-len.result c.args.text.now) (c.in-Ok.ensures.reads seen read))

pub returns-in-Err-end_line-clause-reads : goal.returns-in-Err-end_line-clause-reads
returns-in-Err-end_line-clause-reads c = λ seen read.
    let line = c.line_length-len.ensures in
    let within = line.within in
    let ends = other_way c.line_length-len.result (length c.args.text.now) (get_or c.args.text.now c.line_length-len.result 0 ≡ 10) line.stops c.if-len-text.false in
    fault_in seen c.args.text.now (c.line_length-len.result + 1) c.in-Err-end_line.fault
    (subst (λ t. IsFaultOf t c.in-Err-end_line.fault) (line_front seen c.args.text.now c.line_length-len.result (omega arith) ends)
    (c.in-Err-end_line.ensures.reads (seen ++ take c.line_length-len.result c.args.text.now) (c.in-Ok.ensures.reads seen read)))

pub returns-in-Err-clause-stopped : goal.returns-in-Err-clause-stopped
returns-in-Err-clause-stopped c = λ seen read. stopped_in seen c.args.text.now c.line_length-len.result _ c.in-Err.fault (c.in-Err.ensures.stopped seen read)

pub returns-in-Err-end_line-clause-stopped : goal.returns-in-Err-end_line-clause-stopped
returns-in-Err-end_line-clause-stopped c = λ seen read.
    let line = c.line_length-len.ensures in
    let within = line.within in
    let ends = other_way c.line_length-len.result (length c.args.text.now) (get_or c.args.text.now c.line_length-len.result 0 ≡ 10) line.stops c.if-len-text.false in
    stopped_in seen c.args.text.now (c.line_length-len.result + 1) c.end_line.new.self.events c.in-Err-end_line.fault
    (subst (λ t. StopsIn seen t c.end_line.new.self.events c.in-Err-end_line.fault) (line_front seen c.args.text.now c.line_length-len.result (omega arith) ends)
    (stopped_behind seen (take c.line_length-len.result c.args.text.now) _ c.end_line.new.self.events c.in-Err-end_line.fault
    (c.in-Err-end_line.ensures.stopped (seen ++ take c.line_length-len.result c.args.text.now) (c.in-Ok.ensures.reads seen read))))
