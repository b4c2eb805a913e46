use Rattle.std.proofs.Common.{◌≡◌, ◌<◌, suc, [], length, Ok, Err, sym, ap, ◌∙◌, subst, arith}
use Rattle.edge_text.specs.Lines.{lines_of}
use Rattle.flight_core.specs.Schedule.{line_then, schedule, told}
use Rattle.flight_core.specs.ScheduleLine.{said_by}
use Rattle.flight_core.specs.ScheduleRead.{IsWithin}
use Rattle.flight_core.specs.contracts.schedule.ScheduleReader.{the_view}
use Rattle.flight_core.specs.declared.said.Said.TheVariants.{Edges}
use Rattle.flight_core.specs.declared.schedule.ScheduleFault.TheVariants.{Ended}
use Rattle.flight_core.proofs.ScheduleSteps.{end_read, last_read, none_behind}
use Rattle.flight_core.proofs.schedule.ScheduleReader.fault_at_end.Goals as goal

pub returns-in-Edges : goal.returns-in-Edges
returns-in-Edges c = λ seen within.
    let w = subst (IsWithin seen) (sym c.self.view_is) within in
    let count = c.len.ensures.value in
    let some : 0 < length c.self.inside.line.items = omega arith in
    let said : said_by c.self.inside.line.items ≡ Edges = ap said_by (sym c.deref.ensures.0) ∙ sym c.said_in_line.ensures ∙ c.in-Edges.is in
    subst (λ v. schedule seen ≡ Ok (record { events = v.events; edges = [] })) c.self.view_is
    (end_read seen (the_view c.self.inside) (Ok (record { events = c.self.inside.events.items; lines = suc (length (lines_of seen)) })) w
    (last_read c.self.inside.line.items (length (lines_of seen)) c.self.inside.events.items some
    ∙ ap (λ says. line_then says (length (lines_of seen)) c.self.inside.events.items (λ made. Err (Ended (told (suc (length (lines_of seen))))))) said)
    ∙ ap (λ t. Ok (record { events = c.self.inside.events.items; edges = t })) (none_behind seen))
