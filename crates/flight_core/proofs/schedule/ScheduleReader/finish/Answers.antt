use Rattle.std.proofs.Common.{◌≡◌, [], Ok, sym, ap, ◌∙◌, subst}
use Rattle.std.proofs.lemmas.List.{append-nil}
use Rattle.flight_core.specs.Schedule.{schedule}
use Rattle.flight_core.specs.ScheduleRead.{HasRead}
use Rattle.flight_core.proofs.schedule.ScheduleReader.finish.Goals as goal

pub returns-then-self-clause-reads : goal.returns-then-self-clause-reads
returns-then-self-clause-reads c = λ seen read.
    let r = subst (HasRead seen) (sym c.self.view_is) read in
    subst (λ v. schedule seen ≡ Ok (record { events = v.events; edges = [] })) c.self.view_is (ap schedule (sym (append-nil seen)) ∙ (r.complete c.if-self.true).whole [])
