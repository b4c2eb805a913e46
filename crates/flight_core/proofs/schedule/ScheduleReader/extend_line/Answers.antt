use Rattle.std.proofs.Common.{◌++◌, sym, ap, ◌∙◌, subst, inr, refl, rules}
use Rattle.flight_core.specs.ScheduleRead.{HasFault, HasRead, StopsIn}
use Rattle.flight_core.specs.contracts.schedule.ScheduleReader.{the_view}
use Rattle.flight_core.specs.declared.schedule.ScheduleFault.TheVariants.{Bad}
use Rattle.flight_core.proofs.ScheduleSteps.{long_read, open_read, still_within, stopped_long, told_next}
use Rattle.flight_core.proofs.schedule.ScheduleReader.extend_line.Goals as goal

pub returns-in-Ok-clause-reads : goal.returns-in-Ok-clause-reads
returns-in-Ok-clause-reads c = λ seen read.
    let r = subst (HasRead seen) (sym c.self.view_is) read in
    let going = ap (λ v. v.complete) c.self.view_is ∙ c.requires.going in
    still_within (seen ++ c.args.bytes.now) _ r.fault going
    (open_read seen c.args.bytes.now (the_view c.self.inside) _ (r.within going) c.requires.unended refl refl c.in-Ok.ensures.ok (search rules))

pub returns-in-Err-clause-reads : goal.returns-in-Err-clause-reads
returns-in-Err-clause-reads c = λ seen read.
    let r = subst (HasRead seen) (sym c.self.view_is) read in
    let going = ap (λ v. v.complete) c.self.view_is ∙ c.requires.going in
    inr (λ more. subst (λ n. HasFault ((seen ++ c.args.bytes.now) ++ more) (Bad n)) (sym (told_next seen (the_view c.self.inside) c.saturating_add-line.result (r.within going) c.saturating_add-line.ensures))
    (long_read seen c.args.bytes.now more (the_view c.self.inside) (r.within going) c.requires.unended (search rules)))

pub returns-in-Err-clause-stopped : goal.returns-in-Err-clause-stopped
returns-in-Err-clause-stopped c = λ seen read.
    let r = subst (HasRead seen) (sym c.self.view_is) read in
    let going = ap (λ v. v.complete) c.self.view_is ∙ c.requires.going in
    subst (λ n. StopsIn seen (seen ++ c.args.bytes.now) c.self.inside.events.items (Bad n)) (sym (told_next seen (the_view c.self.inside) c.saturating_add-line.result (r.within going) c.saturating_add-line.ensures))
    (stopped_long seen c.args.bytes.now (the_view c.self.inside) (r.within going) c.requires.unended (search rules))
