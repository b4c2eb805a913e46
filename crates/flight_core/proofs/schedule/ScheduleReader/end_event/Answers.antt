use Rattle.std.proofs.Common.{◌≡◌, ◌+◌, ◌-◌, ◌^◌, min, [], ◌∷◌, ◌++◌, length, refl, sym, ap, ◌∙◌, subst, inr, arith, rules}
use Rattle.edge_text.specs.Lines.{lines_of}
use Rattle.flight_core.specs.Schedule.{line_then}
use Rattle.flight_core.specs.ScheduleLine.{said_by}
use Rattle.flight_core.specs.ScheduleRead.{HasRead, StopsIn}
use Rattle.flight_core.specs.contracts.schedule.ScheduleReader.{the_view}
use Rattle.flight_core.specs.declared.said.Said.TheVariants.{Does}
use Rattle.flight_core.specs.declared.schedule.ScheduleFault.TheVariants.{NoMemory, TooManyEvents}
use Rattle.flight_core.proofs.ScheduleSteps.{event_said, events_full, fault_read, line_read, still_within, stopped_end}
use Rattle.flight_core.proofs.schedule.ScheduleReader.end_event.Goals as goal

pub returns-then-len-ge100000-clause-reads : goal.returns-then-len-ge100000-clause-reads
returns-then-len-ge100000-clause-reads c = λ seen read.
    let r = subst (HasRead seen) (sym c.self.view_is) read in
    let going = ap (λ v. v.complete) c.self.view_is ∙ c.requires.going in
    let said : said_by c.self.inside.line.items ≡ Does c.args.event = ap (λ v. said_by v.line) c.self.view_is ∙ c.requires.said in
    let count = c.len.ensures in
    inr (λ more. fault_read seen more (the_view c.self.inside) (TooManyEvents 100000) (r.within going)
    (λ others. ap (λ says. line_then says (length (lines_of seen)) c.self.inside.events.items others) said ∙ events_full c.args.event (length (lines_of seen)) c.self.inside.events.items others (omega arith)) (λ line same. cc))

pub returns-in-Ok-clause-reads : goal.returns-in-Ok-clause-reads
returns-in-Ok-clause-reads c = λ seen read.
    let r = subst (HasRead seen) (sym c.self.view_is) read in
    let going = ap (λ v. v.complete) c.self.view_is ∙ c.requires.going in
    let said : said_by c.self.inside.line.items ≡ Does c.args.event = ap (λ v. said_by v.line) c.self.view_is ∙ c.requires.said in
    let count = c.len.ensures in
    let pushed : c.push.new.self.items ≡ c.self.inside.events.items ++ c.args.event ∷ [] = c.in-Ok.ensures.items in
    still_within (seen ++ 10 ∷ []) _ r.fault going
    (line_read seen (the_view c.self.inside) _ (r.within going) (c.requires.number ∙ ap (λ v. min (v.lines + 1) (2 ^ 64 - 1)) (sym c.self.view_is)) c.clear.ensures
    (λ others. ap (λ says. line_then says (length (lines_of seen)) c.self.inside.events.items others) said
    ∙ event_said c.args.event (length (lines_of seen)) c.self.inside.events.items others (omega arith) ∙ ap others (sym pushed)))

pub returns-then-len-ge100000-clause-stopped : goal.returns-then-len-ge100000-clause-stopped
returns-then-len-ge100000-clause-stopped c = λ seen read.
    let r = subst (HasRead seen) (sym c.self.view_is) read in
    let going = ap (λ v. v.complete) c.self.view_is ∙ c.requires.going in
    let said : said_by c.self.inside.line.items ≡ Does c.args.event = ap (λ v. said_by v.line) c.self.view_is ∙ c.requires.said in
    let count = c.len.ensures in
    stopped_end seen (the_view c.self.inside) (TooManyEvents 100000) (r.within going) ((c.args.event, said), omega arith, refl)

pub returns-in-Err-clause-stopped : goal.returns-in-Err-clause-stopped
returns-in-Err-clause-stopped c = λ seen read.
    let r = subst (HasRead seen) (sym c.self.view_is) read in
    let going = ap (λ v. v.complete) c.self.view_is ∙ c.requires.going in
    let said : said_by c.self.inside.line.items ≡ Does c.args.event = ap (λ v. said_by v.line) c.self.view_is ∙ c.requires.said in
    let count = c.len.ensures in
    let same : c.push.new.self.items ≡ c.self.inside.events.items = search rules in
    subst (λ events. StopsIn seen (seen ++ 10 ∷ []) events NoMemory) (sym same) (stopped_end seen (the_view c.self.inside) NoMemory (r.within going) ((c.args.event, said), omega arith))
