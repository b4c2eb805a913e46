use Rattle.std.proofs.Common.{◌≡◌, [], ◌∷◌, ◌++◌, length, Err, sym, ap, ◌∙◌, subst, inr}
use Rattle.edge_text.specs.Lines.{lines_of}
use Rattle.flight_core.specs.Schedule.{line_then}
use Rattle.flight_core.specs.ScheduleLine.{said_by}
use Rattle.flight_core.specs.ScheduleRead.{HasRead}
use Rattle.flight_core.specs.contracts.schedule.ScheduleReader.{the_view}
use Rattle.flight_core.specs.declared.said.Said.TheVariants.{Nothing, Edges, Unclear}
use Rattle.flight_core.specs.declared.schedule.ScheduleFault.TheVariants.{Bad}
use Rattle.flight_core.proofs.ScheduleSteps.{edges_read, fault_read, line_read, still_within, stopped_end, told_next}
use Rattle.flight_core.proofs.schedule.ScheduleReader.end_line.Goals as goal

pub returns-in-Nothing-clause-reads : goal.returns-in-Nothing-clause-reads
returns-in-Nothing-clause-reads c = λ seen read.
    let r = subst (HasRead seen) (sym c.self.view_is) read in
    let going = ap (λ v. v.complete) c.self.view_is ∙ c.requires in
    let said : said_by c.self.inside.line.items ≡ Nothing = ap said_by (sym c.deref.ensures.0) ∙ sym c.said_in_line.ensures ∙ c.in-Nothing.is in
    still_within (seen ++ 10 ∷ []) _ r.fault going
    (line_read seen (the_view c.self.inside) _ (r.within going) c.saturating_add-number.ensures c.clear.ensures
    (λ others. ap (λ says. line_then says (length (lines_of seen)) c.self.inside.events.items others) said))

pub returns-in-Edges-clause-reads : goal.returns-in-Edges-clause-reads
returns-in-Edges-clause-reads c = λ seen read.
    let r = subst (HasRead seen) (sym c.self.view_is) read in
    let going = ap (λ v. v.complete) c.self.view_is ∙ c.requires in
    let said : said_by c.self.inside.line.items ≡ Edges = ap said_by (sym c.deref.ensures.0) ∙ sym c.said_in_line.ensures ∙ c.in-Edges.is in
    record { fault = r.fault; within = λ going. absurd (cc); complete = λ over. edges_read seen (the_view c.self.inside) (r.within going) said }

pub returns-in-Unclear-clause-reads : goal.returns-in-Unclear-clause-reads
returns-in-Unclear-clause-reads c = λ seen read.
    let r = subst (HasRead seen) (sym c.self.view_is) read in
    let going = ap (λ v. v.complete) c.self.view_is ∙ c.requires in
    let said : said_by c.self.inside.line.items ≡ Unclear = ap said_by (sym c.deref.ensures.0) ∙ sym c.said_in_line.ensures ∙ c.in-Unclear.is in
    inr (λ more. fault_read seen more (the_view c.self.inside) (Bad c.saturating_add-number.result) (r.within going)
    (λ others. ap (λ says. line_then says (length (lines_of seen)) c.self.inside.events.items others) said
    ∙ ap (λ n. Err (Bad n)) (sym (told_next seen (the_view c.self.inside) c.saturating_add-number.result (r.within going) c.saturating_add-number.ensures))) (λ line same. cc))

pub returns-in-Unclear-clause-stopped : goal.returns-in-Unclear-clause-stopped
returns-in-Unclear-clause-stopped c = λ seen read.
    let r = subst (HasRead seen) (sym c.self.view_is) read in
    let going = ap (λ v. v.complete) c.self.view_is ∙ c.requires in
    let said : said_by c.self.inside.line.items ≡ Unclear = ap said_by (sym c.deref.ensures.0) ∙ sym c.said_in_line.ensures ∙ c.in-Unclear.is in
    stopped_end seen (the_view c.self.inside) (Bad c.saturating_add-number.result) (r.within going)
    (said, told_next seen (the_view c.self.inside) c.saturating_add-number.result (r.within going) c.saturating_add-number.ensures)
