use Rattle.std.specs.Prelude.{IfErr, IfOk}
use Rattle.std.proofs.Common.{◌≡◌, ◌≤◌, Ok, Err, sym, subst, ◌∙◌}
use Rattle.lumos_depot.specs.declared.depot.FileKind.TheVariants.{Meta}
use Rattle.lumos_law.specs.Sync.{ending}
use Rattle.flight_core.specs.Finish.{IsOver}
use Rattle.windows.specs.Budget.{need_of}
use Rattle.windows.proofs.StayLemmas.{coding}
use Rattle.early_engine.specs.Engines.{cut_in}
use Rattle.early_engine.specs.Report.{report}
use Rattle.early_engine.specs.Runs.{RoseAll, RunComes, stored_by, taken_by}
use Rattle.early_engine.specs.declared.options.RunOptions.{RunOptions}
use Rattle.lumos_top.specs.Answers.{options_of, ran_by}
use Rattle.lumos_top.specs.Running.{DamageShown, EndShown, HasReport, IsOverAt, IsTooSmall, IsWithin, IsWrongIn, Leaves, RunMoves}
use Rattle.lumos_top.proofs.EngineEnds.{IsFor, damaged_open, damaged_stop, made_for, moves_stop, never_small, open_within, reported_at, run_leaves_grid, run_moved, run_told, run_within, shown_end, shown_stop, shows_at, small_open, unopened}
use Rattle.lumos_top.proofs.running.run_program.Goals as goal

pub returns-in-Ok-run-clause-leaves : goal.returns-in-Ok-run-clause-leaves
returns-in-Ok-run-clause-leaves g c = λ list parts of.
    let model = g.G.VertexProgram.model in
    let name = g.G.VertexProgram.name_text in
    let v = g.G.Value.Fixed.WIDTH in
    let s = g.G.Sum.Fixed.WIDTH in
    let e = c.in-Ok.engine in
    let made : IsFor v s c.args.program (options_of c.args.iterate) c.args.info e = made_for v s c.args.program c.options_of.result (options_of c.args.iterate) c.args.info e c.in-Ok.ensures.program c.in-Ok.ensures.options c.options_of.ensures c.in-Ok.ensures.info c.in-Ok.ensures.cut c.in-Ok.ensures.pinned in
    let ran = ran_by (model c.args.program) v s (name c.args.program) parts c.args.iterate list in
    subst (λ end. Leaves ran (g.D.Depot.holds c.args.depot.now) (g.O.Sink.written c.args.out.now) (g.O.Sink.written c.run.new.out) (Ok end)) (sym c.ended_by.ensures)
    (run_told model name v s c.args.program list parts (options_of c.args.iterate) c.args.info (g.D.Depot.holds c.args.depot.now) (g.D.Depot.holds c.open.new.depot) e (g.O.Sink.written c.args.out.now) (g.O.Sink.written c.run.new.out) (Ok c.in-Ok-run.ending) made of
    c.in-Ok.ensures.told
    (λ edges opened. subst (RunComes (ending (model e.program) edges e.info.vertices e.options.iterations) (report (model e.program) (name e.program) e.options.show e.options.mode edges e.info.vertices e.info.parts e.options.iterations) (g.O.Sink.written c.args.out.now) (g.O.Sink.written c.run.new.out)) c.in-Ok-run.is (c.run.ensures.told edges opened)))

pub returns-in-Err-run-clause-leaves : goal.returns-in-Err-run-clause-leaves
returns-in-Err-run-clause-leaves g c = λ list parts of.
    let model = g.G.VertexProgram.model in
    let name = g.G.VertexProgram.name_text in
    let v = g.G.Value.Fixed.WIDTH in
    let s = g.G.Sum.Fixed.WIDTH in
    let e = c.in-Ok.engine in
    let made : IsFor v s c.args.program (options_of c.args.iterate) c.args.info e = made_for v s c.args.program c.options_of.result (options_of c.args.iterate) c.args.info e c.in-Ok.ensures.program c.in-Ok.ensures.options c.options_of.ensures c.in-Ok.ensures.info c.in-Ok.ensures.cut c.in-Ok.ensures.pinned in
    let ran = ran_by (model c.args.program) v s (name c.args.program) parts c.args.iterate list in
    subst (Leaves ran (g.D.Depot.holds c.args.depot.now) (g.O.Sink.written c.args.out.now) (g.O.Sink.written c.run.new.out)) (sym c.run_stop.ensures)
    (run_told model name v s c.args.program list parts (options_of c.args.iterate) c.args.info (g.D.Depot.holds c.args.depot.now) (g.D.Depot.holds c.open.new.depot) e (g.O.Sink.written c.args.out.now) (g.O.Sink.written c.run.new.out) (Err c.in-Err-run.fault) made of
    c.in-Ok.ensures.told
    (λ edges opened. subst (RunComes (ending (model e.program) edges e.info.vertices e.options.iterations) (report (model e.program) (name e.program) e.options.show e.options.mode edges e.info.vertices e.info.parts e.options.iterations) (g.O.Sink.written c.args.out.now) (g.O.Sink.written c.run.new.out)) c.in-Err-run.is (c.run.ensures.told edges opened)))

pub returns-in-Ok-run-clause-moves : goal.returns-in-Ok-run-clause-moves
returns-in-Ok-run-clause-moves g c = λ list parts of.
    let model = g.G.VertexProgram.model in
    let name = g.G.VertexProgram.name_text in
    let v = g.G.Value.Fixed.WIDTH in
    let s = g.G.Sum.Fixed.WIDTH in
    let e = c.in-Ok.engine in
    let made : IsFor v s c.args.program (options_of c.args.iterate) c.args.info e = made_for v s c.args.program c.options_of.result (options_of c.args.iterate) c.args.info e c.in-Ok.ensures.program c.in-Ok.ensures.options c.options_of.ensures c.in-Ok.ensures.info c.in-Ok.ensures.cut c.in-Ok.ensures.pinned in
    let ran = ran_by (model c.args.program) v s (name c.args.program) parts c.args.iterate list in
    let t = g.D.Depot.taken in
    let kept = g.D.Depot.stored in
    subst (λ end. RunMoves ran (g.D.Depot.holds c.args.depot.now) (t c.args.depot.now) (t c.run.new.depot) (kept c.args.depot.now) (kept c.run.new.depot) (Ok end)) (sym c.ended_by.ensures)
    (run_moved model name v s c.args.program list parts (options_of c.args.iterate) c.args.info (g.D.Depot.holds c.args.depot.now) (g.D.Depot.holds c.open.new.depot) e (g.O.Sink.written c.args.out.now) (g.O.Sink.written c.run.new.out) c.in-Ok-run.ending (t c.args.depot.now) (t c.open.new.depot) (t c.run.new.depot) (kept c.args.depot.now) (kept c.open.new.depot) (kept c.run.new.depot) made of
    c.in-Ok.ensures.told
    (λ edges opened. subst (RunComes (ending (model e.program) edges e.info.vertices e.options.iterations) (report (model e.program) (name e.program) e.options.show e.options.mode edges e.info.vertices e.info.parts e.options.iterations) (g.O.Sink.written c.args.out.now) (g.O.Sink.written c.run.new.out)) c.in-Ok-run.is (c.run.ensures.told edges opened))
    (λ edges opened. subst (λ r. IfOk r (λ end. RoseAll (t c.open.new.depot) (t c.run.new.depot) (taken_by (cut_in e.info) v s e.windows.pinned (model e.program) edges e.options.show e.options.mode e.options.iterations end.iterations))) c.in-Ok-run.is (c.run.ensures.taken edges opened))
    (λ edges opened. subst (λ r. IfOk r (λ end. RoseAll (kept c.open.new.depot) (kept c.run.new.depot) (stored_by (cut_in e.info) v s e.windows.pinned e.options.mode e.options.iterations end.iterations))) c.in-Ok-run.is c.run.ensures.stored)
    c.open.ensures.touches.taken
    c.open.ensures.stored)

pub returns-in-Err-run-clause-moves : goal.returns-in-Err-run-clause-moves
returns-in-Err-run-clause-moves g c = λ list parts of.
    let ran = ran_by (g.G.VertexProgram.model c.args.program) g.G.Value.Fixed.WIDTH g.G.Sum.Fixed.WIDTH (g.G.VertexProgram.name_text c.args.program) parts c.args.iterate list in
    let t = g.D.Depot.taken in
    let kept = g.D.Depot.stored in
    subst (RunMoves ran (g.D.Depot.holds c.args.depot.now) (t c.args.depot.now) (t c.run.new.depot) (kept c.args.depot.now) (kept c.run.new.depot)) (sym c.run_stop.ensures) (moves_stop ran (g.D.Depot.holds c.args.depot.now) (t c.args.depot.now) (t c.run.new.depot) (kept c.args.depot.now) (kept c.run.new.depot) c.in-Err-run.fault)

pub returns-in-Err-clause-leaves : goal.returns-in-Err-clause-leaves
returns-in-Err-clause-leaves g c = λ list parts of.
    let v = g.G.Value.Fixed.WIDTH in
    let s = g.G.Sum.Fixed.WIDTH in
    let ran = ran_by (g.G.VertexProgram.model c.args.program) v s (g.G.VertexProgram.name_text c.args.program) parts c.args.iterate list in
    unopened ran c.args.info v s c.options_of.result.budget (g.D.Depot.holds c.args.depot.now) (g.O.Sink.written c.args.out.now) c.in-Err.fault c.open_stop.result c.open_stop.ensures c.in-Err.ensures.shows

pub returns-in-Err-clause-budget : goal.returns-in-Err-clause-budget
returns-in-Err-clause-budget g c =
    let need = need_of (cut_in c.args.info) g.G.Value.Fixed.WIDTH g.G.Sum.Fixed.WIDTH in
    subst (λ (o : RunOptions). IsWithin need o.budget (Err c.open_stop.result)) c.options_of.ensures
    (open_within c.args.info g.G.Value.Fixed.WIDTH g.G.Sum.Fixed.WIDTH c.options_of.result.budget (g.D.Depot.holds c.args.depot.now Meta) c.in-Err.fault c.open_stop.result c.open_stop.ensures c.in-Err.ensures.shows)

pub returns-in-Ok-run-clause-budget : goal.returns-in-Ok-run-clause-budget
returns-in-Ok-run-clause-budget g c = subst (λ (o : RunOptions). need_of (cut_in c.args.info) g.G.Value.Fixed.WIDTH g.G.Sum.Fixed.WIDTH ≤ o.budget) c.options_of.ensures c.in-Ok.ensures.enough

pub returns-in-Err-run-clause-budget : goal.returns-in-Err-run-clause-budget
returns-in-Err-run-clause-budget g c =
    let need = need_of (cut_in c.args.info) g.G.Value.Fixed.WIDTH g.G.Sum.Fixed.WIDTH in
    subst (IsWithin need c.args.iterate.budget) (sym c.run_stop.ensures)
    (run_within need c.args.iterate.budget c.in-Err-run.fault (subst (λ (o : RunOptions). need ≤ o.budget) c.options_of.ensures c.in-Ok.ensures.enough))

pub returns-in-Err-clause-untouched : goal.returns-in-Err-clause-untouched
returns-in-Err-clause-untouched g c = λ small. c.in-Err.ensures.untouched (small_open c.in-Err.fault c.open_stop.result c.open_stop.ensures small)

pub returns-in-Err-run-clause-untouched : goal.returns-in-Err-run-clause-untouched
returns-in-Err-run-clause-untouched g c = subst (λ r. IfErr r (λ why. IsTooSmall why → c.run.new.depot ≡ c.args.depot.now)) (sym c.run_stop.ensures) (never_small c.in-Err-run.fault (c.run.new.depot ≡ c.args.depot.now))

pub returns-in-Ok-run-clause-contents : goal.returns-in-Ok-run-clause-contents
returns-in-Ok-run-clause-contents g c = run_leaves_grid _ _ (g.D.Depot.holds c.args.depot.now) (g.D.Depot.holds c.open.new.depot) (g.D.Depot.holds c.run.new.depot) c.open.ensures.touches.contents c.run.ensures.touches.contents

pub returns-in-Err-run-clause-contents : goal.returns-in-Err-run-clause-contents
returns-in-Err-run-clause-contents g c = run_leaves_grid _ _ (g.D.Depot.holds c.args.depot.now) (g.D.Depot.holds c.open.new.depot) (g.D.Depot.holds c.run.new.depot) c.open.ensures.touches.contents c.run.ensures.touches.contents

pub returns-in-Err-clause-damaged : goal.returns-in-Err-clause-damaged
returns-in-Err-clause-damaged g c = damaged_open (coding g.G.Value.Fixed.value_of g.G.Value.Fixed.WIDTH g.G.Sum.Fixed.value_of g.G.Sum.Fixed.WIDTH) c.args.iterate c.args.info g.G.Value.Fixed.WIDTH g.G.Sum.Fixed.WIDTH c.options_of.result.budget (g.D.Depot.holds c.args.depot.now Meta) c.in-Err.fault _ c.open_stop.ensures c.in-Err.ensures.shows

pub returns-in-Ok-run-clause-shown : goal.returns-in-Ok-run-clause-shown
returns-in-Ok-run-clause-shown g c =
    let model = g.G.VertexProgram.model in
    let name = g.G.VertexProgram.name_text in
    let old = g.O.Sink.written c.args.out.now in
    let new = g.O.Sink.written c.run.new.out in
    let over = IsOverAt c.args.iterate.iterations c.args.info (IsOver g.G.Value.Fixed.is_in_range g.G.Sum.Fixed.is_in_range (model c.args.program)) in
    let told = HasReport (model c.args.program) (name c.args.program) c.args.iterate c.args.info old new in
    let reported = reported_at model name c.args.program (options_of c.args.iterate) c.args.info c.in-Ok.engine old new c.in-Ok-run.ending c.in-Ok.ensures.program (c.in-Ok.ensures.options ∙ c.options_of.ensures) c.in-Ok.ensures.info c.in-Ok-run.ensures.reported in
    subst (EndShown over told) (sym c.ended_by.ensures) (shown_end over told c.in-Ok-run.ending reported)

pub returns-in-Err-run-clause-shown : goal.returns-in-Err-run-clause-shown
returns-in-Err-run-clause-shown g c =
    let code = coding g.G.Value.Fixed.value_of g.G.Value.Fixed.WIDTH g.G.Sum.Fixed.value_of g.G.Sum.Fixed.WIDTH in
    let model = g.G.VertexProgram.model in
    let e = c.in-Ok.engine in
    let values = g.G.Value.Fixed.is_in_range in
    let sums = g.G.Sum.Fixed.is_in_range in
    let over = IsOverAt c.args.iterate.iterations c.args.info (IsOver values sums (model c.args.program)) in
    let told = HasReport (model c.args.program) (g.G.VertexProgram.name_text c.args.program) c.args.iterate c.args.info (g.O.Sink.written c.args.out.now) (g.O.Sink.written c.run.new.out) in
    let shows = shows_at values sums code model c.args.program (options_of c.args.iterate) e c.in-Err-run.fault c.in-Ok.ensures.program (c.in-Ok.ensures.options ∙ c.options_of.ensures) c.in-Err-run.ensures.shows in
    subst (λ r. IfOk r (EndShown over told)) (sym c.run_stop.ensures) (shown_stop values sums code (model c.args.program) c.args.iterate c.args.info e.windows e.table c.in-Ok.ensures.cut told c.in-Err-run.fault shows)

pub returns-in-Err-run-clause-damaged : goal.returns-in-Err-run-clause-damaged
returns-in-Err-run-clause-damaged g c =
    let code = coding g.G.Value.Fixed.value_of g.G.Value.Fixed.WIDTH g.G.Sum.Fixed.value_of g.G.Sum.Fixed.WIDTH in
    let model = g.G.VertexProgram.model in
    let e = c.in-Ok.engine in
    let values = g.G.Value.Fixed.is_in_range in
    let sums = g.G.Sum.Fixed.is_in_range in
    let shows = shows_at values sums code model c.args.program (options_of c.args.iterate) e c.in-Err-run.fault c.in-Ok.ensures.program (c.in-Ok.ensures.options ∙ c.options_of.ensures) c.in-Err-run.ensures.shows in
    subst (λ r. IfErr r (DamageShown (IsWrongIn code c.args.iterate c.args.info))) (sym c.run_stop.ensures)
    (damaged_stop values sums code (model c.args.program) c.args.iterate c.args.info e.windows e.table c.in-Ok.ensures.cut c.in-Err-run.fault shows)
