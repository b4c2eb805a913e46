use Rattle.std.proofs.Common.{◌<◌, ◌≤◌, ◌+◌, refl, sym, subst, arith}
use Rattle.std.specs.Prelude.{IfOk}
use Rattle.lumos_depot.specs.Steps.{Touches}
use Rattle.lumos_depot.proofs.StepLemmas.{touches_then}
use Rattle.windows.specs.Windows.{Coding}
use Rattle.early_engine.specs.Engines.{IsStanding, cut_in}
use Rattle.early_engine.specs.Files.{run_stores, run_takes}
use Rattle.early_engine.specs.Gone.{IsTallied}
use Rattle.early_engine.specs.Passes.{file_of}
use Rattle.early_engine.specs.Report.{first_lines}
use Rattle.early_engine.specs.Reported.{AreEnded}
use Rattle.early_engine.specs.Runs.{RoseAll, RunComes, most_taken, stored_first, taken_first}
use Rattle.early_engine.specs.declared.options.RunOptions.{RunOptions}
use Rattle.early_engine.proofs.ReportLemmas.{report_if}
use Rattle.early_engine.proofs.RunLemmas.{end_of, key_of, later_of, run_shows, run_stops, run_then, same_key, start_shows, stored_at, taken_at}
use Rattle.early_engine.proofs.TakenLemmas.{all_then, moved_to, start_apart, start_touches}
use Rattle.early_engine.proofs.engine.Engine.run.Goals as goal

pub returns-in-Ok-clause-told : goal.returns-in-Ok-clause-told
returns-in-Ok-clause-told g c edges opened =
    let coding : Coding _ _ = record { value_of = g.G.Value.Fixed.value_of; value_width = g.G.Value.Fixed.WIDTH; sum_of = g.G.Sum.Fixed.value_of; sum_width = g.G.Sum.Fixed.WIDTH } in
    let model = g.G.VertexProgram.model in
    let w = c.args.self in
    let new = c.begin.new.self in
    let key = same_key w new c.in-Ok.ensures.same in
    let mid = g.O.Sink.written c.begin.new.out in
    let after = g.O.Sink.written c.run_turns.new.out in
    let begun = c.in-Ok.ensures.told edges opened in
    let stands = c.in-Ok.ensures.stands edges opened refl in
    let here = subst (λ k. IsStanding coding (model k.program) edges (g.D.Depot.holds c.begin.new.depot) new) (sym key) stands in
    let came = subst (λ k. RunComes (end_of model edges k) (later_of model edges k) mid after c.run_turns.result) key (c.run_turns.ensures.told edges here) in
    run_then (end_of model edges (key_of w)) (first_lines (model w.program) (g.G.VertexProgram.name_text w.program) w.options.show edges w.info.vertices w.info.parts) (later_of model edges (key_of w))
    (g.O.Sink.written c.args.out.now) mid after c.run_turns.result begun.1 came

pub returns-in-Ok-clause-reported : goal.returns-in-Ok-clause-reported
returns-in-Ok-clause-reported g c =
    let coding : Coding _ _ = record { value_of = g.G.Value.Fixed.value_of; value_width = g.G.Value.Fixed.WIDTH; sum_of = g.G.Sum.Fixed.value_of; sum_width = g.G.Sum.Fixed.WIDTH } in
    let model = g.G.VertexProgram.model in
    let w = c.args.self in
    let new = c.begin.new.self in
    let mid = g.O.Sink.written c.begin.new.out in
    let after = g.O.Sink.written c.run_turns.new.out in
    let rest = subst (λ k. IfOk c.run_turns.result (AreEnded (model k.program) k.options.show k.options.mode k.options.iterations k.info.vertices (IsTallied k.options.mode k.table) mid after)) (same_key w new c.in-Ok.ensures.same) c.run_turns.ensures.reported in
    report_if (model w.program) coding (g.G.VertexProgram.name_text w.program) w.options.show w.options.mode w.options.iterations w.info w.table new.windows (g.D.Depot.holds c.begin.new.depot) (g.O.Sink.written c.args.out.now) mid after c.run_turns.result c.in-Ok.ensures.opened rest

pub returns-in-Ok-clause-taken : goal.returns-in-Ok-clause-taken
returns-in-Ok-clause-taken g c edges opened =
    let coding : Coding _ _ = record { value_of = g.G.Value.Fixed.value_of; value_width = g.G.Value.Fixed.WIDTH; sum_of = g.G.Sum.Fixed.value_of; sum_width = g.G.Sum.Fixed.WIDTH } in
    let v = g.G.Value.Fixed.WIDTH in
    let s = g.G.Sum.Fixed.WIDTH in
    let model = g.G.VertexProgram.model in
    let w = c.args.self in
    let new = c.begin.new.self in
    let key = same_key w new c.in-Ok.ensures.same in
    let stands = c.in-Ok.ensures.stands edges opened refl in
    let here = subst (λ k. IsStanding coding (model k.program) edges (g.D.Depot.holds c.begin.new.depot) new) (sym key) stands in
    let mid = g.D.Depot.taken c.begin.new.depot in
    let after = g.D.Depot.taken c.run_turns.new.depot in
    let rose = subst (λ k. IfOk c.run_turns.result (λ end. RoseAll mid after (moved_to (taken_at model edges v s k) end.iterations))) key (c.run_turns.ensures.taken edges here) in
    all_then (taken_first (cut_in w.info) v w.windows.pinned w.options.show) (moved_to (taken_at model edges v s (key_of w))) (g.D.Depot.taken c.args.depot.now) mid after c.run_turns.result c.in-Ok.ensures.taken rose

pub returns-in-Ok-clause-stored : goal.returns-in-Ok-clause-stored
returns-in-Ok-clause-stored g c =
    let v = g.G.Value.Fixed.WIDTH in
    let s = g.G.Sum.Fixed.WIDTH in
    let w = c.args.self in
    let mid = g.D.Depot.stored c.begin.new.depot in
    let after = g.D.Depot.stored c.run_turns.new.depot in
    let rose = subst (λ k. IfOk c.run_turns.result (λ end. RoseAll mid after (moved_to (stored_at v s k) end.iterations))) (same_key w c.begin.new.self c.in-Ok.ensures.same) c.run_turns.ensures.stored in
    all_then (stored_first (cut_in w.info) v w.windows.pinned) (moved_to (stored_at v s (key_of w))) (g.D.Depot.stored c.args.depot.now) mid after c.run_turns.result c.in-Ok.ensures.stored rose

pub returns-in-Ok-clause-touches : goal.returns-in-Ok-clause-touches
returns-in-Ok-clause-touches g c =
    let o = c.args.self.options in
    touches_then g.D.Depot.holds g.D.Depot.taken g.D.Depot.stored g.D.Depot.faults g.D.Depot.attached (run_takes o.mode o.iterations) (run_stores o.mode o.iterations) c.args.depot.now c.begin.new.depot c.run_turns.new.depot
    (start_touches g.D.Depot.holds g.D.Depot.taken g.D.Depot.stored g.D.Depot.faults g.D.Depot.attached o c.args.depot.now c.begin.new.depot c.in-Ok.ensures.touches)
    (subst (λ (k : RunOptions). Touches g.D.Depot.holds g.D.Depot.taken g.D.Depot.stored g.D.Depot.faults g.D.Depot.attached (run_takes k.mode k.iterations) (run_stores k.mode k.iterations) c.begin.new.depot c.run_turns.new.depot) c.in-Ok.ensures.same.options c.run_turns.ensures.touches)

pub returns-in-Ok-clause-shows : goal.returns-in-Ok-clause-shows
returns-in-Ok-clause-shows g c =
    let coding : Coding _ _ = record { value_of = g.G.Value.Fixed.value_of; value_width = g.G.Value.Fixed.WIDTH; sum_of = g.G.Sum.Fixed.value_of; sum_width = g.G.Sum.Fixed.WIDTH } in
    run_shows g.G.VertexProgram.model coding c.args.self c.begin.new.self c.in-Ok.ensures.same g.G.Value.Fixed.is_in_range g.G.Sum.Fixed.is_in_range c.run_turns.result c.run_turns.ensures.shows

pub returns-in-Ok-clause-most : goal.returns-in-Ok-clause-most
returns-in-Ok-clause-most g c kind =
    let rest = subst (λ k. g.D.Depot.taken c.run_turns.new.depot (file_of kind) ≤ g.D.Depot.taken c.begin.new.depot (file_of kind) + most_taken kind k.options.mode k.table k.options.iterations) (same_key c.args.self c.begin.new.self c.in-Ok.ensures.same) (c.run_turns.ensures.most kind) in
    let same = c.in-Ok.ensures.touches.taken (file_of kind) (start_apart kind) in
    omega (arith, rest, same)

pub returns-clause-touches : goal.returns-clause-touches
returns-clause-touches g c = start_touches g.D.Depot.holds g.D.Depot.taken g.D.Depot.stored g.D.Depot.faults g.D.Depot.attached c.args.self.options c.args.depot.now c.begin.new.depot c.in-Err.ensures.touches

pub returns-clause-shows : goal.returns-clause-shows
returns-clause-shows g c =
    let coding : Coding _ _ = record { value_of = g.G.Value.Fixed.value_of; value_width = g.G.Value.Fixed.WIDTH; sum_of = g.G.Sum.Fixed.value_of; sum_width = g.G.Sum.Fixed.WIDTH } in
    let w = c.args.self in
    start_shows g.G.Value.Fixed.is_in_range g.G.Sum.Fixed.is_in_range coding (g.G.VertexProgram.model w.program) w.windows w.options.mode w.table w.options.iterations c.in-Err.fault
    (subst (λ (o : RunOptions). 0 < o.iterations) c.in-Err.ensures.same.options c.in-Err.ensures.some) c.in-Err.ensures.shows

pub returns-clause-told : goal.returns-clause-told
returns-clause-told g c edges opened =
    let coding : Coding _ _ = record { value_of = g.G.Value.Fixed.value_of; value_width = g.G.Value.Fixed.WIDTH; sum_of = g.G.Sum.Fixed.value_of; sum_width = g.G.Sum.Fixed.WIDTH } in
    let model = g.G.VertexProgram.model in
    let w = c.args.self in
    run_stops coding (model w.program) (g.G.VertexProgram.name_text w.program) w.options.show edges (cut_in w.info) c.begin.new.self.windows (g.D.Depot.holds c.begin.new.depot) (end_of model edges (key_of w)) (later_of model edges (key_of w))
    (g.O.Sink.written c.args.out.now) (g.O.Sink.written c.begin.new.out) c.in-Err.fault (c.in-Err.ensures.told edges opened)

pub returns-clause-most : goal.returns-clause-most
returns-clause-most g c kind =
    let same = c.in-Err.ensures.touches.taken (file_of kind) (start_apart kind) in
    omega (arith, same)
