use Rattle.std.proofs.Common.{◌≡◌, ◌≤◌, ◌+◌, ℕ, suc, Ok, Err, sym, ap, ◌∙◌, subst, arith}
use Rattle.lumos_depot.specs.Streams.{after_told}
use Rattle.windows.specs.Windows.{Coding}
use Rattle.early_engine.specs.Engines.{IsStanding, cut_in}
use Rattle.early_engine.specs.Gone.{IsTallied}
use Rattle.early_engine.specs.Passes.{file_of}
use Rattle.early_engine.specs.Runs.{RoseAll, RunComes, most_taken}
use Rattle.early_engine.specs.Turns.{HasTurned, phase_after}
use Rattle.early_engine.specs.declared.options.RunOptions.{RunOptions}
use Rattle.early_engine.proofs.MostLemmas.{most_more}
use Rattle.early_engine.proofs.Repeats.{texts}
use Rattle.early_engine.proofs.ReportLemmas.{went_at, went_last, went_more}
use Rattle.early_engine.proofs.RunLemmas.{end_of, ended_comes, going_text, key_of, later_of, lines_of, same_key, same_run, stopped_comes, stored_at, taken_at, turn_shows, turn_tallied}
use Rattle.early_engine.proofs.TakenLemmas.{all_more, turn_touches}
use Rattle.early_engine.proofs.run.run_turns.Goals as goal

pub returns-in-Ok-Ended-clause-told : goal.returns-in-Ok-Ended-clause-told
returns-in-Ok-Ended-clause-told g c edges stands =
    let coding : Coding _ _ = record { value_of = g.G.Value.Fixed.value_of; value_width = g.G.Value.Fixed.WIDTH; sum_of = g.G.Sum.Fixed.value_of; sum_width = g.G.Sum.Fixed.WIDTH } in
    let model = g.G.VertexProgram.model in
    let w = c.loop-turn.engine in
    let new = c.turn.new.self in
    let told = g.D.Depot.holds c.loop-turn.depot in
    let later = g.D.Depot.holds c.turn.new.depot in
    let written = g.O.Sink.written c.args.out.now in
    let now = g.O.Sink.written c.loop-turn.out in
    let after = g.O.Sink.written c.turn.new.out in
    let run = c.loop-turn.invariant.running edges stands in
    let key = same_key c.args.engine.now w c.loop-turn.invariant.same in
    let here = subst (λ k. IsStanding coding (model k.program) edges told w) (sym key) run.stands in
    let text = subst (λ k. now ≡ after_told written (texts (lines_of model edges k) w.finished)) (sym key) run.text in
    let turned = subst (HasTurned (model w.program) w.options.show w.options.mode edges (cut_in w.info) w.options.iterations w.finished coding new.windows later new.active now after) c.in-Ok-Ended.field-0-is (c.in-Ok-Ended.ensures.told edges here) in
    subst (λ k. RunComes (end_of model edges k) (later_of model edges k) written after (Ok c.in-Ok-Ended.ending)) key
    (ended_comes (model w.program) w.options.show w.options.mode edges (cut_in w.info) w.options.iterations w.finished here.goes_on written now after coding new.windows later new.active c.in-Ok-Ended.ending text turned)

pub returns-in-Ok-Ended-clause-reported : goal.returns-in-Ok-Ended-clause-reported
returns-in-Ok-Ended-clause-reported g c =
    let coding : Coding _ _ = record { value_of = g.G.Value.Fixed.value_of; value_width = g.G.Value.Fixed.WIDTH; sum_of = g.G.Sum.Fixed.value_of; sum_width = g.G.Sum.Fixed.WIDTH } in
    let model = g.G.VertexProgram.model in
    let w = c.loop-turn.engine in
    let new = c.turn.new.self in
    let kept = c.loop-turn.invariant in
    let k = key_of c.args.engine.now in
    let made = turn_tallied model coding c.args.engine.now w kept.same _ new.active _ _ _ _ _ new.windows _ _ _ c.in-Ok-Ended.field-0 c.in-Ok-Ended.ensures.reported in
    went_last (model k.program) k.options.show k.options.mode k.options.iterations k.info.vertices (IsTallied k.options.mode k.table) coding c.loop-turn.turn (w.finished + 1) new.windows _ _ _ _ c.in-Ok-Ended.field-0
    (ap (λ (t : ℕ). t + 1) kept.counted) kept.reports made c.in-Ok-Ended.ending (omega (arith, kept.left, kept.counted, c.requires.all)) c.in-Ok-Ended.field-0-is

pub returns-in-Ok-Ended-clause-taken : goal.returns-in-Ok-Ended-clause-taken
returns-in-Ok-Ended-clause-taken g c edges stands =
    let coding : Coding _ _ = record { value_of = g.G.Value.Fixed.value_of; value_width = g.G.Value.Fixed.WIDTH; sum_of = g.G.Sum.Fixed.value_of; sum_width = g.G.Sum.Fixed.WIDTH } in
    let v = g.G.Value.Fixed.WIDTH in
    let s = g.G.Sum.Fixed.WIDTH in
    let model = g.G.VertexProgram.model in
    let w = c.loop-turn.engine in
    let new = c.turn.new.self in
    let told = g.D.Depot.holds c.loop-turn.depot in
    let now = g.O.Sink.written c.loop-turn.out in
    let after = g.O.Sink.written c.turn.new.out in
    let run = c.loop-turn.invariant.running edges stands in
    let key = same_key c.args.engine.now w c.loop-turn.invariant.same in
    let here = subst (λ k. IsStanding coding (model k.program) edges told w) (sym key) run.stands in
    let turned = subst (HasTurned (model w.program) w.options.show w.options.mode edges (cut_in w.info) w.options.iterations w.finished coding new.windows (g.D.Depot.holds c.turn.new.depot) new.active now after) c.in-Ok-Ended.field-0-is (c.in-Ok-Ended.ensures.told edges here) in
    let last : c.in-Ok-Ended.ending.iterations ≡ suc w.finished = turned.tells.1 in
    all_more (taken_at model edges v s (key_of c.args.engine.now)) w.finished c.in-Ok-Ended.ending.iterations (g.D.Depot.taken c.args.depot.now) (g.D.Depot.taken c.loop-turn.depot) (g.D.Depot.taken c.turn.new.depot) (omega (arith, last)) run.moved
    (subst (λ k. RoseAll (g.D.Depot.taken c.loop-turn.depot) (g.D.Depot.taken c.turn.new.depot) (taken_at model edges v s k (w.finished + 1))) key (c.in-Ok-Ended.ensures.taken edges here))

pub returns-in-Ok-Ended-clause-stored : goal.returns-in-Ok-Ended-clause-stored
returns-in-Ok-Ended-clause-stored g c =
    let coding : Coding _ _ = record { value_of = g.G.Value.Fixed.value_of; value_width = g.G.Value.Fixed.WIDTH; sum_of = g.G.Sum.Fixed.value_of; sum_width = g.G.Sum.Fixed.WIDTH } in
    let v = g.G.Value.Fixed.WIDTH in
    let s = g.G.Sum.Fixed.WIDTH in
    let model = g.G.VertexProgram.model in
    let w = c.loop-turn.engine in
    let new = c.turn.new.self in
    let kept = c.loop-turn.invariant in
    let k = key_of c.args.engine.now in
    let made = turn_tallied model coding c.args.engine.now w kept.same _ new.active _ _ _ _ _ new.windows _ _ _ c.in-Ok-Ended.field-0 c.in-Ok-Ended.ensures.reported in
    let last = went_at (model k.program) k.options.show k.options.mode k.options.iterations k.info.vertices (IsTallied k.options.mode k.table) coding c.loop-turn.turn (w.finished + 1) new.windows _ _ _ _ c.in-Ok-Ended.field-0
    (ap (λ (t : ℕ). t + 1) kept.counted) kept.reports made c.in-Ok-Ended.ending c.in-Ok-Ended.field-0-is in
    all_more (stored_at v s k) w.finished c.in-Ok-Ended.ending.iterations (g.D.Depot.stored c.args.depot.now) (g.D.Depot.stored c.loop-turn.depot) (g.D.Depot.stored c.turn.new.depot) (omega (arith, last, kept.counted)) kept.stored
    (subst (λ q. RoseAll (g.D.Depot.stored c.loop-turn.depot) (g.D.Depot.stored c.turn.new.depot) (stored_at v s q (w.finished + 1))) (same_key c.args.engine.now w kept.same) c.in-Ok-Ended.ensures.stored)

pub returns-in-Ok-Ended-clause-touches : goal.returns-in-Ok-Ended-clause-touches
returns-in-Ok-Ended-clause-touches g c =
    let kept = c.loop-turn.invariant in
    turn_touches g.D.Depot.holds g.D.Depot.taken g.D.Depot.stored g.D.Depot.faults g.D.Depot.attached c.loop-turn.engine.options c.args.engine.now.options (c.loop-turn.engine.finished + 1) c.args.depot.now c.loop-turn.depot c.turn.new.depot
    kept.same.options (omega arith) (omega (arith, kept.left, c.requires.all)) kept.touches c.in-Ok-Ended.ensures.touches

pub returns-in-Err-clause-touches : goal.returns-in-Err-clause-touches
returns-in-Err-clause-touches g c =
    let kept = c.loop-turn.invariant in
    turn_touches g.D.Depot.holds g.D.Depot.taken g.D.Depot.stored g.D.Depot.faults g.D.Depot.attached c.loop-turn.engine.options c.args.engine.now.options (c.loop-turn.engine.finished + 1) c.args.depot.now c.loop-turn.depot c.turn.new.depot
    kept.same.options (omega arith) (omega (arith, kept.left, c.requires.all)) kept.touches c.in-Err.ensures.touches

pub returns-in-Err-clause-shows : goal.returns-in-Err-clause-shows
returns-in-Err-clause-shows g c =
    let coding : Coding _ _ = record { value_of = g.G.Value.Fixed.value_of; value_width = g.G.Value.Fixed.WIDTH; sum_of = g.G.Sum.Fixed.value_of; sum_width = g.G.Sum.Fixed.WIDTH } in
    let kept = c.loop-turn.invariant in
    turn_shows g.G.VertexProgram.model coding c.args.engine.now c.loop-turn.engine kept.same g.G.Value.Fixed.is_in_range g.G.Sum.Fixed.is_in_range c.in-Err.fault (omega (arith, kept.left, c.requires.all)) c.in-Err.ensures.shows

pub returns-in-Err-clause-told : goal.returns-in-Err-clause-told
returns-in-Err-clause-told g c edges stands =
    let coding : Coding _ _ = record { value_of = g.G.Value.Fixed.value_of; value_width = g.G.Value.Fixed.WIDTH; sum_of = g.G.Sum.Fixed.value_of; sum_width = g.G.Sum.Fixed.WIDTH } in
    let model = g.G.VertexProgram.model in
    let w = c.loop-turn.engine in
    let new = c.turn.new.self in
    let told = g.D.Depot.holds c.loop-turn.depot in
    let written = g.O.Sink.written c.args.out.now in
    let now = g.O.Sink.written c.loop-turn.out in
    let after = g.O.Sink.written c.turn.new.out in
    let run = c.loop-turn.invariant.running edges stands in
    let key = same_key c.args.engine.now w c.loop-turn.invariant.same in
    let here = subst (λ k. IsStanding coding (model k.program) edges told w) (sym key) run.stands in
    let text = subst (λ k. now ≡ after_told written (texts (lines_of model edges k) w.finished)) (sym key) run.text in
    subst (λ k. RunComes (end_of model edges k) (later_of model edges k) written after (Err c.in-Err.fault)) key
    (stopped_comes (model w.program) w.options.show w.options.mode edges (cut_in w.info) w.options.iterations w.finished here.goes_on written now after coding new.windows (g.D.Depot.holds c.turn.new.depot) new.active c.in-Err.fault text (c.in-Err.ensures.told edges here))

pub loop-turn-preserved : goal.loop-turn-preserved
loop-turn-preserved g c =
    let coding : Coding _ _ = record { value_of = g.G.Value.Fixed.value_of; value_width = g.G.Value.Fixed.WIDTH; sum_of = g.G.Sum.Fixed.value_of; sum_width = g.G.Sum.Fixed.WIDTH } in
    let v = g.G.Value.Fixed.WIDTH in
    let s = g.G.Sum.Fixed.WIDTH in
    let model = g.G.VertexProgram.model in
    let a = c.args.engine.now in
    let w = c.loop-turn.engine in
    let new = c.turn.new.self in
    let kept = c.loop-turn.invariant in
    let next = c.in-Ok-Going.ensures in
    let going = next.phase ∙ ap phase_after c.in-Ok-Going.field-0-is in
    let same = same_run a w new kept.same next.same in
    let low = next.left going in
    let key = same_key a w kept.same in
    record {
      touches = turn_touches g.D.Depot.holds g.D.Depot.taken g.D.Depot.stored g.D.Depot.faults g.D.Depot.attached w.options a.options (w.finished + 1) c.args.depot.now c.loop-turn.depot c.turn.new.depot
          kept.same.options (omega arith) (omega (arith, kept.left, c.requires.all)) kept.touches next.touches;
      later = omega (arith, kept.later, next.later);
      files = next.files;
      going = going;
      same = same;
      counted = next.finished ∙ ap (λ (k : ℕ). k + 1) kept.counted;
      left = omega (arith, low, ap (λ (o : RunOptions). o.iterations) same.options, c.requires.all);
      most = λ kind.
          subst (λ (n : ℕ). g.D.Depot.taken c.turn.new.depot (file_of kind) ≤ g.D.Depot.taken c.args.depot.now (file_of kind) + most_taken kind a.options.mode a.table n) (sym next.finished)
          (most_more kind a.options.mode w.options.mode a.table w.table w.finished a.options.iterations
          (g.D.Depot.taken c.args.depot.now) (g.D.Depot.taken c.loop-turn.depot) (g.D.Depot.taken c.turn.new.depot) (ap (λ (o : RunOptions). o.mode) kept.same.options) kept.same.table (omega (arith, kept.left, c.requires.all)) (kept.most kind) next.most next.touches.taken).0;
      reports =
          let k = key_of a in
          let made = turn_tallied model coding a w kept.same _ new.active _ _ _ _ _ new.windows _ _ _ c.in-Ok-Going.field-0 next.reported in
          went_more (model k.program) k.options.show k.options.mode k.options.iterations k.info.vertices (IsTallied k.options.mode k.table) coding c.loop-turn.turn (w.finished + 1) new.windows _ _ _ _ c.in-Ok-Going.field-0
          (ap (λ (t : ℕ). t + 1) kept.counted) kept.reports made c.in-Ok-Going.field-0-is;
      stored = all_more (stored_at v s (key_of a)) w.finished new.finished (g.D.Depot.stored c.args.depot.now) (g.D.Depot.stored c.loop-turn.depot) (g.D.Depot.stored c.turn.new.depot) next.finished kept.stored
          (subst (λ q. RoseAll (g.D.Depot.stored c.loop-turn.depot) (g.D.Depot.stored c.turn.new.depot) (stored_at v s q (w.finished + 1))) key next.stored);
      running = λ edges stands.
          let told = g.D.Depot.holds c.loop-turn.depot in
          let later = g.D.Depot.holds c.turn.new.depot in
          let written = g.O.Sink.written c.args.out.now in
          let now = g.O.Sink.written c.loop-turn.out in
          let after = g.O.Sink.written c.turn.new.out in
          let run = kept.running edges stands in
          let here = subst (λ k. IsStanding coding (model k.program) edges told w) (sym key) run.stands in
          let text = subst (λ k. now ≡ after_told written (texts (lines_of model edges k) w.finished)) (sym key) run.text in
          let turned = subst (HasTurned (model w.program) w.options.show w.options.mode edges (cut_in w.info) w.options.iterations w.finished coding new.windows later new.active now after) c.in-Ok-Going.field-0-is (next.told edges here) in
          let written_on = going_text (model w.program) w.options.show w.options.mode edges (cut_in w.info) w.options.iterations w.finished here.goes_on written now after coding new.windows later new.active text turned in
          record {
            stands = subst (λ k. IsStanding coding (model k.program) edges later new) key (c.turn.ensures.stands edges here (c.in-Ok-Going.is ∙ ap Ok c.in-Ok-Going.field-0-is));
            text = subst (λ k. after ≡ after_told written (texts (lines_of model edges k) new.finished)) key (written_on ∙ ap (λ (t : ℕ). after_told written (texts (lines_of model edges (key_of w)) t)) (sym next.finished));
            moved = all_more (taken_at model edges v s (key_of a)) w.finished new.finished (g.D.Depot.taken c.args.depot.now) (g.D.Depot.taken c.loop-turn.depot) (g.D.Depot.taken c.turn.new.depot) next.finished run.moved
                (subst (λ k. RoseAll (g.D.Depot.taken c.loop-turn.depot) (g.D.Depot.taken c.turn.new.depot) (taken_at model edges v s k (w.finished + 1))) key (next.taken edges here));
          };
    }

pub returns-in-Ok-Ended-clause-most : goal.returns-in-Ok-Ended-clause-most
returns-in-Ok-Ended-clause-most g c kind =
    let kept = c.loop-turn.invariant in
    (most_more kind c.args.engine.now.options.mode c.loop-turn.engine.options.mode c.args.engine.now.table c.loop-turn.engine.table c.loop-turn.engine.finished c.args.engine.now.options.iterations
    (g.D.Depot.taken c.args.depot.now) (g.D.Depot.taken c.loop-turn.depot) (g.D.Depot.taken c.turn.new.depot) (ap (λ (o : RunOptions). o.mode) kept.same.options) kept.same.table (omega (arith, kept.left, c.requires.all)) (kept.most kind) c.in-Ok-Ended.ensures.most c.in-Ok-Ended.ensures.touches.taken).1

pub returns-in-Err-clause-most : goal.returns-in-Err-clause-most
returns-in-Err-clause-most g c kind =
    let kept = c.loop-turn.invariant in
    (most_more kind c.args.engine.now.options.mode c.loop-turn.engine.options.mode c.args.engine.now.table c.loop-turn.engine.table c.loop-turn.engine.finished c.args.engine.now.options.iterations
    (g.D.Depot.taken c.args.depot.now) (g.D.Depot.taken c.loop-turn.depot) (g.D.Depot.taken c.turn.new.depot) (ap (λ (o : RunOptions). o.mode) kept.same.options) kept.same.table (omega (arith, kept.left, c.requires.all)) (kept.most kind) c.in-Err.ensures.most c.in-Err.ensures.touches.taken).1
