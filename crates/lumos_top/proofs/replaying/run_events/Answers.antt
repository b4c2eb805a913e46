use Rattle.std.proofs.Common.{◌≡◌, ◌+◌, ℕ, drop, get_or, Err, Some, None, sym, ap, subst, ◌∙◌, add-one}
use Rattle.std.proofs.lemmas.List.{drop_more}
use Rattle.flight_core.specs.Replayed.{refused}
use Rattle.flight_core.specs.declared.event.Event.TheVariants.{Feed}
use Rattle.lumos_top.proofs.EventSteps.{HasReached, none_done, one_done, one_refused, was_legal, was_refused}
use Rattle.lumos_top.proofs.replaying.run_events.Goals as goal

pub loop-k-init : goal.loop-k-init
loop-k-init g c = record { reached = none_done g.G.VertexProgram.model c.args.replay.now c.args.events.now }

pub returns-in-Illegal : goal.returns-in-Illegal
returns-in-Illegal g c =
    let model = g.G.VertexProgram.model in
    let k = c.loop-k.k in
    let events = c.args.events.now in
    let event = get_or events k (Feed 0 0 0) in
    let next = subst (HasReached model c.args.replay.now c.loop-k.replay k events) (drop_more events k (Feed 0 0 0) c.loop-k-test.true) c.loop-k.invariant.reached in
    let why : refused (model c.loop-k.replay.program) c.loop-k.replay event ≡ Some c.in-Illegal.why =
    was_refused c.step.result (refused (model c.loop-k.replay.program) c.loop-k.replay event) c.in-Illegal.why (c.in-Err.is ∙ ap Err c.in-Illegal.is) c.step.ensures.legal c.step.ensures.illegal in
    one_refused model c.args.replay.now c.loop-k.replay k events (drop (k + 1) events) event c.in-Illegal.why next why
    ∙ ap (λ (n : ℕ). Some (record { event = n; why = c.in-Illegal.why })) (sym (add-one k))

pub loop-k-preserved : goal.loop-k-preserved
loop-k-preserved g c =
    let model = g.G.VertexProgram.model in
    let k = c.loop-k.k in
    let events = c.args.events.now in
    let event = get_or events k (Feed 0 0 0) in
    let next = subst (HasReached model c.args.replay.now c.loop-k.replay k events) (drop_more events k (Feed 0 0 0) c.loop-k-test.true) c.loop-k.invariant.reached in
    let legal : refused (model c.loop-k.replay.program) c.loop-k.replay event ≡ None =
    was_legal c.step.result (refused (model c.loop-k.replay.program) c.loop-k.replay event) c.in-Ok.is c.step.ensures.illegal in
    record {
      reached = subst (λ (n : ℕ). HasReached model c.args.replay.now c.step.new.self n events (drop (k + 1) events)) (sym (add-one k))
          (one_done model c.args.replay.now c.loop-k.replay c.step.new.self k events (drop (k + 1) events) event next legal c.in-Ok.ensures.done);
    }
