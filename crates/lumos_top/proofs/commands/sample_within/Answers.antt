use Rattle.std.proofs.Common.{None, Ok, List, Option, Some, refl, sym, ap, subst, ◌∙◌, ℕ}
use Rattle.std.specs.Prelude.{unwrap_or}
use Rattle.graph_gen.specs.Generated.{generated}
use Rattle.edge_text.specs.Reading.{reading}
use Rattle.lumos_top.specs.Answers.{answer_to, done_with, done_within, drawn, ran_on, unread}
use Rattle.lumos_top.specs.Ends.{EndsOn}
use Rattle.lumos_top.specs.Sides.{sides}
use Rattle.lumos_words.specs.declared.request.Request.TheVariants.{Sample}
use Rattle.lumos_top.proofs.RunLemmas.{began, refused, run_asks, same_grid}
use Rattle.lumos_top.proofs.SampleLemmas.{drawn_ends, drawn_not_input}
use Rattle.lumos_top.proofs.commands.sample_within.Goals as goal

pub returns-in-Ok-clause-usage : goal.returns-in-Ok-clause-usage
returns-in-Ok-clause-usage g c = λ fault is.
    began (ran_on c.args.program c.args.grid.now c.args.iterate) c.in-Ok.text _ c.run.result fault (run_asks c.args.program c.args.grid.now c.args.iterate) c.run.ensures.done is

pub returns-in-Ok-clause-done : goal.returns-in-Ok-clause-done
returns-in-Ok-clause-done g c = λ left.
    let command = ran_on c.args.program c.args.grid.now c.args.iterate in
    let text = drawn c.args.grid.now c.args.seed c.args.edges in
    let is = ap Some (c.new-list.ensures ∙ ap (λ (n : ℕ). generated c.args.seed n c.args.edges) (c.unwrap_or.ensures ∙ ap (λ (v : Option ℕ). unwrap_or v 0) c.in-Ok.ensures.stated)) in
    let beside = sides (λ (l : Option (List ℕ)). l) g.D.Depot.holds g.D.Depot.taken g.D.Depot.stored g.O.Sink.written left left c.args.depot.now c.run.new.depot c.args.out.now c.run.new.out in
    subst (λ l. EndsOn (λ input files. unread (done_within command l text)) beside c.run.result) (sym (sym c.limits_of.ensures.value ∙ c.in-Ok.is))
    (drawn_ends _ left text (λ bytes. done_with command (reading c.in-Ok.text bytes)) c.run.result is c.run.ensures.done)

pub returns-in-Err-clause-done : goal.returns-in-Err-clause-done
returns-in-Err-clause-done g c = λ left.
    refused (answer_to (Ok (Sample c.args.program c.args.grid.now c.args.iterate c.args.seed c.args.edges))) _ _ (λ input files. record {
      built = None;
      gives = ap (λ l. unread (done_within (ran_on c.args.program c.args.grid.now c.args.iterate) l (drawn c.args.grid.now c.args.seed c.args.edges))) (sym c.limits_of.ensures.value ∙ c.in-Err.is);
      same = refl;
      files = same_grid _;
    })

pub returns-in-Ok-clause-no_input : goal.returns-in-Ok-clause-no_input
returns-in-Ok-clause-no_input g c =
    let is = ap Some (c.new-list.ensures ∙ ap (λ (n : ℕ). generated c.args.seed n c.args.edges) (c.unwrap_or.ensures ∙ ap (λ (v : Option ℕ). unwrap_or v 0) c.in-Ok.ensures.stated)) in
    drawn_not_input c.args.program c.args.grid.now c.args.iterate c.args.seed c.args.edges c.in-Ok.text _ c.run.result c.requires.sample.vertices (sym c.limits_of.ensures.value ∙ c.in-Ok.is) is c.run.ensures.done
