use Rattle.std.proofs.Common.{None, Ok, refl, sym, ap, ◌∙◌}
use Rattle.lumos_top.specs.Answers.{answer_to, done_within, ran_on}
use Rattle.lumos_words.specs.declared.request.Request.TheVariants.{Run}
use Rattle.lumos_top.proofs.RunLemmas.{began, refused, run_asks, same_grid, within_limits}
use Rattle.lumos_top.proofs.commands.run_within.Goals as goal

pub returns-in-Ok-clause-usage : goal.returns-in-Ok-clause-usage
returns-in-Ok-clause-usage g c = λ fault is.
    began (ran_on c.args.program c.args.grid.now c.args.iterate) c.in-Ok.text _ c.run.result fault (run_asks c.args.program c.args.grid.now c.args.iterate) c.run.ensures.done is

pub returns-in-Ok-clause-done : goal.returns-in-Ok-clause-done
returns-in-Ok-clause-done g c =
    within_limits (ran_on c.args.program c.args.grid.now c.args.iterate) _ c.in-Ok.text _ c.run.result (sym c.limits_of.ensures.value ∙ c.in-Ok.is) c.run.ensures.done

pub returns-in-Err-clause-done : goal.returns-in-Err-clause-done
returns-in-Err-clause-done g c =
    refused (answer_to (Ok (Run c.args.program c.args.grid.now c.args.iterate))) _ _ (λ input files. record {
      built = None;
      gives = ap (λ l. done_within (ran_on c.args.program c.args.grid.now c.args.iterate) l input) (sym c.limits_of.ensures.value ∙ c.in-Err.is);
      same = refl;
      files = same_grid _;
    })
