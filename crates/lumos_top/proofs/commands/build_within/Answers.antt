use Rattle.std.proofs.Common.{None, Ok, refl, sym, ap, ◌∙◌}
use Rattle.lumos_top.specs.Answers.{answer_to, built_on, done_within}
use Rattle.lumos_words.specs.declared.request.Request.TheVariants.{Build}
use Rattle.lumos_top.proofs.RunLemmas.{refused, same_grid}
use Rattle.lumos_top.proofs.commands.build_within.Goals as goal

pub returns-in-Err-clause-done : goal.returns-in-Err-clause-done
returns-in-Err-clause-done g c =
    refused (answer_to (Ok (Build c.args.grid.now))) _ _ (λ input files. record {
      built = None;
      gives = ap (λ l. done_within (built_on c.args.grid.now) l input) (sym c.limits_of.ensures.value ∙ c.in-Err.is);
      same = refl;
      files = same_grid _;
    })
