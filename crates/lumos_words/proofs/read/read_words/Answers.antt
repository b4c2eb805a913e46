use Rattle.std.proofs.Common.{◌∙◌, ap, drop, subst, sym, Err, Result}
use Rattle.lumos_words.specs.Options.{command_of, has_program, options_of}
use Rattle.lumos_words.specs.Words.{understood}
use Rattle.lumos_words.specs.Matches.{texts_of}
use Rattle.lumos_words.specs.Requests.{IsAnswer}
use Rattle.lumos_words.specs.declared.faults.UsageFault.{UsageFault}
use Rattle.lumos_words.specs.declared.request.Request.{Request}
use Rattle.lumos_words.proofs.Saying.{behind_first, matched, unmatched}
use Rattle.lumos_words.proofs.read.read_words.Goals as goal

pub returns-in-Ok-Some : goal.returns-in-Ok-Some
returns-in-Ok-Some c =
    let word = c.in-Some-command_of.command in
    let items = understood (options_of word) (has_program word) (drop 1 (texts_of c.args.words.now)) in
    let is = behind_first c.args.words.now c.in-Some.first.now word c.in-Some.ensures.value (c.in-Some-command_of.ensures ∙ ap command_of c.as_str.ensures.value) in
    let says = rw c.in-Ok-Some.field-0-is at c.in-Ok-Some.ensures in
    record {
      answer = subst (λ (wanted : Result Request UsageFault). IsAnswer wanted c.asked.result) (sym is) (matched word items c.in-Ok-Some.matches c.asked.result says c.asked.ensures.answer);
      fits = c.asked.ensures.fits;
    }

pub returns-in-Ok-None : goal.returns-in-Ok-None
returns-in-Ok-None c =
    let word = c.in-Some-command_of.command in
    let items = understood (options_of word) (has_program word) (drop 1 (texts_of c.args.words.now)) in
    let is = behind_first c.args.words.now c.in-Some.first.now word c.in-Some.ensures.value (c.in-Some-command_of.ensures ∙ ap command_of c.as_str.ensures.value) in
    let says = rw c.in-Ok-None.field-0-is at c.in-Ok-None.ensures in
    record { answer = is ∙ (unmatched word items says ∙ sym (ap (λ (why : UsageFault). Err why) c.fault-in-Ok-None.ensures)); fits = tt }
