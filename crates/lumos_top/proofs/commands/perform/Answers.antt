use Rattle.std.proofs.Common.{◌≡◌, inl, None, Ok, refl, sym, ap, subst, ◌∙◌}
use Rattle.lumos_words.specs.Matches.{texts_of}
use Rattle.lumos_top.specs.Answers.{answer, answer_to}
use Rattle.lumos_top.specs.Ends.{OfSample, end_status}
use Rattle.lumos_top.specs.declared.status.Status.TheVariants.{Input, ReadFault}
use Rattle.lumos_top.proofs.RunLemmas.{asked_for, is_usage, refused, same_grid}
use Rattle.lumos_top.proofs.SampleLemmas.{no_read}
use Rattle.lumos_top.proofs.commands.perform.Goals as goal

pub returns-in-Run-clause-done : goal.returns-in-Run-clause-done
returns-in-Run-clause-done g c = asked_for (texts_of c.args.words.now) _ _ _ (c.in-Ok.ensures.answer ∙ ap Ok c.in-Run.is) c.run_within.ensures.done

pub returns-in-Sample-clause-done : goal.returns-in-Sample-clause-done
returns-in-Sample-clause-done g c = asked_for (texts_of c.args.words.now) _ _ _ (c.in-Ok.ensures.answer ∙ ap Ok c.in-Sample.is) (c.sample_within.ensures.done (g.I.Source.left c.args.input.now))

pub returns-in-Sample-clause-causes : goal.returns-in-Sample-clause-causes
returns-in-Sample-clause-causes g c =
    let h = c.sample_within.ensures.causes (g.I.Source.faults c.args.input.now) in
    record { input_later = h.input_later; depot_later = h.depot_later; out_later = h.out_later; read = h.read; failed = h.failed; written = h.written }

pub returns-in-Sample-clause-unread : goal.returns-in-Sample-clause-unread
returns-in-Sample-clause-unread g c =
    subst (λ asked. OfSample asked ((c.args.input.now ≡ c.args.input.now) × (end_status c.sample_within.result ≡ Input → ⊥) × (end_status c.sample_within.result ≡ ReadFault → ⊥))) (sym (c.in-Ok.ensures.answer ∙ ap Ok c.in-Sample.is))
    (refl, c.sample_within.ensures.no_input, no_read c.sample_within.result (c.sample_within.ensures.causes 0).read)

pub returns-in-Replay-clause-done : goal.returns-in-Replay-clause-done
returns-in-Replay-clause-done g c =
    asked_for (texts_of c.args.words.now) _ _ _ (c.in-Ok.ensures.answer ∙ ap Ok c.in-Replay.is) (c.replay.ensures.done (g.D.Depot.holds c.args.depot.now) (g.D.Depot.taken c.args.depot.now) (g.D.Depot.stored c.args.depot.now))

pub returns-in-Usage-clause-done : goal.returns-in-Usage-clause-done
returns-in-Usage-clause-done g c =
    refused (answer (texts_of c.args.words.now)) _ _ (λ input files. record { built = None; gives = ap (λ r. answer_to r input files) (is_usage _ c.in-Err.fault c.in-Usage.why c.in-Usage.is c.in-Err.ensures.answer); same = refl; files = same_grid _ })

pub returns-in-NoMemory-clause-done : goal.returns-in-NoMemory-clause-done
returns-in-NoMemory-clause-done g c = refused (answer (texts_of c.args.words.now)) _ _ (λ input files. record { same = refl; files = inl refl })
