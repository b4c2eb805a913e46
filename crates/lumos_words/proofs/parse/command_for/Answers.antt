use Rattle.std.proofs.Common.{◌∙◌, ap}
use Rattle.std.specs.List.{slice_index_or}
use Rattle.clap.specs.Simple.{App}
use Rattle.lumos_words.specs.Matches.{known_of, with_option}
use Rattle.lumos_words.proofs.ParseLemmas.{no_row, row_step}
use Rattle.lumos_words.proofs.parse.command_for.Goals as goal

pub loop-row-preserved : goal.loop-row-preserved
loop-row-preserved c =
    let word = c.args.word in
    let rows = c.options-rows.result.now in
    let i = c.loop-row.row-index in
    c.in_ok-command.ensures ∙ (ap (λ (app : App). with_option word app (known_of (slice_index_or rows i no_row))) c.loop-row.invariant ∙ row_step word rows i c.loop-row-test.true)
