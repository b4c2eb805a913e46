use Rattle.std.proofs.Common.{◌≡◌}
use Rattle.clap.specs.Words.{app_of}
use Rattle.lumos_words.proofs.ParseLemmas.{rows_app}
use Rattle.lumos_words.proofs.parse.command_for.Given as goal

abbrev pub invariant-loop-row : goal.invariant-loop-row
invariant-loop-row l = app_of l.command ≡ rows_app l.word l.rows l.row-index
