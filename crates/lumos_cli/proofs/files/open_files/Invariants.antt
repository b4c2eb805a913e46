use Rattle.std.proofs.Common.{◌≡◌, vec_len}
use Rattle.lumos_cli.proofs.files.open_files.Given as goal

abbrev pub invariant-loop-i : goal.invariant-loop-i
invariant-loop-i g l = vec_len l.files ≡ l.i
