use Rattle.std.proofs.Common.{◌≤◌, length}
use Rattle.lumos_cli.proofs.files.write_whole.Given as goal

abbrev pub invariant-loop : goal.invariant-loop
invariant-loop g l = l.at ≤ length l.bytes
