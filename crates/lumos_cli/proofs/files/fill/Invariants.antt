use Rattle.std.proofs.Common.{◌≡◌, ◌≤◌, length}
use Rattle.lumos_cli.proofs.files.fill.Given as goal

abbrev pub invariant-loop : goal.invariant-loop
invariant-loop g l = (l.at ≤ length l.buf) × (length l.buf ≡ length l.initial.buf)
