use Rattle.std.proofs.Common.{◌≤◌, length, take}
use Rattle.std.specs.Io.KnownBytes.{Appends}
use Rattle.lumos_cli.proofs.streams.write_some.Given as goal

abbrev pub invariant-loop : goal.invariant-loop
invariant-loop g l = (l.at ≤ length l.bytes) × Appends (g.W.Write.contents l.initial.inner) (g.W.Write.contents l.inner) (take l.at l.bytes)
