use Rattle.std.proofs.Common.{◌≡◌, refl, subst}
use Rattle.std.specs.Io.KnownBytes.{Keeps}
use Rattle.std.proofs.KnownBytes.{Keeps-refl, append_known-grown}
use Rattle.lumos_cli.specs.Buffered.{all_given}
use Rattle.lumos_cli.proofs.Passing.{all_came}
use Rattle.lumos_cli.proofs.streams.StdSinkSink.write_all.Goals as goal

pub returns-then-collect-clause-passes : goal.returns-then-collect-clause-passes
returns-then-collect-clause-passes g c = all_came _ _ _ (rw c.collect.ensures (rw c.if-collect.true (append_known-grown _ _ _ _ _ (Keeps-refl _) refl)))

pub returns-then-collect-2-clause-passes : goal.returns-then-collect-2-clause-passes
returns-then-collect-2-clause-passes g c =
    let same : all_given c.collect.new.self ≡ all_given c.args.self.now = rw c.collect.ensures (rw c.if-collect.false refl) in
    let kept = subst (λ a. Keeps a (all_given c.hand_on.new.self)) same c.hand_on.ensures.bytes in
    all_came _ _ _ (rw c.collect-2.ensures (rw c.if-collect-2.true (append_known-grown _ _ _ _ _ kept refl)))
