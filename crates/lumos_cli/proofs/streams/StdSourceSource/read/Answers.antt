use Rattle.std.proofs.Common.{◌≡◌, [], ◌∙◌, ap, refl, arith}
use Rattle.std.proofs.KnownBytes.{Keeps-refl}
use Rattle.lumos_cli.specs.Buffered.{SourceView}
use Rattle.lumos_cli.proofs.Passing.{held_given, range_some}
use Rattle.lumos_cli.proofs.streams.StdSourceSource.read.Goals as goal

pub returns-then-self-clause-passes : goal.returns-then-self-clause-passes
returns-then-self-clause-passes g c =
    let s = c.args.self.now in
    let in_buffer = c.self.inside in
    let some : s.held ≡ [] → ⊥ = λ none. range_some in_buffer.buffer.items in_buffer.start in_buffer.end c.if-self.true (omega arith) (ap (λ (v : SourceView). v.held) c.self.view_is ∙ none) in
    rw c.give.ensures.after (held_given _ s.left s.held _ _ _ _ (Keeps-refl _) c.give.ensures.count c.give.ensures.bytes refl c.requires (λ none. absurd (some none)))

pub returns-in-Ok-clause-passes : goal.returns-in-Ok-clause-passes
returns-in-Ok-clause-passes g c =
    let s = c.refill.new.self in
    rw c.give-in-Ok.ensures.after (held_given _ s.left s.held _ _ _ _ c.refill.ensures.bytes c.give-in-Ok.ensures.count c.give-in-Ok.ensures.bytes refl c.requires c.in-Ok.ensures.end)
