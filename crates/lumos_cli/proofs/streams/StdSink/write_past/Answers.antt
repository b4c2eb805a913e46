use Rattle.std.proofs.Common.{subst, ap, ◌∙◌, arith}
use Rattle.std.proofs.lemmas.List.{take_all}
use Rattle.std.specs.Io.KnownBytes.{Appends}
use Rattle.lumos_cli.specs.Buffered.{SinkView}
use Rattle.lumos_cli.proofs.Passing.{all_came, none_waited}
use Rattle.lumos_cli.proofs.streams.StdSink.write_past.Goals as goal

pub returns-clause-bytes : goal.returns-clause-bytes
returns-clause-bytes g c =
    let whole = take_all c.write_some.result c.args.bytes.now (omega arith) in
    let none = ap (λ (s : SinkView). s.waiting) c.self.view_is ∙ c.requires in
    rw (← c.self.view_is) (all_came _ _ _ (none_waited _ _ _ _ none (subst (Appends _ _) whole c.write_some.ensures.bytes)))
