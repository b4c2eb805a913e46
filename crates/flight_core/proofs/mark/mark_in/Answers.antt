use Rattle.std.proofs.Common.{sym, ap, ap₂, ◌∙◌}
use Rattle.std.specs.Option.{option_or}
use Rattle.flight_core.specs.Events.{mark_of}
use Rattle.flight_core.proofs.SeekLemmas.{mark_of-append}
use Rattle.flight_core.proofs.mark.mark_in.Goals as goal

pub returns : goal.returns
returns c =
    let t = c.args.time in
    let i = c.args.row in
    let j = c.args.column in
    c.or.ensures ∙ ap₂ option_or c.find_mark-found.ensures c.find_mark.ensures
    ∙ sym (mark_of-append t i j c.as_slices.result.0.now c.as_slices.result.1.now) ∙ ap (λ ms. mark_of ms t i j) c.as_slices.ensures.items
