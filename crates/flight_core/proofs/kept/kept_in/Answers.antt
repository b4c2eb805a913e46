use Rattle.std.proofs.Common.{sym, ap, ◌∙◌}
use Rattle.std.specs.Option.{option_or, option_copied}
use Rattle.flight_core.specs.Events.{kept_of}
use Rattle.flight_core.proofs.SeekLemmas.{kept_of-append}
use Rattle.flight_core.proofs.kept.kept_in.Goals as goal

pub returns-in-Some : goal.returns-in-Some
returns-in-Some g c =
    let t = c.args.time in
    let j = c.args.column in
    let first = c.as_slices.result.0.now in
    let second = c.as_slices.result.1.now in
    let found = sym (ap option_copied c.in-Some.is) ∙ c.find_kept.ensures in
    ap (λ o. option_or o (kept_of second t j)) found ∙ sym (kept_of-append t j first second) ∙ ap (λ ks. kept_of ks t j) c.as_slices.ensures.items

pub returns-in-None : goal.returns-in-None
returns-in-None g c =
    let t = c.args.time in
    let j = c.args.column in
    let first = c.as_slices.result.0.now in
    let second = c.as_slices.result.1.now in
    let missed = sym (ap option_copied c.in-None.is) ∙ c.find_kept.ensures in
    c.find_kept-in-None.ensures ∙ ap (λ o. option_or o (kept_of second t j)) missed ∙ sym (kept_of-append t j first second)
    ∙ ap (λ ks. kept_of ks t j) c.as_slices.ensures.items
