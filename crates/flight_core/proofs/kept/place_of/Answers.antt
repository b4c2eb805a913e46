use Rattle.std.proofs.Common.{◌≡◌, None, sym, ap, ◌∙◌, subst}
use Rattle.std.proofs.lemmas.List.{take_all}
use Rattle.flight_core.specs.Events.{is_kept, kept_of}
use Rattle.flight_core.proofs.SeekLemmas.{kept_miss, without_hit, without_none}
use Rattle.flight_core.proofs.kept.place_of.Goals as goal

pub returns-then-is_of : goal.returns-then-is_of
returns-then-is_of g c =
    let t = c.args.time in
    let j = c.args.column in (
      c.loop-at-test.true,
      without_hit t j c.args.list.now c.loop-at.at c.index-list-at.result c.loop-at-test.true c.loop-at.invariant
          (ap (is_kept t j) (sym c.index-list-at.is) ∙ sym c.is_of.ensures ∙ c.if-is_of.true),
    )

pub loop-at-preserved : goal.loop-at-preserved
loop-at-preserved g c =
    let t = c.args.time in
    let j = c.args.column in
    kept_miss t j c.args.list.now c.loop-at.at c.index-list-at.result c.loop-at-test.true c.loop-at.invariant
    (ap (is_kept t j) (sym c.index-list-at.is) ∙ sym c.is_of.ensures ∙ c.if-is_of.false)

pub returns : goal.returns
returns g c =
    without_none c.args.time c.args.column c.args.list.now
    (subst (λ ks. kept_of ks c.args.time c.args.column ≡ None) (take_all c.loop-at.at c.args.list.now c.loop-at-test.false) c.loop-at.invariant)
