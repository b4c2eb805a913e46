use Rattle.std.proofs.Common.{Some, sym, ap, ◌∙◌}
use Rattle.flight_core.specs.Events.{Kept, is_kept}
use Rattle.flight_core.proofs.SeekLemmas.{kept_hit, kept_miss}
use Rattle.flight_core.proofs.kept.find_kept.Goals as goal

pub returns-then-is_of : goal.returns-then-is_of
returns-then-is_of g c =
    let t = c.args.time in
    let j = c.args.column in
    let item = c.kept-item.result in
    ap Some (c.items.ensures ∙ ap (λ (k : Kept _). k.items) c.kept-item.is)
    ∙ sym (kept_hit t j c.args.list.now c.loop-kept.kept-index item c.loop-kept-test.true c.loop-kept.invariant
    (ap (is_kept t j) (sym c.kept-item.is) ∙ sym c.is_of.ensures ∙ c.if-is_of.true))

pub loop-kept-preserved : goal.loop-kept-preserved
loop-kept-preserved g c =
    let t = c.args.time in
    let j = c.args.column in
    kept_miss t j c.args.list.now c.loop-kept.kept-index c.kept-item.result c.loop-kept-test.true c.loop-kept.invariant
    (ap (is_kept t j) (sym c.kept-item.is) ∙ sym c.is_of.ensures ∙ c.if-is_of.false)
