use Rattle.std.proofs.Common.{◌≡◌, ◌+◌, not, sym, ap, ◌∙◌, arith}
use Rattle.std.specs.Option.{is_some}
use Rattle.flight_core.specs.Events.{mark_of}
use Rattle.flight_core.proofs.RangeLemmas.{find_hit, find_miss}
use Rattle.flight_core.proofs.made.first_open.Goals as goal

pub returns-then-is_none : goal.returns-then-is_none
returns-then-is_none c =
    let place : c.loop-row.row ≡ 0 + c.loop-row.row = omega arith in
    sym (find_hit (λ i. not (is_some (mark_of c.args.marks.now.items c.args.time i c.args.column))) 0 c.args.rows c.loop-row.row c.loop-row.row place
    c.loop-row-test.true c.loop-row.invariant (ap not (ap is_some (sym c.mark_in.ensures) ∙ c.if-is_none.ensures)))

pub loop-row-preserved : goal.loop-row-preserved
loop-row-preserved c =
    let place : c.loop-row.row ≡ 0 + c.loop-row.row = omega arith in
    find_miss (λ i. not (is_some (mark_of c.args.marks.now.items c.args.time i c.args.column))) 0 c.loop-row.row c.loop-row.row place
    c.loop-row.invariant (ap not (ap is_some (sym c.mark_in.ensures) ∙ c.if-is_none.ensures))
