use Rattle.std.proofs.Common.{false, sym, ◌∙◌}
use Rattle.flight_core.specs.declared.mark.Mark.{Mark}
use Rattle.flight_core.proofs.SeekLemmas.{mark_hit, mark_miss}
use Rattle.flight_core.proofs.mark.find_mark.Goals as goal

-- read where there is no other mark
abbrev no_mark : Mark
no_mark = record { time = 0; row = 0; column = 0; is_fed = false }

pub returns-then-is_of : goal.returns-then-is_of
returns-then-is_of c =
    sym (mark_hit c.args.time c.args.row c.args.column c.args.marks.now c.loop-mark.mark-index no_mark c.loop-mark-test.true c.loop-mark.invariant
    (sym c.is_of.ensures ∙ c.if-is_of.true))

pub loop-mark-preserved : goal.loop-mark-preserved
loop-mark-preserved c =
    mark_miss c.args.time c.args.row c.args.column c.args.marks.now c.loop-mark.mark-index no_mark c.loop-mark-test.true c.loop-mark.invariant
    (sym c.is_of.ensures ∙ c.if-is_of.false)
