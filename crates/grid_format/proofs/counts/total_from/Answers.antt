use Rattle.std.proofs.Common.{◌+◌, ◌-◌, ◌*◌, sum, ap, arith}
use Rattle.std.proofs.lemmas.List.Sums.{sum_by-cons}
use Rattle.grid_format.specs.Heads.{number_at, numbers}
use Rattle.grid_format.proofs.NumberLemmas.{numbers_step}
use Rattle.grid_format.proofs.counts.total_from.Goals as goal

pub loop-i-preserved : goal.loop-i-preserved
loop-i-preserved c =
    let i = c.loop-i.i in
    let bytes = c.args.bytes.now in
    let parts = c.args.parts in
    omega (arith, c.loop-i.invariant, c.number_of_eight-total.ensures, ap sum (numbers_step parts i bytes (omega arith)), sum_by-cons (λ x. x) (number_at 8 (8 * i) bytes) (numbers (8 * (i + 1)) (parts - (i + 1)) bytes))
