use Rattle.std.proofs.Common.{◌-◌, arith}
use Rattle.value_files.proofs.PlaceLemmas.{sum_inside}
use Rattle.value_files.proofs.kept.sum_place.Goals as goal

pub returns-clause-inside : goal.returns-clause-inside
returns-clause-inside g c low =
    let inside = sum_inside g.S.Fixed.WIDTH c.args.range.first (c.args.range.past - c.args.range.first) c.args.range.past (omega arith) in
    rw (c.from.ensures, c.WIDTH.ensures) inside
