use Rattle.std.proofs.Common.{◌-◌, arith}
use Rattle.value_files.proofs.PlaceLemmas.{value_inside}
use Rattle.value_files.proofs.kept.value_place.Goals as goal

pub returns-clause-inside : goal.returns-clause-inside
returns-clause-inside g c low =
    let inside = value_inside g.V.Fixed.WIDTH c.args.vertices c.args.t c.args.range.first (c.args.range.past - c.args.range.first) (omega arith) in
    rw (c.from.ensures, c.from-2.ensures, c.from-3.ensures, c.WIDTH.ensures) inside
