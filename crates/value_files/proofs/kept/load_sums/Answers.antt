use Rattle.std.proofs.Common.{◌≡◌, ◌≤◌, ◌+◌, ◌-◌, ◌*◌, ℕ, length, ap, arith}
use Rattle.lumos_depot.specs.declared.depot.FileKind.TheVariants.{Sums}
use Rattle.lumos_depot.proofs.StepLemmas.{told_more}
use Rattle.value_files.proofs.kept.load_sums.Goals as goal

pub read_values-requires-clause-inside : goal.read_values-requires-clause-inside
read_values-requires-clause-inside g c =
    let w = g.S.Fixed.WIDTH in
    let len = length c.args.out.now in
    let size : c.args.range.past - c.args.range.first ≡ len = omega arith in
    let room = ap (λ (k : ℕ). w * k) size in
    let inside = c.sum_place-from.ensures.inside (omega arith) in
    told_more (g.D.Depot.holds c.args.depot.now Sums) (λ file. c.args.range.past * w ≤ length file) (λ file. c.sum_place-from.result + w * len ≤ length file)
    (λ file fits. omega (arith, fits, room, inside)) c.requires.sized
