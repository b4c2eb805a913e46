use Rattle.std.proofs.Common.{◌≡◌, ◌≤◌, ◌+◌, ◌-◌, ◌*◌, ℕ, length, ap, arith}
use Rattle.lumos_depot.specs.declared.depot.FileKind.TheVariants.{Sums}
use Rattle.lumos_depot.proofs.StepLemmas.{told_more}
use Rattle.value_files.proofs.PlaceLemmas.{told_back}
use Rattle.value_files.proofs.kept.store_sums.Goals as goal

pub write_values-requires-clause-inside : goal.write_values-requires-clause-inside
write_values-requires-clause-inside g c =
    let w = g.S.Fixed.WIDTH in
    let len = length c.args.sums.now in
    let size : c.args.range.past - c.args.range.first ≡ len = omega arith in
    let room = ap (λ (k : ℕ). w * k) size in
    let inside = c.sum_place-into.ensures.inside (omega arith) in
    told_more (g.D.Depot.holds c.args.depot.now Sums) (λ file. c.args.range.past * w ≤ length file) (λ file. c.sum_place-into.result + w * len ≤ length file)
    (λ file fits. omega (arith, fits, room, inside)) c.requires.sized

pub returns-in-Ok-clause-reads_back : goal.returns-in-Ok-clause-reads_back
returns-in-Ok-clause-reads_back g c =
    let w = g.S.Fixed.WIDTH in
    let len = length c.args.sums.now in
    let size : c.args.range.past - c.args.range.first ≡ len = omega arith in
    let room = ap (λ (k : ℕ). w * k) size in
    let inside = c.sum_place-into.ensures.inside (omega arith) in
    rw (← c.sum_place-into.ensures.value)
    (told_back g.S.Fixed.bytes_of w g.met.S.Fixed.length_bytes g.S.Fixed.value_of g.S.Fixed.is_in_range g.met.S.Fixed.reads_back c.args.sums.now c.sum_place-into.result
    (g.D.Depot.holds c.args.depot.now Sums) (g.D.Depot.holds c.write_values.new.depot Sums) (λ file. c.args.range.past * w ≤ length file) (λ file fits. omega (arith, fits, room, inside))
    c.in-Ok.ensures.in_range c.requires.sized c.in-Ok.ensures.written)
