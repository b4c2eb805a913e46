use Rattle.std.proofs.Common.{◌≡◌, ◌+◌, ◌-◌, ◌≤◌, ◌*◌, ℕ, length, take, refl, ap, subst, arith}
use Rattle.std.proofs.lemmas.List.{length-take}
use Rattle.std.proofs.lemmas.Nat.{mul-le}
use Rattle.lumos_depot.specs.Files.{SameOutsideTold}
use Rattle.lumos_depot.specs.declared.depot.FileKind.TheVariants.{Sums, Values}
use Rattle.lumos_depot.proofs.StepLemmas.{told_more}
use Rattle.partition.specs.Parts.{chunk_of, first_vertex, part_length}
use Rattle.value_files.specs.Kept.{sum_place}
use Rattle.windows.specs.Kept.{StaysButSums}
use Rattle.windows.specs.Windows.{WindowState}
use Rattle.windows.proofs.PartLemmas.{range_first, range_past}
use Rattle.windows.proofs.StayLemmas.{coding, view_stored}
use Rattle.windows.proofs.windows.Windows.store_early.Goals as goal

pub store_sums-requires-clause-sized : goal.store_sums-requires-clause-sized
store_sums-requires-clause-sized g c =
    let w = g.G.Sum.Fixed.WIDTH in
    let past = c.range_of-range.result.past in
    let n : c.self.inside.parts.vertices ≡ c.args.self.now.cut.vertices = ap (λ (x : WindowState _ _). x.cut.vertices) c.self.view_is in
    let within = mul-le past w c.args.self.now.cut.vertices w (omega (arith, c.range_of-range.ensures.inside, n)) (omega arith) in
    told_more (g.D.Depot.holds c.args.depot.now Sums) (λ file. length file ≡ c.args.self.now.cut.vertices * w) (λ file. past * w ≤ length file) (λ file size. omega (arith, size, within)) c.requires.sized.sums_size

pub returns-clause-stays : goal.returns-clause-stays
returns-clause-stays g c =
    let w = g.G.Sum.Fixed.WIDTH in
    let cut = c.self.inside.parts in
    let first = c.range_of-range.result.first in
    let past = c.range_of-range.result.past in
    let first_is : first ≡ first_vertex cut.vertices (chunk_of cut) c.args.part = range_first c.range_of-range.result cut.vertices (chunk_of cut) c.args.part c.range_of-range.ensures.value in
    let past_is : past ≡ first_vertex cut.vertices (chunk_of cut) (c.args.part + 1) = range_past c.range_of-range.result cut.vertices (chunk_of cut) c.args.part c.range_of-range.ensures.value in
    let told = g.D.Depot.holds c.args.depot.now in
    let after = g.D.Depot.holds c.store_sums.new.depot in
    let slice = take (past - first) c.deref.result.now in
    let size : length slice ≡ part_length cut.vertices (chunk_of cut) c.args.part = simp length-take (omega (arith, first_is, past_is, c.deref.ensures.len, c.self.invariant.next_fits, c.range_of-range.ensures.short)) in
    let same : SameOutsideTold (sum_place w (first_vertex cut.vertices (chunk_of cut) c.args.part)) (w * part_length cut.vertices (chunk_of cut) c.args.part) (told Sums) (after Sums) =
    subst (λ (f : ℕ). SameOutsideTold (sum_place w f) (w * part_length cut.vertices (chunk_of cut) c.args.part) (told Sums) (after Sums)) first_is
    (subst (λ (m : ℕ). SameOutsideTold (sum_place w first) (w * m) (told Sums) (after Sums)) size c.store_sums.ensures.outside) in
    subst (λ (x : WindowState _ _). StaysButSums (coding g.G.Value.Fixed.value_of g.G.Value.Fixed.WIDTH g.G.Sum.Fixed.value_of w) c.args.part c.args.self.now told x after) c.self.view_is
    (view_stored g.G.Value.Fixed.value_of g.G.Value.Fixed.WIDTH g.G.Sum.Fixed.value_of w _ _ _ told after c.self.view_is
    (record { cut = refl; budget = refl; pinned = refl; value_room = refl; sum_room = refl }) c.args.part refl refl (c.store_sums.ensures.stores.contents Values (λ e. cc)) same)
