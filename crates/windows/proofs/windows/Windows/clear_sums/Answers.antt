use Rattle.std.proofs.Common.{◌≡◌, ◌≤◌, ◌++◌, [], length, take, drop, refl, sym, subst, arith}
use Rattle.std.proofs.lemmas.List.{take_at}
use Rattle.lumos_law.specs.Sync.{sum_at, IsChunk}
use Rattle.partition.specs.Parts.{chunk_of, first_vertex, part_length}
use Rattle.windows.proofs.FeedLemmas.{cleared}
use Rattle.windows.proofs.PartLemmas.{part_short}
use Rattle.windows.proofs.StayLemmas.{view_stays}
use Rattle.windows.proofs.windows.Windows.clear_sums.Goals as goal

pub returns-clause-sums : goal.returns-clause-sums
returns-clause-sums g c program state =
    let p = g.G.VertexProgram.model program in
    let fields = c.self.inside in
    let n = fields.parts.vertices in
    let k = chunk_of fields.parts in
    let new = c.clear_sums.new.sums in
    let size : length new ≡ fields.sums.len = omega (arith, c.clear_sums.auto.sums, c.deref_mut.ensures.len) in
    let whole : take fields.sums.len (new ++ drop (length new) fields.sums.items) ≡ new = take_at new _ _ size in
    record {
      part = refl;
      long = subst (λ l. part_length n k c.args.part ≤ length l) (sym whole) (omega (arith, part_short n k c.args.part, size, c.self.invariant.sums_fit));
      chunk = subst (λ l. IsChunk (sum_at p [] state) (first_vertex n k c.args.part) (take (part_length n k c.args.part) l)) (sym whole)
          (cleared p (first_vertex n k c.args.part) (part_length n k c.args.part) _ state g.G.Sum.Combine.unit new (g.met.G.VertexProgram.unit_is program) c.clear_sums.ensures);
    }

pub returns-clause-next : goal.returns-clause-next
returns-clause-next g c program state =
    let p = g.G.VertexProgram.model program in
    let fields = c.self.inside in
    let n = fields.parts.vertices in
    let k = chunk_of fields.parts in
    let new = c.clear_sums-2.new.sums in
    let size : length new ≡ fields.next_sums.len = omega (arith, c.clear_sums-2.auto.sums, c.deref_mut-2.ensures.len) in
    let whole : take fields.next_sums.len (new ++ drop (length new) fields.next_sums.items) ≡ new = take_at new _ _ size in
    record {
      part = refl;
      long = subst (λ l. part_length n k c.args.part ≤ length l) (sym whole) (omega (arith, part_short n k c.args.part, size, c.self.invariant.next_fits));
      chunk = subst (λ l. IsChunk (sum_at p [] state) (first_vertex n k c.args.part) (take (part_length n k c.args.part) l)) (sym whole)
          (cleared p (first_vertex n k c.args.part) (part_length n k c.args.part) _ state g.G.Sum.Combine.unit new (g.met.G.VertexProgram.unit_is program) c.clear_sums-2.ensures);
    }

pub returns-clause-stays : goal.returns-clause-stays
returns-clause-stays g c told =
    view_stays g.G.Value.Fixed.value_of g.G.Value.Fixed.WIDTH g.G.Sum.Fixed.value_of g.G.Sum.Fixed.WIDTH _ _ _ told told c.self.view_is
    (record { cut = refl; budget = refl; pinned = refl; value_room = refl; sum_room = refl }) refl refl (λ kind. refl)
