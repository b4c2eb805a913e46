use Rattle.std.proofs.Common.{◌≡◌, ◌≤◌, ◌++◌, length, take, drop, refl, sym, subst, arith}
use Rattle.std.proofs.lemmas.List.{take_at}
use Rattle.lumos_law.specs.Sync.{sum_at, IsChunk}
use Rattle.partition.specs.Parts.{chunk_of, first_vertex, part_length}
use Rattle.windows.proofs.PartLemmas.{part_short}
use Rattle.windows.proofs.ResultLemmas.{on_ok_more}
use Rattle.windows.proofs.StayLemmas.{early_seen, view_stays}
use Rattle.windows.proofs.windows.Windows.load_early.Goals as goal

pub returns-clause-sums : goal.returns-clause-sums
returns-clause-sums g c program state edges stores =
    let p = g.G.VertexProgram.model program in
    let fields = c.self.inside in
    let n = fields.parts.vertices in
    let k = chunk_of fields.parts in
    let new = c.load_early_part.new.out in
    let size : length new ≡ fields.sums.len = omega (arith, c.load_early_part.auto.out, c.deref_mut.ensures.len) in
    let whole : take fields.sums.len (new ++ drop (length new) fields.sums.items) ≡ new = take_at new _ _ size in
    let here = early_seen g.G.Value.Fixed.value_of g.G.Value.Fixed.WIDTH g.G.Sum.Fixed.value_of g.G.Sum.Fixed.WIDTH p _ _ (g.D.Depot.holds c.args.depot.now) c.self.view_is c.args.part state edges stores in
    on_ok_more c.load_early_part.result (take (part_length n k c.args.part) new ≡ here.items) _
    (λ is. record {
      part = refl;
      long = subst (λ l. part_length n k c.args.part ≤ length l) (sym whole) (omega (arith, part_short n k c.args.part, size, c.self.invariant.sums_fit));
      chunk = subst (λ l. IsChunk (sum_at p edges state) (first_vertex n k c.args.part) (take (part_length n k c.args.part) l)) (sym whole)
          (subst (IsChunk (sum_at p edges state) (first_vertex n k c.args.part)) (sym is) here.chunk);
    })
    (c.load_early_part.ensures.sums here.items here.stored)

pub returns-clause-stays : goal.returns-clause-stays
returns-clause-stays g c =
    view_stays g.G.Value.Fixed.value_of g.G.Value.Fixed.WIDTH g.G.Sum.Fixed.value_of g.G.Sum.Fixed.WIDTH _ _ _ (g.D.Depot.holds c.args.depot.now) (g.D.Depot.holds c.load_early_part.new.depot) c.self.view_is
    (record { cut = refl; budget = refl; pinned = refl; value_room = refl; sum_room = refl }) refl refl c.load_early_part.ensures.reads.contents

pub returns-clause-intact : goal.returns-clause-intact
returns-clause-intact g c program state edges stores =
    let p = g.G.VertexProgram.model program in
    let here = early_seen g.G.Value.Fixed.value_of g.G.Value.Fixed.WIDTH g.G.Sum.Fixed.value_of g.G.Sum.Fixed.WIDTH p _ _ (g.D.Depot.holds c.args.depot.now) c.self.view_is c.args.part state edges stores in
    c.load_early_part.ensures.intact here.items here.stored
