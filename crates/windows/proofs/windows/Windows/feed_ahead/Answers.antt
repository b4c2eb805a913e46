use Rattle.std.proofs.Common.{◌≡◌, ◌≤◌, ◌++◌, ◌-◌, length, take, drop, refl, sym, ap, subst, ◌∙◌, arith}
use Rattle.std.specs.Prelude.{slice_index_or}
use Rattle.std.proofs.lemmas.List.{take_at}
use Rattle.lumos_law.specs.Sync.{sum_at, IsChunk}
use Rattle.partition.specs.Parts.{chunk_of, first_vertex, part_length, IsInPart}
use Rattle.windows.specs.Sums.{HasNext, IsSecond}
use Rattle.windows.specs.Windows.{WindowState, shown_of}
use Rattle.windows.proofs.FeedLemmas.{fed_on}
use Rattle.windows.proofs.PartLemmas.{part_below, part_short, range_first, range_long, within_range}
use Rattle.windows.proofs.StayLemmas.{view_stays}
use Rattle.windows.proofs.windows.Windows.feed_ahead.Goals as goal

pub shown-values-requires-clause-even_fits : goal.shown-values-requires-clause-even_fits
shown-values-requires-clause-even_fits g c low =
    let cut = c.self.inside.parts in
    omega (arith, part_below cut.vertices (chunk_of cut) c.self.inside.second_part c.self.inside.pinned low, c.deref-2.ensures.len, c.self.invariant.even_fits)

pub shown-values-requires-clause-odd_fits : goal.shown-values-requires-clause-odd_fits
shown-values-requires-clause-odd_fits g c low =
    let cut = c.self.inside.parts in
    omega (arith, part_below cut.vertices (chunk_of cut) c.self.inside.second_part c.self.inside.pinned low, c.deref-3.ensures.len, c.self.invariant.odd_fits)

pub feed_window-requires-clause-sources : goal.feed_window-requires-clause-sources
feed_window-requires-clause-sources g c k d below =
    let cut = c.self.inside.parts in
    let v = (slice_index_or c.args.edges.now k d).source.0 in
    within_range c.range_of-from.result cut.vertices (chunk_of cut) c.self.inside.second_part (length c.shown-values.result.now) v c.range_of-from.ensures.value c.shown-values.ensures.long
    (subst (λ (x : WindowState _ _). IsInPart x.cut.vertices (chunk_of x.cut) x.second_part v) (sym c.self.view_is) (c.requires.sources k d below))

pub feed_window-requires-clause-targets : goal.feed_window-requires-clause-targets
feed_window-requires-clause-targets g c k d below =
    let cut = c.self.inside.parts in
    let into = c.range_of-into.result in
    let v = (slice_index_or c.args.edges.now k d).target.0 in
    within_range into cut.vertices (chunk_of cut) c.self.inside.sums_part _ v c.range_of-into.ensures.value (range_long into cut.vertices (chunk_of cut) c.self.inside.sums_part c.range_of-into.ensures.value)
    (subst (λ (x : WindowState _ _). IsInPart x.cut.vertices (chunk_of x.cut) x.sums_part v) (sym c.self.view_is) (c.requires.targets k d below))

pub returns-clause-fed : goal.returns-clause-fed
returns-clause-fed g c i j state before shown has =
    let p = g.G.VertexProgram.model c.args.program.now in
    let fields = c.self.inside in
    let cut = fields.parts in
    let n = cut.vertices in
    let k = chunk_of cut in
    let edges = c.args.edges.now in
    let values = c.shown-values.result.now in
    let old = c.deref_mut.result.now in
    let new = c.feed_window.new.sums in
    let from = c.range_of-from.result in
    let into = c.range_of-into.result in
    let shows = subst (λ (x : WindowState _ _). IsSecond x i state) (sym c.self.view_is) shown in
    let sums = subst (λ (x : WindowState _ _). HasNext p x j state before) (sym c.self.view_is) has in
    let size : length new ≡ fields.next_sums.len = omega (arith, c.feed_window.auto.sums, c.deref_mut.ensures.len) in
    let whole : take fields.next_sums.len (new ++ drop (length new) fields.next_sums.items) ≡ new = take_at new _ _ size in
    let values_are : values ≡ shown_of cut fields.pinned fields.second_part fields.second_turn fields.second.items fields.even.items fields.odd.items =
    c.shown-values.ensures.value ∙ (λ m. shown_of cut fields.pinned fields.second_part fields.second_turn (c.deref.ensures.value m) (c.deref-2.ensures.value m) (c.deref-3.ensures.value m)) in
    let row : from.first ≡ first_vertex n k i = range_first from n k fields.second_part c.range_of-from.ensures.value ∙ ap (first_vertex n k) shows.part in
    let column : into.first ≡ first_vertex n k j = range_first into n k fields.sums_part c.range_of-into.ensures.value ∙ ap (first_vertex n k) sums.part in
    let count : into.past - into.first ≡ part_length n k j = range_long into n k fields.sums_part c.range_of-into.ensures.value ∙ ap (part_length n k) sums.part in
    record {
      part = sums.part;
      long = subst (λ l. part_length n k j ≤ length l) (sym whole) (omega (arith, part_short n k j, size, c.self.invariant.next_fits));
      chunk = subst (λ l. IsChunk (sum_at p (before ++ edges) state) (first_vertex n k j) (take (part_length n k j) l)) (sym whole)
          (fed_on p from.first (first_vertex n k i) into.first into.past (first_vertex n k j) (part_length n k j) state before edges values old new row column count
          (subst (IsChunk state (first_vertex n k i)) (sym values_are) shows.chunk)
          (subst (λ l. IsChunk (sum_at p before state) (first_vertex n k j) (take (part_length n k j) l)) (sym c.deref_mut.ensures.value) sums.chunk)
          c.feed_window.ensures);
    }

pub returns-clause-stays : goal.returns-clause-stays
returns-clause-stays g c told =
    view_stays g.G.Value.Fixed.value_of g.G.Value.Fixed.WIDTH g.G.Sum.Fixed.value_of g.G.Sum.Fixed.WIDTH _ _ _ told told c.self.view_is
    (record { cut = refl; budget = refl; pinned = refl; value_room = refl; sum_room = refl }) refl refl (λ kind. refl)
