use Rattle.std.proofs.Common.{◌≡◌, ◌≤◌, ◌++◌, ◌+◌, ◌-◌, ◌%◌, ◌==◌, inl, ℕ, true, cond, None, List, length, take, drop, refl, sym, ap, subst, ◌∙◌, arith}
use Rattle.std.specs.Prelude.{IfOk, is_some}
use Rattle.std.proofs.lemmas.List.{take_at}
use Rattle.lumos_depot.specs.declared.depot.FileKind.TheVariants.{Sums, Values}
use Rattle.lumos_law.specs.Sync.{sum_at, IsChunk}
use Rattle.partition.specs.Parts.{chunk_of, first_vertex, part_length}
use Rattle.partition.specs.declared.records.VertexRange.{VertexRange}
use Rattle.flight_core.specs.Finish.{applied, finish_of}
use Rattle.value_files.specs.Kept.{value_place}
use Rattle.windows.specs.Kept.{AreFiled}
use Rattle.windows.specs.Windows.{WindowState, chunk_count, chunk_first, chunk_in, put_in, shown_of, turn_list}
use Rattle.windows.proofs.KeptLemmas.{beside, chunk_long, kept_filed, shown_high, shown_low, told_is_some, turn_long}
use Rattle.windows.proofs.MadeLemmas.{before_filed, before_stays, closed_in_memory, closed_range, file_keeps, if_ok_both, kept_first, memory_keeps, turns_differ}
use Rattle.windows.proofs.PartLemmas.{part_below, part_ends, range_past}
use Rattle.windows.proofs.ResultLemmas.{if_ok_more, on_ok_more}
use Rattle.windows.proofs.StayLemmas.{first_shown, keeps_seen, sums_seen, view_filed, view_sized, view_sized_filed, view_written}
use Rattle.windows.proofs.windows.Windows.close.Goals as goal

pub close_in_memory-requires-clause-even_fits : goal.close_in_memory-requires-clause-even_fits
close_in_memory-requires-clause-even_fits g c =
    let cut = c.self.inside.parts in
    let past : c.range_of-range.result.past ≡ first_vertex cut.vertices (chunk_of cut) (c.args.part + 1) = range_past c.range_of-range.result cut.vertices (chunk_of cut) c.args.part c.range_of-range.ensures.value in
    omega (arith, past, part_below cut.vertices (chunk_of cut) c.args.part c.self.inside.pinned c.if-part-self.true, c.deref_mut.ensures.len, c.self.invariant.even_fits)

pub close_in_memory-requires-clause-odd_fits : goal.close_in_memory-requires-clause-odd_fits
close_in_memory-requires-clause-odd_fits g c =
    let cut = c.self.inside.parts in
    let past : c.range_of-range.result.past ≡ first_vertex cut.vertices (chunk_of cut) (c.args.part + 1) = range_past c.range_of-range.result cut.vertices (chunk_of cut) c.args.part c.range_of-range.ensures.value in
    omega (arith, past, part_below cut.vertices (chunk_of cut) c.args.part c.self.inside.pinned c.if-part-self.true, c.deref_mut-then-part-self.ensures.len, c.self.invariant.odd_fits)

pub returns-then-part-self-clause-end : goal.returns-then-part-self-clause-end
returns-then-part-self-clause-end g c u state edges next keeps has =
    let p = g.G.VertexProgram.model c.args.program.now in
    let value_of = g.G.Value.Fixed.value_of in
    let w = g.G.Value.Fixed.WIDTH in
    let fields = c.self.inside in
    let cut = fields.parts in
    let j = c.args.part in
    let told = g.D.Depot.holds c.args.depot.now in
    let even = c.deref_mut.result.now in
    let odd = c.deref_mut-then-part-self.result.now in
    let sums = c.deref.result.now in
    let kept = keeps_seen value_of w g.G.Sum.Fixed.value_of g.G.Sum.Fixed.WIDTH _ _ told c.self.view_is u j state even odd c.deref_mut.ensures.value c.deref_mut-then-part-self.ensures.value keeps in
    let total = sums_seen p _ _ c.self.view_is j state edges sums c.deref.ensures.value has in
    subst (λ (x : WindowState _ _). c.close_in_memory.result ≡ finish_of p state (sum_at p edges state) (chunk_first x j) (chunk_count x j)) c.self.view_is
    (closed_in_memory p value_of w cut fields.pinned c.args.t u j next even odd (told Values) state (sum_at p edges state) sums kept total c.range_of-range.result (turn_list c.args.t c.close_in_memory.new.even c.close_in_memory.new.odd)
    c.close_in_memory.result c.range_of-range.ensures.value c.if-part-self.true c.close_in_memory.ensures.step).1

pub returns-then-part-self-clause-kept : goal.returns-then-part-self-clause-kept
returns-then-part-self-clause-kept g c u state edges next keeps has none =
    let p = g.G.VertexProgram.model c.args.program.now in
    let value_of = g.G.Value.Fixed.value_of in
    let w = g.G.Value.Fixed.WIDTH in
    let fields = c.self.inside in
    let cut = fields.parts in
    let j = c.args.part in
    let low = c.if-part-self.true in
    let told = g.D.Depot.holds c.args.depot.now in
    let even = c.deref_mut.result.now in
    let odd = c.deref_mut-then-part-self.result.now in
    let sums = c.deref.result.now in
    let new_even = c.close_in_memory.new.even in
    let new_odd = c.close_in_memory.new.odd in
    let long_even : length new_even ≡ fields.even.len = omega (arith, c.close_in_memory.auto.even, c.deref_mut.ensures.len) in
    let long_odd : length new_odd ≡ fields.odd.len = omega (arith, c.close_in_memory.auto.odd, c.deref_mut-then-part-self.ensures.len) in
    let whole_even : take fields.even.len (new_even ++ drop (length new_even) fields.even.items) ≡ new_even = take_at new_even _ _ long_even in
    let whole_odd : take fields.odd.len (new_odd ++ drop (length new_odd) fields.odd.items) ≡ new_odd = take_at new_odd _ _ long_odd in
    let below = part_below cut.vertices (chunk_of cut) j fields.pinned low in
    let reach = turn_long (first_vertex cut.vertices (chunk_of cut) (j + 1)) c.args.t new_even new_odd (omega (arith, below, long_even, c.self.invariant.even_fits)) (omega (arith, below, long_odd, c.self.invariant.odd_fits)) in
    let kept = keeps_seen value_of w g.G.Sum.Fixed.value_of g.G.Sum.Fixed.WIDTH _ _ told c.self.view_is u j state even odd c.deref_mut.ensures.value c.deref_mut-then-part-self.ensures.value keeps in
    let total = sums_seen p _ _ c.self.view_is j state edges sums c.deref.ensures.value has in
    let came = closed_in_memory p value_of w cut fields.pinned c.args.t u j next even odd (told Values) state (sum_at p edges state) sums kept total c.range_of-range.result (turn_list c.args.t new_even new_odd)
    c.close_in_memory.result c.range_of-range.ensures.value low c.close_in_memory.ensures.step in
    memory_keeps value_of w cut fields.pinned c.args.t j (applied p state (sum_at p edges state)) (told Values) _ _ new_even new_odd whole_even whole_odd low reach came.0

pub returns-then-part-self-clause-shown : goal.returns-then-part-self-clause-shown
returns-then-part-self-clause-shown g c u state next keeps =
    let value_of = g.G.Value.Fixed.value_of in
    let w = g.G.Value.Fixed.WIDTH in
    let fields = c.self.inside in
    let cut = fields.parts in
    let n = cut.vertices in
    let k = chunk_of cut in
    let j = c.args.part in
    let low = c.if-part-self.true in
    let told = g.D.Depot.holds c.args.depot.now in
    let even = c.deref_mut.result.now in
    let odd = c.deref_mut-then-part-self.result.now in
    let new_even = c.close_in_memory.new.even in
    let new_odd = c.close_in_memory.new.odd in
    let turn = turn_list c.args.t new_even new_odd in
    let long_even : length new_even ≡ fields.even.len = omega (arith, c.close_in_memory.auto.even, c.deref_mut.ensures.len) in
    let long_odd : length new_odd ≡ fields.odd.len = omega (arith, c.close_in_memory.auto.odd, c.deref_mut-then-part-self.ensures.len) in
    let whole_even : take fields.even.len (new_even ++ drop (length new_even) fields.even.items) ≡ new_even = take_at new_even _ _ long_even in
    let whole_odd : take fields.odd.len (new_odd ++ drop (length new_odd) fields.odd.items) ≡ new_odd = take_at new_odd _ _ long_odd in
    let below = part_below n k j fields.pinned low in
    let reach = turn_long (first_vertex n k (j + 1)) c.args.t new_even new_odd (omega (arith, below, long_even, c.self.invariant.even_fits)) (omega (arith, below, long_odd, c.self.invariant.odd_fits)) in
    let room : first_vertex n k j + part_length n k j ≤ length (turn_list c.args.t even odd) =
    turn_long (first_vertex n k j + part_length n k j) c.args.t even odd (omega (arith, part_ends n k j, below, c.deref_mut.ensures.len, c.self.invariant.even_fits)) (omega (arith, part_ends n k j, below, c.deref_mut-then-part-self.ensures.len, c.self.invariant.odd_fits)) in
    let e : new_even ≡ cond (c.args.t % 2 == 1) even (put_in (first_vertex n k j) (chunk_in cut j turn) even) =
    subst (λ (r : VertexRange). new_even ≡ cond (c.args.t % 2 == 1) even (put_in r.first (take (r.past - r.first) (drop r.first turn)) even)) c.range_of-range.ensures.value c.close_in_memory.ensures.even in
    let o : new_odd ≡ cond (c.args.t % 2 == 1) (put_in (first_vertex n k j) (chunk_in cut j turn) odd) odd =
    subst (λ (r : VertexRange). new_odd ≡ cond (c.args.t % 2 == 1) (put_in r.first (take (r.past - r.first) (drop r.first turn)) odd) odd) c.range_of-range.ensures.value c.close_in_memory.ensures.odd in
    let kept = keeps_seen value_of w g.G.Sum.Fixed.value_of g.G.Sum.Fixed.WIDTH _ _ told c.self.view_is u j state even odd c.deref_mut.ensures.value c.deref_mut-then-part-self.ensures.value keeps in
    let stays = before_stays value_of w cut fields.pinned c.args.t u j even odd new_even new_odd (chunk_in cut j turn) (told Values) state next (chunk_long cut j turn reach) room e o kept in
    let prior : c.args.t - 1 ≡ u = omega (arith, next) in
    kept_first _ u j state value_of w (told Values) fields.first.items new_even new_odd refl
    (λ i. shown_of cut fields.pinned j (prior i) fields.first.items (whole_even i) (whole_odd i)) low stays

pub returns-then-part-self-clause-by_window : goal.returns-then-part-self-clause-by_window
returns-then-part-self-clause-by_window g c state sum shown total =
    let p = g.G.VertexProgram.model c.args.program.now in
    let fields = c.self.inside in
    let cut = fields.parts in
    let n = cut.vertices in
    let k = chunk_of cut in
    let j = c.args.part in
    let t = c.args.t in
    let low = c.if-part-self.true in
    let even = c.deref_mut.result.now in
    let odd = c.deref_mut-then-part-self.result.now in
    let sums = c.deref.result.now in
    let new_even = c.close_in_memory.new.even in
    let new_odd = c.close_in_memory.new.odd in
    let turn = turn_list t new_even new_odd in
    let long_even : length new_even ≡ fields.even.len = omega (arith, c.close_in_memory.auto.even, c.deref_mut.ensures.len) in
    let long_odd : length new_odd ≡ fields.odd.len = omega (arith, c.close_in_memory.auto.odd, c.deref_mut-then-part-self.ensures.len) in
    let whole_even : take fields.even.len (new_even ++ drop (length new_even) fields.even.items) ≡ new_even = take_at new_even _ _ long_even in
    let whole_odd : take fields.odd.len (new_odd ++ drop (length new_odd) fields.odd.items) ≡ new_odd = take_at new_odd _ _ long_odd in
    let below = part_below n k j fields.pinned low in
    let reach = turn_long (first_vertex n k (j + 1)) t new_even new_odd (omega (arith, below, long_even, c.self.invariant.even_fits)) (omega (arith, below, long_odd, c.self.invariant.odd_fits)) in
    let room : first_vertex n k j + part_length n k j ≤ length (turn_list t even odd) =
    turn_long (first_vertex n k j + part_length n k j) t even odd (omega (arith, part_ends n k j, below, c.deref_mut.ensures.len, c.self.invariant.even_fits)) (omega (arith, part_ends n k j, below, c.deref_mut-then-part-self.ensures.len, c.self.invariant.odd_fits)) in
    let e : new_even ≡ cond (t % 2 == 1) even (put_in (first_vertex n k j) (chunk_in cut j turn) even) =
    subst (λ (r : VertexRange). new_even ≡ cond (t % 2 == 1) even (put_in r.first (take (r.past - r.first) (drop r.first turn)) even)) c.range_of-range.ensures.value c.close_in_memory.ensures.even in
    let o : new_odd ≡ cond (t % 2 == 1) (put_in (first_vertex n k j) (chunk_in cut j turn) odd) odd =
    subst (λ (r : VertexRange). new_odd ≡ cond (t % 2 == 1) (put_in r.first (take (r.past - r.first) (drop r.first turn)) odd) odd) c.range_of-range.ensures.value c.close_in_memory.ensures.odd in
    let next : t ≡ t - 1 + 1 = omega (arith, c.requires.some) in
    let first_is = (λ i. shown_of cut fields.pinned j (t - 1) fields.first.items (whole_even i) (whole_odd i)) ∙ shown_low cut fields.pinned j (t - 1) fields.first.items new_even new_odd low
    ∙ beside cut t j (t - 1) j even odd new_even new_odd (chunk_in cut j turn) (inl (turns_differ t (t - 1) next)) (chunk_long cut j turn reach) room e o in
    let here : IsChunk state (first_vertex n k j) (chunk_in cut j (turn_list (t - 1) even odd)) = subst (IsChunk state (first_vertex n k j)) first_is shown.chunk in
    let fed = subst (λ (x : WindowState _ _). IsChunk sum (chunk_first x j) (take (chunk_count x j) x.sums)) (sym c.self.view_is) total in
    let fed_here : IsChunk sum (first_vertex n k j) (take (part_length n k j) sums) = subst (λ (l : List _). IsChunk sum (first_vertex n k j) (take (part_length n k j) l)) (sym c.deref.ensures.value) fed in
    subst (λ (x : WindowState _ _). c.close_in_memory.result ≡ finish_of p state sum (chunk_first x j) (chunk_count x j)) c.self.view_is
    (closed_range p cut j c.range_of-range.result (turn_list (t - 1) even odd) turn sums c.close_in_memory.result state sum c.range_of-range.ensures.value c.close_in_memory.ensures.step here fed_here).1

pub returns-then-part-self-clause-stays : goal.returns-then-part-self-clause-stays
returns-then-part-self-clause-stays g c =
    let fields = c.self.inside in
    let cut = fields.parts in
    let n = cut.vertices in
    let k = chunk_of cut in
    let j = c.args.part in
    let low = c.if-part-self.true in
    let told = g.D.Depot.holds c.args.depot.now in
    let even = c.deref_mut.result.now in
    let odd = c.deref_mut-then-part-self.result.now in
    let new_even = c.close_in_memory.new.even in
    let new_odd = c.close_in_memory.new.odd in
    let turn = turn_list c.args.t new_even new_odd in
    let long_even : length new_even ≡ fields.even.len = omega (arith, c.close_in_memory.auto.even, c.deref_mut.ensures.len) in
    let long_odd : length new_odd ≡ fields.odd.len = omega (arith, c.close_in_memory.auto.odd, c.deref_mut-then-part-self.ensures.len) in
    let whole_even : take fields.even.len (new_even ++ drop (length new_even) fields.even.items) ≡ new_even = take_at new_even _ _ long_even in
    let whole_odd : take fields.odd.len (new_odd ++ drop (length new_odd) fields.odd.items) ≡ new_odd = take_at new_odd _ _ long_odd in
    let below = part_below n k j fields.pinned low in
    let reach = turn_long (first_vertex n k (j + 1)) c.args.t new_even new_odd (omega (arith, below, long_even, c.self.invariant.even_fits)) (omega (arith, below, long_odd, c.self.invariant.odd_fits)) in
    let even_is = c.deref_mut.ensures.value in
    let odd_is = c.deref_mut-then-part-self.ensures.value in
    let room : first_vertex n k j + part_length n k j ≤ length (turn_list c.args.t fields.even.items fields.odd.items) =
    subst (λ (xs : List _). first_vertex n k j + part_length n k j ≤ length xs) (λ i. turn_list c.args.t (even_is i) (odd_is i))
    (turn_long (first_vertex n k j + part_length n k j) c.args.t even odd (omega (arith, part_ends n k j, below, c.deref_mut.ensures.len, c.self.invariant.even_fits)) (omega (arith, part_ends n k j, below, c.deref_mut-then-part-self.ensures.len, c.self.invariant.odd_fits))) in
    let e : new_even ≡ cond (c.args.t % 2 == 1) even (put_in (first_vertex n k j) (chunk_in cut j turn) even) =
    subst (λ (r : VertexRange). new_even ≡ cond (c.args.t % 2 == 1) even (put_in r.first (take (r.past - r.first) (drop r.first turn)) even)) c.range_of-range.ensures.value c.close_in_memory.ensures.even in
    let o : new_odd ≡ cond (c.args.t % 2 == 1) (put_in (first_vertex n k j) (chunk_in cut j turn) odd) odd =
    subst (λ (r : VertexRange). new_odd ≡ cond (c.args.t % 2 == 1) (put_in r.first (take (r.past - r.first) (drop r.first turn)) odd) odd) c.range_of-range.ensures.value c.close_in_memory.ensures.odd in
    view_written g.G.Value.Fixed.value_of g.G.Value.Fixed.WIDTH g.G.Sum.Fixed.value_of g.G.Sum.Fixed.WIDTH _ _ _ told told c.self.view_is
    (record { cut = refl; budget = refl; pinned = refl; value_room = refl; sum_room = refl }) c.args.t j (chunk_in cut j turn) (chunk_long cut j turn reach) room
    (whole_even ∙ e ∙ (λ i. cond (c.args.t % 2 == 1) (even_is i) (put_in (first_vertex n k j) (chunk_in cut j turn) (even_is i))))
    (whole_odd ∙ o ∙ (λ i. cond (c.args.t % 2 == 1) (put_in (first_vertex n k j) (chunk_in cut j turn) (odd_is i)) (odd_is i))) refl refl

pub returns-then-part-self-clause-sized : goal.returns-then-part-self-clause-sized
returns-then-part-self-clause-sized g c =
    view_sized g.G.Value.Fixed.value_of g.G.Value.Fixed.WIDTH g.G.Sum.Fixed.value_of g.G.Sum.Fixed.WIDTH _ _ _ (g.D.Depot.holds c.args.depot.now) (g.D.Depot.holds c.args.depot.now) c.self.view_is
    (record { cut = refl; budget = refl; pinned = refl; value_room = refl; sum_room = refl }) refl refl c.requires.sized

pub returns-clause-end : goal.returns-clause-end
returns-clause-end g c u state edges next keeps has =
    let p = g.G.VertexProgram.model c.args.program.now in
    let value_of = g.G.Value.Fixed.value_of in
    let w = g.G.Value.Fixed.WIDTH in
    let fields = c.self.inside in
    let cut = fields.parts in
    let j = c.args.part in
    let told = g.D.Depot.holds c.args.depot.now in
    let result = c.close_in_file.result in
    let sum = sum_at p edges state in
    let sums = c.deref-2.result.now in
    let kept = keeps_seen value_of w g.G.Sum.Fixed.value_of g.G.Sum.Fixed.WIDTH _ _ told c.self.view_is u j state fields.even.items fields.odd.items refl refl keeps in
    let total = sums_seen p _ _ c.self.view_is j state edges sums c.deref-2.ensures.value has in
    let filed = before_filed p value_of w cut fields.pinned c.args.t u j next fields.even.items fields.odd.items (told Values) state sum sums kept total c.if-part-self.false in
    subst (λ (x : WindowState _ _). IfOk result (λ end. end ≡ finish_of p state sum (chunk_first x j) (chunk_count x j))) c.self.view_is
    (if_ok_more result (λ end. (end ≡ finish_of p state sum (first_vertex cut.vertices (chunk_of cut) j) (part_length cut.vertices (chunk_of cut) j)) × IsChunk (applied p state sum) (first_vertex cut.vertices (chunk_of cut) j) (take (part_length cut.vertices (chunk_of cut) j) c.close_in_file.new.second)) _
    (λ end came. came.0) (c.close_in_file.ensures.step state sum kept.items filed kept.chunk total))

pub returns-clause-kept : goal.returns-clause-kept
returns-clause-kept g c u state edges next keeps has =
    let p = g.G.VertexProgram.model c.args.program.now in
    let value_of = g.G.Value.Fixed.value_of in
    let w = g.G.Value.Fixed.WIDTH in
    let fields = c.self.inside in
    let cut = fields.parts in
    let n = cut.vertices in
    let k = chunk_of cut in
    let j = c.args.part in
    let high = c.if-part-self.false in
    let told = g.D.Depot.holds c.args.depot.now in
    let after = g.D.Depot.holds c.close_in_file.new.depot in
    let result = c.close_in_file.result in
    let sum = sum_at p edges state in
    let sums = c.deref-2.result.now in
    let items = take (part_length n k j) c.close_in_file.new.second in
    let kept = keeps_seen value_of w g.G.Sum.Fixed.value_of g.G.Sum.Fixed.WIDTH _ _ told c.self.view_is u j state fields.even.items fields.odd.items refl refl keeps in
    let total = sums_seen p _ _ c.self.view_is j state edges sums c.deref-2.ensures.value has in
    let filed = before_filed p value_of w cut fields.pinned c.args.t u j next fields.even.items fields.odd.items (told Values) state sum sums kept total high in
    let some : is_some (told Values) ≡ true = told_is_some value_of w (value_place w n (c.args.t - 1) (first_vertex n k j)) kept.items (told Values) filed.in_file in
    if_ok_both result (λ end. (end ≡ finish_of p state sum (first_vertex n k j) (part_length n k j)) × IsChunk (applied p state sum) (first_vertex n k j) items) (λ end. end.over ≡ None → AreFiled value_of w cut c.args.t j (after Values) items) _
    (λ end came files none. file_keeps value_of w cut fields.pinned c.args.t j (applied p state sum) (after Values) _ _ items high (files none) came.1)
    (c.close_in_file.ensures.step state sum kept.items filed kept.chunk total) (c.close_in_file.ensures.filed some)

pub returns-clause-shown : goal.returns-clause-shown
returns-clause-shown g c u state next keeps =
    let value_of = g.G.Value.Fixed.value_of in
    let w = g.G.Value.Fixed.WIDTH in
    let fields = c.self.inside in
    let cut = fields.parts in
    let j = c.args.part in
    let high = c.if-part-self.false in
    let told = g.D.Depot.holds c.args.depot.now in
    let result = c.close_in_file.result in
    let out = c.close_in_file.new.first in
    let size : length out ≡ fields.first.len = omega (arith, c.close_in_file.auto.first, c.deref_mut-2.ensures.len) in
    let whole : take fields.first.len (out ++ drop (length out) fields.first.items) ≡ out = take_at out _ _ size in
    let prior : u ≡ c.args.t - 1 = omega (arith, next) in
    first_shown value_of w g.G.Sum.Fixed.value_of g.G.Sum.Fixed.WIDTH _ _ told c.self.view_is result u j state _ refl refl
    (λ xs kept. on_ok_more result (take (part_length cut.vertices (chunk_of cut) j) out ≡ xs) _
    (λ is. ap (λ l. shown_of cut fields.pinned j (c.args.t - 1) l fields.even.items fields.odd.items) whole ∙ shown_high cut fields.pinned j (c.args.t - 1) out fields.even.items fields.odd.items high ∙ is)
    (c.close_in_file.ensures.loaded xs (subst (λ (m : ℕ). AreFiled value_of w cut m j (told Values) xs) prior (kept_filed value_of w cut fields.pinned u j fields.even.items fields.odd.items (told Values) xs high kept)))) keeps

pub returns-clause-by_window : goal.returns-clause-by_window
returns-clause-by_window g c state sum shown total =
    let p = g.G.VertexProgram.model c.args.program.now in
    let fields = c.self.inside in
    let cut = fields.parts in
    let n = cut.vertices in
    let k = chunk_of cut in
    let j = c.args.part in
    let t = c.args.t in
    let result = c.close_in_file.result in
    let out = c.close_in_file.new.first in
    let size : length out ≡ fields.first.len = omega (arith, c.close_in_file.auto.first, c.deref_mut-2.ensures.len) in
    let whole : take fields.first.len (out ++ drop (length out) fields.first.items) ≡ out = take_at out _ _ size in
    let first_is = ap (λ l. shown_of cut fields.pinned j (t - 1) l fields.even.items fields.odd.items) whole ∙ shown_high cut fields.pinned j (t - 1) out fields.even.items fields.odd.items c.if-part-self.false in
    let fed = subst (λ (x : WindowState _ _). IsChunk sum (chunk_first x j) (take (chunk_count x j) x.sums)) (sym c.self.view_is) total in
    subst (λ (x : WindowState _ _). IfOk result (λ end. end ≡ finish_of p state sum (chunk_first x j) (chunk_count x j))) c.self.view_is
    (c.close_in_file.ensures.by_window state sum (subst (IsChunk state (first_vertex n k j)) first_is shown.chunk)
    (subst (λ (l : List _). IsChunk sum (first_vertex n k j) (take (part_length n k j) l)) (sym c.deref-2.ensures.value) fed))

pub returns-clause-stays : goal.returns-clause-stays
returns-clause-stays g c =
    view_filed g.G.Value.Fixed.value_of g.G.Value.Fixed.WIDTH g.G.Sum.Fixed.value_of g.G.Sum.Fixed.WIDTH _ _ _ (g.D.Depot.holds c.args.depot.now) (g.D.Depot.holds c.close_in_file.new.depot) c.self.view_is
    (record { cut = refl; budget = refl; pinned = refl; value_room = refl; sum_room = refl }) c.args.t c.args.part refl refl (c.close_in_file.ensures.moves.contents Sums (λ e. cc)) c.close_in_file.ensures.outside

pub returns-clause-sized : goal.returns-clause-sized
returns-clause-sized g c =
    view_sized_filed g.G.Value.Fixed.value_of g.G.Value.Fixed.WIDTH g.G.Sum.Fixed.value_of g.G.Sum.Fixed.WIDTH _ _ _ (g.D.Depot.holds c.args.depot.now) (g.D.Depot.holds c.close_in_file.new.depot) c.self.view_is
    (record { cut = refl; budget = refl; pinned = refl; value_room = refl; sum_room = refl }) _ _ c.close_in_file.ensures.outside (c.close_in_file.ensures.moves.contents Sums (λ e. cc)) c.requires.sized

pub returns-clause-intact : goal.returns-clause-intact
returns-clause-intact g c u state next keeps =
    let value_of = g.G.Value.Fixed.value_of in
    let w = g.G.Value.Fixed.WIDTH in
    let fields = c.self.inside in
    let cut = fields.parts in
    let j = c.args.part in
    let told = g.D.Depot.holds c.args.depot.now in
    let kept = keeps_seen value_of w g.G.Sum.Fixed.value_of g.G.Sum.Fixed.WIDTH _ _ told c.self.view_is u j state fields.even.items fields.odd.items refl refl keeps in
    let prior : u ≡ c.args.t - 1 = omega (arith, next) in
    c.close_in_file.ensures.intact kept.items (subst (λ (m : ℕ). AreFiled value_of w cut m j (told Values) kept.items) prior (kept_filed value_of w cut fields.pinned u j fields.even.items fields.odd.items (told Values) kept.items c.if-part-self.false kept.kept))
