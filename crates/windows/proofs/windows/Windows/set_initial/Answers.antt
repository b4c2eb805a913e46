use Rattle.std.proofs.Common.{◌≡◌, ◌≢◌, ◌≤◌, ◌++◌, ◌+◌, ◌-◌, ℕ, true, List, length, take, drop, refl, sym, ap, subst, ◌∙◌, arith}
use Rattle.std.specs.Prelude.{IfOk, IfSome, OnOk, is_some}
use Rattle.std.specs.List.{list_any, range_with_len}
use Rattle.std.proofs.lemmas.List.{take_at}
use Rattle.lumos_depot.specs.Steps.{RoseBy}
use Rattle.lumos_depot.specs.declared.depot.FileKind.TheVariants.{Info, Sums, Values}
use Rattle.lumos_depot.proofs.StepLemmas.{told_at, told_more}
use Rattle.lumos_law.specs.Sync.{IsChunk}
use Rattle.partition.specs.Parts.{chunk_of, first_vertex, part_length}
use Rattle.partition.specs.declared.records.VertexRange.{VertexRange}
use Rattle.windows.specs.Kept.{AreFiled, load_bytes, load_of}
use Rattle.windows.specs.Sums.{given_values}
use Rattle.windows.specs.Windows.{WindowState, chunk_count, chunk_first, chunk_in, put_in, shown_of}
use Rattle.windows.proofs.KeptLemmas.{chunk_long, shown_high, shown_low}
use Rattle.windows.proofs.MadeLemmas.{file_keeps, load_none, memory_first, memory_keeps, on_ok_always, on_ok_both, on_ok_then, rose_none, shown_beside, told_on_ok, window_first}
use Rattle.windows.proofs.PartLemmas.{part_below, part_ends, part_short, range_past}
use Rattle.windows.proofs.ResultLemmas.{on_ok_more}
use Rattle.windows.proofs.StayLemmas.{coding, view_filed, view_sized, view_sized_filed, view_written}
use Rattle.windows.proofs.windows.Windows.set_initial.Goals as goal

pub initial_in_memory-requires-clause-even_fits : goal.initial_in_memory-requires-clause-even_fits
initial_in_memory-requires-clause-even_fits g c =
    let cut = c.self.inside.parts in
    let past : c.range_of-range.result.past ≡ first_vertex cut.vertices (chunk_of cut) (c.args.part + 1) = range_past c.range_of-range.result cut.vertices (chunk_of cut) c.args.part c.range_of-range.ensures.value in
    omega (arith, past, part_below cut.vertices (chunk_of cut) c.args.part c.self.inside.pinned c.if-part-self.true, c.deref_mut.ensures.len, c.self.invariant.even_fits)

pub returns-then-part-self-clause-kept : goal.returns-then-part-self-clause-kept
returns-then-part-self-clause-kept g c =
    let p = g.G.VertexProgram.model c.args.program.now in
    let fields = c.self.inside in
    let cut = fields.parts in
    let j = c.args.part in
    let low = c.if-part-self.true in
    let even = c.initial_in_memory.new.even in
    let result = c.initial_in_memory.result in
    let told = g.D.Depot.holds c.args.depot.now Info in
    let long : length even ≡ fields.even.len = omega (arith, c.initial_in_memory.auto.even, c.deref_mut.ensures.len) in
    let whole : take fields.even.len (even ++ drop (length even) fields.even.items) ≡ even = take_at even _ _ long in
    let reach : first_vertex cut.vertices (chunk_of cut) (j + 1) ≤ length even = omega (arith, part_below cut.vertices (chunk_of cut) j fields.pinned low, long, c.self.invariant.even_fits) in
    let given = subst (λ (r : VertexRange). OnOk result (IfSome told (λ file. IsChunk (given_values p file) r.first (take (r.past - r.first) (drop r.first even))))) c.range_of-range.ensures.value c.initial_in_memory.ensures.given in
    let chunks = λ (file : List ℕ). IsChunk (given_values p file) (first_vertex cut.vertices (chunk_of cut) j) (chunk_in cut j even) in
    told_more told (λ file. OnOk result (chunks file)) _
    (λ file. on_ok_more result (chunks file) _
    (λ chunk. memory_keeps g.G.Value.Fixed.value_of g.G.Value.Fixed.WIDTH cut fields.pinned 0 j (given_values p file) (g.D.Depot.holds c.initial_in_memory.new.depot Values) _ _ even fields.odd.items whole refl low reach chunk))
    (told_on_ok result told chunks given)

pub returns-then-part-self-clause-shown : goal.returns-then-part-self-clause-shown
returns-then-part-self-clause-shown g c =
    let p = g.G.VertexProgram.model c.args.program.now in
    let fields = c.self.inside in
    let cut = fields.parts in
    let j = c.args.part in
    let low = c.if-part-self.true in
    let even = c.initial_in_memory.new.even in
    let result = c.initial_in_memory.result in
    let told = g.D.Depot.holds c.args.depot.now Info in
    let long : length even ≡ fields.even.len = omega (arith, c.initial_in_memory.auto.even, c.deref_mut.ensures.len) in
    let whole : take fields.even.len (even ++ drop (length even) fields.even.items) ≡ even = take_at even _ _ long in
    let reach : first_vertex cut.vertices (chunk_of cut) (j + 1) ≤ length even = omega (arith, part_below cut.vertices (chunk_of cut) j fields.pinned low, long, c.self.invariant.even_fits) in
    let given = subst (λ (r : VertexRange). OnOk result (IfSome told (λ file. IsChunk (given_values p file) r.first (take (r.past - r.first) (drop r.first even))))) c.range_of-range.ensures.value c.initial_in_memory.ensures.given in
    let chunks = λ (file : List ℕ). IsChunk (given_values p file) (first_vertex cut.vertices (chunk_of cut) j) (chunk_in cut j even) in
    told_more told (λ file. OnOk result (chunks file)) _
    (λ file. on_ok_more result (chunks file) _
    (λ chunk. memory_first _ 0 j (given_values p file) fields.first.items even fields.odd.items refl (ap (λ l. shown_of cut fields.pinned j 0 fields.first.items l fields.odd.items) whole) low reach chunk))
    (told_on_ok result told chunks given)

pub returns-then-part-self-clause-hot : goal.returns-then-part-self-clause-hot
returns-then-part-self-clause-hot g c =
    let p = g.G.VertexProgram.model c.args.program.now in
    let cut = c.self.inside.parts in
    let j = c.args.part in
    let even = c.initial_in_memory.new.even in
    let result = c.initial_in_memory.result in
    let told = g.D.Depot.holds c.args.depot.now Info in
    let chunks = λ (r : VertexRange) (file : List ℕ). IsChunk (given_values p file) r.first (take (r.past - r.first) (drop r.first even)) in
    let hot = told_more told (λ file. OnOk result (chunks c.range_of-range.result file)) (λ file. IfOk result (λ hot. hot ≡ list_any (λ v. p.contributes (given_values p file v)) (range_with_len c.range_of-range.result.first (c.range_of-range.result.past - c.range_of-range.result.first))))
    (λ file given. on_ok_then result (chunks c.range_of-range.result file) _ given (c.initial_in_memory.ensures.hot (given_values p file)))
    (told_on_ok result told (chunks c.range_of-range.result) c.initial_in_memory.ensures.given) in
    subst (λ (x : WindowState _ _). IfSome told (λ file. IfOk result (λ hot. hot ≡ list_any (λ v. p.contributes (given_values p file v)) (range_with_len (chunk_first x j) (chunk_count x j))))) c.self.view_is
    (subst (λ (r : VertexRange). IfSome told (λ file. IfOk result (λ hot. hot ≡ list_any (λ v. p.contributes (given_values p file v)) (range_with_len r.first (r.past - r.first))))) c.range_of-range.ensures.value hot)

pub returns-then-part-self-clause-by_window : goal.returns-then-part-self-clause-by_window
returns-then-part-self-clause-by_window g c state shown =
    let p = g.G.VertexProgram.model c.args.program.now in
    let fields = c.self.inside in
    let cut = fields.parts in
    let j = c.args.part in
    let even = c.initial_in_memory.new.even in
    let result = c.initial_in_memory.result in
    let long : length even ≡ fields.even.len = omega (arith, c.initial_in_memory.auto.even, c.deref_mut.ensures.len) in
    let whole : take fields.even.len (even ++ drop (length even) fields.even.items) ≡ even = take_at even _ _ long in
    let first_is = ap (λ l. shown_of cut fields.pinned j 0 fields.first.items l fields.odd.items) whole ∙ shown_low cut fields.pinned j 0 fields.first.items even fields.odd.items c.if-part-self.true in
    let here : IsChunk state (first_vertex cut.vertices (chunk_of cut) j) (chunk_in cut j even) = subst (IsChunk state (first_vertex cut.vertices (chunk_of cut) j)) first_is shown.chunk in
    let hot = c.initial_in_memory.ensures.hot state (subst (λ (r : VertexRange). IsChunk state r.first (take (r.past - r.first) (drop r.first even))) (sym c.range_of-range.ensures.value) here) in
    subst (λ (x : WindowState _ _). IfOk result (λ hot. hot ≡ list_any (λ v. p.contributes (state v)) (range_with_len (chunk_first x j) (chunk_count x j)))) c.self.view_is
    (subst (λ (r : VertexRange). IfOk result (λ hot. hot ≡ list_any (λ v. p.contributes (state v)) (range_with_len r.first (r.past - r.first)))) c.range_of-range.ensures.value hot)

pub returns-then-part-self-clause-second : goal.returns-then-part-self-clause-second
returns-then-part-self-clause-second g c apart =
    let fields = c.self.inside in
    let cut = fields.parts in
    let n = cut.vertices in
    let k = chunk_of cut in
    let j = c.args.part in
    let low = c.if-part-self.true in
    let even = c.initial_in_memory.new.even in
    let long : length even ≡ fields.even.len = omega (arith, c.initial_in_memory.auto.even, c.deref_mut.ensures.len) in
    let old_long : length fields.even.items ≡ fields.even.len = ap length (sym c.deref_mut.ensures.value) ∙ c.deref_mut.ensures.len in
    let whole : take fields.even.len (even ++ drop (length even) fields.even.items) ≡ even = take_at even _ _ long in
    let reach : first_vertex n k (j + 1) ≤ length even = omega (arith, part_below n k j fields.pinned low, long, c.self.invariant.even_fits) in
    let room : first_vertex n k j + part_length n k j ≤ length fields.even.items = omega (arith, part_ends n k j, reach, long, old_long) in
    let rest : even ≡ put_in (first_vertex n k j) (chunk_in cut j even) fields.even.items =
    c.initial_in_memory.ensures.rest ∙ (λ i. put_in (c.range_of-range.ensures.value i).first (take ((c.range_of-range.ensures.value i).past - (c.range_of-range.ensures.value i).first) (drop (c.range_of-range.ensures.value i).first even)) (c.deref_mut.ensures.value i)) in
    let other : fields.second_part ≢ j = λ same. apart (sym (ap (λ (x : WindowState _ _). x.second_part) c.self.view_is) ∙ same) in
    shown_beside cut fields.pinned 0 j fields.second_turn fields.second_part fields.second.items fields.even.items fields.odd.items _ fields.odd.items (chunk_in cut j even) other (chunk_long cut j even reach) room (whole ∙ rest) refl
    ∙ ap (λ (x : WindowState _ _). x.second) c.self.view_is

pub returns-then-part-self-clause-stays : goal.returns-then-part-self-clause-stays
returns-then-part-self-clause-stays g c =
    let fields = c.self.inside in
    let cut = fields.parts in
    let n = cut.vertices in
    let k = chunk_of cut in
    let j = c.args.part in
    let low = c.if-part-self.true in
    let even = c.initial_in_memory.new.even in
    let long : length even ≡ fields.even.len = omega (arith, c.initial_in_memory.auto.even, c.deref_mut.ensures.len) in
    let old_long : length fields.even.items ≡ fields.even.len = ap length (sym c.deref_mut.ensures.value) ∙ c.deref_mut.ensures.len in
    let whole : take fields.even.len (even ++ drop (length even) fields.even.items) ≡ even = take_at even _ _ long in
    let reach : first_vertex n k (j + 1) ≤ length even = omega (arith, part_below n k j fields.pinned low, long, c.self.invariant.even_fits) in
    let room : first_vertex n k j + part_length n k j ≤ length fields.even.items = omega (arith, part_ends n k j, reach, long, old_long) in
    let rest : even ≡ put_in (first_vertex n k j) (chunk_in cut j even) fields.even.items =
    c.initial_in_memory.ensures.rest ∙ (λ i. put_in (c.range_of-range.ensures.value i).first (take ((c.range_of-range.ensures.value i).past - (c.range_of-range.ensures.value i).first) (drop (c.range_of-range.ensures.value i).first even)) (c.deref_mut.ensures.value i)) in
    view_written g.G.Value.Fixed.value_of g.G.Value.Fixed.WIDTH g.G.Sum.Fixed.value_of g.G.Sum.Fixed.WIDTH _ _ _ (g.D.Depot.holds c.args.depot.now) (g.D.Depot.holds c.initial_in_memory.new.depot) c.self.view_is
    (record { cut = refl; budget = refl; pinned = refl; value_room = refl; sum_room = refl }) 0 j (chunk_in cut j even) (chunk_long cut j even reach) room (whole ∙ rest) refl
    (c.initial_in_memory.ensures.reads.contents Values) (c.initial_in_memory.ensures.reads.contents Sums)

pub returns-then-part-self-clause-sized : goal.returns-then-part-self-clause-sized
returns-then-part-self-clause-sized g c =
    view_sized g.G.Value.Fixed.value_of g.G.Value.Fixed.WIDTH g.G.Sum.Fixed.value_of g.G.Sum.Fixed.WIDTH _ _ _ (g.D.Depot.holds c.args.depot.now) (g.D.Depot.holds c.initial_in_memory.new.depot) c.self.view_is
    (record { cut = refl; budget = refl; pinned = refl; value_room = refl; sum_room = refl }) (c.initial_in_memory.ensures.reads.contents Values) (c.initial_in_memory.ensures.reads.contents Sums) c.requires.sized

pub returns-then-part-self-clause-stored : goal.returns-then-part-self-clause-stored
returns-then-part-self-clause-stored g c =
    let fields = c.self.inside in
    let w = g.G.Value.Fixed.WIDTH in
    let before = g.D.Depot.stored c.args.depot.now Values in
    let after = g.D.Depot.stored c.initial_in_memory.new.depot Values in
    subst (λ (x : WindowState _ _). OnOk c.initial_in_memory.result (RoseBy before after (load_bytes (coding g.G.Value.Fixed.value_of w g.G.Sum.Fixed.value_of g.G.Sum.Fixed.WIDTH) x c.args.part))) c.self.view_is
    (on_ok_always c.initial_in_memory.result (RoseBy before after (load_of fields.parts w fields.pinned c.args.part))
    (rose_none before after (load_of fields.parts w fields.pinned c.args.part) (c.initial_in_memory.ensures.reads.stored Values) (load_none fields.parts w fields.pinned c.args.part c.if-part-self.true)))

pub returns-clause-kept : goal.returns-clause-kept
returns-clause-kept g c =
    let p = g.G.VertexProgram.model c.args.program.now in
    let value_of = g.G.Value.Fixed.value_of in
    let w = g.G.Value.Fixed.WIDTH in
    let fields = c.self.inside in
    let cut = fields.parts in
    let n = cut.vertices in
    let k = chunk_of cut in
    let j = c.args.part in
    let result = c.initial_in_file.result in
    let now = c.args.depot.now in
    let told = g.D.Depot.holds now Info in
    let after = g.D.Depot.holds c.initial_in_file.new.depot in
    let items = take (part_length n k j) c.initial_in_file.new.out in
    let chunks = λ (file : List ℕ). IsChunk (given_values p file) (first_vertex n k j) items in
    told_at told (λ file. OnOk result (chunks file)) _
    (λ file is chunk.
    let some : is_some (g.D.Depot.holds now Values) ≡ true = g.D.Depot.tells_all now Values Info ∙ ap is_some is in
    on_ok_both result (chunks file) (AreFiled value_of w cut 0 j (after Values) items) _
    (λ here filed. file_keeps value_of w cut fields.pinned 0 j (given_values p file) (after Values) _ _ items c.if-part-self.false filed here) chunk (c.initial_in_file.ensures.filed some))
    (told_on_ok result told chunks c.initial_in_file.ensures.given)

pub returns-clause-shown : goal.returns-clause-shown
returns-clause-shown g c =
    let p = g.G.VertexProgram.model c.args.program.now in
    let fields = c.self.inside in
    let cut = fields.parts in
    let n = cut.vertices in
    let k = chunk_of cut in
    let j = c.args.part in
    let result = c.initial_in_file.result in
    let told = g.D.Depot.holds c.args.depot.now Info in
    let out = c.initial_in_file.new.out in
    let size : length out ≡ fields.first.len = omega (arith, c.initial_in_file.auto.out, c.deref_mut-2.ensures.len) in
    let whole : take fields.first.len (out ++ drop (length out) fields.first.items) ≡ out = take_at out _ _ size in
    let room : part_length n k j ≤ length out = omega (arith, part_short n k j, size, c.self.invariant.first_fits) in
    let chunks = λ (file : List ℕ). IsChunk (given_values p file) (first_vertex n k j) (take (part_length n k j) out) in
    told_more told (λ file. OnOk result (chunks file)) _
    (λ file. on_ok_more result (chunks file) _
    (λ chunk. window_first _ 0 j (given_values p file) out fields.even.items fields.odd.items refl (ap (λ l. shown_of cut fields.pinned j 0 l fields.even.items fields.odd.items) whole) c.if-part-self.false room chunk))
    (told_on_ok result told chunks c.initial_in_file.ensures.given)

pub returns-clause-hot : goal.returns-clause-hot
returns-clause-hot g c =
    let p = g.G.VertexProgram.model c.args.program.now in
    let cut = c.self.inside.parts in
    let n = cut.vertices in
    let k = chunk_of cut in
    let j = c.args.part in
    let result = c.initial_in_file.result in
    let told = g.D.Depot.holds c.args.depot.now Info in
    let chunks = λ (file : List ℕ). IsChunk (given_values p file) (first_vertex n k j) (take (part_length n k j) c.initial_in_file.new.out) in
    subst (λ (x : WindowState _ _). IfSome told (λ file. IfOk result (λ hot. hot ≡ list_any (λ v. p.contributes (given_values p file v)) (range_with_len (chunk_first x j) (chunk_count x j))))) c.self.view_is
    (told_more told (λ file. OnOk result (chunks file)) (λ file. IfOk result (λ hot. hot ≡ list_any (λ v. p.contributes (given_values p file v)) (range_with_len (first_vertex n k j) (part_length n k j))))
    (λ file given. on_ok_then result (chunks file) _ given (c.initial_in_file.ensures.hot (given_values p file)))
    (told_on_ok result told chunks c.initial_in_file.ensures.given))

pub returns-clause-by_window : goal.returns-clause-by_window
returns-clause-by_window g c state shown =
    let p = g.G.VertexProgram.model c.args.program.now in
    let fields = c.self.inside in
    let cut = fields.parts in
    let j = c.args.part in
    let result = c.initial_in_file.result in
    let out = c.initial_in_file.new.out in
    let size : length out ≡ fields.first.len = omega (arith, c.initial_in_file.auto.out, c.deref_mut-2.ensures.len) in
    let whole : take fields.first.len (out ++ drop (length out) fields.first.items) ≡ out = take_at out _ _ size in
    let first_is = ap (λ l. shown_of cut fields.pinned j 0 l fields.even.items fields.odd.items) whole ∙ shown_high cut fields.pinned j 0 out fields.even.items fields.odd.items c.if-part-self.false in
    subst (λ (x : WindowState _ _). IfOk result (λ hot. hot ≡ list_any (λ v. p.contributes (state v)) (range_with_len (chunk_first x j) (chunk_count x j)))) c.self.view_is
    (c.initial_in_file.ensures.hot state (subst (IsChunk state (first_vertex cut.vertices (chunk_of cut) j)) first_is shown.chunk))

pub returns-clause-stays : goal.returns-clause-stays
returns-clause-stays g c =
    view_filed g.G.Value.Fixed.value_of g.G.Value.Fixed.WIDTH g.G.Sum.Fixed.value_of g.G.Sum.Fixed.WIDTH _ _ _ (g.D.Depot.holds c.args.depot.now) (g.D.Depot.holds c.initial_in_file.new.depot) c.self.view_is
    (record { cut = refl; budget = refl; pinned = refl; value_room = refl; sum_room = refl }) 0 c.args.part refl refl (c.initial_in_file.ensures.moves.contents Sums (λ e. cc)) c.initial_in_file.ensures.outside

pub returns-clause-sized : goal.returns-clause-sized
returns-clause-sized g c =
    view_sized_filed g.G.Value.Fixed.value_of g.G.Value.Fixed.WIDTH g.G.Sum.Fixed.value_of g.G.Sum.Fixed.WIDTH _ _ _ (g.D.Depot.holds c.args.depot.now) (g.D.Depot.holds c.initial_in_file.new.depot) c.self.view_is
    (record { cut = refl; budget = refl; pinned = refl; value_room = refl; sum_room = refl }) _ _ c.initial_in_file.ensures.outside (c.initial_in_file.ensures.moves.contents Sums (λ e. cc)) c.requires.sized
