use Rattle.std.proofs.Common.{◌≡◌, ◌<◌, ◌≤◌, ◌+◌, ◌-◌, ◌++◌, ◌∷◌, ◌||◌, ◌&&◌, [], min, nat_lt, cond, suc, Bool, true, ℕ, refl, sym, ap, ◌∙◌, subst, append-nil, append_assoc, arith}
use Rattle.std.proofs.lemmas.Bool.{and_parts, lt-ltb}
use Rattle.active_sets.specs.Active.{hot_at}
use Rattle.lumos_law.specs.Sync.{values}
use Rattle.partition.specs.Blocks.{block, column}
use Rattle.partition.specs.Parts.{chunk_of}
use Rattle.grid_format.specs.Tables.{count_at, edges_in_rows}
use Rattle.grid_format.proofs.RangeLemmas.{sum-range-le, sum-range-more}
use Rattle.lumos_depot.proofs.StepLemmas.{touches_none, touches_then}
use Rattle.windows.specs.Kept.{Keeps}
use Rattle.windows.specs.Sums.{HasNext, HasSums}
use Rattle.windows.specs.Windows.{Coding, chunk_first}
use Rattle.windows.proofs.FrameLemmas.{stays_none, stays_then}
use Rattle.early_engine.specs.Files.{stores_none, takes_of}
use Rattle.early_engine.specs.Gone.{HasGone}
use Rattle.early_engine.specs.Passes.{first_row, place_at}
use Rattle.early_engine.specs.Steps.{below, fed_if}
use Rattle.early_engine.proofs.GridLemmas.{grid_list}
use Rattle.early_engine.proofs.KeepLemmas.{first_full, first_low, goes, grid_off, load_same, places_are, ready_stays, row_fault}
use Rattle.early_engine.proofs.PassLemmas.{rows_from, rows_more}
use Rattle.early_engine.proofs.SumsLemmas.{next_as, row_ahead, row_fed, sums_as}
use Rattle.early_engine.proofs.column.feed_column.Goals as goal

pub loop-i-init : goal.loop-i-init
loop-i-init g c =
    let p = g.G.VertexProgram.model c.args.program.now in
    let coding : Coding _ _ = record { value_of = g.G.Value.Fixed.value_of; value_width = g.G.Value.Fixed.WIDTH; sum_of = g.G.Sum.Fixed.value_of; sum_width = g.G.Sum.Fixed.WIDTH } in
    let cut = c.args.layout.now.parts in
    let kind = c.args.kind in
    let j = c.args.j in
    let first = first_row kind j in
    let i = c.first_row-i.result in
    let is : i ≡ first = c.first_row-i.ensures in
    let none : i - first ≡ 0 = omega (arith, is) in
    record {
      touches = touches_none g.D.Depot.holds g.D.Depot.taken g.D.Depot.stored g.D.Depot.faults g.D.Depot.attached (takes_of kind) stores_none c.args.depot.now;
      from = omega (arith, is);
      few = omega arith;
      moved = refl;
      part = refl;
      stays = stays_none coding c.args.windows.now (g.D.Depot.holds c.args.depot.now);
      fits = c.requires.fits;
      fed = λ edges u grid at ready sums. subst (λ (n : ℕ). HasSums p c.args.windows.now j (values p edges u) (column edges (chunk_of cut) j n)) (sym is) sums;
      early = λ edges u grid at on ready next.
          let start : 0 ≡ min i j = omega (arith, is, first_full kind j (c.requires.kinds on)) in
          subst (λ (n : ℕ). HasNext p c.args.windows.now j (values p edges (suc u)) (column edges (chunk_of cut) j n)) start next;
      most = omega (arith, ap (λ (n : ℕ). edges_in_rows c.args.layout.now.table j first n) none);
      gone = λ size need loads bs beside taken stored are gone.
          subst (λ l. HasGone kind size need loads l beside taken stored (g.D.Depot.taken c.args.depot.now) (g.D.Depot.stored c.args.depot.now) c.args.counts.now)
          (sym (ap (λ (n : ℕ). bs ++ rows_from first n j) none ∙ append-nil bs)) gone;
    }

pub loop-i-preserved : goal.loop-i-preserved
loop-i-preserved g c =
    let p = g.G.VertexProgram.model c.args.program.now in
    let laws = g.met.G.VertexProgram.lawful c.args.program.now in
    let coding : Coding _ _ = record { value_of = g.G.Value.Fixed.value_of; value_width = g.G.Value.Fixed.WIDTH; sum_of = g.G.Sum.Fixed.value_of; sum_width = g.G.Sum.Fixed.WIDTH } in
    let cut = c.args.layout.now.parts in
    let table = c.args.layout.now.table in
    let kind = c.args.kind in
    let i = c.loop-i.i in
    let j = c.args.j in
    let first = first_row kind j in
    let kept = c.loop-i.invariant in
    let next = c.in-Ok.ensures in
    let begun = c.args.windows.now in
    let old = c.loop-i.windows in
    let new = c.visit_block.new.windows in
    let held = g.D.Depot.holds c.loop-i.depot in
    let were = c.args.active.now.was_hot in
    let are = c.args.active.now.is_hot in
    let now = c.hot_before.result in
    let flag = c.is_fed_ahead.result in
    let row : i < cut.parts = omega (arith, c.loop-i.auto.i-end, c.loop-i-test.true, c.parts-i-end.ensures.value) in
    let was_is : now ≡ hot_at were i = c.hot_before.ensures in
    let flag_is : flag ≡ (c.args.ahead && nat_lt i j && hot_at are i) = c.is_fed_ahead.ensures in
    let from : first ≤ i = kept.from in
    let at_row : i ≡ first + (i - first) = omega (arith, from) in
    let grown : i + 1 - first ≡ (i - first) + 1 = omega (arith, from) in
    let more = ap (λ (n : ℕ). rows_from first n j) grown ∙ rows_more first (i - first) i j at_row in
    record {
      touches = touches_then g.D.Depot.holds g.D.Depot.taken g.D.Depot.stored g.D.Depot.faults g.D.Depot.attached (takes_of kind) stores_none _ _ _ kept.touches next.touches;
      from = omega (arith, from);
      few = omega (arith, next.few, kept.few);
      moved = next.moved ∙ kept.moved;
      part = next.part ∙ kept.part;
      stays = stays_then coding begun old new (g.D.Depot.holds c.args.depot.now) held (g.D.Depot.holds c.visit_block.new.depot) kept.stays next.stays;
      fits = next.fits;
      fed = λ edges u grid at ready sums.
          let here = grid_off stores_none edges cut table _ _ refl refl refl refl kept.touches.contents grid in
          let known = ready_stays coding p edges cut begun old _ held kept.stays (below j) u were are ready in
          let prior : u ≡ c.args.t - 1 = omega (arith, at) in
          let keeps = subst (λ (n : ℕ). Keeps coding old held n i (values p edges u)) prior (known.holds i row) in
          sums_as p new j (values p edges u) (column edges (chunk_of cut) j i ++ fed_if now (block edges (chunk_of cut) i j)) (column edges (chunk_of cut) j (i + 1))
          (λ k low. row_fed p laws edges cut (grid_list edges cut table _ grid) u i j (chunk_first new j + k) now (was_is ∙ ready.were_hot i row))
          (next.fed edges (values p edges u) (column edges (chunk_of cut) j i) here (λ on. keeps) (kept.fed edges u grid at ready sums));
      early = λ edges u grid at on ready none.
          let here = grid_off stores_none edges cut table _ _ refl refl refl refl kept.touches.contents grid in
          let known = ready_stays coding p edges cut begun old _ held kept.stays (below j) u were are ready in
          let lit : flag ≡ (true && nat_lt i j && hot_at are i) = flag_is ∙ ap (λ (b : Bool). b && nat_lt i j && hot_at are i) on in
          next_as p new j (values p edges (suc u)) (column edges (chunk_of cut) j (min i j) ++ fed_if flag (block edges (chunk_of cut) i j)) (column edges (chunk_of cut) j (min (i + 1) j))
          (λ k low. row_ahead p laws edges cut (grid_list edges cut table _ grid) (suc u) i j (chunk_first new j + k) flag (hot_at are i) lit (λ above. ready.are_hot i row (lt-ltb i j above)))
          (next.ahead edges (values p edges (suc u)) (column edges (chunk_of cut) j (min i j)) here
          (λ fed. subst (λ (n : ℕ). Keeps coding old held n i (values p edges (suc u))) (sym at) (known.made i row (and_parts (nat_lt i j) (hot_at are i) (sym lit ∙ fed)).0))
          (kept.early edges u grid at on ready none));
      most =
          let row_count : ℕ → ℕ = λ k. count_at table k j in
          let next_row = sum-range-more row_count first (i - first) i (omega (arith, from)) in
          omega (arith, next_row, ap (λ (n : ℕ). edges_in_rows table j first n) grown, next.most, kept.most);
      gone = λ size need loads bs beside taken stored of gone.
          let one = of i row in
          let load_is = load_same coding begun old i kept.stays.room in
          subst (λ l. HasGone kind size need loads l beside taken stored (g.D.Depot.taken c.visit_block.new.depot) (g.D.Depot.stored c.visit_block.new.depot) c.visit_block.new.counts)
          (append_assoc bs (rows_from first (i - first) j) (place_at i j ∷ []) ∙ ap (λ l. bs ++ l) (sym more))
          (next.gone size need loads (bs ++ rows_from first (i - first) j) beside taken stored one.size_is ((λ k. was_is k || flag_is k) ∙ one.need_is)
          ((λ k. cond (was_is k) (load_is k) 0 + cond (flag_is k) (load_is k) 0) ∙ one.loads_is)
          (kept.gone size need loads bs beside taken stored of gone));
    }

pub visit_block-requires-clause-low : goal.visit_block-requires-clause-low
visit_block-requires-clause-low g c = goes c.args.kind c.loop-i.i c.args.j c.loop-i.invariant.from

pub returns-clause-fed : goal.returns-clause-fed
returns-clause-fed g c edges u grid at ready sums =
    let p = g.G.VertexProgram.model c.args.program.now in
    let cut = c.args.layout.now.parts in
    let all : c.loop-i.i ≡ cut.parts = omega (arith, c.loop-i.auto.i-end, c.loop-i-test.false, c.parts-i-end.ensures.value, c.loop-i.invariant.from, first_low c.args.kind c.args.j, c.requires.column) in
    subst (λ (n : ℕ). HasSums p c.loop-i.windows c.args.j (values p edges u) (column edges (chunk_of cut) c.args.j n)) all (c.loop-i.invariant.fed edges u grid at ready sums)

pub returns-clause-early : goal.returns-clause-early
returns-clause-early g c edges u grid at on ready none =
    let p = g.G.VertexProgram.model c.args.program.now in
    let cut = c.args.layout.now.parts in
    let rows : min c.loop-i.i c.args.j ≡ c.args.j = omega (arith, c.loop-i.auto.i-end, c.loop-i-test.false, c.parts-i-end.ensures.value, c.requires.column) in
    subst (λ (n : ℕ). HasNext p c.loop-i.windows c.args.j (values p edges (suc u)) (column edges (chunk_of cut) c.args.j n)) rows (c.loop-i.invariant.early edges u grid at on ready none)

pub returns-clause-gone : goal.returns-clause-gone
returns-clause-gone g c size need loads bs beside taken stored of gone =
    let cut = c.args.layout.now.parts in
    let first = first_row c.args.kind c.args.j in
    let all : c.loop-i.i - first ≡ cut.parts - first = omega (arith, c.loop-i.auto.i-end, c.loop-i-test.false, c.parts-i-end.ensures.value, c.loop-i.invariant.from, first_low c.args.kind c.args.j, c.requires.column) in
    subst (λ l. HasGone c.args.kind size need loads l beside taken stored (g.D.Depot.taken c.loop-i.depot) (g.D.Depot.stored c.loop-i.depot) c.loop-i.counts)
    (ap (λ (n : ℕ). bs ++ rows_from first n c.args.j) all ∙ ap (λ l. bs ++ l) (sym (places_are c.args.kind cut.parts c.args.j)))
    (c.loop-i.invariant.gone size need loads bs beside taken stored of gone)

pub returns-clause-most : goal.returns-clause-most
returns-clause-most g c =
    let first = first_row c.args.kind c.args.j in
    let all : c.loop-i.i - first ≡ c.args.layout.now.parts.parts - first = omega (arith, c.loop-i.auto.i-end, c.loop-i-test.false, c.parts-i-end.ensures.value, c.loop-i.invariant.from, first_low c.args.kind c.args.j, c.requires.column) in
    omega (arith, c.loop-i.invariant.most, ap (λ (n : ℕ). edges_in_rows c.args.layout.now.table c.args.j first n) all)

pub returns-in-Err-clause-most : goal.returns-in-Err-clause-most
returns-in-Err-clause-most g c =
    let i = c.loop-i.i in
    let first = first_row c.args.kind c.args.j in
    let row : i < c.args.layout.now.parts.parts = omega (arith, c.loop-i.auto.i-end, c.loop-i-test.true, c.parts-i-end.ensures.value) in
    let from : first ≤ i = c.loop-i.invariant.from in
    let row_count : ℕ → ℕ = λ k. count_at c.args.layout.now.table k c.args.j in
    let more = sum-range-more row_count first (i - first) i (omega (arith, from)) in
    let rest = sum-range-le row_count first (i - first + 1) (c.args.layout.now.parts.parts - first) (omega (arith, row, from)) in
    omega (arith, more, rest, c.in-Err.ensures.most, c.loop-i.invariant.most)

pub returns-in-Err-clause-stays : goal.returns-in-Err-clause-stays
returns-in-Err-clause-stays g c =
    let coding : Coding _ _ = record { value_of = g.G.Value.Fixed.value_of; value_width = g.G.Value.Fixed.WIDTH; sum_of = g.G.Sum.Fixed.value_of; sum_width = g.G.Sum.Fixed.WIDTH } in
    stays_then coding c.args.windows.now c.loop-i.windows c.visit_block.new.windows (g.D.Depot.holds c.args.depot.now) (g.D.Depot.holds c.loop-i.depot) (g.D.Depot.holds c.visit_block.new.depot) c.loop-i.invariant.stays c.in-Err.ensures.stays

pub returns-in-Err-clause-touches : goal.returns-in-Err-clause-touches
returns-in-Err-clause-touches g c =
    touches_then g.D.Depot.holds g.D.Depot.taken g.D.Depot.stored g.D.Depot.faults g.D.Depot.attached (takes_of c.args.kind) stores_none _ _ _ c.loop-i.invariant.touches c.in-Err.ensures.touches

pub returns-in-Err-clause-intact : goal.returns-in-Err-clause-intact
returns-in-Err-clause-intact g c edges u grid at ready =
    let p = g.G.VertexProgram.model c.args.program.now in
    let coding : Coding _ _ = record { value_of = g.G.Value.Fixed.value_of; value_width = g.G.Value.Fixed.WIDTH; sum_of = g.G.Sum.Fixed.value_of; sum_width = g.G.Sum.Fixed.WIDTH } in
    let cut = c.args.layout.now.parts in
    let i = c.loop-i.i in
    let j = c.args.j in
    let kept = c.loop-i.invariant in
    let old = c.loop-i.windows in
    let held = g.D.Depot.holds c.loop-i.depot in
    let are = c.args.active.now.is_hot in
    let row : i < cut.parts = omega (arith, c.loop-i.auto.i-end, c.loop-i-test.true, c.parts-i-end.ensures.value) in
    let here = grid_off stores_none edges cut c.args.layout.now.table _ _ refl refl refl refl kept.touches.contents grid in
    let known = ready_stays coding p edges cut c.args.windows.now old _ held kept.stays (below j) u c.args.active.now.was_hot are ready in
    let prior : u ≡ c.args.t - 1 = omega (arith, at) in
    let keeps = subst (λ (n : ℕ). Keeps coding old held n i (values p edges u)) prior (known.holds i row) in
    c.in-Err.ensures.intact edges (values p edges u) (values p edges (suc u)) here (λ on. keeps)
    (λ fed. subst (λ (n : ℕ). Keeps coding old held n i (values p edges (suc u))) (sym at)
    (known.made i row (and_parts c.args.ahead (nat_lt i j) (and_parts (c.args.ahead && nat_lt i j) (hot_at are i) (sym c.is_fed_ahead.ensures ∙ fed)).0).1))

pub returns-in-Err-clause-damaged : goal.returns-in-Err-clause-damaged
returns-in-Err-clause-damaged g c =
    let coding : Coding _ _ = record { value_of = g.G.Value.Fixed.value_of; value_width = g.G.Value.Fixed.WIDTH; sum_of = g.G.Sum.Fixed.value_of; sum_width = g.G.Sum.Fixed.WIDTH } in
    let row : c.loop-i.i < c.args.layout.now.parts.parts = omega (arith, c.loop-i.auto.i-end, c.loop-i-test.true, c.parts-i-end.ensures.value) in
    row_fault coding c.args.kind c.args.layout.now.parts c.args.layout.now.table c.args.windows.now c.loop-i.windows c.loop-i.i c.args.j c.in-Err.fault c.loop-i.invariant.stays.room c.requires.fits.cut_is row c.requires.column
    (goes c.args.kind c.loop-i.i c.args.j c.loop-i.invariant.from) c.in-Err.ensures.damaged
