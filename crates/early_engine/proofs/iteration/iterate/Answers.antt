use Rattle.std.proofs.Common.{◌≡◌, ◌<◌, ◌≤◌, ◌+◌, ◌++◌, [], ℕ, Bool, List, refl, sym, ap, ◌∙◌, subst, arith}
use Rattle.lumos_depot.proofs.StepLemmas.{touches_none, touches_then}
use Rattle.partition.specs.Parts.{Cut, chunk_of, part_length}
use Rattle.windows.specs.Kept.{load_bytes, load_of}
use Rattle.windows.specs.Windows.{Coding}
use Rattle.windows.proofs.FrameLemmas.{room_none, room_then}
use Rattle.windows.proofs.PartLemmas.{part_ends}
use Rattle.lumos_report.specs.declared.records.Kind.{Kind}
use Rattle.io_account.specs.declared.Counts.{Counts}
use Rattle.early_engine.specs.Files.{stores_of, takes_of}
use Rattle.early_engine.specs.Gone.{AreOf, HasGone, and_column, beside_of, none_beside, sums_of_chunk}
use Rattle.early_engine.specs.Grids.{bytes_in}
use Rattle.early_engine.specs.Making.{StopShows}
use Rattle.early_engine.specs.Passes.{file_of, kind_of, passes, places, places_below}
use Rattle.early_engine.specs.Steps.{IsMadeBelow, blocks_in}
use Rattle.early_engine.proofs.BytesLemmas.{gone_as}
use Rattle.early_engine.proofs.ColumnSteps.{stop_same}
use Rattle.early_engine.proofs.HotLemmas.{of_same}
use Rattle.early_engine.proofs.IterationLemmas.{ahead_full, beside_more, beside_none, edges_few, edges_next}
use Rattle.early_engine.proofs.KeepLemmas.{grid_off, load_same}
use Rattle.early_engine.proofs.MadeLemmas.{early_first, iteration_made, made_none}
use Rattle.early_engine.proofs.PassLemmas.{below_more, gone_none}
use Rattle.early_engine.proofs.iteration.iterate.Goals as goal

pub loop-j-init : goal.loop-j-init
loop-j-init g c =
    let p = g.G.VertexProgram.model c.args.program.now in
    let coding : Coding _ _ = record { value_of = g.G.Value.Fixed.value_of; value_width = g.G.Value.Fixed.WIDTH; sum_of = g.G.Sum.Fixed.value_of; sum_width = g.G.Sum.Fixed.WIDTH } in
    let cut = c.args.layout.now.parts in
    let kind = c.kind_of-kind.result in
    let ahead = c.feeds_ahead-ahead.result in
    let windows = c.args.room.now.windows in
    let held = g.D.Depot.holds c.args.depot.now in
    let none : c.zero-counts.result.moved ≡ 0 = ap (λ (k : Counts). k.moved) c.zero-counts.ensures in
    record {
      touches = touches_none g.D.Depot.holds g.D.Depot.taken g.D.Depot.stored g.D.Depot.faults g.D.Depot.attached (takes_of kind) (stores_of ahead) c.args.depot.now;
      few = omega (arith, ap blocks_in c.zero-counts.ensures);
      moved = omega (arith, none);
      active_fits = refl;
      was_hot = refl;
      room = room_none windows;
      fits = c.requires.fits;
      made = λ edges u grid at kept. made_none coding p edges cut u windows held c.args.room.now.active.was_hot c.args.room.now.active.is_hot c.zero-counts.result.moved none kept.holds kept.active;
      early = λ edges u grid at kept. early_first coding p edges cut c.args.options.mode c.args.options.iterations u c.args.t kind ahead windows held c.args.room.now.active.was_hot at c.requires.few (c.kind_of-kind.ensures) kept;
      most = omega arith;
      gone = λ size need loads are.
          gone_as kind size need loads [] [] none_beside (beside_of cut g.G.Value.Fixed.WIDTH g.G.Sum.Fixed.WIDTH windows.pinned kind ahead 0) _ _ _ _ c.zero-counts.result refl (beside_none cut g.G.Value.Fixed.WIDTH g.G.Sum.Fixed.WIDTH windows.pinned kind ahead)
          (gone_none size need kind loads (g.D.Depot.taken c.args.depot.now) (g.D.Depot.stored c.args.depot.now) c.zero-counts.result c.zero-counts.ensures);
    }

pub make_column-requires-clause-kinds : goal.make_column-requires-clause-kinds
make_column-requires-clause-kinds g c on = c.kind_of-kind.ensures ∙ ahead_full c.args.options.mode c.args.options.iterations c.args.t (sym c.feeds_ahead-ahead.ensures ∙ on)

pub loop-j-preserved : goal.loop-j-preserved
loop-j-preserved g c =
    let p = g.G.VertexProgram.model c.args.program.now in
    let coding : Coding _ _ = record { value_of = g.G.Value.Fixed.value_of; value_width = g.G.Value.Fixed.WIDTH; sum_of = g.G.Sum.Fixed.value_of; sum_width = g.G.Sum.Fixed.WIDTH } in
    let cut = c.args.layout.now.parts in
    let table = c.args.layout.now.table in
    let kind = c.kind_of-kind.result in
    let ahead = c.feeds_ahead-ahead.result in
    let j = c.loop-j.j in
    let kept = c.loop-j.invariant in
    let next = c.in-Ok.ensures in
    let w0 = c.args.room.now.windows in
    let w1 = c.loop-j.room.windows in
    let w2 = c.make_column.new.room.windows in
    let d0 = g.D.Depot.holds c.args.depot.now in
    let d1 = g.D.Depot.holds c.loop-j.depot in
    let v = g.G.Value.Fixed.WIDTH in
    let s = g.G.Sum.Fixed.WIDTH in
    let row : j < cut.parts = omega (arith, c.loop-j.auto.j-end, c.loop-j-test.true, c.parts-j-end.ensures.value) in
    let count = ap (λ (k : Cut). part_length k.vertices (chunk_of k) j) kept.fits.cut_is in
    let load_is : load_bytes coding w1 j ≡ load_of cut v w0.pinned j = (λ i. load_of (kept.fits.cut_is i) v (kept.room.pinned i) j) in
    let sums_is : sums_of_chunk w1.cut s j ≡ sums_of_chunk cut s j = ap (λ (k : Cut). sums_of_chunk k s j) kept.fits.cut_is in
    record {
      touches = touches_then g.D.Depot.holds g.D.Depot.taken g.D.Depot.stored g.D.Depot.faults g.D.Depot.attached (takes_of kind) (stores_of ahead) _ _ _ kept.touches next.touches;
      few = omega (arith, next.few, kept.few);
      moved = let ends = part_ends cut.vertices (chunk_of cut) j in omega (arith, next.few_moved, kept.moved, count, ends);
      active_fits = next.active_fits ∙ kept.active_fits;
      was_hot = next.was_hot ∙ kept.was_hot;
      room = room_then w0 w1 w2 kept.room next.room;
      fits = next.fits;
      made = λ edges u grid at is.
          let here = grid_off (stores_of ahead) edges cut table d0 d1 refl refl refl refl kept.touches.contents grid in
          next.made edges u here at (kept.made edges u grid at is) (kept.early edges u grid at is);
      early = λ edges u grid at is.
          let here = grid_off (stores_of ahead) edges cut table d0 d1 refl refl refl refl kept.touches.contents grid in
          next.early edges u here at (kept.made edges u grid at is) (kept.early edges u grid at is);
      most = let more = edges_next kind table j cut.parts c.requires.fits.laid.parts in omega (arith, more, next.most, kept.most);
      gone = λ size need loads are.
          let before : (i k : ℕ) → i < cut.parts → k < j → AreOf table (load_bytes coding w0) c.args.room.now.active.was_hot c.loop-j.room.active.is_hot ahead size need loads i k = λ i k within low.
          of_same table (load_bytes coding w0) (load_bytes coding w0) c.args.room.now.active.was_hot c.args.room.now.active.was_hot c.loop-j.room.active.is_hot c.make_column.new.room.active.is_hot ahead size need loads i k refl refl
          (λ under. sym (next.marked i (omega (arith, under, low)))) (are i k within (omega (arith, low))) in
          let here : (i : ℕ) → i < cut.parts → AreOf table (load_bytes coding w1) c.loop-j.room.active.was_hot c.loop-j.room.active.is_hot ahead size need loads i j = λ i within.
          of_same table (load_bytes coding w0) (load_bytes coding w1) c.args.room.now.active.was_hot c.loop-j.room.active.was_hot c.loop-j.room.active.is_hot c.make_column.new.room.active.is_hot ahead size need loads i j (load_same coding w0 w1 i kept.room) kept.was_hot
          (λ under. sym (next.marked i under)) (are i j within (omega arith)) in
          let column = next.gone size need loads (places_below kind cut.parts j) (beside_of cut v s w0.pinned kind ahead j) (g.D.Depot.taken c.args.depot.now) (g.D.Depot.stored c.args.depot.now) here
          (kept.gone size need loads before) in
          gone_as kind size need loads (places_below kind cut.parts j ++ places kind cut.parts j) (places_below kind cut.parts (j + 1)) _ (beside_of cut v s w0.pinned kind ahead (j + 1)) _ _ _ _ c.make_column.new.counts (sym (below_more kind cut.parts j))
          ((λ i. and_column kind ahead (load_is i) (sums_is i) (beside_of cut v s w0.pinned kind ahead j)) ∙ sym (beside_more cut v s w0.pinned kind ahead j)) column;
    }

pub returns-in-Err-clause-made : goal.returns-in-Err-clause-made
returns-in-Err-clause-made g c edges u grid at is =
    let kept = c.loop-j.invariant in
    let ahead = c.feeds_ahead-ahead.result in
    let here = grid_off (stores_of ahead) edges c.args.layout.now.parts c.args.layout.now.table (g.D.Depot.holds c.args.depot.now) (g.D.Depot.holds c.loop-j.depot) refl refl refl refl kept.touches.contents grid in
    c.in-Err.ensures.made edges u here at (kept.made edges u grid at is) (kept.early edges u grid at is)

pub returns-in-Err-clause-stop : goal.returns-in-Err-clause-stop
returns-in-Err-clause-stop g c =
    let coding : Coding _ _ = record { value_of = g.G.Value.Fixed.value_of; value_width = g.G.Value.Fixed.WIDTH; sum_of = g.G.Sum.Fixed.value_of; sum_width = g.G.Sum.Fixed.WIDTH } in
    let p = g.G.VertexProgram.model c.args.program.now in
    let w0 = c.args.room.now.windows in
    let table = c.args.layout.now.table in
    subst (λ (k : Kind). StopShows g.G.Value.Fixed.is_in_range g.G.Sum.Fixed.is_in_range coding p w0 k table c.in-Err.stop) c.kind_of-kind.ensures
    (stop_same coding g.G.Value.Fixed.is_in_range g.G.Sum.Fixed.is_in_range p w0 c.loop-j.room.windows c.kind_of-kind.result table c.in-Err.stop c.loop-j.invariant.room c.in-Err.ensures.stop)

pub returns-in-Err-clause-most : goal.returns-in-Err-clause-most
returns-in-Err-clause-most g c =
    let table = c.args.layout.now.table in
    let kind = c.kind_of-kind.result in
    let j = c.loop-j.j in
    let fits = c.requires.fits.laid.parts in
    let old = g.D.Depot.taken c.args.depot.now in
    let new = g.D.Depot.taken c.make_column.new.depot in
    let more = edges_next kind table j c.args.layout.now.parts.parts fits in
    let few = edges_few kind table (j + 1) (omega (arith, c.loop-j.auto.j-end, c.loop-j-test.true, c.parts-j-end.ensures.value, fits)) in
    let here : new (file_of kind) ≤ old (file_of kind) + bytes_in kind table = omega (arith, more, few, c.in-Err.ensures.most, c.loop-j.invariant.most) in
    subst (λ (k : Kind). new (file_of k) ≤ old (file_of k) + bytes_in k table) c.kind_of-kind.ensures here

pub returns-clause-made : goal.returns-clause-made
returns-clause-made g c edges u grid at is =
    let p = g.G.VertexProgram.model c.args.program.now in
    let coding : Coding _ _ = record { value_of = g.G.Value.Fixed.value_of; value_width = g.G.Value.Fixed.WIDTH; sum_of = g.G.Sum.Fixed.value_of; sum_width = g.G.Sum.Fixed.WIDTH } in
    let cut = c.args.layout.now.parts in
    let kind = c.kind_of-kind.result in
    let ahead = c.feeds_ahead-ahead.result in
    let j = c.loop-j.j in
    let kept = c.loop-j.invariant in
    let were = c.args.room.now.active.was_hot in
    let flags = c.loop-j.room.active.is_hot in
    let w0 = c.args.room.now.windows in
    let w1 = c.loop-j.room.windows in
    let d0 = g.D.Depot.holds c.args.depot.now in
    let d1 = g.D.Depot.holds c.loop-j.depot in
    let beside = beside_of cut g.G.Value.Fixed.WIDTH g.G.Sum.Fixed.WIDTH w0.pinned kind ahead j in
    let all : j ≡ cut.parts = omega (arith, c.loop-j.auto.j-end, c.loop-j-test.false, c.parts-j-end.ensures.value) in
    iteration_made coding p edges cut c.args.layout.now.table d0 d1 c.args.options.mode c.args.options.iterations u c.args.t j kind ahead w1 w0 were flags c.loop-j.counts beside (load_bytes coding w0)
    (g.D.Depot.taken c.args.depot.now) (g.D.Depot.stored c.args.depot.now) (g.D.Depot.taken c.loop-j.depot) (g.D.Depot.stored c.loop-j.depot) at c.kind_of-kind.ensures c.feeds_ahead-ahead.ensures grid all is.active
    (subst (λ (f : List Bool). IsMadeBelow coding p edges cut j u w1 d1 f flags c.loop-j.counts.moved) kept.was_hot (kept.made edges u grid at is)) (kept.early edges u grid at is)
    (λ size need loads are.
    gone_as kind size need loads (places_below kind cut.parts j) (passes kind cut.parts) beside beside _ _ _ _ c.loop-j.counts (ap (λ (n : ℕ). places_below kind cut.parts n) all) refl
    (kept.gone size need loads (λ i k row low. are i k row (omega (arith, low, all)))))

pub returns-clause-gone : goal.returns-clause-gone
returns-clause-gone g c size need loads are =
    let coding : Coding _ _ = record { value_of = g.G.Value.Fixed.value_of; value_width = g.G.Value.Fixed.WIDTH; sum_of = g.G.Sum.Fixed.value_of; sum_width = g.G.Sum.Fixed.WIDTH } in
    let cut = c.args.layout.now.parts in
    let kind = c.kind_of-kind.result in
    let ahead = c.feeds_ahead-ahead.result in
    let j = c.loop-j.j in
    let v = g.G.Value.Fixed.WIDTH in
    let s = g.G.Sum.Fixed.WIDTH in
    let w0 = c.args.room.now.windows in
    let t0 = g.D.Depot.taken c.args.depot.now in
    let s0 = g.D.Depot.stored c.args.depot.now in
    let t1 = g.D.Depot.taken c.loop-j.depot in
    let s1 = g.D.Depot.stored c.loop-j.depot in
    let all : j ≡ cut.parts = omega (arith, c.loop-j.auto.j-end, c.loop-j-test.false, c.parts-j-end.ensures.value) in
    let here : (i k : ℕ) → i < cut.parts → k < j → AreOf c.args.layout.now.table (load_bytes coding w0) c.args.room.now.active.was_hot c.loop-j.room.active.is_hot ahead size need loads i k = λ i k row low.
    subst (λ (b : Bool). AreOf c.args.layout.now.table (load_bytes coding w0) c.args.room.now.active.was_hot c.loop-j.room.active.is_hot b size need loads i k) (sym c.feeds_ahead-ahead.ensures) (are i k row (omega (arith, low, all))) in
    let gone = gone_as kind size need loads (places_below kind cut.parts j) (passes kind cut.parts) (beside_of cut v s w0.pinned kind ahead j) (beside_of cut v s w0.pinned kind ahead cut.parts) t0 s0 t1 s1 c.loop-j.counts
    (ap (λ (n : ℕ). places_below kind cut.parts n) all) (ap (λ (n : ℕ). beside_of cut v s w0.pinned kind ahead n) all) (c.loop-j.invariant.gone size need loads here) in
    subst (λ (b : Bool). HasGone (kind_of c.args.options.mode c.args.t) size need loads (passes (kind_of c.args.options.mode c.args.t) cut.parts) (beside_of cut v s w0.pinned (kind_of c.args.options.mode c.args.t) b cut.parts) t0 s0 t1 s1 c.loop-j.counts) c.feeds_ahead-ahead.ensures
    (subst (λ (k : Kind). HasGone k size need loads (passes k cut.parts) (beside_of cut v s w0.pinned k ahead cut.parts) t0 s0 t1 s1 c.loop-j.counts) c.kind_of-kind.ensures gone)
