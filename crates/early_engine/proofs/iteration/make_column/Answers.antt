use Rattle.std.proofs.Common.{◌≡◌, ◌+◌, ◌++◌, ℕ, suc, cond, Some, refl, sym, ap, ◌∙◌, subst, arith}
use Rattle.lumos_law.specs.Sync.{values}
use Rattle.lumos_depot.specs.declared.depot.FileKind.TheVariants.{Primary, Secondary, Values, Sums}
use Rattle.lumos_depot.proofs.StepLemmas.{moves_touches, told_some, touches_more, touches_then}
use Rattle.partition.specs.Parts.{Cut, chunk_of}
use Rattle.windows.specs.Kept.{load_bytes}
use Rattle.windows.specs.Windows.{Coding}
use Rattle.windows.proofs.FrameLemmas.{has_next_stays, room_then}
use Rattle.early_engine.specs.Early.{early_edges}
use Rattle.early_engine.specs.Files.{stores_none, stores_of, takes_of}
use Rattle.early_engine.specs.Gone.{and_closed, and_column, sums_of_chunk}
use Rattle.early_engine.specs.Passes.{first_row, of_secondary, places}
use Rattle.early_engine.specs.Steps.{IsMadeBelow}
use Rattle.early_engine.specs.declared.part.Stop.TheVariants.{File}
use Rattle.early_engine.proofs.BytesLemmas.{both, gone_as, gone_beside, of_early, of_stored, sums_read, sums_stored}
use Rattle.early_engine.proofs.ColumnSteps.{begin_touches, depot_stop, early_closed, early_here, early_more, leave_touches, made_stays, made_stored, stop_same, sums_of_column, sums_told}
use Rattle.early_engine.proofs.GridLemmas.{on_grid_same}
use Rattle.early_engine.proofs.HotLemmas.{of_same}
use Rattle.early_engine.proofs.IterationLemmas.{column_is}
use Rattle.early_engine.proofs.KeepLemmas.{early_stays, fits_sized, grid_off, load_same}
use Rattle.early_engine.proofs.iteration.make_column.Goals as goal

pub returns-in-Err-clause-made : goal.returns-in-Err-clause-made
returns-in-Err-clause-made g c edges u grid at made early =
    let p = g.G.VertexProgram.model c.args.program.now in
    let coding : Coding _ _ = record { value_of = g.G.Value.Fixed.value_of; value_width = g.G.Value.Fixed.WIDTH; sum_of = g.G.Sum.Fixed.value_of; sum_width = g.G.Sum.Fixed.WIDTH } in
    c.in-Err.ensures.intact c.args.program.now edges (values p edges u)
    (early_here coding p edges c.args.layout.now.parts c.args.kind c.args.ahead c.args.j u c.args.room.now.windows (g.D.Depot.holds c.args.depot.now) c.requires.fits.cut_is c.requires.column early)

pub returns-in-Err-feed_column-clause-made : goal.returns-in-Err-feed_column-clause-made
returns-in-Err-feed_column-clause-made g c edges u grid at made early =
    let p = g.G.VertexProgram.model c.args.program.now in
    let coding : Coding _ _ = record { value_of = g.G.Value.Fixed.value_of; value_width = g.G.Value.Fixed.WIDTH; sum_of = g.G.Sum.Fixed.value_of; sum_width = g.G.Sum.Fixed.WIDTH } in
    let cut = c.args.layout.now.parts in
    let before = g.D.Depot.holds c.args.depot.now in
    let mid = g.D.Depot.holds c.begin_sums.new.depot in
    let here = on_grid_same edges cut c.args.layout.now.table before mid c.begin_sums.ensures.reads.contents grid in
    let known = made_stays coding p edges cut c.args.room.now.windows c.begin_sums.new.windows before mid c.args.j u c.args.room.now.active.was_hot c.args.room.now.active.is_hot c.args.counts.now.moved c.begin_sums.ensures.stays made in
    c.in-Err-feed_column.ensures.intact edges u here at known.ready

pub returns-in-Err-feed_column-clause-stop : goal.returns-in-Err-feed_column-clause-stop
returns-in-Err-feed_column-clause-stop g c =
    let coding : Coding _ _ = record { value_of = g.G.Value.Fixed.value_of; value_width = g.G.Value.Fixed.WIDTH; sum_of = g.G.Sum.Fixed.value_of; sum_width = g.G.Sum.Fixed.WIDTH } in
    stop_same coding g.G.Value.Fixed.is_in_range g.G.Sum.Fixed.is_in_range (g.G.VertexProgram.model c.args.program.now) c.args.room.now.windows c.begin_sums.new.windows c.args.kind c.args.layout.now.table (File c.in-Err-feed_column.fault)
    c.begin_sums.ensures.stays.room c.in-Err-feed_column.ensures.damaged

pub returns-in-Err-close_part-clause-made : goal.returns-in-Err-close_part-clause-made
returns-in-Err-close_part-clause-made g c edges u grid at made early =
    let p = g.G.VertexProgram.model c.args.program.now in
    let coding : Coding _ _ = record { value_of = g.G.Value.Fixed.value_of; value_width = g.G.Value.Fixed.WIDTH; sum_of = g.G.Sum.Fixed.value_of; sum_width = g.G.Sum.Fixed.WIDTH } in
    let cut = c.args.layout.now.parts in
    let table = c.args.layout.now.table in
    let kind = c.args.kind in
    let j = c.args.j in
    let w0 = c.args.room.now.windows in
    let w1 = c.begin_sums.new.windows in
    let w2 = c.feed_column.new.windows in
    let d0 = g.D.Depot.holds c.args.depot.now in
    let d1 = g.D.Depot.holds c.begin_sums.new.depot in
    let d2 = g.D.Depot.holds c.feed_column.new.depot in
    let were = c.args.room.now.active.was_hot in
    let are = c.args.room.now.active.is_hot in
    let g1 = on_grid_same edges cut table d0 d1 c.begin_sums.ensures.reads.contents grid in
    let g2 = grid_off stores_none edges cut table d1 d2 refl refl refl refl c.in-Ok-feed_column.ensures.touches.contents g1 in
    let m1 = made_stays coding p edges cut w0 w1 d0 d1 j u were are c.args.counts.now.moved c.begin_sums.ensures.stays made in
    let m2 = made_stays coding p edges cut w1 w2 d1 d2 j u were are c.args.counts.now.moved c.in-Ok-feed_column.ensures.stays m1 in
    let s1 = sums_of_column coding p edges cut w0 w1 j (first_row kind j) (values p edges u) c.requires.fits.cut_is
    (c.in-Ok.ensures.sums c.args.program.now edges (values p edges u) (early_here coding p edges cut kind c.args.ahead j u w0 d0 c.requires.fits.cut_is c.requires.column early)) in
    let s2 = c.in-Ok-feed_column.ensures.fed edges u g1 at m1.ready s1 in
    c.in-Err-close_part.ensures.made edges u g2 at (subst (λ (n : ℕ). IsMadeBelow coding p edges cut j u w2 d2 were are n) (sym c.in-Ok-feed_column.ensures.moved) m2) s2

pub returns-in-Err-close_part-clause-stop : goal.returns-in-Err-close_part-clause-stop
returns-in-Err-close_part-clause-stop g c =
    let coding : Coding _ _ = record { value_of = g.G.Value.Fixed.value_of; value_width = g.G.Value.Fixed.WIDTH; sum_of = g.G.Sum.Fixed.value_of; sum_width = g.G.Sum.Fixed.WIDTH } in
    stop_same coding g.G.Value.Fixed.is_in_range g.G.Sum.Fixed.is_in_range (g.G.VertexProgram.model c.args.program.now) c.args.room.now.windows c.feed_column.new.windows c.args.kind c.args.layout.now.table c.in-Err-close_part.stop
    (room_then c.args.room.now.windows c.begin_sums.new.windows c.feed_column.new.windows c.begin_sums.ensures.stays.room c.in-Ok-feed_column.ensures.stays.room) (c.in-Err-close_part.ensures.stop c.args.kind c.args.layout.now.table)

pub returns-in-Err-close_part-clause-touches : goal.returns-in-Err-close_part-clause-touches
returns-in-Err-close_part-clause-touches g c =
    let kind = c.args.kind in
    let ahead = c.args.ahead in
    let t0 = begin_touches g.D.Depot.holds g.D.Depot.taken g.D.Depot.stored g.D.Depot.faults g.D.Depot.attached c.args.depot.now c.begin_sums.new.depot kind (stores_of ahead) c.begin_sums.ensures.full c.begin_sums.ensures.reads in
    let t1 = touches_more g.D.Depot.holds g.D.Depot.taken g.D.Depot.stored g.D.Depot.faults g.D.Depot.attached (takes_of kind) stores_none (takes_of kind) (stores_of ahead) c.begin_sums.new.depot c.feed_column.new.depot (λ file off. off) (λ file off. refl) c.feed_column.ensures.touches in
    let t2 = moves_touches g.D.Depot.holds g.D.Depot.taken g.D.Depot.stored g.D.Depot.faults g.D.Depot.attached (takes_of kind) (stores_of ahead) Values Values c.feed_column.new.depot c.close_part.new.depot refl refl c.close_part.ensures.moves in
    touches_then g.D.Depot.holds g.D.Depot.taken g.D.Depot.stored g.D.Depot.faults g.D.Depot.attached (takes_of kind) (stores_of ahead) _ _ _ t0
    (touches_then g.D.Depot.holds g.D.Depot.taken g.D.Depot.stored g.D.Depot.faults g.D.Depot.attached (takes_of kind) (stores_of ahead) _ _ _ t1 t2)

pub returns-in-Ok-leave_sums-clause-made : goal.returns-in-Ok-leave_sums-clause-made
returns-in-Ok-leave_sums-clause-made g c edges u grid at made early =
    let p = g.G.VertexProgram.model c.args.program.now in
    let coding : Coding _ _ = record { value_of = g.G.Value.Fixed.value_of; value_width = g.G.Value.Fixed.WIDTH; sum_of = g.G.Sum.Fixed.value_of; sum_width = g.G.Sum.Fixed.WIDTH } in
    let cut = c.args.layout.now.parts in
    let table = c.args.layout.now.table in
    let kind = c.args.kind in
    let j = c.args.j in
    let w0 = c.args.room.now.windows in
    let w1 = c.begin_sums.new.windows in
    let w2 = c.feed_column.new.windows in
    let d0 = g.D.Depot.holds c.args.depot.now in
    let d1 = g.D.Depot.holds c.begin_sums.new.depot in
    let d2 = g.D.Depot.holds c.feed_column.new.depot in
    let were = c.args.room.now.active.was_hot in
    let are = c.args.room.now.active.is_hot in
    let g1 = on_grid_same edges cut table d0 d1 c.begin_sums.ensures.reads.contents grid in
    let g2 = grid_off stores_none edges cut table d1 d2 refl refl refl refl c.in-Ok-feed_column.ensures.touches.contents g1 in
    let m1 = made_stays coding p edges cut w0 w1 d0 d1 j u were are c.args.counts.now.moved c.begin_sums.ensures.stays made in
    let m2 = made_stays coding p edges cut w1 w2 d1 d2 j u were are c.args.counts.now.moved c.in-Ok-feed_column.ensures.stays m1 in
    let s1 = sums_of_column coding p edges cut w0 w1 j (first_row kind j) (values p edges u) c.requires.fits.cut_is
    (c.in-Ok.ensures.sums c.args.program.now edges (values p edges u) (early_here coding p edges cut kind c.args.ahead j u w0 d0 c.requires.fits.cut_is c.requires.column early)) in
    let s2 = c.in-Ok-feed_column.ensures.fed edges u g1 at m1.ready s1 in
    let m3 = c.in-Ok-close_part.ensures.made edges u g2 at (subst (λ (n : ℕ). IsMadeBelow coding p edges cut j u w2 d2 were are n) (sym c.in-Ok-feed_column.ensures.moved) m2) s2 in
    made_stored coding p edges cut c.close_part.new.room.windows c.leave_sums.new.windows (g.D.Depot.holds c.close_part.new.depot) (g.D.Depot.holds c.leave_sums.new.depot) (j + 1) j u c.close_part.new.room.active.was_hot c.close_part.new.room.active.is_hot
    c.close_part.new.counts.moved c.leave_sums.ensures.stays m3

pub returns-in-Ok-leave_sums-clause-early : goal.returns-in-Ok-leave_sums-clause-early
returns-in-Ok-leave_sums-clause-early g c edges u grid at made early =
    let p = g.G.VertexProgram.model c.args.program.now in
    let coding : Coding _ _ = record { value_of = g.G.Value.Fixed.value_of; value_width = g.G.Value.Fixed.WIDTH; sum_of = g.G.Sum.Fixed.value_of; sum_width = g.G.Sum.Fixed.WIDTH } in
    let cut = c.args.layout.now.parts in
    let table = c.args.layout.now.table in
    let kind = c.args.kind in
    let ahead = c.args.ahead in
    let j = c.args.j in
    let w0 = c.args.room.now.windows in
    let w1 = c.begin_sums.new.windows in
    let w2 = c.feed_column.new.windows in
    let w3 = c.close_part.new.room.windows in
    let w4 = c.leave_sums.new.windows in
    let d0 = g.D.Depot.holds c.args.depot.now in
    let d1 = g.D.Depot.holds c.begin_sums.new.depot in
    let d2 = g.D.Depot.holds c.feed_column.new.depot in
    let d3 = g.D.Depot.holds c.close_part.new.depot in
    let d4 = g.D.Depot.holds c.leave_sums.new.depot in
    let g1 = on_grid_same edges cut table d0 d1 c.begin_sums.ensures.reads.contents grid in
    let m1 = made_stays coding p edges cut w0 w1 d0 d1 j u c.args.room.now.active.was_hot c.args.room.now.active.is_hot c.args.counts.now.moved c.begin_sums.ensures.stays made in
    let e1 = early_stays coding p edges cut w0 w1 d0 d1 c.begin_sums.ensures.stays kind ahead j u early in
    let e2 = early_stays coding p edges cut w1 w2 d1 d2 c.in-Ok-feed_column.ensures.stays kind ahead j u e1 in
    let e3 = early_closed coding p edges cut w2 w3 d2 d3 kind ahead j u c.args.t j c.in-Ok-close_part.ensures.stays e2 in
    let told = sums_told edges cut table d0 (g.D.Depot.tells_all c.args.depot.now) grid in
    let kept : d3 Sums ≡ Some told.0 =
    c.in-Ok-close_part.ensures.moves.contents Sums (λ same. let e : Sums ≡ Values = same in cc) ∙ c.in-Ok-feed_column.ensures.touches.contents Sums refl ∙ c.begin_sums.ensures.reads.contents Sums ∙ told.1 in
    early_more coding p edges cut w3 w4 d3 d4 kind ahead j u c.leave_sums.ensures.stays
    (λ on.
    let n1 = c.begin_sums.ensures.next c.args.program.now (values p edges (suc u)) (c.requires.kinds on) in
    let n2 = c.in-Ok-feed_column.ensures.early edges u g1 at on m1.ready n1 in
    let n3 = has_next_stays p w2 w3 j (values p edges (suc u)) (early_edges edges (chunk_of cut) j) c.in-Ok-close_part.ensures.stays.room.cut c.in-Ok-close_part.ensures.part c.in-Ok-close_part.ensures.next n2 in
    (told_some (d3 Sums) _ told.0 kept c.in-Ok-leave_sums.ensures.stored_sums) c.args.program.now (values p edges (suc u)) (early_edges edges (chunk_of cut) j) on n3)
    e3

pub returns-in-Ok-leave_sums-clause-fits : goal.returns-in-Ok-leave_sums-clause-fits
returns-in-Ok-leave_sums-clause-fits g c =
    let coding : Coding _ _ = record { value_of = g.G.Value.Fixed.value_of; value_width = g.G.Value.Fixed.WIDTH; sum_of = g.G.Sum.Fixed.value_of; sum_width = g.G.Sum.Fixed.WIDTH } in
    fits_sized coding c.args.layout.now.parts c.args.layout.now.table c.close_part.new.room.windows c.leave_sums.new.windows (g.D.Depot.holds c.close_part.new.depot) (g.D.Depot.holds c.leave_sums.new.depot) c.leave_sums.ensures.stays.room
    (c.leave_sums.ensures.stores.contents Primary (λ same. let e : Primary ≡ Sums = same in cc)) (c.leave_sums.ensures.stores.contents Secondary (λ same. let e : Secondary ≡ Sums = same in cc)) c.leave_sums.ensures.sized c.in-Ok-close_part.ensures.fits

pub returns-in-Ok-leave_sums-clause-gone : goal.returns-in-Ok-leave_sums-clause-gone
returns-in-Ok-leave_sums-clause-gone g c size need loads bs beside taken stored are gone =
    let coding : Coding _ _ = record { value_of = g.G.Value.Fixed.value_of; value_width = g.G.Value.Fixed.WIDTH; sum_of = g.G.Sum.Fixed.value_of; sum_width = g.G.Sum.Fixed.WIDTH } in
    let table = c.args.layout.now.table in
    let kind = c.args.kind in
    let ahead = c.args.ahead in
    let j = c.args.j in
    let w0 = c.args.room.now.windows in
    let w1 = c.begin_sums.new.windows in
    let w2 = c.feed_column.new.windows in
    let w3 = c.close_part.new.room.windows in
    let s = g.G.Sum.Fixed.WIDTH in
    let room01 = c.begin_sums.ensures.stays.room in
    let room02 = room_then w0 w1 w2 room01 c.in-Ok-feed_column.ensures.stays.room in
    let room03 = room_then w0 w2 w3 room02 c.in-Ok-close_part.ensures.stays.room in
    let sums = of_secondary kind (sums_of_chunk w0.cut s j) in
    let begin = sums_read g.D.Depot.holds g.D.Depot.taken g.D.Depot.stored g.D.Depot.faults g.D.Depot.attached kind c.args.depot.now c.begin_sums.new.depot sums c.in-Ok.ensures.taken c.begin_sums.ensures.reads in
    let leave = sums_stored g.D.Depot.holds g.D.Depot.taken g.D.Depot.stored g.D.Depot.faults g.D.Depot.attached kind c.close_part.new.depot c.leave_sums.new.depot (cond ahead (sums_of_chunk w3.cut s j) 0) c.in-Ok-leave_sums.ensures.stored c.leave_sums.ensures.stores in
    let b1 = both beside (of_early sums) in
    let b3 = and_closed (load_bytes coding w2 j) b1 in
    let all = bs ++ places kind c.args.layout.now.parts.parts j in
    let g1 = gone_beside kind size need loads bs beside (of_early sums) taken stored _ _ _ _ c.args.counts.now gone begin in
    let g2 = c.in-Ok-feed_column.ensures.gone size need loads bs b1 taken stored (λ i row. of_same table (load_bytes coding w0) (load_bytes coding w1) _ _ _ _ ahead size need loads i j (load_same coding w0 w1 i room01) refl (λ low. refl) (are i row)) g1 in
    let g3 = c.in-Ok-close_part.ensures.gone kind size need loads all b1 taken stored g2 in
    let g4 = gone_beside kind size need loads all b3 (of_stored (cond ahead (sums_of_chunk w3.cut s j) 0)) taken stored _ _ _ _ c.close_part.new.counts g3 leave in
    gone_as kind size need loads all all (both b3 (of_stored (cond ahead (sums_of_chunk w3.cut s j) 0))) (and_column kind ahead (load_bytes coding w0 j) (sums_of_chunk w0.cut s j) beside) taken stored _ _ c.close_part.new.counts refl
    ((λ i. both (and_closed (load_same coding w0 w2 j room02 i) b1) (of_stored (cond ahead (sums_of_chunk (room03.cut i) s j) 0))) ∙ column_is kind ahead (load_bytes coding w0 j) (sums_of_chunk w0.cut s j) beside) g4

pub returns-in-Ok-leave_sums-clause-touches : goal.returns-in-Ok-leave_sums-clause-touches
returns-in-Ok-leave_sums-clause-touches g c =
    let kind = c.args.kind in
    let ahead = c.args.ahead in
    let t0 = begin_touches g.D.Depot.holds g.D.Depot.taken g.D.Depot.stored g.D.Depot.faults g.D.Depot.attached c.args.depot.now c.begin_sums.new.depot kind (stores_of ahead) c.begin_sums.ensures.full c.begin_sums.ensures.reads in
    let t1 = touches_more g.D.Depot.holds g.D.Depot.taken g.D.Depot.stored g.D.Depot.faults g.D.Depot.attached (takes_of kind) stores_none (takes_of kind) (stores_of ahead) c.begin_sums.new.depot c.feed_column.new.depot (λ file off. off) (λ file off. refl) c.feed_column.ensures.touches in
    let t2 = moves_touches g.D.Depot.holds g.D.Depot.taken g.D.Depot.stored g.D.Depot.faults g.D.Depot.attached (takes_of kind) (stores_of ahead) Values Values c.feed_column.new.depot c.close_part.new.depot refl refl c.close_part.ensures.moves in
    let t3 = leave_touches g.D.Depot.holds g.D.Depot.taken g.D.Depot.stored g.D.Depot.faults g.D.Depot.attached c.close_part.new.depot c.leave_sums.new.depot (takes_of kind) ahead c.leave_sums.ensures.idle c.leave_sums.ensures.stores in
    let then = touches_then g.D.Depot.holds g.D.Depot.taken g.D.Depot.stored g.D.Depot.faults g.D.Depot.attached (takes_of kind) (stores_of ahead) in
    then _ _ _ t0 (then _ _ _ t1 (then _ _ _ t2 t3))

pub returns-in-Err-leave_sums-clause-touches : goal.returns-in-Err-leave_sums-clause-touches
returns-in-Err-leave_sums-clause-touches g c =
    let kind = c.args.kind in
    let ahead = c.args.ahead in
    let t0 = begin_touches g.D.Depot.holds g.D.Depot.taken g.D.Depot.stored g.D.Depot.faults g.D.Depot.attached c.args.depot.now c.begin_sums.new.depot kind (stores_of ahead) c.begin_sums.ensures.full c.begin_sums.ensures.reads in
    let t1 = touches_more g.D.Depot.holds g.D.Depot.taken g.D.Depot.stored g.D.Depot.faults g.D.Depot.attached (takes_of kind) stores_none (takes_of kind) (stores_of ahead) c.begin_sums.new.depot c.feed_column.new.depot (λ file off. off) (λ file off. refl) c.feed_column.ensures.touches in
    let t2 = moves_touches g.D.Depot.holds g.D.Depot.taken g.D.Depot.stored g.D.Depot.faults g.D.Depot.attached (takes_of kind) (stores_of ahead) Values Values c.feed_column.new.depot c.close_part.new.depot refl refl c.close_part.ensures.moves in
    let t3 = leave_touches g.D.Depot.holds g.D.Depot.taken g.D.Depot.stored g.D.Depot.faults g.D.Depot.attached c.close_part.new.depot c.leave_sums.new.depot (takes_of kind) ahead c.leave_sums.ensures.idle c.leave_sums.ensures.stores in
    let then = touches_then g.D.Depot.holds g.D.Depot.taken g.D.Depot.stored g.D.Depot.faults g.D.Depot.attached (takes_of kind) (stores_of ahead) in
    then _ _ _ t0 (then _ _ _ t1 (then _ _ _ t2 t3))

pub returns-in-Err-leave_sums-clause-stop : goal.returns-in-Err-leave_sums-clause-stop
returns-in-Err-leave_sums-clause-stop g c =
    let parts = ap (λ (k : Cut). k.parts) c.requires.fits.cut_is in
    depot_stop _ _ c.args.kind c.args.layout.now.table c.in-Err-leave_sums.fault c.args.j (omega (arith, parts, c.requires.column)) c.in-Err-leave_sums.ensures.intact
