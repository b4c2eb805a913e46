use Rattle.std.proofs.Common.{◌≡◌, ◌<◌, ◌≤◌, ◌+◌, ℕ, length, refl, sym, ap, ◌∙◌, subst, arith}
use Rattle.lumos_base.specs.Leaving.{no_info}
use Rattle.lumos_depot.specs.Streams.{after_told}
use Rattle.lumos_depot.specs.declared.depot.FileKind.TheVariants.{Values}
use Rattle.lumos_depot.proofs.StepLemmas.{reads_then, rose_whole}
use Rattle.partition.specs.Parts.{Cut, chunk_of, first_vertex, part_length}
use Rattle.flight_core.proofs.OverLemmas.{list_state}
use Rattle.windows.specs.Kept.{load_bytes}
use Rattle.windows.specs.Windows.{WindowState, chunk_count, chunk_first}
use Rattle.windows.proofs.FrameLemmas.{stays_keeps, stays_then}
use Rattle.windows.proofs.PartLemmas.{part_inside, range_first}
use Rattle.windows.proofs.StayLemmas.{coding}
use Rattle.early_engine.specs.Report.{value_lines}
use Rattle.early_engine.specs.Starts.{IsFromOutside}
use Rattle.early_engine.proofs.KeepLemmas.{fits_same}
use Rattle.early_engine.proofs.ShownLemmas.{all_vertices, first_chunk, keeps_list, loads_more, outside_of, shown_all, shown_cut, shown_front, shown_more, shown_told, told_cut, told_front}
use Rattle.early_engine.proofs.write.write_values.Goals as goal

pub returns-in-Err-clause-told : goal.returns-in-Err-clause-told
returns-in-Err-clause-told g c state keeps =
    let cut = c.requires.fits.cut_is in
    let vertices = ap (λ (k : Cut). k.vertices) cut in
    let parts = ap (λ (k : Cut). k.parts) cut in
    told_front (coding g.G.Value.Fixed.value_of g.G.Value.Fixed.WIDTH g.G.Sum.Fixed.value_of g.G.Sum.Fixed.WIDTH) c.args.windows.now (g.D.Depot.holds c.args.depot.now) c.args.t (g.G.VertexProgram.model c.args.program.now)
    c.loop-j.j c.args.layout.now.parts.vertices _ _ state (omega (arith, vertices)) (λ k low. keeps k (omega (arith, low, parts, c.loop-j-test.true, c.parts-j-end.ensures.value))) c.loop-j.invariant.shown

pub returns-in-Err-clause-shown : goal.returns-in-Err-clause-shown
returns-in-Err-clause-shown g c =
    let vertices = ap (λ (k : Cut). k.vertices) c.requires.fits.cut_is in
    shown_front (coding g.G.Value.Fixed.value_of g.G.Value.Fixed.WIDTH g.G.Sum.Fixed.value_of g.G.Sum.Fixed.WIDTH) c.args.windows.now (g.D.Depot.holds c.args.depot.now) c.args.t (g.G.VertexProgram.model c.args.program.now)
    c.loop-j.j c.args.layout.now.parts.vertices _ _ (omega (arith, vertices)) c.loop-j.invariant.shown

pub returns-in-Err-clause-stays : goal.returns-in-Err-clause-stays
returns-in-Err-clause-stays g c =
    stays_then (coding g.G.Value.Fixed.value_of g.G.Value.Fixed.WIDTH g.G.Sum.Fixed.value_of g.G.Sum.Fixed.WIDTH) c.args.windows.now c.loop-j.windows c.load_before.new.self _ _ _ c.loop-j.invariant.stays c.load_before.ensures.stays

pub returns-in-Err-clause-fits : goal.returns-in-Err-clause-fits
returns-in-Err-clause-fits g c =
    fits_same (coding g.G.Value.Fixed.value_of g.G.Value.Fixed.WIDTH g.G.Sum.Fixed.value_of g.G.Sum.Fixed.WIDTH) c.args.layout.now.parts c.args.layout.now.table c.loop-j.windows c.load_before.new.self
    (g.D.Depot.holds c.loop-j.depot) (g.D.Depot.holds c.load_before.new.depot) c.load_before.ensures.stays.room c.load_before.ensures.reads.contents c.loop-j.invariant.fits

pub returns-in-Err-clause-intact : goal.returns-in-Err-clause-intact
returns-in-Err-clause-intact g c state keeps =
    let parts = ap (λ (k : Cut). k.parts) c.requires.fits.cut_is in
    let here = stays_keeps (coding g.G.Value.Fixed.value_of g.G.Value.Fixed.WIDTH g.G.Sum.Fixed.value_of g.G.Sum.Fixed.WIDTH) c.args.windows.now c.loop-j.windows (g.D.Depot.holds c.args.depot.now) (g.D.Depot.holds c.loop-j.depot)
    c.args.t c.loop-j.j state c.loop-j.invariant.stays (keeps c.loop-j.j (omega (arith, parts, c.loop-j-test.true, c.parts-j-end.ensures.value))) in
    subst IsFromOutside (sym c.fault_of_file.ensures) (outside_of c.in-Err.fault (c.in-Err.ensures.intact state here))

pub returns-in-Err-clause-reads : goal.returns-in-Err-clause-reads
returns-in-Err-clause-reads g c =
    reads_then g.D.Depot.holds g.D.Depot.taken g.D.Depot.stored g.D.Depot.faults g.D.Depot.attached Values c.args.depot.now c.loop-j.depot c.load_before.new.depot c.loop-j.invariant.reads c.load_before.ensures.reads

pub returns-in-Err-write_part-clause-told : goal.returns-in-Err-write_part-clause-told
returns-in-Err-write_part-clause-told g c state keeps =
    let p = g.G.VertexProgram.model c.args.program.now in
    let w = c.args.windows.now in
    let new = c.load_before.new.self in
    let j = c.loop-j.j in
    let before = c.before-in-loop-j.ensures in
    let cut : new.cut ≡ w.cut = ap (λ (x : WindowState _ _). x.cut) c.load_before.ensures.alone ∙ ap (λ (x : WindowState _ _). x.cut) c.loop-j.invariant.alone in
    let vertices = ap (λ (k : Cut). k.vertices) c.requires.fits.cut_is in
    let parts = ap (λ (k : Cut). k.parts) c.requires.fits.cut_is in
    let low : j < w.cut.parts = omega (arith, parts, c.loop-j-test.true, c.parts-j-end.ensures.value) in
    let at : c.range_of-first.result.first ≡ chunk_first w j = range_first c.range_of-first.result c.args.layout.now.parts.vertices (chunk_of c.args.layout.now.parts) j c.range_of-first.ensures.value
    ∙ ap (λ (k : Cut). first_vertex k.vertices (chunk_of k) j) (sym c.requires.fits.cut_is) in
    let long : length c.before-in-loop-j.result.now ≡ chunk_count w j = before.long ∙ (λ i. part_length (cut i).vertices (chunk_of (cut i)) (c.in-Ok.ensures.part i)) in
    let inside : chunk_first w j + chunk_count w j ≤ c.args.layout.now.parts.vertices = omega (arith, part_inside w.cut.vertices (chunk_of w.cut) j, vertices) in
    let here = stays_keeps (coding g.G.Value.Fixed.value_of g.G.Value.Fixed.WIDTH g.G.Sum.Fixed.value_of g.G.Sum.Fixed.WIDTH) w c.loop-j.windows (g.D.Depot.holds c.args.depot.now) (g.D.Depot.holds c.loop-j.depot)
    c.args.t j state c.loop-j.invariant.stays (keeps j low) in
    told_cut (coding g.G.Value.Fixed.value_of g.G.Value.Fixed.WIDTH g.G.Sum.Fixed.value_of g.G.Sum.Fixed.WIDTH) w (g.D.Depot.holds c.args.depot.now) c.args.t p j c.before-in-loop-j.result.now (p.init 0 no_info) _ _ _ c.write_part.result
    c.range_of-first.result.first at long c.write_part.ensures.bytes c.args.layout.now.parts.vertices state inside (λ k below. keeps k (omega (arith, low, below)))
    (first_chunk w new j state c.before-in-loop-j.result.now cut before.shown (c.in-Ok.ensures.shown state here)) c.loop-j.invariant.shown

pub returns-in-Err-write_part-clause-shown : goal.returns-in-Err-write_part-clause-shown
returns-in-Err-write_part-clause-shown g c =
    let p = g.G.VertexProgram.model c.args.program.now in
    let w = c.args.windows.now in
    let new = c.load_before.new.self in
    let j = c.loop-j.j in
    let before = c.before-in-loop-j.ensures in
    let cut : new.cut ≡ w.cut = ap (λ (x : WindowState _ _). x.cut) c.load_before.ensures.alone ∙ ap (λ (x : WindowState _ _). x.cut) c.loop-j.invariant.alone in
    let vertices = ap (λ (k : Cut). k.vertices) c.requires.fits.cut_is in
    let at : c.range_of-first.result.first ≡ chunk_first w j = range_first c.range_of-first.result c.args.layout.now.parts.vertices (chunk_of c.args.layout.now.parts) j c.range_of-first.ensures.value
    ∙ ap (λ (k : Cut). first_vertex k.vertices (chunk_of k) j) (sym c.requires.fits.cut_is) in
    let long : length c.before-in-loop-j.result.now ≡ chunk_count w j = before.long ∙ (λ i. part_length (cut i).vertices (chunk_of (cut i)) (c.in-Ok.ensures.part i)) in
    let inside : chunk_first w j + chunk_count w j ≤ c.args.layout.now.parts.vertices = omega (arith, part_inside w.cut.vertices (chunk_of w.cut) j, vertices) in
    shown_cut (coding g.G.Value.Fixed.value_of g.G.Value.Fixed.WIDTH g.G.Sum.Fixed.value_of g.G.Sum.Fixed.WIDTH) w (g.D.Depot.holds c.args.depot.now) c.args.t p j c.before-in-loop-j.result.now (p.init 0 no_info) _ _ _ c.write_part.result
    c.range_of-first.result.first at long c.write_part.ensures.bytes c.args.layout.now.parts.vertices inside c.loop-j.invariant.shown

pub loop-j-preserved : goal.loop-j-preserved
loop-j-preserved g c =
    let p = g.G.VertexProgram.model c.args.program.now in
    let w = c.args.windows.now in
    let mid = c.loop-j.windows in
    let new = c.load_before.new.self in
    let j = c.loop-j.j in
    let kept = c.loop-j.invariant in
    let before = c.before-in-loop-j.ensures in
    let d = p.init 0 no_info in
    let cut : new.cut ≡ w.cut = ap (λ (x : WindowState _ _). x.cut) c.load_before.ensures.alone ∙ ap (λ (x : WindowState _ _). x.cut) kept.alone in
    let at : c.range_of-first.result.first ≡ chunk_first w j = range_first c.range_of-first.result c.args.layout.now.parts.vertices (chunk_of c.args.layout.now.parts) j c.range_of-first.ensures.value
    ∙ ap (λ (k : Cut). first_vertex k.vertices (chunk_of k) j) (sym c.requires.fits.cut_is) in
    let long : length c.before-in-loop-j.result.now ≡ chunk_count w j = before.long ∙ (λ i. part_length (cut i).vertices (chunk_of (cut i)) (c.in-Ok.ensures.part i)) in
    let code = coding g.G.Value.Fixed.value_of g.G.Value.Fixed.WIDTH g.G.Sum.Fixed.value_of g.G.Sum.Fixed.WIDTH in
    record {
      reads = reads_then g.D.Depot.holds g.D.Depot.taken g.D.Depot.stored g.D.Depot.faults g.D.Depot.attached Values c.args.depot.now c.loop-j.depot c.load_before.new.depot kept.reads c.load_before.ensures.reads;
      alone = c.load_before.ensures.alone ∙ ap (λ (x : WindowState _ _). record x { first_part = new.first_part; first = new.first }) kept.alone;
      stays = stays_then code w mid new _ _ _ kept.stays c.load_before.ensures.stays;
      fits = fits_same code c.args.layout.now.parts c.args.layout.now.table mid new (g.D.Depot.holds c.loop-j.depot) (g.D.Depot.holds c.load_before.new.depot) c.load_before.ensures.stays.room c.load_before.ensures.reads.contents kept.fits;
      taken = rose_whole _ _ _ _ (load_bytes code mid j) _ (loads_more code w mid j kept.stays.room) kept.taken c.in-Ok.ensures.taken;
      later = let step = c.write_part.ensures.cause.later in let had = kept.later in omega (arith, step, had);
      shown = shown_more code w (g.D.Depot.holds c.args.depot.now) c.args.t p j c.before-in-loop-j.result.now d _ _ _ c.write_part.result c.range_of-first.result.first at long c.write_part.ensures.bytes (rw c.in-Ok-write_part.is refl)
          (λ xs held. first_chunk w new j (list_state xs (chunk_first w j) d) c.before-in-loop-j.result.now cut before.shown (c.in-Ok.ensures.shown (list_state xs (chunk_first w j) d)
          (stays_keeps code w mid (g.D.Depot.holds c.args.depot.now) (g.D.Depot.holds c.loop-j.depot) c.args.t j (list_state xs (chunk_first w j) d) kept.stays (keeps_list code w (g.D.Depot.holds c.args.depot.now) c.args.t j xs d held)))) kept.shown;
    }

pub returns-clause-told : goal.returns-clause-told
returns-clause-told g c state keeps =
    let p = g.G.VertexProgram.model c.args.program.now in
    let w = c.args.windows.now in
    let parts = ap (λ (k : Cut). k.parts) c.requires.fits.cut_is in
    let vertices = ap (λ (k : Cut). k.vertices) c.requires.fits.cut_is in
    let all : c.loop-j.j ≡ w.cut.parts = omega (arith, parts, c.loop-j.auto.j-end, c.loop-j-test.false, c.parts-j-end.ensures.value) in
    let some : 0 < w.cut.parts = omega (arith, parts, c.parts-j-end.ensures.value, c.parts-j-end.ensures.some) in
    shown_told (coding g.G.Value.Fixed.value_of g.G.Value.Fixed.WIDTH g.G.Sum.Fixed.value_of g.G.Sum.Fixed.WIDTH) w (g.D.Depot.holds c.args.depot.now) c.args.t p c.loop-j.j _ _ state (λ k low. keeps k (omega (arith, low, all))) c.loop-j.invariant.shown
    ∙ ap (λ (n : ℕ). after_told (g.O.Sink.written c.args.out.now) (value_lines p state 0 n)) (all_vertices w.cut c.loop-j.j some all ∙ vertices)

pub returns-clause-shown : goal.returns-clause-shown
returns-clause-shown g c =
    let p = g.G.VertexProgram.model c.args.program.now in
    let w = c.args.windows.now in
    let kept = c.loop-j.invariant in
    let parts = ap (λ (k : Cut). k.parts) c.requires.fits.cut_is in
    let vertices = ap (λ (k : Cut). k.vertices) c.requires.fits.cut_is in
    let all : c.loop-j.j ≡ w.cut.parts = omega (arith, parts, c.loop-j.auto.j-end, c.loop-j-test.false, c.parts-j-end.ensures.value) in
    let some : 0 < w.cut.parts = omega (arith, parts, c.parts-j-end.ensures.value, c.parts-j-end.ensures.some) in
    shown_all (coding g.G.Value.Fixed.value_of g.G.Value.Fixed.WIDTH g.G.Sum.Fixed.value_of g.G.Sum.Fixed.WIDTH) p c.args.t c.loop-j.j c.args.layout.now.parts.vertices w c.loop-j.windows (g.D.Depot.holds c.args.depot.now) (g.D.Depot.holds c.loop-j.depot) _ _
    all (all_vertices w.cut c.loop-j.j some all ∙ vertices)
    (ap (λ (x : WindowState _ _). x.cut) kept.alone) (ap (λ (x : WindowState _ _). x.pinned) kept.alone) (ap (λ (x : WindowState _ _). x.even) kept.alone) (ap (λ (x : WindowState _ _). x.odd) kept.alone) (kept.reads.contents Values) kept.shown
