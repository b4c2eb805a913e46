use Rattle.std.proofs.Common.{◌≡◌, ◌≢◌, ◌<◌, ◌+◌, ◌*◌, ℕ, List, sym, ap, ◌∙◌, arith}
use Rattle.std.specs.List.{list_any, range_with_len}
use Rattle.active_sets.specs.Active.{ActiveState, hot_at}
use Rattle.lumos_depot.specs.declared.depot.FileKind.TheVariants.{Primary, Secondary, Info, Values}
use Rattle.lumos_depot.proofs.StepLemmas.{moves_then, rose_whole, told_same, told_with}
use Rattle.partition.specs.Parts.{Cut, chunk_of}
use Rattle.windows.specs.Kept.{Keeps, load_bytes}
use Rattle.windows.specs.Sums.{given_values}
use Rattle.windows.specs.Windows.{chunk_count, chunk_first}
use Rattle.windows.proofs.FrameLemmas.{count_same, first_same, room_then}
use Rattle.windows.proofs.PartLemmas.{part_ends}
use Rattle.windows.proofs.StayLemmas.{coding}
use Rattle.early_engine.proofs.FlagLemmas.{marked}
use Rattle.early_engine.proofs.KeepLemmas.{fits_sized}
use Rattle.early_engine.proofs.ShownLemmas.{all_vertices, loads_more}
use Rattle.early_engine.proofs.StartLemmas.{infos_apart, keeps_more}
use Rattle.early_engine.proofs.begin.set_first.Goals as goal

primary_apart : Primary ≢ Values
primary_apart e = cc

secondary_apart : Secondary ≢ Values
secondary_apart e = cc

pub loop-i-preserved : goal.loop-i-preserved
loop-i-preserved g c =
    let p = g.G.VertexProgram.model c.args.program.now in
    let code = coding g.G.Value.Fixed.value_of g.G.Value.Fixed.WIDTH g.G.Sum.Fixed.value_of g.G.Sum.Fixed.WIDTH in
    let w = c.args.room.now.windows in
    let mid = c.loop-i.room.windows in
    let new = c.set_initial.new.self in
    let i = c.loop-i.i in
    let had = c.loop-i.invariant in
    let step = c.in-Ok.ensures in
    let told = g.D.Depot.holds c.args.depot.now Info in
    let now = g.D.Depot.holds c.loop-i.depot Info in
    let same = had.moves.contents Info infos_apart in
    let hot = λ (file : List ℕ) (k : ℕ). list_any (λ v. p.contributes (given_values p file v)) (range_with_len (chunk_first w k) (chunk_count w k)) in
    let here : c.mark.new.self ≡ _ = c.mark.ensures.set in
    record {
      parts = ap (λ (a : ActiveState). a.parts) here ∙ had.parts;
      kept = told_with told (λ file. (k : ℕ) → k < i → Keeps code mid (g.D.Depot.holds c.loop-i.depot) 0 k (given_values p file)) (λ file. Keeps code new (g.D.Depot.holds c.set_initial.new.depot) 0 i (given_values p file)) _
          (λ file before is. keeps_more code mid new (g.D.Depot.holds c.loop-i.depot) (g.D.Depot.holds c.set_initial.new.depot) 0 i (given_values p file) step.stays is before) had.kept
          (told_same now told (λ file. Keeps code new (g.D.Depot.holds c.set_initial.new.depot) 0 i (given_values p file)) (sym same) step.kept);
      hot = told_with told (λ file. (k : ℕ) → k < i → hot_at c.loop-i.room.active.is_hot k ≡ hot file k)
          (λ file. c.in-Ok.hot ≡ list_any (λ v. p.contributes (given_values p file v)) (range_with_len (chunk_first mid i) (chunk_count mid i))) _
          (λ file before is k below. ap (λ (a : ActiveState). hot_at a.is_hot k) here
          ∙ marked c.loop-i.room.active.is_hot (hot file) i c.in-Ok.hot (omega (arith, c.mark.ensures.room, c.loop-i-test.true, c.parts-i-end.ensures.few))
          (is ∙ (λ d. list_any (λ v. p.contributes (given_values p file v)) (range_with_len (first_same w mid i had.room d) (count_same w mid i had.room d)))) before k below) had.hot
          (told_same now told (λ file. c.in-Ok.hot ≡ list_any (λ v. p.contributes (given_values p file v)) (range_with_len (chunk_first mid i) (chunk_count mid i))) (sym same) step.hot);
      room = room_then w mid new had.room step.stays.room;
      fits = fits_sized code c.args.layout.now.parts c.args.layout.now.table mid new (g.D.Depot.holds c.loop-i.depot) (g.D.Depot.holds c.set_initial.new.depot) step.stays.room
          (step.moves.contents Primary primary_apart) (step.moves.contents Secondary secondary_apart) step.sized had.fits;
      moves = moves_then g.D.Depot.holds g.D.Depot.taken g.D.Depot.stored g.D.Depot.faults g.D.Depot.attached Info Values _ _ _ had.moves step.moves;
      taken = rose_whole _ _ _ (12 * chunk_first w i) (12 * chunk_count mid i) (12 * chunk_first w (i + 1)) (omega (arith, part_ends w.cut.vertices (chunk_of w.cut) i, count_same w mid i had.room)) had.taken step.taken;
      stored = rose_whole _ _ _ _ (load_bytes code mid i) _ (loads_more code w mid i had.room) had.stored step.stored;
    }

pub returns-clause-taken : goal.returns-clause-taken
returns-clause-taken g c =
    let w = c.args.room.now.windows in
    let parts = ap (λ (k : Cut). k.parts) c.requires.fits.cut_is in
    let vertices = ap (λ (k : Cut). k.vertices) c.requires.fits.cut_is in
    let all : c.loop-i.i ≡ w.cut.parts = omega (arith, parts, c.loop-i.auto.i-end, c.loop-i-test.false, c.parts-i-end.ensures.value) in
    let some : 0 < w.cut.parts = omega (arith, parts, c.parts-i-end.ensures.value, c.parts-i-end.ensures.some) in
    let whole = all_vertices w.cut c.loop-i.i some all in
    λ low. let rose = c.loop-i.invariant.taken low in omega (arith, rose, whole, vertices)
