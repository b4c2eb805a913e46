use Rattle.std.proofs.Common.{◌≡◌, ◌≤◌, ◌+◌, ◌*◌, ℕ, length, sum, refl, ap, sym, ◌∙◌, arith}
use Rattle.lumos_depot.specs.Files.{range_at}
use Rattle.lumos_depot.specs.declared.depot.FileKind.TheVariants.{Primary, Secondary}
use Rattle.grid_format.specs.Tables.{low_edges}
use Rattle.grid_format.proofs.TableLemmas.{low_column_few, low_more}
use Rattle.grid_build.specs.Copied.{cut_table, low_ranges}
use Rattle.grid_build.specs.Sorting.{start_of}
use Rattle.grid_build.proofs.CopyLemmas.{copied_as, copied_long, copied_none}
use Rattle.grid_build.proofs.LowLemmas.{copied_column}
use Rattle.lumos_depot.proofs.StepLemmas.{moves_none, moves_then, rose_then, told_more, told_same}
use Rattle.grid_build.proofs.copying.copy_low.Goals as goal

pub loop-j-init : goal.loop-j-init
loop-j-init g c = record {
  before = let none : 0 ≡ 0 * c.args.parts.parts = omega arith in ap (start_of c.args.counts.now) none;
  low = refl;
  fewer = omega arith;
  copied = copied_none (low_ranges (cut_table c.args.parts c.args.counts.now) 0) 0 _ _ (λ file. refl);
  taken = λ low. omega arith;
  stored = λ low. omega arith;
  moves = moves_none g.D.Depot.holds g.D.Depot.taken g.D.Depot.stored g.D.Depot.faults g.D.Depot.attached Primary Secondary c.args.depot.now;
}

pub copy_range-requires-clause-inside : goal.copy_range-requires-clause-inside
copy_range-requires-clause-inside g c =
    let mid = g.D.Depot.holds c.loop-j.depot Primary in
    let sums = c.column_edges-column.ensures in
    told_more mid (λ file. length file ≡ 12 * sum c.args.counts.now) (λ file. 12 * (c.loop-j.first + c.column_edges-column.result.high) + 12 * c.column_edges-column.result.low ≤ length file)
    (λ file long. omega (arith, long, sums.high, sums.next, sums.within, c.loop-j.invariant.before))
    (told_same (g.D.Depot.holds c.args.depot.now Primary) mid (λ file. length file ≡ 12 * sum c.args.counts.now) (c.loop-j.invariant.moves.contents Primary (λ e. absurd (cc))) c.requires.primary)

pub copy_range-requires-clause-room : goal.copy_range-requires-clause-room
copy_range-requires-clause-room g c =
    let table = cut_table c.args.parts c.args.counts.now in
    let all = 12 * low_edges table c.args.parts.parts in
    let mid = g.D.Depot.holds c.loop-j.depot Secondary in
    let is = c.loop-j.invariant in
    let fits = low_column_few table c.loop-j.j (omega arith) in
    let low = c.column_edges-column.ensures.low in
    told_more mid (λ file. all ≤ length file) (λ file. 12 * c.loop-j.into + 12 * c.column_edges-column.result.low ≤ length file) (λ file long. omega (arith, long, fits, low, is.low))
    (copied_long (low_ranges table c.loop-j.j) 0 (12 * c.loop-j.into) _ _ mid is.copied all (omega (arith, fits, is.low))
    (told_more (g.D.Depot.holds c.args.depot.now Secondary) (λ file. length file ≡ all) (λ file. all ≤ length file) (λ file long. omega (arith, long)) c.requires.secondary))

pub loop-j-preserved : goal.loop-j-preserved
loop-j-preserved g c =
    let table = cut_table c.args.parts c.args.counts.now in
    let is = c.loop-j.invariant in
    let j = c.loop-j.j in
    let sums = c.column_edges-column.ensures in
    let high = c.column_edges-column.result.high in
    let low = c.column_edges-column.result.low in
    let more : 12 * c.loop-j.into + 12 * low ≡ 12 * (c.loop-j.into + low) = omega arith in
    let source = g.D.Depot.holds c.args.depot.now Primary in
    let column = copied_as (range_at (12 * (c.loop-j.first + high)) (12 * low)) _ _ _ _ _ _ _ _ refl refl (sym (is.moves.contents Primary (λ e. absurd (cc)))) c.in-Ok.ensures.copied in
    let fits = low_column_few table j (omega arith) in
    let room = told_more (g.D.Depot.holds c.args.depot.now Secondary) (λ file. length file ≡ 12 * low_edges table c.args.parts.parts) (λ file. 12 * c.loop-j.into ≤ length file) (λ file long. omega (arith, long, fits, is.low)) c.requires.secondary in
    record {
      before = omega (arith, is.before, sums.high, sums.next);
      low = omega (arith, is.low, sums.low, low_more table j);
      fewer = omega (arith, is.fewer);
      copied = copied_column table j c.loop-j.into low (c.loop-j.first + high) source _ _ _ (omega (arith, is.before, sums.high)) sums.low is.copied column room;
      taken = λ below. rose_then _ _ _ (12 * c.loop-j.into) (12 * low) is.taken c.in-Ok.ensures.taken below ∙ ap (λ (k : ℕ). g.D.Depot.taken c.args.depot.now Primary + k) more;
      stored = λ below. rose_then _ _ _ (12 * c.loop-j.into) (12 * low) is.stored c.in-Ok.ensures.stored below ∙ ap (λ (k : ℕ). g.D.Depot.stored c.args.depot.now Secondary + k) more;
      moves = moves_then g.D.Depot.holds g.D.Depot.taken g.D.Depot.stored g.D.Depot.faults g.D.Depot.attached Primary Secondary _ _ _ is.moves c.in-Ok.ensures.moves;
    }
