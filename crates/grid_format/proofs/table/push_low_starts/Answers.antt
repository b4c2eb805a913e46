use Rattle.std.proofs.Common.{◌≡◌, ◌<◌, ◌*◌, ℕ, List, length, slice_index, sym, ap, ◌∙◌, subst, arith}
use Rattle.grid_format.specs.Tables.{BlockCounts, low_edges}
use Rattle.grid_format.proofs.TableLemmas.{each-push, low_column_few, low_few, low_more, low_slice}
use Rattle.grid_format.proofs.table.push_low_starts.Goals as goal

pub overflow_mul-total : goal.overflow_mul-total
overflow_mul-total c =
    let table : BlockCounts = record { parts = c.args.parts; counts = c.args.counts.now } in
    let j = c.loop-j.j in
    omega (arith, c.loop-j.invariant.total, low_column_few table j c.loop-j-test.true, low_few table, c.requires.sum)

pub total_of-total-requires : goal.total_of-total-requires
total_of-total-requires c =
    let table : BlockCounts = record { parts = c.args.parts; counts = c.args.counts.now } in
    let j = c.loop-j.j in
    omega (arith, low_slice table j c.loop-j-test.true, low_column_few table j c.loop-j-test.true, low_few table, c.requires.sum)

pub overflow_add-total : goal.overflow_add-total
overflow_add-total c =
    let table : BlockCounts = record { parts = c.args.parts; counts = c.args.counts.now } in
    let j = c.loop-j.j in
    omega (arith, c.loop-j.invariant.total, c.total_of-total.ensures, low_slice table j c.loop-j-test.true, low_column_few table j c.loop-j-test.true, low_few table, c.requires.sum)

pub loop-j-preserved : goal.loop-j-preserved
loop-j-preserved c =
    let table : BlockCounts = record { parts = c.args.parts; counts = c.args.counts.now } in
    let j = c.loop-j.j in
    let here = c.loop-j.starts.items in
    let start : ℕ → ℕ = λ k. 12 * low_edges table k in
    let long : j ≡ length here = omega (arith, c.loop-j.invariant.same, c.loop-j.starts.ok.0) in
    let last : 12 * c.loop-j.total ≡ start (length here) = ap (λ (n : ℕ). 12 * n) c.loop-j.invariant.total ∙ ap start long in
    let AreAll : List ℕ → Type 0 = λ l. (k : ℕ) → k < length l → slice_index l k ≡ start k in
    record {
      total = omega (arith, c.loop-j.invariant.total, c.total_of-total.ensures, low_slice table j c.loop-j-test.true, low_more table j);
      same = grind arith;
      room = grind arith;
      each = subst AreAll (sym c.in-Ok.ensures.items) (each-push start (12 * c.loop-j.total) here last c.loop-j.invariant.each);
    }
