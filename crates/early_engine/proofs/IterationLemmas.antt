-- One column more of an iteration.
use Rattle.std.proofs.Common.{◌≡◌, ◌==◌, ◌%◌, ℕ, ◌+◌, ◌-◌, ◌*◌, ◌≤◌, cond, nat_lt, Bool, true, false, refl, ap, ◌∙◌, arith, add-one}
use Rattle.std.specs.Prelude.{sum_by}
use Rattle.std.specs.List.{range_with_len}
use Rattle.std.proofs.lemmas.Bool.{and_parts}
use Rattle.std.proofs.lemmas.List.Sums.{sum_by_push}
use Rattle.partition.specs.Parts.{Cut}
use Rattle.partition.proofs.BucketLemmas.{range_more}
use Rattle.grid_format.specs.Tables.{BlockCounts, edges_in_rows, low_edges}
use Rattle.grid_format.proofs.RangeLemmas.{sum-range-le}
use Rattle.grid_format.proofs.TableLemmas.{low_more}
use Rattle.lumos_report.specs.declared.records.Kind.{Kind}
use Rattle.lumos_report.specs.declared.records.Kind.TheVariants.{Full, Fed}
use Rattle.windows.specs.Kept.{load_of}
use Rattle.early_engine.specs.Gone.{Beside, and_closed, and_column, beside_of, none_beside, sums_of_chunk}
use Rattle.early_engine.proofs.BytesLemmas.{beside_same, both, of_close, of_early, of_stored}
use Rattle.early_engine.specs.Grids.{bytes_in}
use Rattle.early_engine.specs.Passes.{feeds_ahead, first_row, kind_of, of_secondary}
use Rattle.early_engine.specs.declared.options.Mode.{Mode}
use Rattle.early_engine.specs.declared.options.Mode.TheVariants as mode
use Rattle.early_engine.proofs.MostLemmas.{columns_few, columns_have, columns_next}

full_by : (b : Bool) → b ≡ true → cond b Full Fed ≡ Full
full_by true is = refl
full_by false is = absurd (cc)

-- an iteration that feeds ahead is full
pub ahead_full : (m : Mode) (limit t : ℕ) → feeds_ahead m limit t ≡ true → kind_of m t ≡ Full
ahead_full mode.Plain limit t on = refl
ahead_full mode.Fed limit t on = full_by (t % 2 == 1) (and_parts (t % 2 == 1) (nat_lt t limit) on).0

-- how many edges the blocks of the first n columns have that iterations of a kind go through
abbrev pub edges_below : Kind → BlockCounts → ℕ → ℕ
edges_below Full table n = columns_have table n
edges_below Fed table n = low_edges table n

pub edges_next : (kind : Kind) (table : BlockCounts) (j p : ℕ) → table.parts ≡ p → edges_below kind table (j + 1) ≡ edges_below kind table j + edges_in_rows table j (first_row kind j) (p - first_row kind j)
edges_next Full table j p same = columns_next table j p same ∙ ap (λ (n : ℕ). columns_have table j + edges_in_rows table j 0 n) (let all : p ≡ p - 0 = omega arith in all)
edges_next Fed table j p same = low_more table j ∙ ap (λ (n : ℕ). low_edges table j + edges_in_rows table j j (n - j)) same

pub edges_few : (kind : Kind) (table : BlockCounts) (n : ℕ) → n ≤ table.parts → 12 * edges_below kind table n ≤ bytes_in kind table
edges_few Full table n low = omega (arith, columns_few table n)
edges_few Fed table n low = omega (arith, sum-range-le (λ k. edges_in_rows table k k (table.parts - k)) 0 n table.parts low)

-- a sum with one number more
pub sum_next : (f : ℕ → ℕ) (n : ℕ) → sum_by f (range_with_len 0 (n + 1)) ≡ sum_by f (range_with_len 0 n) + f n
sum_next f n =
    let place : 0 + n ≡ n = omega arith in
    ap (λ (m : ℕ). sum_by f (range_with_len 0 m)) (add-one n) ∙ ap (sum_by f) (range_more 0 n) ∙ sum_by_push f (range_with_len 0 n) (0 + n) ∙ ap (λ (k : ℕ). sum_by f (range_with_len 0 n) + f k) place

second_sum : (kind : Kind) (a b : ℕ) → of_secondary kind (a + b) ≡ of_secondary kind a + of_secondary kind b
second_sum Full a b = omega arith
second_sum Fed a b = refl

if_sum : (is : Bool) (a b : ℕ) → cond is (a + b) 0 ≡ cond is a 0 + cond is b 0
if_sum true a b = refl
if_sum false a b = omega arith

-- the bytes beside the blocks of one column more
pub beside_more : (cut : Cut) (v s pinned : ℕ) (kind : Kind) (ahead : Bool) (j : ℕ) → beside_of cut v s pinned kind ahead (j + 1) ≡ and_column kind ahead (load_of cut v pinned j) (sums_of_chunk cut s j) (beside_of cut v s pinned kind ahead j)
beside_more cut v s pinned kind ahead j =
    let values = sum_next (load_of cut v pinned) j in
    let sums = sum_next (sums_of_chunk cut s) j in
    let into = ap (of_secondary kind) sums ∙ second_sum kind (sum_by (sums_of_chunk cut s) (range_with_len 0 j)) (sums_of_chunk cut s j) in
    let out = ap (λ (n : ℕ). cond ahead n 0) sums ∙ if_sum ahead (sum_by (sums_of_chunk cut s) (range_with_len 0 j)) (sums_of_chunk cut s j) in
    λ i. record { values_in = values i; values_out = values i; sums_in = into i; sums_out = out i }

-- the bytes beside the blocks, with a close, and with a column
pub closed_is : (beside : Beside) (n : ℕ) → both beside (of_close n n) ≡ and_closed n beside
closed_is beside n = beside_same (both beside (of_close n n)) (and_closed n beside) refl refl (omega arith) (omega arith)

pub column_is : (kind : Kind) (ahead : Bool) (load sums : ℕ) (beside : Beside) → both (and_closed load (both beside (of_early (of_secondary kind sums)))) (of_stored (cond ahead sums 0)) ≡ and_column kind ahead load sums beside
column_is kind ahead load sums beside =
    beside_same (both (and_closed load (both beside (of_early (of_secondary kind sums)))) (of_stored (cond ahead sums 0))) (and_column kind ahead load sums beside) (omega arith) (omega arith) (omega arith) (omega arith)

-- before the first column nothing is moved
pub beside_none : (cut : Cut) (v s pinned : ℕ) (kind : Kind) (ahead : Bool) → none_beside ≡ beside_of cut v s pinned kind ahead 0
beside_none cut v s pinned Full true = refl
beside_none cut v s pinned Full false = refl
beside_none cut v s pinned Fed true = refl
beside_none cut v s pinned Fed false = refl
