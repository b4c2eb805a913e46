-- The places of blocks, by their numbers of edges.
use Rattle.std.proofs.Common.{◌≡◌, ℕ, zero, suc, ◌+◌, ◌-◌, ◌*◌, ◌<◌, ◌≤◌, List, [], ◌∷◌, ◌++◌, length, take, drop, sum, slice_index, slice_index_or, refl, sym, ap, ◌∙◌, arith}
use Rattle.std.specs.List.{range_with_len}
use Rattle.std.proofs.Math.Nat.{add-mul}
use Rattle.std.proofs.lemmas.List.{drop-take, get_or_read, take-take}
use Rattle.std.proofs.lemmas.List.Sums.{sum_by-append, sum_by-cons, sum_by-take-drop, sum_by-take-le}
use Rattle.std.proofs.lemmas.Nat.{mul-le}
use Rattle.lumos_depot.specs.Files.{range_at}
use Rattle.grid_format.specs.Checks.{table_of}
use Rattle.grid_format.specs.Heads.{numbers}
use Rattle.grid_format.specs.Tables.{AreStarts, BlockCounts, block_place, count_at, edges_in_rows, low_edges, primary_place_of, secondary_place_of}
use Rattle.grid_format.proofs.NumberLemmas.{numbers-add, numbers-take, numbers_in_range}
use Rattle.grid_format.proofs.RangeLemmas.{sum-range-le, sum-range-more}

-- one number more
sum_more : (k : ℕ) (xs : List ℕ) → sum (take (suc k) xs) ≡ sum (take k xs) + slice_index xs k
sum_more zero [] = refl
sum_more (suc k) [] = refl
sum_more zero (x ∷ xs) = omega (arith, sum_by-cons (λ y. y) x [])
sum_more (suc k) (x ∷ xs) =
    let rest = sum_more k xs in
    omega (arith, rest, sum_by-cons (λ y. y) x (take (suc k) xs), sum_by-cons (λ y. y) x (take k xs))

-- numbers given by their places, and one more
pub each-push : (f : ℕ → ℕ) (y : ℕ) (xs : List ℕ) → y ≡ f (length xs) → ((k : ℕ) → k < length xs → slice_index xs k ≡ f k) → (k : ℕ) → k < length (xs ++ y ∷ []) → slice_index (xs ++ y ∷ []) k ≡ f k
each-push f y [] is each zero low = is
each-push f y [] is each (suc k) low = absurd (omega arith)
each-push f y (x ∷ xs) is each zero low = each zero (omega arith)
each-push f y (x ∷ xs) is each (suc k) low =
    each-push (λ k. f (suc k)) y xs is (λ k low. each (suc k) (omega arith)) k (omega arith)

module _ (table : BlockCounts) where
  -- how many edges the first k blocks have
  abbrev before : ℕ → ℕ
  before k = sum (take k table.counts)

  -- the blocks before n rows of a column, and those in these rows
  pub rows_behind : (j a n : ℕ) → sum (take (block_place table.parts a j + n) table.counts) ≡ sum (take (block_place table.parts a j) table.counts) + edges_in_rows table j a n
  rows_behind j a zero =
      let none : block_place table.parts a j + zero ≡ block_place table.parts a j = omega arith in
      omega (arith, ap before none)
  rows_behind j a (suc n) =
      let here = block_place table.parts a j in
      let past : here + suc n ≡ block_place table.parts (a + 1) j + n = omega arith in
      let next : suc here ≡ block_place table.parts (a + 1) j = omega arith in
      let rest = rows_behind j (a + 1) n in
      omega (arith, ap before past, ap before next, rest, sum_more here table.counts, sum_by-cons (λ i. count_at table i j) a (range_with_len (a + 1) n))

  -- these rows in the list of all numbers
  pub sum_of_rows : (j a n : ℕ) → sum (take n (drop (block_place table.parts a j) table.counts)) ≡ edges_in_rows table j a n
  sum_of_rows j a n =
      let k = block_place table.parts a j in
      let counts = table.counts in
      omega (arith, rows_behind j a n, sum_by-take-drop (λ x. x) (take (k + n) counts) k, ap sum (take-take k (k + n) counts (omega arith)), ap sum (drop-take k n counts))

  -- the part of a column on the diagonal and below it, as a slice of the list
  pub low_slice : (j : ℕ) → j < table.parts → sum (take (j * table.parts + table.parts - (j * table.parts + j)) (drop (j * table.parts + j) table.counts)) ≡ edges_in_rows table j j (table.parts - j)
  low_slice j column =
      let many : j * table.parts + table.parts - (j * table.parts + j) ≡ table.parts - j = omega arith in
      ap (λ (n : ℕ). sum (take n (drop (j * table.parts + j) table.counts))) many ∙ sum_of_rows j j (table.parts - j)

  -- on the diagonal and below it, one column more
  pub low_more : (n : ℕ) → low_edges table (n + 1) ≡ low_edges table n + edges_in_rows table n n (table.parts - n)
  low_more n = sum-range-more (λ j. edges_in_rows table j j (table.parts - j)) 0 n n (omega arith)

  low_front : (n : ℕ) → n ≤ table.parts → low_edges table n ≤ before (n * table.parts)
  low_front zero few = omega arith
  low_front (suc n) few =
      let p = table.parts in
      let more : suc n ≡ n + 1 = omega arith in
      let start : block_place p 0 n ≡ n * p = omega arith in
      let diagonal : block_place p 0 n + n ≡ block_place p n n = omega arith in
      let times : suc n * p ≡ n * p + 1 * p = ap (λ (k : ℕ). k * p) more ∙ add-mul n 1 p in
      let end : block_place p n n + (p - n) ≡ suc n * p = omega (arith, times) in
      let rest = low_front n (omega arith) in
      omega (arith, rest, ap (low_edges table) more, low_more n, rows_behind n 0 n, rows_behind n n (p - n), ap before start, ap before diagonal, ap before end)

  -- they have no more edges than all blocks
  pub low_few : low_edges table table.parts ≤ sum table.counts
  low_few = omega (arith, low_front table.parts (omega arith), sum_by-take-le (λ x. x) table.counts (table.parts * table.parts))

  -- each column's among all columns'
  pub low_column_few : (j : ℕ) → j < table.parts → low_edges table j + edges_in_rows table j j (table.parts - j) ≤ low_edges table table.parts
  low_column_few j column =
      let rest = sum-range-le (λ j. edges_in_rows table j j (table.parts - j)) 0 (j + 1) table.parts (omega arith) in
      omega (arith, rest, low_more j)

  -- a block lies inside Primary
  pub primary_inside : (i j : ℕ) → primary_place_of table i j + 12 * count_at table i j ≤ 12 * sum table.counts
  primary_inside i j =
      let k = block_place table.parts i j in
      omega (arith, sum_more k table.counts, sum_by-take-le (λ x. x) table.counts (suc k))

  -- one on the diagonal or below it inside Secondary
  pub low_inside : (i j : ℕ) → j ≤ i → i < table.parts → secondary_place_of table i j + 12 * count_at table i j ≤ 12 * low_edges table table.parts
  low_inside i j low row =
      let row_count : ℕ → ℕ = λ k. count_at table k j in
      let more = sum-range-more row_count j (i - j) i (omega arith) in
      let rest = sum-range-le row_count j (i - j + 1) (table.parts - j) (omega arith) in
      omega (arith, more, rest, low_column_few j (omega arith))

  -- how far its place is from that of its column's first is the same in both files
  pub place_below : (i j : ℕ) → j ≤ i → primary_place_of table i j ≡ primary_place_of table j j + 12 * edges_in_rows table j j (i - j)
  place_below i j low =
      let here : block_place table.parts j j + (i - j) ≡ block_place table.parts i j = omega arith in
      omega (arith, rows_behind j j (i - j), ap before here)

-- the place that was read of a table's starts
pub start_read : (inside table : BlockCounts) (starts : List ℕ) (j start : ℕ) → inside ≡ table → AreStarts inside starts → j < table.parts → start ≡ slice_index_or starts j start → start ≡ 12 * low_edges table j
start_read inside table starts j start is are column read =
    let low : j < length starts = omega (arith, ap (λ (t : BlockCounts). t.parts) is, are.same) in
    get_or_read starts j start low read 0 ∙ are.each j low ∙ ap (λ (t : BlockCounts). 12 * low_edges t j) is

module _ (p j : ℕ) (meta : List ℕ) (h : j < p) where
  -- the last numbers of a column in Meta add up to its edges on the diagonal and below it
  low_numbers : edges_in_rows (table_of p meta) j j (p - j) ≡ sum (numbers (32 + 8 * (j * p + j)) (p - j) meta)
  low_numbers =
      let k = j * p + j in
      let room : (j + 1) * p ≤ p * p = mul-le (j + 1) p p p (omega arith) (omega arith) in
      let next : (j + 1) * p ≡ j * p + 1 * p = add-mul j 1 p in
      let front = ap sum (numbers-take 32 k (p * p) meta (omega (arith, room, next))) in
      let both = ap sum (numbers-take 32 (k + (p - j)) (p * p) meta (omega (arith, room, next)) ∙ numbers-add 32 k (p - j) meta) in
      omega (arith, rows_behind (table_of p meta) j j (p - j), front, both, sum_by-append (λ x. x) (numbers 32 k meta) (numbers (32 + 8 * k) (p - j) meta))

  -- the same of the column's bytes
  pub low_of_bytes : (column : List ℕ) → column ≡ range_at (32 + 8 * (j * p)) (8 * p) meta → sum (numbers (8 * j) (p - j) column) ≡ edges_in_rows (table_of p meta) j j (p - j)
  low_of_bytes column is =
      let place : 32 + 8 * (j * p) + 8 * j ≡ 32 + 8 * (j * p + j) = omega arith in
      ap (λ (bytes : List ℕ). sum (numbers (8 * j) (p - j) bytes)) is
      ∙ ap sum (numbers_in_range (p - j) (8 * j) (32 + 8 * (j * p)) (8 * p) meta (omega arith))
      ∙ ap (λ (k : ℕ). sum (numbers k (p - j) meta)) place
      ∙ sym low_numbers
