-- The blocks of a grid on the diagonal and below it: their places in Secondary, and those of their columns in Primary.
use Rattle.std.proofs.Common.{◌≡◌, ℕ, zero, suc, ◌+◌, ◌-◌, ◌*◌, ◌<◌, ◌≤◌, List, [], ◌++◌, length, take, drop, flat_map, sum, refl, sym, ap, ◌∙◌, arith, append_assoc, length-append}
use Rattle.std.specs.List.{range_with_len}
use Rattle.std.proofs.Math.Nat.{add-mul}
use Rattle.std.proofs.lemmas.List.Concat.{length-flat_map}
use Rattle.lumos_base.specs.Records.{edge_bytes}
use Rattle.lumos_base.specs.declared.records.Edge.{Edge}
use Rattle.lumos_depot.specs.Files.{range_at}
use Rattle.partition.specs.Blocks.{block, column, columns}
use Rattle.grid_format.specs.Grid.{block_counts, low_column, low_columns}
use Rattle.grid_format.specs.Tables.{BlockCounts, block_place, count_at, edges_in_rows, low_edges, primary_place_of, secondary_place_of}
use Rattle.grid_format.proofs.BlockPlaces.{drop-each, length-each, take-each}
use Rattle.grid_format.proofs.GridBlocks.{count_is}
use Rattle.grid_format.proofs.RangeLemmas.{inner, join-range-add, join-range-round, sum-range-same}
use Rattle.grid_format.proofs.TableLemmas.{rows_behind}

-- the bytes of the edges that stand between others
bytes_inner : (all front mid rest : List Edge) (m n : ℕ) → all ≡ front ++ (mid ++ rest) → length front ≡ m → length mid ≡ n → range_at (12 * m) (12 * n) (flat_map edge_bytes all) ≡ flat_map edge_bytes mid
bytes_inner all front mid rest m n is before long =
    ap (take (12 * n)) (drop-each edge_bytes 12 m all (λ e. refl))
    ∙ take-each edge_bytes 12 n (drop m all) (λ e. refl)
    ∙ ap (λ es. flat_map edge_bytes (take n (drop m es))) is
    ∙ ap (flat_map edge_bytes) (inner front mid rest m n before long)

module _ (edges : List Edge) (c p : ℕ) where
  -- how many edges the blocks have
  abbrev pub numbered : BlockCounts
  numbered = record { parts = p; counts = block_counts edges c p }

  abbrev blocks_from : ℕ → ℕ → ℕ → List Edge
  blocks_from j a n = flat_map (λ i. block edges c i j) (range_with_len a n)

  -- rows of a column have the edges of their blocks
  pub rows_are : (j a n : ℕ) → j < p → a + n ≤ p → edges_in_rows numbered j a n ≡ length (blocks_from j a n)
  rows_are j a n column rows =
      sum-range-same (λ i. count_at numbered i j) (λ i. length (block edges c i j)) a n (λ i low high. count_is edges c p i j (omega arith) column)
      ∙ sym (length-flat_map (λ i. block edges c i j) (range_with_len a n))

  -- on the diagonal and below it, the first n columns
  low_are : (n : ℕ) → n ≤ p → low_edges numbered n ≡ length (flat_map (λ j. low_column edges c j p) (range_with_len 0 n))
  low_are n few =
      sum-range-same (λ j. edges_in_rows numbered j j (p - j)) (λ j. length (low_column edges c j p)) 0 n (λ j low high. rows_are j j (p - j) (omega arith) (omega arith))
      ∙ sym (length-flat_map (λ j. low_column edges c j p) (range_with_len 0 n))

  -- how long Secondary is
  pub length-low : length (flat_map edge_bytes (low_columns edges c p)) ≡ 12 * low_edges numbered p
  length-low =
      length-each edge_bytes 12 (low_columns edges c p) (λ e. refl) ∙ ap (λ (k : ℕ). 12 * k) (sym (low_are p (omega arith)))

  -- a block's place in Secondary
  pub low_place_is : (i j : ℕ) → i < p → j ≤ i → range_at (secondary_place_of numbered i j) (12 * count_at numbered i j) (flat_map edge_bytes (low_columns edges c p)) ≡ flat_map edge_bytes (block edges c i j)
  low_place_is i j row low =
      let a = flat_map (λ j. low_column edges c j p) (range_with_len 0 j) in
      let b = blocks_from j j (i - j) in
      let here = block edges c i j in
      let d = blocks_from j (i + 1) (p - (i + 1)) in
      let e = flat_map (λ j. low_column edges c j p) (range_with_len (j + 1) (p - (j + 1))) in
      let whole : low_columns edges c p ≡ a ++ (low_column edges c j p ++ e) = join-range-round (λ j. low_column edges c j p) 0 p j j (p - (j + 1)) (omega arith) (omega arith) in
      let part : low_column edges c j p ≡ b ++ (here ++ d) = join-range-round (λ i. block edges c i j) j (p - j) i (i - j) (p - (i + 1)) (omega arith) (omega arith) in
      let grouped : a ++ ((b ++ (here ++ d)) ++ e) ≡ (a ++ b) ++ (here ++ (d ++ e)) =
      ap (λ l. a ++ l) (append_assoc b (here ++ d) e ∙ ap (λ l. b ++ l) (append_assoc here d e)) ∙ sym (append_assoc a b (here ++ (d ++ e))) in
      let before : length (a ++ b) ≡ low_edges numbered j + edges_in_rows numbered j j (i - j) = omega (arith, length-append a b, low_are j (omega arith), rows_are j j (i - j) (omega arith) (omega arith)) in
      bytes_inner (low_columns edges c p) (a ++ b) here (d ++ e) (low_edges numbered j + edges_in_rows numbered j j (i - j)) (count_at numbered i j)
      (whole ∙ ap (λ l. a ++ (l ++ e)) part ∙ grouped) before (sym (count_is edges c p i j row (omega arith)))

  -- the columns before one have the edges of the blocks before its first
  columns_before : (n : ℕ) → n ≤ p → sum (take (n * p) (block_counts edges c p)) ≡ length (flat_map (λ j. column edges c j p) (range_with_len 0 n))
  columns_before zero few =
      let none : zero * p ≡ 0 = omega arith in
      ap (λ (k : ℕ). sum (take k (block_counts edges c p))) none
  columns_before (suc n) few =
      let counts = block_counts edges c p in
      let front = flat_map (λ j. column edges c j p) (range_with_len 0 n) in
      let last = column edges c n p in
      let rest = columns_before n (omega arith) in
      let joined = ap length (join-range-round (λ j. column edges c j p) 0 (suc n) n n 0 (omega arith) (omega arith)) in
      let start : block_place p 0 n ≡ n * p = omega arith in
      let times : suc n * p ≡ n * p + 1 * p = ap (λ (k : ℕ). k * p) (let more : suc n ≡ n + 1 = omega arith in more) ∙ add-mul n 1 p in
      let end : block_place p 0 n + p ≡ suc n * p = omega (arith, times) in
      omega (arith, rest, joined, length-append front (last ++ []), length-append last [], rows_behind numbered n 0 p, rows_are n 0 p (omega arith) (omega arith), ap (λ (k : ℕ). sum (take k counts)) start, ap (λ (k : ℕ). sum (take k counts)) end)

  -- the part of a column on the diagonal and below it stands in Primary as one range
  pub low_column_place : (j : ℕ) → j < p → range_at (primary_place_of numbered j j) (12 * edges_in_rows numbered j j (p - j)) (flat_map edge_bytes (columns edges c p)) ≡ flat_map edge_bytes (low_column edges c j p)
  low_column_place j h =
      let counts = block_counts edges c p in
      let a = flat_map (λ j. column edges c j p) (range_with_len 0 j) in
      let b = blocks_from j 0 j in
      let here = low_column edges c j p in
      let e = flat_map (λ j. column edges c j p) (range_with_len (j + 1) (p - (j + 1))) in
      let whole : columns edges c p ≡ a ++ (column edges c j p ++ e) = join-range-round (λ j. column edges c j p) 0 p j j (p - (j + 1)) (omega arith) (omega arith) in
      let cut : p ≡ j + (p - j) = omega arith in
      let zero_j : 0 + j ≡ j = omega arith in
      let part : column edges c j p ≡ b ++ here = ap (λ (k : ℕ). blocks_from j 0 k) cut ∙ join-range-add (λ i. block edges c i j) 0 j (p - j) ∙ ap (λ (k : ℕ). b ++ blocks_from j k (p - j)) zero_j in
      let grouped : a ++ ((b ++ here) ++ e) ≡ (a ++ b) ++ (here ++ e) = ap (λ l. a ++ l) (append_assoc b here e) ∙ sym (append_assoc a b (here ++ e)) in
      let start : block_place p 0 j ≡ j * p = omega arith in
      let end : block_place p 0 j + j ≡ block_place p j j = omega arith in
      let before : length (a ++ b) ≡ sum (take (block_place p j j) counts) = omega (arith, length-append a b, columns_before j (omega arith), rows_behind numbered j 0 j, rows_are j 0 j h (omega arith), ap (λ (k : ℕ). sum (take k counts)) start, ap (λ (k : ℕ). sum (take k counts)) end) in
      bytes_inner (columns edges c p) (a ++ b) here e (sum (take (block_place p j j) counts)) (edges_in_rows numbered j j (p - j))
      (whole ∙ ap (λ l. a ++ (l ++ e)) part ∙ grouped) before (sym (rows_are j j (p - j) h (omega arith)))
