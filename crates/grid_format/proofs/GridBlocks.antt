-- The blocks of a grid: their counts, and their places in Primary.
use Rattle.std.proofs.Common.{◌≡◌, ℕ, ◌+◌, ◌*◌, ◌<◌, ◌≤◌, List, [], length, get_or, take, drop, map, flat_map, sum, slice_index, refl, sym, ap, ◌∙◌, arith}
use Rattle.std.specs.List.{range_with_len}
use Rattle.std.proofs.Math.Nat.{add-mul}
use Rattle.std.proofs.lemmas.List.{get_or-map, length-map}
use Rattle.std.proofs.lemmas.List.Folds.{flat_map-map}
use Rattle.std.proofs.lemmas.Nat.{mul-le}
use Rattle.lumos_base.specs.Records.{edge_bytes}
use Rattle.lumos_base.specs.declared.records.Edge.{Edge}
use Rattle.lumos_depot.specs.Files.{range_at}
use Rattle.partition.specs.Blocks.{block, columns}
use Rattle.grid_format.specs.Grid.{block_counts}
use Rattle.grid_format.proofs.BlockPlaces.{drop-each, flat_map-flat_map, get_or-range, get_or-rows, length-range, length-rows, map-flat_map, map_twice, part_at_place, sum-lengths, take-each}

module _ (edges : List Edge) (c p : ℕ) where
  -- the blocks of a column, and all of them
  abbrev pub column_blocks : ℕ → List (List Edge)
  column_blocks j = map (λ i. block edges c i j) (range_with_len 0 p)

  abbrev pub all_blocks : List (List Edge)
  all_blocks = flat_map column_blocks (range_with_len 0 p)

  length-column : (j : ℕ) → length (column_blocks j) ≡ p
  length-column j = length-map (range_with_len 0 p) (λ i. block edges c i j) ∙ length-range 0 p

  pub length-blocks : length all_blocks ≡ p * p
  length-blocks = length-rows column_blocks p 0 p length-column

  pub counts_are : block_counts edges c p ≡ map length all_blocks
  counts_are = sym (map-flat_map length column_blocks (range_with_len 0 p) ∙ ap (λ f. flat_map f (range_with_len 0 p)) (λ t j. each j t))
    where
      each : (j : ℕ) → map length (column_blocks j) ≡ map (λ i. length (block edges c i j)) (range_with_len 0 p)
      each j = map_twice length (λ i. block edges c i j) (range_with_len 0 p)

  pub columns_are : columns edges c p ≡ flat_map (λ es. es) all_blocks
  columns_are = sym (flat_map-flat_map (λ es. es) column_blocks (range_with_len 0 p) ∙ ap (λ f. flat_map f (range_with_len 0 p)) (λ t j. each j t))
    where
      each : (j : ℕ) → flat_map (λ es. es) (column_blocks j) ≡ flat_map (λ i. block edges c i j) (range_with_len 0 p)
      each j = flat_map-map (λ es. es) (λ i. block edges c i j) (range_with_len 0 p)

  pub length-counts : length (block_counts edges c p) ≡ p * p
  length-counts = ap length counts_are ∙ length-map all_blocks length ∙ length-blocks

  pub sum-counts : sum (block_counts edges c p) ≡ length (columns edges c p)
  sum-counts = ap sum counts_are ∙ sum-lengths all_blocks ∙ ap length (sym columns_are)

  within : (i j : ℕ) → i < p → j < p → j * p + i < length all_blocks
  within i j row column =
      let room : (j + 1) * p ≤ p * p = mul-le (j + 1) p p p (omega arith) (omega arith) in
      omega (arith, add-mul j 1 p, room, length-blocks)

  pub block_is : (i j : ℕ) → i < p → j < p → get_or all_blocks (j * p + i) [] ≡ block edges c i j
  block_is i j row column =
      let zero_i : 0 + i ≡ i = omega arith in
      let zero_j : 0 + j ≡ j = omega arith in
      get_or-rows column_blocks p 0 p j i [] length-column column row
      ∙ ap (λ (k : ℕ). get_or (column_blocks k) i []) zero_j
      ∙ get_or-map (λ k. block edges c k j) (range_with_len 0 p) i 0 [] (omega (arith, length-range 0 p))
      ∙ ap (λ (k : ℕ). block edges c k j) (get_or-range 0 p i 0 row ∙ zero_i)

  pub count_is : (i j : ℕ) → i < p → j < p → slice_index (block_counts edges c p) (j * p + i) ≡ length (block edges c i j)
  count_is i j row column =
      ap (λ l. slice_index l (j * p + i)) counts_are
      ∙ get_or-map length all_blocks (j * p + i) [] 0 (within i j row column)
      ∙ ap length (block_is i j row column)

  pub place_is : (i j : ℕ) → i < p → j < p → range_at (12 * sum (take (j * p + i) (block_counts edges c p))) (12 * slice_index (block_counts edges c p) (j * p + i)) (flat_map edge_bytes (columns edges c p)) ≡ flat_map edge_bytes (block edges c i j)
  place_is i j row column =
      let k = j * p + i in
      let before = sum (take k (block_counts edges c p)) in
      let count = slice_index (block_counts edges c p) k in
      let counted : count ≡ length (get_or all_blocks k []) = count_is i j row column ∙ ap length (sym (block_is i j row column)) in
      let at : take count (drop before (columns edges c p)) ≡ block edges c i j =
      ap (λ es. take count (drop before es)) columns_are
      ∙ ap (λ l. take count (drop (sum (take k l)) (flat_map (λ es. es) all_blocks))) counts_are
      ∙ ap (λ (n : ℕ). take n (drop (sum (take k (map length all_blocks))) (flat_map (λ es. es) all_blocks))) counted
      ∙ part_at_place all_blocks k (within i j row column)
      ∙ block_is i j row column in
      ap (take (12 * count)) (drop-each edge_bytes 12 before (columns edges c p) (λ e. refl))
      ∙ take-each edge_bytes 12 count (drop before (columns edges c p)) (λ e. refl)
      ∙ ap (flat_map edge_bytes) at
