-- The edges and the bytes of the blocks on the diagonal and below it, column after column.
use Rattle.std.proofs.Common.{◌≡◌, ◌≤◌, ◌<◌, ◌+◌, ◌-◌, ◌*◌, ℕ, zero, suc, List, ◌++◌, All, Option, length, take, drop, sum, flat_map, refl, sym, ap, ◌∙◌, arith, append-nil}
use Rattle.std.specs.List.{range_with_len}
use Rattle.std.specs.Prelude.{IfSome}
use Rattle.std.proofs.Math.Nat.{add-mul}
use Rattle.std.proofs.Math.Seq.{take-add}
use Rattle.std.proofs.lemmas.List.Sums.{sum_by-append, sum_by-take-drop, sum_by-take-le}
use Rattle.std.proofs.lemmas.Nat.{mul-le}
use Rattle.lumos_base.specs.Records.{edge_bytes}
use Rattle.lumos_base.specs.declared.records.Edge.{Edge}
use Rattle.lumos_depot.specs.Files.{range_at}
use Rattle.partition.specs.Blocks.{IsBelow, columns}
use Rattle.partition.specs.Parts.{Cut, chunk_of, chunk_size}
use Rattle.grid_format.specs.Grid.{block_counts, low_column, low_columns}
use Rattle.grid_format.specs.Tables.{BlockCounts, block_place, edges_in_rows}
use Rattle.grid_format.proofs.BlockPlaces.{flat_map-flat_map}
use Rattle.grid_format.proofs.LowBlocks.{low_column_place}
use Rattle.grid_format.proofs.RangeLemmas.{join-range-round}
use Rattle.grid_build.specs.Copied.{HasCopied, cut_table, low_range, low_ranges}
use Rattle.grid_build.specs.Numbered.{AreCounts}
use Rattle.grid_build.specs.Sorting.{start_of}
use Rattle.grid_build.proofs.CopyLemmas.{copied_as, copied_next}
use Rattle.lumos_depot.proofs.StepLemmas.{told_more}
use Rattle.grid_build.proofs.NumberLemmas.{counts_are}

-- numbers one after another, added up in two parts
pub start-add : (a b : ℕ) (counts : List ℕ) → start_of counts a + sum (take b (drop a counts)) ≡ start_of counts (a + b)
start-add a b counts = sym (ap sum (take-add a b counts) ∙ sum_by-append (λ x. x) (take a counts) (take b (drop a counts)))

-- a part of them adds up to no more than all
pub part_le : (a b : ℕ) (counts : List ℕ) → sum (take b (drop a counts)) ≤ sum counts
part_le a b counts =
    let whole = sum_by-take-drop (λ x. x) counts a in
    let part = sum_by-take-le (λ x. x) (drop a counts) b in
    omega (arith, whole, part)

pub column_next : (p j : ℕ) → (j + 1) * p ≡ j * p + p
column_next p j = add-mul j 1 p ∙ (let one : j * p + 1 * p ≡ j * p + p = omega arith in one)

-- a column ends among the blocks
pub column_inside : (p j : ℕ) → j < p → j * p + p ≤ p * p
column_inside p j inside =
    let room : (j + 1) * p ≤ p * p = mul-le (j + 1) p p p (omega arith) (omega arith) in
    omega (arith, column_next p j, room)

-- the bytes of one column more
pub ranges_next : (table : BlockCounts) (j : ℕ) (file : List ℕ) → low_ranges table j file ++ low_range table j file ≡ low_ranges table (j + 1) file
ranges_next table j file =
    let f : ℕ → List ℕ = λ k. low_range table k file in
    ap (λ l. low_ranges table j file ++ l) (sym (append-nil (f j))) ∙ sym (join-range-round f 0 (j + 1) j j 0 (omega arith) (omega arith))

-- the range of one column more is copied
pub copied_column : (table : BlockCounts) (j into low start : ℕ) (source old mid new : Option (List ℕ)) → start ≡ start_of table.counts (block_place table.parts j j) → low ≡ edges_in_rows table j j (table.parts - j) →
    HasCopied (low_ranges table j) 0 (12 * into) source old mid → HasCopied (range_at (12 * start) (12 * low)) (12 * into) (12 * low) source mid new → IfSome old (λ file. 12 * into ≤ length file) →
    HasCopied (low_ranges table (j + 1)) 0 (12 * (into + low)) source old new
copied_column table j into low start source old mid new place size had column room =
    let at : 0 + 12 * into ≡ 12 * into = omega arith in
    let more : 12 * (into + low) ≡ 12 * into + 12 * low = omega arith in
    let range : (file : List ℕ) → range_at (12 * start) (12 * low) file ≡ low_range table j file = λ file i. range_at (12 * place i) (12 * size i) file in
    copied_as (low_ranges table (j + 1)) 0 0 (12 * into + 12 * low) _ source source old new refl more refl
    (copied_next (low_ranges table j) (range_at (12 * start) (12 * low)) (low_ranges table (j + 1)) 0 (12 * into) (12 * low) source old mid new had
    (copied_as (range_at (12 * start) (12 * low)) (12 * into) (0 + 12 * into) (12 * low) (12 * low) source source mid new at refl refl column)
    (told_more old (λ file. 12 * into ≤ length file) (λ file. 0 + 12 * into ≤ length file) (λ file long. omega (arith, long)) room)
    (λ file. ap (λ l. low_ranges table j file ++ l) (range file) ∙ ranges_next table j file))

-- lists that are the same over a range of numbers, joined
join-same : {X : Type 0} (f g : ℕ → List X) (a n : ℕ) → ((k : ℕ) → k < a + n → f k ≡ g k) → flat_map f (range_with_len a n) ≡ flat_map g (range_with_len a n)
join-same f g a zero same = refl
join-same f g a (suc n) same =
    ap (λ l. l ++ flat_map f (range_with_len (a + 1) n)) (same a (omega arith)) ∙ ap (λ l. g a ++ l) (join-same f g (a + 1) n (λ k below. same k (omega arith)))

-- the ranges of all columns of the grid's Primary are the grid's Secondary
low_ranges_grid : (list : List Edge) (c p : ℕ) → low_ranges (record { parts = p; counts = block_counts list c p }) p (flat_map edge_bytes (columns list c p)) ≡ flat_map edge_bytes (low_columns list c p)
low_ranges_grid list c p =
    let table : BlockCounts = record { parts = p; counts = block_counts list c p } in
    let file = flat_map edge_bytes (columns list c p) in
    join-same (λ j. low_range table j file) (λ j. flat_map edge_bytes (low_column list c j p)) 0 p (λ j below. low_column_place list c p j (omega arith))
    ∙ sym (flat_map-flat_map edge_bytes (λ j. low_column list c j p) (range_with_len 0 p))

ranges_are : (n p : ℕ) (list : List Edge) (counts : List ℕ) → All (IsBelow n) list → AreCounts (chunk_size n p) p list counts →
    low_ranges (record { parts = p; counts = counts }) p (flat_map edge_bytes (columns list (chunk_size n p) p)) ≡ flat_map edge_bytes (low_columns list (chunk_size n p) p)
ranges_are n zero list counts ends are = refl
ranges_are n (suc p) list counts ends are =
    ap (λ l. low_ranges (record { parts = suc p; counts = l }) (suc p) (flat_map edge_bytes (columns list (chunk_size n (suc p)) (suc p)))) (counts_are n (suc p) list (omega arith) ends counts are)
    ∙ low_ranges_grid list (chunk_size n (suc p)) (suc p)

-- the same of a cut
pub low_ranges_are : (cut : Cut) (list : List Edge) (counts : List ℕ) → All (IsBelow cut.vertices) list → AreCounts (chunk_of cut) cut.parts list counts →
    low_ranges (cut_table cut counts) cut.parts (flat_map edge_bytes (columns list (chunk_of cut) cut.parts)) ≡ flat_map edge_bytes (low_columns list (chunk_of cut) cut.parts)
low_ranges_are cut list counts ends are = ranges_are cut.vertices cut.parts list counts ends are
