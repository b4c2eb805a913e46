-- The files of a grid, from the list of its edges.
use Rattle.std.specs.Prelude.{◌≡◌, ◌<◌, ◌≤◌, ℕ, ◌-◌, ◌*◌, List, map, flat_map, length, All, Ok}
use Rattle.std.specs.List.{range_with_len}
use Rattle.lumos_base.specs.Leaving.{out_info}
use Rattle.lumos_base.specs.Records.{edge_bytes, info_bytes}
use Rattle.lumos_base.specs.declared.records.Edge.{Edge}
use Rattle.lumos_depot.specs.Files.{range_at}
use Rattle.partition.specs.Blocks.{IsBelow, block, columns}
use Rattle.partition.specs.Parts.{chunk_size}
use Rattle.grid_format.specs.Checks.{GridFiles, head_of}
use Rattle.grid_format.specs.Heads.{counts_of, meta_bytes}
use Rattle.grid_format.specs.Tables.{BlockCounts, count_at, primary_place_of, secondary_place_of}
use Rattle.grid_format.specs.declared.head.GridInfo.{GridInfo}

-- the head of the grid of these edges over n vertices and p parts
abbrev pub grid_head : List Edge → ℕ → ℕ → GridInfo
grid_head edges n p = record { version = 1; parts = p; vertices = n; edges = length edges }

-- the numbers of edges in its blocks, in column order
abbrev pub block_counts : List Edge → ℕ → ℕ → List ℕ
block_counts edges c p =
    flat_map (λ j. map (λ i. length (block edges c i j)) (range_with_len 0 p)) (range_with_len 0 p)

-- the blocks of column j on the diagonal and below it, one after the other, where there are p parts
abbrev pub low_column : List Edge → ℕ → ℕ → ℕ → List Edge
low_column edges c j p = flat_map (λ i. block edges c i j) (range_with_len j (p - j))

-- these blocks of all columns, in column order
abbrev pub low_columns : List Edge → ℕ → ℕ → List Edge
low_columns edges c p = flat_map (λ j. low_column edges c j p) (range_with_len 0 p)

-- The files of the grid of these edges over n vertices and p parts: Meta; all blocks in column order, each with its
-- edges in list order; those on the diagonal and below it in the same way; what leads out of each vertex, ascending.
abbrev pub grid : List Edge → ℕ → ℕ → GridFiles
grid edges n p = record {
  meta = meta_bytes (grid_head edges n p) (block_counts edges (chunk_size n p) p);
  primary = flat_map edge_bytes (columns edges (chunk_size n p) p);
  secondary = flat_map edge_bytes (low_columns edges (chunk_size n p) p);
  info = flat_map (λ v. info_bytes (out_info edges v)) (range_with_len 0 n);
}

-- The edges and the parts are within the limits of a grid.
pub record HasGrid (edges : List Edge) (n p : ℕ) : Type 0 where
  pub ends : All (IsBelow n) edges
  pub few : length edges ≤ 2147483648
  pub vertices : n ≤ 268435456
  pub some_parts : 0 < p
  pub few_parts : p ≤ 256

-- how many edges the blocks of the grid have
abbrev pub grid_table : List Edge → ℕ → ℕ → BlockCounts
grid_table edges n p = record { parts = p; counts = block_counts edges (chunk_size n p) p }

-- The files of a grid pass the checks of the head, and the counts in Meta are those of its blocks, each of which stands
-- in Primary at its place, and on the diagonal and below it in Secondary too.
pub record IsRead (edges : List Edge) (n p : ℕ) : Type 0 where
  pub head : head_of (grid edges n p) ≡ Ok (grid_head edges n p)
  pub counts : counts_of p (grid edges n p).meta ≡ (grid_table edges n p).counts
  pub count : (i j : ℕ) → i < p → j < p → count_at (grid_table edges n p) i j ≡ length (block edges (chunk_size n p) i j)
  pub place : (i j : ℕ) → i < p → j < p → range_at (primary_place_of (grid_table edges n p) i j) (12 * count_at (grid_table edges n p) i j) (grid edges n p).primary ≡ flat_map edge_bytes (block edges (chunk_size n p) i j)
  pub low_place : (i j : ℕ) → i < p → j ≤ i → range_at (secondary_place_of (grid_table edges n p) i j) (12 * count_at (grid_table edges n p) i j) (grid edges n p).secondary ≡ flat_map edge_bytes (block edges (chunk_size n p) i j)
