-- The edges cut into blocks by the parts of their ends: GridGraph's grid, read in column order.
use Rattle.std.specs.Prelude.{◌==◌, ◌&&◌, ℕ, ◌<◌, List, filter, flat_map, All, IsPermutation}
use Rattle.std.specs.List.{range_with_len}
use Rattle.lumos_base.specs.declared.records.Edge.{Edge}
use Rattle.partition.specs.Parts.{part_at, IsInPart}

-- both ends of the edge are vertices below n
pub record IsBelow (n : ℕ) (e : Edge) : Type 0 where
  pub source : e.source.0 < n
  pub target : e.target.0 < n

-- the edges from part i into part j in list order, where a part has c vertices
abbrev pub block : List Edge → ℕ → ℕ → ℕ → List Edge
block edges c i j = filter (λ e. (part_at c e.source.0 == i) && (part_at c e.target.0 == j)) edges

-- the blocks of column j in the rows below n, one after the other
abbrev pub column : List Edge → ℕ → ℕ → ℕ → List Edge
column edges c j n = flat_map (λ i. block edges c i j) (range_with_len 0 n)

-- the blocks of p parts in column order: the columns below p, one after the other
abbrev pub columns : List Edge → ℕ → ℕ → List Edge
columns edges c p = flat_map (λ j. column edges c j p) (range_with_len 0 p)

-- the edges into part j, in list order
abbrev pub edges_into_part : List Edge → ℕ → ℕ → List Edge
edges_into_part edges c j = filter (λ e. part_at c e.target.0 == j) edges

-- The blocks of p parts of c vertices hold each edge once, by columns and as a whole, and the ends of a block's edges
-- lie in the ranges of its parts.
pub record HoldOnce (edges : List Edge) (n c p : ℕ) : Type 0 where
  pub by_column : (j : ℕ) → IsPermutation (edges_into_part edges c j) (column edges c j p)
  pub whole : IsPermutation edges (columns edges c p)
  pub sources : (i j : ℕ) → All (λ e. IsInPart n c i e.source.0) (block edges c i j)
  pub targets : (i j : ℕ) → All (λ e. IsInPart n c j e.target.0) (block edges c i j)
