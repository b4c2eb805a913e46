-- The blocks of a grid, as cursors give them.
use Rattle.std.specs.Prelude.{◌≡◌, ℕ, List, None}
use Rattle.lumos_base.specs.declared.records.Edge.{Edge}
use Rattle.lumos_depot.specs.declared.depot.FileKind.{FileKind}
use Rattle.lumos_depot.specs.declared.depot.FileKind.TheVariants.{Primary, Secondary}
use Rattle.partition.specs.Parts.{chunk_size, part_range}
use Rattle.grid_format.specs.Grid.{grid_table}
use Rattle.grid_format.specs.Tables.{count_at, primary_place_of, secondary_place_of}
use Rattle.column_stream.specs.Cursors.{CursorState, IsInside, edges_left, fault_left}

-- a cursor over as many records as block (i,j) has, from a place in a file on, where these edges over n vertices are cut
-- into p parts
abbrev pub cursor_from : FileKind → ℕ → List Edge → ℕ → ℕ → ℕ → ℕ → CursorState
cursor_from file place edges n p i j = record {
  file = file;
  place = place;
  left = count_at (grid_table edges n p) i j;
  ends = record { sources = part_range n (chunk_size n p) i; targets = part_range n (chunk_size n p) j };
}

-- at the beginning of the block in Primary
abbrev pub block_cursor : List Edge → ℕ → ℕ → ℕ → ℕ → CursorState
block_cursor edges n p i j = cursor_from Primary (primary_place_of (grid_table edges n p) i j) edges n p i j

-- and in Secondary
abbrev pub low_cursor : List Edge → ℕ → ℕ → ℕ → ℕ → CursorState
low_cursor edges n p i j = cursor_from Secondary (secondary_place_of (grid_table edges n p) i j) edges n p i j

-- The records that are left for a cursor lie inside the bytes of its file, they are these edges, and no word in them lies
-- outside its part.
pub record IsStreamed (cursor : CursorState) (bytes : List ℕ) (edges : List Edge) : Type 0 where
  pub inside : IsInside cursor bytes
  pub is_block : edges_left cursor bytes ≡ edges
  pub sound : fault_left cursor bytes ≡ None
