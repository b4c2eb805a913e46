-- A cursor over a block, and the records that are left for it.
use Rattle.std.specs.Prelude.{◌≡◌, ◌<◌, ◌≤◌, ℕ, ◌+◌, ◌-◌, ◌*◌, min, List, [], ◌∷◌, ◌++◌, All, length, Option}
use Rattle.lumos_base.specs.declared.records.Edge.{Edge}
use Rattle.lumos_depot.specs.declared.depot.FileKind.{FileKind}
use Rattle.value_files.specs.declared.fault.FileFault.{FileFault}
use Rattle.column_stream.specs.Records.{edges_at, first_fault}
use Rattle.column_stream.specs.declared.records.Ends.{Ends}

-- a cursor, as contracts see it
pub record CursorState : Type 0 where
  pub file : FileKind
  pub place : ℕ
  pub left : ℕ
  pub ends : Ends

-- the bytes of the records that are left lie inside the file
abbrev pub IsInside : CursorState → List ℕ → Type 0
IsInside cursor bytes = cursor.place + 12 * cursor.left ≤ length bytes

-- how many records the next piece has where there is room for so many: what is left, as much as there is room for, and
-- no more than 256
abbrev pub piece_of : CursorState → ℕ → ℕ
piece_of cursor room = min (min cursor.left room) 256

-- the edges of the next n records in a file of these bytes
abbrev pub edges_next : ℕ → CursorState → List ℕ → List Edge
edges_next n cursor bytes = edges_at cursor.place n bytes

-- what is wrong with these records: the first word that lies outside its range
abbrev pub fault_next : ℕ → CursorState → List ℕ → Option FileFault
fault_next n cursor bytes = first_fault cursor.file cursor.ends cursor.place (edges_next n cursor bytes)

-- the edges that are left
abbrev pub edges_left : CursorState → List ℕ → List Edge
edges_left cursor bytes = edges_next cursor.left cursor bytes

-- what is wrong with their records
abbrev pub fault_left : CursorState → List ℕ → Option FileFault
fault_left cursor bytes = fault_next cursor.left cursor bytes

-- the cursor behind the next n records
abbrev pub moved_by : ℕ → CursorState → CursorState
moved_by n cursor = record cursor { place = cursor.place + 12 * n; left = cursor.left - n }

-- the edges of the pieces that one call after another gives, where each has room for so many
abbrev pub pieces : List ℕ → CursorState → List ℕ → List Edge
pieces [] cursor bytes = []
pieces (room ∷ rooms) cursor bytes = let n = piece_of cursor room in edges_next n cursor bytes ++ pieces rooms (moved_by n cursor) bytes

-- the cursor behind these pieces
abbrev pub behind_pieces : List ℕ → CursorState → CursorState
behind_pieces [] cursor = cursor
behind_pieces (room ∷ rooms) cursor = behind_pieces rooms (moved_by (piece_of cursor room) cursor)

-- However much room the calls have, one edge at least: where the next one answers 0, the pieces before it are the edges
-- that were left, in order; and it answers 0 once there were as many calls as records.
pub record GivesAll (cursor : CursorState) (bytes : List ℕ) : Type 0 where
  pub whole : (rooms : List ℕ) (room : ℕ) → 0 < room → piece_of (behind_pieces rooms cursor) room ≡ 0 → pieces rooms cursor bytes ≡ edges_left cursor bytes
  pub ends : (rooms : List ℕ) (room : ℕ) → All (λ r. 0 < r) rooms → cursor.left ≤ length rooms → piece_of (behind_pieces rooms cursor) room ≡ 0
