-- The records that are left for a cursor, piece by piece.
use Rattle.std.proofs.Common.{◌≡◌, ◌≤◌, ◌<◌, ℕ, ◌+◌, ◌-◌, List, [], ◌∷◌, ◌++◌, All, length, take, drop, Option, None, Some, refl, sym, ap, ◌∙◌, append-nil, append_assoc, arith}
use Rattle.std.specs.Option.{option_or}
use Rattle.std.proofs.lemmas.List.{drop_at, take_at}
use Rattle.std.proofs.lemmas.List.Elements.{All-head, All-tail}
use Rattle.lumos_base.specs.declared.records.Edge.{Edge}
use Rattle.column_stream.specs.Blocks.{IsStreamed}
use Rattle.column_stream.specs.Cursors.{CursorState, GivesAll, IsInside, behind_pieces, edges_left, edges_next, fault_left, fault_next, moved_by, piece_of, pieces}
use Rattle.column_stream.specs.Records.{edges_at, first_fault}
use Rattle.column_stream.proofs.EdgeLemmas.{edges-add, length-edges}
use Rattle.column_stream.proofs.FaultLemmas.{first-add}

-- the edges that are left are those of the next n records, and those that are left behind them
pub left_cut : (n : ℕ) (cursor : CursorState) (bytes : List ℕ) → n ≤ cursor.left → edges_left cursor bytes ≡ edges_next n cursor bytes ++ edges_left (moved_by n cursor) bytes
left_cut n cursor bytes low =
    let cut : cursor.left ≡ n + (cursor.left - n) = omega arith in
    ap (λ (k : ℕ). edges_at cursor.place k bytes) cut ∙ edges-add cursor.place n (cursor.left - n) bytes

-- what is wrong with them is what is wrong with the next n records, or else with those behind them
pub fault_cut : (n : ℕ) (cursor : CursorState) (bytes : List ℕ) → n ≤ cursor.left → fault_left cursor bytes ≡ option_or (fault_next n cursor bytes) (fault_left (moved_by n cursor) bytes)
fault_cut n cursor bytes low =
    let cut : cursor.left ≡ n + (cursor.left - n) = omega arith in
    ap (λ (k : ℕ). first_fault cursor.file cursor.ends cursor.place (edges_at cursor.place k bytes)) cut
    ∙ first-add cursor.file cursor.ends cursor.place cursor.place n (cursor.left - n) bytes

or_none : {A : Type 0} (x y : Option A) → option_or x y ≡ None → (x ≡ None) × (y ≡ None)
or_none None y h = (refl, h)
or_none (Some a) y h = absurd (cc)

-- where nothing is wrong with what is left, nothing is wrong with the next n records
pub sound_next : (n : ℕ) (cursor : CursorState) (bytes : List ℕ) → n ≤ cursor.left → fault_left cursor bytes ≡ None → fault_next n cursor bytes ≡ None
sound_next n cursor bytes low sound = (or_none (fault_next n cursor bytes) (fault_left (moved_by n cursor) bytes) (sym (fault_cut n cursor bytes low) ∙ sound)).0

-- nor with those behind them
pub sound_behind : (n : ℕ) (cursor : CursorState) (bytes : List ℕ) → n ≤ cursor.left → fault_left cursor bytes ≡ None → fault_left (moved_by n cursor) bytes ≡ None
sound_behind n cursor bytes low sound = (or_none (fault_next n cursor bytes) (fault_left (moved_by n cursor) bytes) (sym (fault_cut n cursor bytes low) ∙ sound)).1

-- a file has the records behind the next n ones inside it, where it has those that are left
pub inside_behind : (n : ℕ) (cursor : CursorState) (bytes : List ℕ) → n ≤ cursor.left → IsInside cursor bytes → IsInside (moved_by n cursor) bytes
inside_behind n cursor bytes low inside = omega arith

-- the next n records are the first of the edges that are left
pub streamed_next : (n : ℕ) (cursor : CursorState) (bytes : List ℕ) (edges : List Edge) → n ≤ cursor.left → IsStreamed cursor bytes edges → edges_next n cursor bytes ≡ take n edges
streamed_next n cursor bytes edges low is =
    let next = edges_next n cursor bytes in
    sym (take_at next (edges_left (moved_by n cursor) bytes) n (length-edges cursor.place n bytes)) ∙ ap (take n) (sym (left_cut n cursor bytes low) ∙ is.is_block)

-- and the cursor behind them gives the others
pub streamed_behind : (n : ℕ) (cursor : CursorState) (bytes : List ℕ) (edges : List Edge) → n ≤ cursor.left → IsStreamed cursor bytes edges → IsStreamed (moved_by n cursor) bytes (drop n edges)
streamed_behind n cursor bytes edges low is =
    let next = edges_next n cursor bytes in
    record {
      inside = inside_behind n cursor bytes low is.inside;
      is_block = sym (drop_at next (edges_left (moved_by n cursor) bytes) n (length-edges cursor.place n bytes)) ∙ ap (drop n) (sym (left_cut n cursor bytes low) ∙ is.is_block);
      sound = sound_behind n cursor bytes low is.sound;
    }

-- a piece has no more records than are left
pub piece_low : (cursor : CursorState) (room : ℕ) → piece_of cursor room ≤ cursor.left
piece_low cursor room = omega arith

-- the pieces, and what is left behind them
pub pieces_cut : (rooms : List ℕ) (cursor : CursorState) (bytes : List ℕ) → edges_left cursor bytes ≡ pieces rooms cursor bytes ++ edges_left (behind_pieces rooms cursor) bytes
pieces_cut [] cursor bytes = refl
pieces_cut (room ∷ rooms) cursor bytes =
    let n = piece_of cursor room in
    let more = moved_by n cursor in
    left_cut n cursor bytes (piece_low cursor room)
    ∙ ap (λ l. edges_next n cursor bytes ++ l) (pieces_cut rooms more bytes)
    ∙ sym (append_assoc (edges_next n cursor bytes) (pieces rooms more bytes) (edges_left (behind_pieces rooms more) bytes))

-- each call takes one record at least, as long as one is left
pub pieces_left : (rooms : List ℕ) (cursor : CursorState) → All (λ r. 0 < r) rooms → cursor.left ≤ length rooms → (behind_pieces rooms cursor).left ≡ 0
pieces_left [] cursor some low = omega arith
pieces_left (room ∷ rooms) cursor some low =
    let first : 0 < room = All-head (λ r. 0 < r) room rooms some in
    pieces_left rooms (moved_by (piece_of cursor room) cursor) (All-tail (λ r. 0 < r) room rooms some) (omega arith)

pub gives_all : (cursor : CursorState) (bytes : List ℕ) → GivesAll cursor bytes
gives_all cursor bytes = record {
  whole = λ rooms room some zero_is.
      let end = behind_pieces rooms cursor in
      let none : end.left ≡ 0 = omega arith in
      sym (append-nil (pieces rooms cursor bytes)) ∙ ap (λ l. pieces rooms cursor bytes ++ l) (ap (λ (k : ℕ). edges_at end.place k bytes) (sym none)) ∙ sym (pieces_cut rooms cursor bytes);
  ends = λ rooms room some low.
      let none = pieces_left rooms cursor some low in
      omega arith;
}
