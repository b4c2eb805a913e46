-- A text in pieces.
use Rattle.std.proofs.Common.{◌≡◌, ◌<◌, ℕ, ◌+◌, List, [], ◌∷◌, ◌++◌, Vec, Global, get_or, length, take, drop, flat_map, sym, ap, ◌∙◌}
use Rattle.std.proofs.lemmas.Grind.{flat_map-append}
use Rattle.std.proofs.lemmas.List.{append-nil, append_assoc, drop_more, take-append-drop, take_more}

-- one piece more
pub piece_more : (pieces : List (Vec ℕ Global)) (i : ℕ) (piece : Vec ℕ Global) → i < length pieces → piece ≡ get_or pieces i piece →
    flat_map (λ piece. piece.items) (take (i + 1) pieces) ≡ flat_map (λ piece. piece.items) (take i pieces) ++ piece.items
piece_more pieces i piece inside is =
    ap (λ ps. flat_map (λ piece. piece.items) ps) (take_more pieces i piece inside ∙ ap (λ p. take i pieces ++ p ∷ []) (sym is))
    ∙ flat_map-append (λ piece. piece.items) (take i pieces) (piece ∷ [])
    ∙ ap (λ t. flat_map (λ piece. piece.items) (take i pieces) ++ t) (append-nil piece.items)

-- those that are left
pub piece_left : (pieces : List (Vec ℕ Global)) (i : ℕ) (piece : Vec ℕ Global) → i < length pieces → piece ≡ get_or pieces i piece →
    flat_map (λ piece. piece.items) (drop i pieces) ≡ piece.items ++ flat_map (λ piece. piece.items) (drop (i + 1) pieces)
piece_left pieces i piece inside is =
    ap (λ ps. flat_map (λ piece. piece.items) ps) (drop_more pieces i piece inside ∙ ap (λ p. p ∷ drop (i + 1) pieces) (sym is))

-- and all
pub all_pieces : (pieces : List (Vec ℕ Global)) (i : ℕ) (piece : Vec ℕ Global) → i < length pieces → piece ≡ get_or pieces i piece →
    flat_map (λ piece. piece.items) (take i pieces) ++ piece.items ++ flat_map (λ piece. piece.items) (drop (i + 1) pieces) ≡ flat_map (λ piece. piece.items) pieces
all_pieces pieces i piece inside is =
    append_assoc (flat_map (λ piece. piece.items) (take i pieces)) piece.items (flat_map (λ piece. piece.items) (drop (i + 1) pieces))
    ∙ ap (λ t. flat_map (λ piece. piece.items) (take i pieces) ++ t) (sym (piece_left pieces i piece inside is))
    ∙ sym (flat_map-append (λ piece. piece.items) (take i pieces) (drop i pieces))
    ∙ ap (λ ps. flat_map (λ piece. piece.items) ps) (take-append-drop i pieces)
