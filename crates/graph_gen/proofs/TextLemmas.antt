-- A text is the line of its first edge and the text of the others.
use Rattle.std.proofs.Common.{◌≡◌, ◌≤◌, ◌<◌, ℕ, zero, suc, ◌+◌, ◌-◌, min, List, [], ◌∷◌, ◌++◌, length, take, drop, ap, sym, ◌∙◌, refl, add-one, append_assoc, length-append, arith}
use Rattle.std.specs.List.{flat_map, range_with_len}
use Rattle.std.proofs.lemmas.List.{drop_all, drop-drop, length-take-le, take-append-drop}
use Rattle.std.proofs.lemmas.Slice.{take-put_mid}
use borrow.Rule.Slice.PartMut.{put_mid}
use Rattle.graph_gen.specs.Generated.{edge_line, generated, generated_edge, number_at}
use Rattle.graph_gen.proofs.NumberLemmas.{edge_on}

-- what is made of the numbers from a + 1 on, where the same is made of those from a on
flat_map_on : (f g : ℕ → List ℕ) → ((e : ℕ) → f (e + 1) ≡ g e) → (a n : ℕ) → flat_map f (range_with_len (a + 1) n) ≡ flat_map g (range_with_len a n)
flat_map_on f g same a zero = refl
flat_map_on f g same a (suc n) =
    ap (λ (x : List ℕ). x ++ flat_map f (range_with_len (a + 1 + 1) n)) (same a) ∙ ap (λ (y : List ℕ). g a ++ y) (flat_map_on f g same (a + 1) n)

pub generated_none : (seed vertices : ℕ) → generated seed vertices 0 ≡ []
unfolding generated
generated_none seed vertices = refl

pub generated_more : (seed vertices m n : ℕ) → m ≡ n + 1 → generated seed vertices m ≡ edge_line (generated_edge seed vertices 0) ++ generated (number_at seed 3) vertices n
unfolding generated
generated_more seed vertices m n is =
    let line : ℕ → List ℕ = λ e. edge_line (generated_edge seed vertices e) in
    let later : ℕ → List ℕ = λ e. edge_line (generated_edge (number_at seed 3) vertices e) in
    ap (λ (k : ℕ). flat_map line (range_with_len 0 k)) (is ∙ add-one n)
    ∙ ap (λ (rest : List ℕ). line 0 ++ rest) (flat_map_on line later (λ e. ap edge_line (edge_on seed vertices e)) 0 n)

-- where a line is spent, what is left is what isn't drawn yet
pub left_behind : (line rest : List ℕ) (start : ℕ) → length line ≤ start → drop start line ++ rest ≡ rest
left_behind line rest start spent = ap (λ (xs : List ℕ). xs ++ rest) (drop_all start line spent)

-- a line is written from its end
pub line_written : (a b c rest third second first : List ℕ) → third ≡ a ++ 10 ∷ rest → rest ≡ [] → second ≡ b ++ 32 ∷ third → first ≡ c ++ 32 ∷ second
    → first ≡ c ++ 32 ∷ b ++ 32 ∷ a ++ 10 ∷ []
line_written a b c rest third second first x none y z = rw (z, y, x, none) (simp append_assoc)

-- bytes of a line go into a buffer behind those that were given, and what is left goes on behind them
pub given_on : (buf line rest piece : List ℕ) (given count start k : ℕ) → piece ≡ take count (drop start line) → count ≤ length (drop start line) → given ≤ length buf
    → take (given + count) (put_mid given k buf piece) ++ (drop (start + count) line ++ rest) ≡ take given buf ++ (drop start line ++ rest)
given_on buf line rest piece given count start k same fits within =
    let long : length piece ≡ count = ap length same ∙ length-take-le count (drop start line) fits in
    let front = take-put_mid given k buf piece (given + count) (omega arith) within in
    let whole : piece ++ drop (start + count) line ≡ drop start line = rw (same, ← drop-drop count start line) (take-append-drop count (drop start line)) in
    rw front (append_assoc (take given buf) piece (drop (start + count) line ++ rest)
    ∙ ap (λ (xs : List ℕ). take given buf ++ xs) (sym (append_assoc piece (drop (start + count) line) rest) ∙ ap (λ (xs : List ℕ). xs ++ rest) whole))

-- lists that agree from a place on agree from a later one on
pub drop_later : (xs ys : List ℕ) (a b : ℕ) → drop a xs ≡ drop a ys → a ≤ b → drop b xs ≡ drop b ys
drop_later xs ys a b same later =
    let place : a + (b - a) ≡ b = omega arith in
    rw (← place, ← drop-drop (b - a) a xs, ← drop-drop (b - a) a ys) (ap (drop (b - a)) same)

-- how many bytes are given, where they end with the buffer or with the text
pub given_count : (buf left new : List ℕ) (n : ℕ) → take n buf ++ new ≡ left → n ≤ length buf → (n < length buf → new ≡ []) → n ≡ min (length buf) (length left)
given_count buf left new n same within short =
    let sizes : length (take n buf) + length new ≡ length left = sym (length-append (take n buf) new) ∙ ap length same in
    let long : length (take n buf) ≡ n = length-take-le n buf within in
    let none : n < length buf → length new ≡ 0 = λ h. ap length (short h) in
    grind (arith, none)
