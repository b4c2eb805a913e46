-- Texts written one after another, each of a number from 0 on.
use Rattle.std.proofs.Common.{◌≡◌, ◌≤◌, ℕ, zero, suc, ◌+◌, ◌-◌, List, [], ◌∷◌, ◌++◌, flat_map, sym, ap, ◌∙◌, arith, add-one}
use Rattle.std.specs.List.{range_with_len}
use Rattle.std.proofs.lemmas.Grind.{flat_map-append}
use Rattle.std.proofs.lemmas.List.{append-nil}
use Rattle.partition.proofs.BucketLemmas.{range_more}

-- the texts of the first n numbers
abbrev pub texts : (ℕ → List ℕ) → ℕ → List ℕ
texts f n = flat_map f (range_with_len 0 n)

range_cut : (a i n : ℕ) → i ≤ n → range_with_len a n ≡ range_with_len a i ++ range_with_len (a + i) (n - i)
range_cut a zero n h =
    let first : a ≡ a + 0 = omega arith in
    let rest : n ≡ n - 0 = omega arith in
    ap (λ (b : ℕ). range_with_len b n) first ∙ ap (λ (m : ℕ). range_with_len (a + 0) m) rest
range_cut a (suc i) zero h = absurd (omega arith)
range_cut a (suc i) (suc n) h =
    let place : a + 1 + i ≡ a + suc i = omega arith in
    let rest : suc n - suc i ≡ n - i = omega arith in
    ap (λ l. a ∷ l) (range_cut (a + 1) i n (omega arith) ∙ ap (λ (b : ℕ). range_with_len (a + 1) i ++ range_with_len b (n - i)) place)
    ∙ ap (λ (m : ℕ). a ∷ range_with_len (a + 1) i ++ range_with_len (a + suc i) m) (sym rest)

-- the texts of the numbers from i on, below n
abbrev pub texts_from : (ℕ → List ℕ) → ℕ → ℕ → List ℕ
texts_from f i n = flat_map f (range_with_len i (n - i))

pub texts_cut : (f : ℕ → List ℕ) (i n : ℕ) → i ≤ n → texts f n ≡ texts f i ++ texts_from f i n
texts_cut f i n h =
    ap (flat_map f) (range_cut 0 i n h) ∙ flat_map-append f (range_with_len 0 i) (range_with_len (0 + i) (n - i))
    ∙ (let e : 0 + i ≡ i = omega arith in ap (λ (a : ℕ). texts f i ++ flat_map f (range_with_len a (n - i))) e)

pub texts_more : (f : ℕ → List ℕ) (i : ℕ) → texts f (i + 1) ≡ texts f i ++ f i
texts_more f i =
    let e : 0 + i ≡ i = omega arith in
    ap (λ (n : ℕ). texts f n) (add-one i) ∙ ap (flat_map f) (range_more 0 i) ∙ flat_map-append f (range_with_len 0 i) ((0 + i) ∷ [])
    ∙ ap (λ (a : ℕ). texts f i ++ (f a ++ [])) e ∙ ap (λ t. texts f i ++ t) (append-nil (f i))
