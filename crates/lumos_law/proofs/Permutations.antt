-- A relation between lists that goes under a head, over a turn of two heads, and along itself, holds along each permutation.
use Rattle.std.proofs.Common.{ℕ, zero, suc, ◌<◌, List, [], ◌∷◌, length, get_or, set, swap, refl, arith, IsPermutation}
use Rattle.std.proofs.lemmas.List.Sorted.{IsPermutation-keeps}

module _ {X : Type 0} (R : List X → List X → Type 0) (same : (xs : List X) → R xs xs)
    (skip : (x : X) (xs ys : List X) → R xs ys → R (x ∷ xs) (x ∷ ys))
    (turn : (x y : X) (xs : List X) → R (x ∷ y ∷ xs) (y ∷ x ∷ xs))
    (chain : (xs ys zs : List X) → R xs ys → R ys zs → R xs zs) where
  -- the head and the element at j change places
  head_with : (xs : List X) (j : ℕ) (x d : X) → j < length xs → R (x ∷ xs) (get_or xs j d ∷ set xs j x)
  head_with [] j x d h = absurd (omega arith)
  head_with (y ∷ xs) zero x d h = turn x y xs
  head_with (y ∷ xs) (suc j) x d h =
      chain _ _ _ (turn x y xs) (chain _ _ _ (skip y _ _ (head_with xs j x d (omega arith))) (turn y (get_or xs j d) (set xs j x)))

  two_places : (xs : List X) (i j : ℕ) (d : X) → i < length xs → j < length xs → R xs (set (set xs i (get_or xs j d)) j (get_or xs i d))
  two_places [] i j d p q = absurd (omega arith)
  two_places (x ∷ xs) zero zero d p q = same (x ∷ xs)
  two_places (x ∷ xs) zero (suc j) d p q = head_with xs j x d (omega arith)
  two_places (x ∷ xs) (suc i) zero d p q = head_with xs i x d (omega arith)
  two_places (x ∷ xs) (suc i) (suc j) d p q = skip x _ _ (two_places xs i j d (omega arith) (omega arith))

  swapped : (xs : List X) (i j : ℕ) → i < length xs → j < length xs → R xs (swap xs i j)
  swapped [] i j p q = same []
  swapped (x ∷ xs) i j p q = two_places (x ∷ xs) i j x p q

  pub along_permutation : (xs ys : List X) → IsPermutation xs ys → R xs ys
  along_permutation xs = IsPermutation-keeps xs (R xs) (same xs) (λ l i j p q h. chain xs l _ h (swapped l i j p q))

-- two heads in the other order
pub head_turned : {X : Type 0} (x y : X) (xs : List X) → IsPermutation (x ∷ y ∷ xs) (y ∷ x ∷ xs)
head_turned x y xs = record { moves = (0, 1) ∷ []; below = (omega arith, omega arith, tt); is = refl }
