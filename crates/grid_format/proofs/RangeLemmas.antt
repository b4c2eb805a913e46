-- Sums over ranges of numbers, and lists joined over them.
use Rattle.std.proofs.Common.{◌≡◌, ℕ, zero, suc, ◌+◌, ◌-◌, ◌<◌, ◌≤◌, List, ◌∷◌, ◌++◌, length, take, drop, flat_map, refl, ap, ◌∙◌, arith}
use Rattle.std.specs.List.{range_with_len, sum_by}
use Rattle.std.proofs.lemmas.List.{drop_at, take_at}
use Rattle.std.proofs.lemmas.List.Concat.{flat_map-append}
use Rattle.std.proofs.lemmas.List.Sums.{sum_by-append, sum_by-cons}

-- a range cut in two
pub range-add : (a m n : ℕ) → range_with_len a (m + n) ≡ range_with_len a m ++ range_with_len (a + m) n
range-add a zero n =
    let all : zero + n ≡ n = omega arith in
    let start : a ≡ a + zero = omega arith in
    ap (λ (k : ℕ). range_with_len a k) all ∙ ap (λ (k : ℕ). range_with_len k n) start
range-add a (suc m) n =
    let all : suc m + n ≡ suc (m + n) = omega arith in
    let next : a + 1 + m ≡ a + suc m = omega arith in
    ap (λ (k : ℕ). range_with_len a k) all
    ∙ ap (λ l. a ∷ l) (range-add (a + 1) m n ∙ ap (λ (k : ℕ). range_with_len (a + 1) m ++ range_with_len k n) next)

module _ (f : ℕ → ℕ) where
  -- a sum over a range cut in two
  pub sum-range-add : (a m n : ℕ) → sum_by f (range_with_len a (m + n)) ≡ sum_by f (range_with_len a m) + sum_by f (range_with_len (a + m) n)
  sum-range-add a m n = ap (sum_by f) (range-add a m n) ∙ sum_by-append f (range_with_len a m) (range_with_len (a + m) n)

  -- one more term
  pub sum-range-more : (a n k : ℕ) → a + n ≡ k → sum_by f (range_with_len a (n + 1)) ≡ sum_by f (range_with_len a n) + f k
  sum-range-more a n k is =
      let last : sum_by f (range_with_len (a + n) 1) ≡ 0 + f (a + n) = refl in
      omega (arith, sum-range-add a n 1, last, ap f is)

  -- a longer range has no smaller sum
  pub sum-range-le : (a m n : ℕ) → m ≤ n → sum_by f (range_with_len a m) ≤ sum_by f (range_with_len a n)
  sum-range-le a m n h =
      let cut : n ≡ m + (n - m) = omega arith in
      omega (arith, ap (λ (k : ℕ). sum_by f (range_with_len a k)) cut, sum-range-add a m (n - m))

-- the same terms have the same sum
pub sum-range-same : (f g : ℕ → ℕ) (a n : ℕ) → ((k : ℕ) → a ≤ k → k < a + n → f k ≡ g k) → sum_by f (range_with_len a n) ≡ sum_by g (range_with_len a n)
sum-range-same f g a zero same = refl
sum-range-same f g a (suc n) same =
    let here = same a (omega arith) (omega arith) in
    let rest = sum-range-same f g (a + 1) n (λ k low high. same k (omega arith) (omega arith)) in
    omega (arith, here, rest, sum_by-cons f a (range_with_len (a + 1) n), sum_by-cons g a (range_with_len (a + 1) n))

module _ {X : Type 0} where
  -- lists joined over a range cut in two
  pub join-range-add : (g : ℕ → List X) (a m n : ℕ) → flat_map g (range_with_len a (m + n)) ≡ flat_map g (range_with_len a m) ++ flat_map g (range_with_len (a + m) n)
  join-range-add g a m n = ap (flat_map g) (range-add a m n) ∙ flat_map-append g (range_with_len a m) (range_with_len (a + m) n)

  -- cut round list k, with m lists before it and r behind it
  pub join-range-round : (g : ℕ → List X) (a n k m r : ℕ) → a + m ≡ k → n ≡ m + suc r → flat_map g (range_with_len a n) ≡ flat_map g (range_with_len a m) ++ (g k ++ flat_map g (range_with_len (k + 1) r))
  join-range-round g a n k m r here cut =
      ap (λ (q : ℕ). flat_map g (range_with_len a q)) cut ∙ join-range-add g a m (suc r)
      ∙ ap (λ (q : ℕ). flat_map g (range_with_len a m) ++ flat_map g (range_with_len q (suc r))) here

  -- what stands between a front and a rest
  pub inner : (front mid rest : List X) (m n : ℕ) → length front ≡ m → length mid ≡ n → take n (drop m (front ++ (mid ++ rest))) ≡ mid
  inner front mid rest m n before long = ap (take n) (drop_at front (mid ++ rest) m before) ∙ take_at mid rest n long
