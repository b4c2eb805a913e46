-- The order of the edges does not matter to the synchronous values, nor to how a run ends.
use Rattle.std.proofs.Common.{◌≡◌, ◌==◌, ℕ, zero, suc, ◌+◌, ◌<◌, ◌≤◌, ◌^◌, Bool, true, false, cond, List, [], ◌∷◌, map, filter, fold, length, Option, Some, refl, sym, ap, ap₂, ◌∙◌, IsPermutation, arith}
use Rattle.std.specs.List.{AllByRecursion, count_by, find, range_with_len}
use Rattle.std.proofs.lemmas.List.Sorted.{IsPermutation-refl, IsPermutation-trans, IsPermutation-cons, IsPermutation-map, length_permutation, sum_by-IsPermutation}
use Rattle.std.proofs.lemmas.List.Sums.{length-filter}
use Rattle.lumos_base.specs.Leaving.{out_info}
use Rattle.lumos_base.specs.declared.records.Edge.{Edge}
use Rattle.lumos_base.specs.declared.records.OutInfo.{OutInfo}
use Rattle.lumos_base.specs.Records.{IsEdge}
use Rattle.lumos_law.specs.Program.{Program, Lawful}
use Rattle.lumos_law.specs.Sync.{edges_into, contributions, ending_by, ending_from, is_over, moved_count, sum_at, values}
use Rattle.lumos_law.proofs.Permutations.{along_permutation, head_turned}
use Rattle.lumos_law.proofs.JoinLemmas.{join_from-permutation}
use Rattle.lumos_law.proofs.SumLemmas.{given_in}
use Rattle.lumos_law.proofs.ValueLemmas.{values_in}

module _ {X : Type 0} (q : X → Bool) where
  kept_under : (b : Bool) (x : X) (xs ys : List X) → IsPermutation xs ys → IsPermutation (cond b (x ∷ xs) xs) (cond b (x ∷ ys) ys)
  kept_under true x xs ys h = IsPermutation-cons x xs ys h
  kept_under false x xs ys h = h

  kept_turned : (b c : Bool) (x y : X) (xs : List X) → IsPermutation (cond b (x ∷ cond c (y ∷ xs) xs) (cond c (y ∷ xs) xs)) (cond c (y ∷ cond b (x ∷ xs) xs) (cond b (x ∷ xs) xs))
  kept_turned true true x y xs = head_turned x y xs
  kept_turned true false x y xs = IsPermutation-refl _
  kept_turned false true x y xs = IsPermutation-refl _
  kept_turned false false x y xs = IsPermutation-refl _

  -- a reordered list, filtered, is a reordering of the list filtered
  pub filter-permutation : (xs ys : List X) → IsPermutation xs ys → IsPermutation (filter q xs) (filter q ys)
  filter-permutation = along_permutation (λ xs ys. IsPermutation (filter q xs) (filter q ys))
      (λ xs. IsPermutation-refl _)
      (λ x xs ys h. kept_under (q x) x (filter q xs) (filter q ys) h)
      (λ x y xs. kept_turned (q x) (q y) x y (filter q xs))
      (λ xs ys zs. IsPermutation-trans _ _ _)

-- two tests that agree on a range keep the same there, so they count the same, and they find the same
filter_same : (f h : ℕ → Bool) (n a : ℕ) → ((k : ℕ) → k < a + n → f k ≡ h k) → filter f (range_with_len a n) ≡ filter h (range_with_len a n)
filter_same f h zero a same = refl
filter_same f h (suc n) a same = ap₂ (λ (b : Bool) (xs : List ℕ). cond b (a ∷ xs) xs) (same a (omega arith)) (filter_same f h n (a + 1) (λ k below. same k (omega (arith, below))))

count_same : (f h : ℕ → Bool) (n a : ℕ) → ((k : ℕ) → k < a + n → f k ≡ h k) → count_by f (range_with_len a n) ≡ count_by h (range_with_len a n)
count_same f h n a same = sym (length-filter f _) ∙ ap length (filter_same f h n a same) ∙ length-filter h _

find_same : (f h : ℕ → Bool) (n a : ℕ) → ((k : ℕ) → k < a + n → f k ≡ h k) → find f (range_with_len a n) ≡ find h (range_with_len a n)
find_same f h zero a same = refl
find_same f h (suc n) a same = ap₂ (λ (b : Bool) (o : Option ℕ). cond b (Some a) o) (same a (omega arith)) (find_same f h n (a + 1) (λ k below. same k (omega (arith, below))))

abbrev info_by : ℕ → ℕ → OutInfo
info_by d w = record { degree = d; weight = w }

out_info-permutation : (xs ys : List Edge) (v : ℕ) → IsPermutation xs ys → out_info xs v ≡ out_info ys v
out_info-permutation xs ys v same =
    let out = filter-permutation (λ (e : Edge). e.source.0 == v) xs ys same in
    ap₂ info_by (sym (length_permutation _ _ out)) (sym (sum_by-IsPermutation (λ (e : Edge). e.weight.0) _ _ out))

module _ {V S : Type 0} {ValueIn : V → Type 0} {SumIn : S → Type 0} (p : Program V S) (laws : Lawful ValueIn SumIn p) where
  -- two states that agree on the vertices give the same
  contributions_same : (f h : ℕ → V) → ((u : ℕ) → u < 2 ^ 32 → f u ≡ h u) → (v : ℕ) (edges : List Edge) → AllByRecursion IsEdge edges → contributions p edges f v ≡ contributions p edges h v
  contributions_same f h same v [] all = refl
  contributions_same f h same v (e ∷ edges) all = by_test (e.target.0 == v) (edges_into edges v) (contributions_same f h same v edges all.1)
    where
      by_test : (b : Bool) (rest : List Edge)
          → map (λ (d : Edge). p.contribution (f d.source.0) d.weight.0) rest ≡ map (λ (d : Edge). p.contribution (h d.source.0) d.weight.0) rest
          → map (λ (d : Edge). p.contribution (f d.source.0) d.weight.0) (cond b (e ∷ rest) rest) ≡ map (λ (d : Edge). p.contribution (h d.source.0) d.weight.0) (cond b (e ∷ rest) rest)
      by_test true rest equal = ap₂ ◌∷◌ (ap (λ x. p.contribution x e.weight.0) (same e.source.0 all.0.source)) equal
      by_test false rest equal = equal

  -- the sum at v does not depend on the order of the edges
  pub sum_at-permutation : (xs ys : List Edge) (state : ℕ → V) (v : ℕ) → IsPermutation xs ys → ((u : ℕ) → u < 2 ^ 32 → ValueIn (state u)) → AllByRecursion IsEdge xs → sum_at p xs state v ≡ sum_at p ys state v
  sum_at-permutation xs ys state v same known all =
      let give : Edge → S = λ e. p.contribution (state e.source.0) e.weight.0 in
      let into = filter-permutation (λ (e : Edge). e.target.0 == v) xs ys same in
      (join_from-permutation laws.joins _ _ (IsPermutation-map give _ _ into) (given_in p laws state known v xs all)).1 p.unit laws.joins.unit_in

  -- nor on which of two states that agree on the vertices is taken
  sums_same : (xs ys : List Edge) (f h : ℕ → V) → IsPermutation xs ys → AllByRecursion IsEdge xs → ((u : ℕ) → u < 2 ^ 32 → f u ≡ h u) → ((u : ℕ) → u < 2 ^ 32 → ValueIn (f u)) → (v : ℕ) → sum_at p xs f v ≡ sum_at p ys h v
  sums_same xs ys f h same all equal known v =
      let known' : (u : ℕ) → u < 2 ^ 32 → ValueIn (h u) = λ u below. rw (← equal u below) (known u below) in
      let first : sum_at p xs f v ≡ sum_at p xs h v = ap (fold p.join p.unit) (contributions_same f h equal v xs all) in
      first ∙ sum_at-permutation xs ys h v same known' all

  module _ (xs ys : List Edge) (same : IsPermutation xs ys) (few : length xs ≤ 2147483648) (all : AllByRecursion IsEdge xs) where
    -- nor do the synchronous values
    pub values-permutation : (t v : ℕ) → v < 2 ^ 32 → values p xs t v ≡ values p ys t v
    values-permutation zero v below = ap (p.init v) (out_info-permutation xs ys v same)
    values-permutation (suc t) v below =
        ap₂ (p.apply v) (values-permutation t v below)
        (sums_same xs ys (values p xs t) (values p ys t) same all (λ u h. values-permutation t u h) (λ u h. values_in p laws xs t u few all h) v)

    -- nor which vertices are over
    over-permutation : (t v : ℕ) → v < 2 ^ 32 → is_over p xs t v ≡ is_over p ys t v
    over-permutation t v below =
        ap₂ (p.over v) (values-permutation t v below)
        (sums_same xs ys (values p xs t) (values p ys t) same all (λ u h. values-permutation t u h) (λ u h. values_in p laws xs t u few all h) v)

    -- nor how many move
    pub moved-permutation : (n t : ℕ) → n ≤ 2 ^ 32 → moved_count p xs n t ≡ moved_count p ys n t
    moved-permutation n t low =
        count_same (λ v. p.moved (values p xs t v) (values p xs (suc t) v)) (λ v. p.moved (values p ys t v) (values p ys (suc t) v)) n 0
        (λ v below. ap₂ p.moved (values-permutation t v (omega (arith, below, low))) (values-permutation (suc t) v (omega (arith, below, low))))

    -- nor how the run ends
    pub ending-permutation : (n left t : ℕ) → n ≤ 2 ^ 32 → ending_from p xs n left t ≡ ending_from p ys n left t
    ending-permutation n zero t low = refl
    ending-permutation n (suc left) t low =
        let over = find_same (is_over p xs t) (is_over p ys t) n 0 (λ v below. over-permutation t v (omega (arith, below, low))) in
        ap₂ (λ (o : Option ℕ) (m : ℕ). ending_by (suc t) o m (ending_from p xs n left (suc t))) over (moved-permutation n t low)
        ∙ ap (ending_by (suc t) (find (is_over p ys t) (range_with_len 0 n)) (moved_count p ys n t)) (ending-permutation n left (suc t) low)
