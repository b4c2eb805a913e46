-- The synchronous values are in range.
use Rattle.std.proofs.Common.{◌==◌, ℕ, zero, suc, ◌*◌, ◌<◌, ◌≤◌, ◌^◌, Bool, true, false, cond, List, [], ◌∷◌, filter, sum_by, length, arith}
use Rattle.std.specs.List.{AllByRecursion}
use Rattle.std.proofs.lemmas.List.Sums.{sum_by-cons}
use Rattle.lumos_base.specs.Leaving.{edges_from, out_info}
use Rattle.lumos_base.specs.declared.records.Edge.{Edge}
use Rattle.lumos_base.specs.Records.{IsEdge, IsOutInfo}
use Rattle.lumos_law.specs.Program.{Program, Lawful}
use Rattle.lumos_law.specs.Sync.{contributions, sum_at, values}
use Rattle.lumos_law.proofs.JoinLemmas.{join_from_in}
use Rattle.lumos_law.proofs.SumLemmas.{all-filter, given_in}

-- a filter keeps at most all elements
filter_shorter : {X : Type 0} (q : X → Bool) (xs : List X) → length (filter q xs) ≤ length xs
filter_shorter q [] = omega arith
filter_shorter q (x ∷ xs) = by_test (q x) (filter q xs) (filter_shorter q xs)
  where
    by_test : (b : Bool) (rest : List _) → length rest ≤ length xs → length (cond b (x ∷ rest) rest) ≤ suc (length xs)
    by_test true rest h = omega arith
    by_test false rest h = omega arith

-- weights below 2 ^ 32 have a sum below that times their number
weights_below : (xs : List Edge) → AllByRecursion IsEdge xs → sum_by (λ e. e.weight.0) xs ≤ 4294967296 * length xs
weights_below [] all = omega arith
weights_below (e ∷ xs) all =
    let rest = weights_below xs all.1 in
    let one = all.0.weight in
    rw (sum_by-cons (λ (f : Edge). f.weight.0) e xs) (omega arith)

-- what leads out of a vertex is in range
pub out_info_in : (edges : List Edge) (v : ℕ) → length edges ≤ 2147483648 → AllByRecursion IsEdge edges → IsOutInfo (out_info edges v)
out_info_in edges v few all =
    let out = edges_from edges v in
    let shorter = filter_shorter (λ (e : Edge). e.source.0 == v) edges in
    let weights = weights_below out (all-filter IsEdge (λ e. e.source.0 == v) edges all) in
    record { degree = omega arith; weight = omega arith }

module _ {V S : Type 0} {ValueIn : V → Type 0} {SumIn : S → Type 0} (p : Program V S) (laws : Lawful ValueIn SumIn p) where
  -- sums of values in range are in range
  pub sum_at_in : (edges : List Edge) (state : ℕ → V) (v : ℕ) → ((u : ℕ) → u < 2 ^ 32 → ValueIn (state u)) → AllByRecursion IsEdge edges → SumIn (sum_at p edges state v)
  sum_at_in edges state v known all =
      join_from_in laws.joins p.unit (contributions p edges state v) laws.joins.unit_in (given_in p laws state known v edges all)

  -- the values of each iteration are in range
  pub values_in : (edges : List Edge) (t v : ℕ) → length edges ≤ 2147483648 → AllByRecursion IsEdge edges → v < 2 ^ 32 → ValueIn (values p edges t v)
  values_in edges zero v few all below = laws.init_in v (out_info edges v) below (out_info_in edges v few all)
  values_in edges (suc t) v few all below =
      let known : (u : ℕ) → u < 2 ^ 32 → ValueIn (values p edges t u) = λ u h. values_in edges t u few all h in
      laws.apply_in v (values p edges t v) (sum_at p edges (values p edges t) v) below (known v below) (sum_at_in edges (values p edges t) v known all)
