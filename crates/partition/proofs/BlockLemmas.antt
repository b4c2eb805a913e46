-- The blocks of a cut hold each edge once.
use Rattle.std.proofs.Common.{◌≡◌, ◌==◌, ◌&&◌, ℕ, ◌+◌, ◌<◌, Bool, true, false, nat_lt, List, [], ◌∷◌, ◌++◌, filter, flat_map, All, refl, sym, ap, ◌∙◌, arith, add-one, append-nil, IsPermutation}
use Rattle.std.specs.List.{range_with_len}
use Rattle.std.proofs.lemmas.Bool.{eqb-true}
use Rattle.std.proofs.lemmas.Bool.Decides.{nat_tests}
use Rattle.std.proofs.lemmas.List.Concat.{flat_map-append}
use Rattle.std.proofs.lemmas.List.Elements.{All-filter, filter_agree, filter_passes}
use Rattle.std.proofs.lemmas.List.Sorted.{IsPermutation-trans}
use Rattle.lumos_base.specs.declared.records.Edge.{Edge}
use Rattle.partition.specs.Blocks.{block, column, edges_into_part, HoldOnce, IsBelow}
use Rattle.partition.specs.Parts.{chunk_size, part_at, IsInPart}
use Rattle.partition.proofs.BucketLemmas.{buckets, buckets_whole, filter-filter, flat_map-permutation, range_more}
use Rattle.partition.proofs.RangeLemmas.{cover_once, in_part}

and_turned : (a b : Bool) → (a && b) ≡ (b && a)
and_turned true true = refl
and_turned true false = refl
and_turned false true = refl
and_turned false false = refl

both_true : (a b : Bool) → (a && b) ≡ true → (a ≡ true) × (b ≡ true)
both_true true true h = (refl, refl)
both_true true false h = absurd (let e : false ≡ true = h in cc)
both_true false b h = absurd (let e : false ≡ true = h in cc)

-- a column sorts the edges into its part by the part of their source
pub column_buckets : (edges : List Edge) (c j n : ℕ) → column edges c j n ≡ buckets (λ e. part_at c e.source.0) (edges_into_part edges c j) n
column_buckets edges c j n = ap (λ f. flat_map f (range_with_len 0 n)) (λ t i. sym (each i) t)
  where
    each : (i : ℕ) → filter (λ e. part_at c e.source.0 == i) (edges_into_part edges c j) ≡ block edges c i j
    each i =
        filter-filter (λ (e : Edge). part_at c e.source.0 == i) (λ e. part_at c e.target.0 == j) edges
        ∙ filter_agree _ _ (λ e. and_turned (part_at c e.target.0 == j) (part_at c e.source.0 == i)) edges

-- one row more
pub column_more : (edges : List Edge) (c j n : ℕ) → column edges c j (n + 1) ≡ column edges c j n ++ block edges c n j
column_more edges c j n =
    let rows : range_with_len 0 (n + 1) ≡ range_with_len 0 n ++ n ∷ [] =
    ap (range_with_len 0) (add-one n) ∙ range_more 0 n ∙ (let zero_n : 0 + n ≡ n = omega arith in rw zero_n refl) in
    ap (flat_map (λ i. block edges c i j)) rows ∙ flat_map-append (λ i. block edges c i j) (range_with_len 0 n) (n ∷ [])
    ∙ ap (λ l. column edges c j n ++ l) (append-nil (block edges c n j))

-- the ends of a block's edges lie in the ranges of its parts
pub block_sources : (edges : List Edge) (n c i j : ℕ) → 0 < c → All (IsBelow n) edges → All (λ e. IsInPart n c i e.source.0) (block edges c i j)
block_sources edges n c i j some ends k d h =
    in_part n c i _ some (All-filter _ (IsBelow n) edges ends k d h).source (eqb-true _ i (both_true _ _ (filter_passes _ edges k d h)).0)

pub block_targets : (edges : List Edge) (n c i j : ℕ) → 0 < c → All (IsBelow n) edges → All (λ e. IsInPart n c j e.target.0) (block edges c i j)
block_targets edges n c i j some ends k d h =
    in_part n c j _ some (All-filter _ (IsBelow n) edges ends k d h).target (eqb-true _ j (both_true _ _ (filter_passes _ edges k d h)).1)

module _ (edges : List Edge) (n p : ℕ) (some : 0 < p) (ends : All (IsBelow n) edges) where
  below_test : (v : ℕ) → v < n → nat_lt (part_at (chunk_size n p) v) p ≡ true
  below_test v h = let below = (cover_once n p some).below v h in grind (arith, nat_tests)

  column_once : (j : ℕ) → IsPermutation (edges_into_part edges (chunk_size n p) j) (column edges (chunk_size n p) j p)
  column_once j =
      rw (column_buckets edges (chunk_size n p) j p)
      (buckets_whole _ _ p (λ k d h. below_test _ (All-filter _ (IsBelow n) edges ends k d h).source))

  pub hold_once : HoldOnce edges n (chunk_size n p) p
  hold_once =
      let some_in : 0 < chunk_size n p = omega arith in
      record {
        by_column = column_once;
        whole =
            IsPermutation-trans _ _ _ (buckets_whole (λ e. part_at (chunk_size n p) e.target.0) edges p (λ k d h. below_test _ (ends k d h).target))
            (flat_map-permutation _ _ column_once (range_with_len 0 p));
        sources = λ i j. block_sources edges n (chunk_size n p) i j some_in ends;
        targets = λ i j. block_targets edges n (chunk_size n p) i j some_in ends;
      }
