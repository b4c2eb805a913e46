-- Numbers sought in a range, and the tests of ranges of vertices.
use Rattle.std.proofs.Common.{◌≡◌, ◌⊎◌, ◌==◌, ◌&&◌, ℕ, zero, suc, ◌+◌, ◌/◌, ◌<◌, ◌≤◌, nat_lt, Bool, true, false, not, cond, List, [], ◌∷◌, ◌++◌, find, Some, None, sym, ap, ap₂, ◌∙◌, inl, inr, arith, add-one}
use Rattle.std.specs.List.{range_with_len}
use Rattle.std.proofs.lemmas.Bool.{and_parts, cases_Bool, cases_eq, eq-eqb, ne_eqb, ltb-true}
use Rattle.std.proofs.lemmas.Bool.Decides.{nat_tests}
use Rattle.lumos_base.specs.declared.records.Edge.{Edge}
use Rattle.lumos_law.proofs.SumLemmas.{filter-append}
use Rattle.partition.specs.Blocks.{block}
use Rattle.partition.specs.Parts.{part_at, part_range}
use Rattle.partition.proofs.RangeLemmas.{in_part, of_part}
use Rattle.flight_core.specs.Ranges.{is_in, is_between}
use Rattle.flight_core.proofs.LookLemmas.{head_none}

-- where the first numbers of a range fail and the next one passes, it is the one that is found
pub find_hit : (q : ℕ → Bool) (a n k v : ℕ) → v ≡ a + k → k < n → find q (range_with_len a k) ≡ None → q v ≡ true → find q (range_with_len a n) ≡ Some v
find_hit q a zero k v is below none hit = absurd (omega arith)
find_hit q a (suc n) zero v is below none hit =
    let here : v ≡ a = omega arith in
    ap (λ b. cond b (Some a) (find q (range_with_len (a + 1) n))) (ap q (sym here) ∙ hit) ∙ ap Some (sym here)
find_hit q a (suc n) (suc k) v is below none hit =
    let parts = head_none (q a) a (find q (range_with_len (a + 1) k)) none in
    ap (λ b. cond b (Some a) (find q (range_with_len (a + 1) n))) parts.0 ∙ find_hit q (a + 1) n k v (omega arith) (omega arith) parts.1 hit

miss_by : (q : ℕ → Bool) (a n v : ℕ) → v ≡ a + n → find q (range_with_len a n) ≡ None → q v ≡ false → find q (range_with_len a (suc n)) ≡ None
miss_by q a zero v is none miss =
    let here : a ≡ v = omega arith in
    ap (λ b. cond b (Some a) None) (ap q here ∙ miss)
miss_by q a (suc n) v is none miss =
    let parts = head_none (q a) a (find q (range_with_len (a + 1) n)) none in
    ap (λ b. cond b (Some a) (find q (range_with_len (a + 1) (suc n)))) parts.0 ∙ miss_by q (a + 1) n v (omega arith) parts.1 miss

-- one number more that fails
pub find_miss : (q : ℕ → Bool) (a n v : ℕ) → v ≡ a + n → find q (range_with_len a n) ≡ None → q v ≡ false → find q (range_with_len a (n + 1)) ≡ None
find_miss q a n v is none miss = ap (λ m. find q (range_with_len a m)) (add-one n) ∙ miss_by q a n v is none miss

between : (a b v : ℕ) → a ≤ v → v < b → (not (nat_lt v a) && nat_lt v b) ≡ true
between a b v low high = grind (arith, nat_tests)

within : (a b v : ℕ) → (not (nat_lt v a) && nat_lt v b) ≡ true → (a ≤ v) × (v < b)
within a b v h =
    let parts = and_parts (not (nat_lt v a)) (nat_lt v b) h in
    (at_least parts.0, ltb-true v b parts.1)
  where
    at_least : not (nat_lt v a) ≡ true → a ≤ v
    at_least test = grind (arith, nat_tests)

-- a vertex lies in a part's range where it is a vertex of that part
pub is_in_part : (n c i v : ℕ) → 0 < c → v < n → is_in (part_range n c i) v ≡ (part_at c v == i)
is_in_part n c i v some below = by_case (cases_eq (v / c) i)
  where
    outside : (is_in (part_range n c i) v ≡ true) ⊎ (is_in (part_range n c i) v ≡ false) → (v / c ≡ i → ⊥) → is_in (part_range n c i) v ≡ false
    outside (inl inside) apart =
        let ends = within (part_range n c i).first (part_range n c i).past v inside in
        let low = ends.0 in
        let high = ends.1 in
        absurd (apart (of_part n c i v (record { low = low; high = omega arith })).1)
    outside (inr other) apart = other

    by_case : (v / c ≡ i) ⊎ (v / c ≡ i → ⊥) → is_in (part_range n c i) v ≡ (part_at c v == i)
    by_case (inl same) =
        let inside = in_part n c i v some below same in
        let low = inside.low in
        let high = inside.high in
        between (part_range n c i).first (part_range n c i).past v low (omega arith) ∙ sym (eq-eqb (v / c) i same)
    by_case (inr apart) = outside (cases_Bool (is_in (part_range n c i) v)) apart ∙ sym (ne_eqb (v / c) i apart)

-- an edge lies in a block where it leads from the range of its row into that of its column
pub is_in_block : (n c i j : ℕ) (e : Edge) → 0 < c → e.source.0 < n → e.target.0 < n
    → is_between (part_range n c i) (part_range n c j) e ≡ ((part_at c e.source.0 == i) && (part_at c e.target.0 == j))
is_in_block n c i j e some source target =
    ap₂ ◌&&◌ (is_in_part n c i e.source.0 some source) (is_in_part n c j e.target.0 some target)

-- one edge more of a block
pub block_more : (edges : List Edge) (e : Edge) (c i j : ℕ) → block (edges ++ e ∷ []) c i j ≡ block edges c i j ++ cond ((part_at c e.source.0 == i) && (part_at c e.target.0 == j)) (e ∷ []) []
block_more edges e c i j = filter-append (λ d. (part_at c d.source.0 == i) && (part_at c d.target.0 == j)) edges (e ∷ [])
