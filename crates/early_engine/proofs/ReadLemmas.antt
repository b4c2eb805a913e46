-- How many blocks an iteration reads at most.
use Rattle.std.proofs.Common.{◌≡◌, ℕ, zero, suc, ◌+◌, ◌-◌, ◌*◌, ◌/◌, ◌==◌, ◌≤◌, ◌&&◌, Bool, true, false, not, cond, nat_lt, List, [], ◌∷◌, count_by, flat_map, length, refl, ◌∙◌, arith, add-one, length-append}
use Rattle.std.specs.List.{range_with_len}
use Rattle.std.proofs.Math.Nat.{add-mul}
use Rattle.std.proofs.lemmas.Bool.{lt-ltb, ne_eqb}
use Rattle.std.proofs.lemmas.List.{length-map}
use Rattle.std.proofs.lemmas.List.FromFn.{length-range_with_len}
use Rattle.std.proofs.lemmas.List.Sums.{count_by-le-length, length-filter, sum_by-cons}
use Rattle.lumos_report.specs.declared.records.Kind.{Kind}
use Rattle.lumos_report.specs.declared.records.Kind.TheVariants.{Full, Fed}
use Rattle.early_engine.specs.Passes.{Place, passes, place_at, places, reads, rows_of, tally_of}
use Rattle.early_engine.specs.Steps.{blocks_in}

read_few : (size : Place → ℕ) (need : Place → Bool) (bs : List Place) → length (reads size need bs) ≤ length bs
read_few size need bs =
    let test : Place → Bool = λ b. nat_lt 0 (size b) && need b in
    omega (arith, length-filter test bs, count_by-le-length test bs)

rows_long : (kind : Kind) (p j : ℕ) → length (places kind p j) ≡ length (rows_of kind p j)
rows_long kind p j = length-map (rows_of kind p j) (λ i. place_at i j)

-- the blocks of n columns from a on
full_long : (p n a : ℕ) → length (flat_map (places Full p) (range_with_len a n)) ≡ n * p
full_long p zero a = omega arith
full_long p (suc n) a =
    let one : length (places Full p a) ≡ p = rows_long Full p a ∙ length-range_with_len 0 p in
    let more = length-append (places Full p a) (flat_map (places Full p) (range_with_len (a + 1) n)) in
    let rest = full_long p n (a + 1) in
    let product : suc n * p ≡ n * p + p = omega (arith, add-mul n 1 p, add-one n) in
    omega (arith, one, more, rest, product)

fed_long : (p n a : ℕ) → a + n ≡ p → 2 * length (flat_map (places Fed p) (range_with_len a n)) ≡ n * (n + 1)
fed_long p zero a all = omega arith
fed_long p (suc n) a all =
    let one : length (places Fed p a) ≡ p - a = rows_long Fed p a ∙ length-range_with_len a (p - a) in
    let more = length-append (places Fed p a) (flat_map (places Fed p) (range_with_len (a + 1) n)) in
    let rest = fed_long p n (a + 1) (omega arith) in
    let product : suc n * (suc n + 1) ≡ n * (n + 1) + 2 * suc n = grind arith in
    omega (arith, one, more, rest, product, all)

pub full_few : (size : Place → ℕ) (p : ℕ) (need : Place → Bool) → length (reads size need (passes Full p)) ≤ p * p
full_few size p need = omega (arith, read_few size need (passes Full p), full_long p p 0)

pub fed_few : (size : Place → ℕ) (p : ℕ) (need : Place → Bool) → length (reads size need (passes Fed p)) ≤ p * (p + 1) / 2
fed_few size p need =
    let same : 0 + p ≡ p = omega arith in
    omega (arith, read_few size need (passes Fed p), fed_long p p 0 same)

-- a block is read, skipped or empty
one_way : (n : ℕ) (q : Bool) → cond (nat_lt 0 n && q) 1 0 + cond (nat_lt 0 n && not q) 1 0 + cond (n == 0) 1 0 ≡ 1
one_way zero q = refl
one_way (suc k) q =
    let some = lt-ltb 0 (suc k) (omega arith) in
    let apart : (suc k == 0) ≡ false = ne_eqb (suc k) 0 (λ e. omega arith) in
    (λ i. cond (some i && q) 1 0 + cond (some i && not q) 1 0 + cond (apart i) 1 0) ∙ by q
  where
    by : (b : Bool) → cond b 1 0 + cond (not b) 1 0 + 0 ≡ 1
    by true = refl
    by false = refl

ways : (size : Place → ℕ) (need : Place → Bool) (bs : List Place)
    → count_by (λ b. nat_lt 0 (size b) && need b) bs + count_by (λ b. nat_lt 0 (size b) && not (need b)) bs + count_by (λ b. size b == 0) bs ≡ length bs
ways size need [] = omega arith
ways size need (b ∷ bs) =
    let read : count_by (λ b. nat_lt 0 (size b) && need b) (b ∷ bs) ≡ cond (nat_lt 0 (size b) && need b) 1 0 + count_by (λ b. nat_lt 0 (size b) && need b) bs = sum_by-cons (λ x. cond (nat_lt 0 (size x) && need x) 1 0) b bs in
    let skipped : count_by (λ b. nat_lt 0 (size b) && not (need b)) (b ∷ bs) ≡ cond (nat_lt 0 (size b) && not (need b)) 1 0 + count_by (λ b. nat_lt 0 (size b) && not (need b)) bs = sum_by-cons (λ x. cond (nat_lt 0 (size x) && not (need x)) 1 0) b bs in
    let empty : count_by (λ b. size b == 0) (b ∷ bs) ≡ cond (size b == 0) 1 0 + count_by (λ b. size b == 0) bs = sum_by-cons (λ x. cond (size x == 0) 1 0) b bs in
    let one = one_way (size b) (need b) in
    let rest = ways size need bs in
    omega (arith, read, skipped, empty, one, rest)

pub all_counted : (kind : Kind) (size : Place → ℕ) (need : Place → Bool) (bs : List Place) (moved : ℕ) → blocks_in (tally_of kind size need bs moved) ≡ length bs
all_counted Full size need bs moved =
    let long = length-filter (λ b. nat_lt 0 (size b) && need b) bs in
    let all = ways size need bs in
    omega arith
all_counted Fed size need bs moved =
    let long = length-filter (λ b. nat_lt 0 (size b) && need b) bs in
    let all = ways size need bs in
    omega arith
