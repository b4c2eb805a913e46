-- Where an iteration is in its blocks: which are done, and which chunks are final.
use Rattle.std.proofs.Common.{◌≡◌, ◌==◌, ◌⊎◌, ◌&&◌, ◌||◌, ℕ, suc, ◌+◌, ◌-◌, ◌%◌, ◌<◌, ◌≤◌, nat_lt, Bool, true, false, cond, refl, sym, ap, ◌∙◌, inl, inr, arith}
use Rattle.std.specs.List.{range_with_len}
use Rattle.std.proofs.lemmas.Bool.{cases_eq, ne_eqb, eq-eqb, eqb-true, lt-ltb, ltb-true, le-ltb, and_parts, and_right, or_from}
use Rattle.std.proofs.lemmas.Bool.Decides.{nat_tests}
use Rattle.lumos_report.specs.declared.records.Kind.{Kind}
use Rattle.lumos_report.specs.declared.records.Kind.TheVariants.{Full, Fed}
use Rattle.early_engine.specs.Passes.{feeds_ahead, kind_of, rows_of}
use Rattle.early_engine.specs.declared.options.Mode.{Mode}
use Rattle.early_engine.specs.declared.options.Mode.TheVariants as mode

-- whether block (r,k) comes before block (i,j) in column order
abbrev pub comes_before : ℕ → ℕ → ℕ → ℕ → Bool
comes_before r k i j = nat_lt k j || ((k == j) && nat_lt r i)

-- whether chunk k is final in iteration u, where iteration t is in column j
abbrev pub final_at : ℕ → ℕ → ℕ → ℕ → Bool
final_at t j u k = nat_lt u t || ((u == t) && nat_lt k j)

-- the kind of an iteration, by whether the one before fed it ahead
abbrev pub kind_by : Bool → Kind
kind_by was = cond was Fed Full

-- its first row in column j
abbrev pub first_row : Bool → ℕ → ℕ
first_row was j = cond was j 0

-- rows
pub rows_are : (was : Bool) (p j : ℕ) → rows_of (kind_by was) p j ≡ range_with_len (first_row was j) (p - first_row was j)
rows_are true p j = refl
rows_are false p j = let all : p ≡ p - 0 = omega arith in ap (range_with_len 0) all

pub first_low : (was : Bool) (p j : ℕ) → j < p → first_row was j ≤ p
first_low true p j low = omega arith
first_low false p j low = omega arith

pub first_on : (was : Bool) (i j : ℕ) → first_row was j ≤ i → was ≡ true → j ≤ i
first_on true i j low on = low
first_on false i j low on = absurd (let e : false ≡ true = on in cc)

or_turn : (a b c : Bool) → (a || (b || c)) ≡ ((a || b) || c)
or_turn true b c = refl
or_turn false b c = refl

before_more : (i j r k : ℕ) → (((i == r) && (j == k)) || comes_before r k i j) ≡ comes_before r k (i + 1) j
before_more i j r k = grind (arith, nat_tests)

not_before : (i j : ℕ) → comes_before i j i j ≡ false
not_before i j = grind (arith, nat_tests)

none_before : (r k : ℕ) → comes_before r k 0 0 ≡ false
none_before r k = grind (arith, nat_tests)

-- one row more, with what was fed ahead
pub row_now : (i j r k : ℕ) (fed : Bool) → (((i == r) && (j == k)) || (comes_before r k i j || fed)) ≡ (comes_before r k (i + 1) j || fed)
row_now i j r k fed = or_turn ((i == r) && (j == k)) (comes_before r k i j) fed ∙ ap (λ b. b || fed) (before_more i j r k)

-- one row more, which is fed ahead
pub row_ahead : (ahead : Bool) (i j r k : ℕ) → ahead ≡ true → i < j
    → (((i == r) && (j == k)) || (ahead && (nat_lt r k && comes_before r k i j))) ≡ (ahead && (nat_lt r k && comes_before r k (i + 1) j))
row_ahead true i j r k on high = grind (arith, nat_tests, high)
row_ahead false i j r k on high = absurd (let e : false ≡ true = on in cc)

-- one row more, which isn't
pub row_behind : (ahead : Bool) (i j r k : ℕ) → (ahead && nat_lt i j) ≡ false
    → (ahead && (nat_lt r k && comes_before r k i j)) ≡ (ahead && (nat_lt r k && comes_before r k (i + 1) j))
row_behind true i j r k off = grind (arith, nat_tests, off)
row_behind false i j r k off = refl

-- a row that comes isn't done
pub now_fresh : (was : Bool) (i j : ℕ) → (was ≡ true → j ≤ i) → (comes_before i j i j || (was && nat_lt i j)) ≡ false
now_fresh true i j low = or_from _ _ (not_before i j) (le-ltb i j (low refl))
now_fresh false i j low = or_from _ _ (not_before i j) refl

pub next_fresh : (ahead : Bool) (i j : ℕ) → (ahead && (nat_lt i j && comes_before i j i j)) ≡ false
next_fresh ahead i j = and_right ahead _ (and_right (nat_lt i j) _ (not_before i j))

-- at the end of a column all its rows are done
pub rows_done : (p j r : ℕ) (fed : Bool) → r < p → (comes_before r j p j || fed) ≡ true
rows_done p j r fed low = ap (λ b. b || fed) (all_before p j r low)
  where
    all_before : (p j r : ℕ) → r < p → comes_before r j p j ≡ true
    all_before p j r low = grind (arith, nat_tests, low)

column_full : (p j r k : ℕ) → r < p → comes_before r k p j ≡ comes_before r k 0 (j + 1)
column_full p j r k low = grind (arith, nat_tests, low)

-- one column more
pub column_now : (was : Bool) (p j r k : ℕ) → r < p
    → (comes_before r k p j || (was && nat_lt r k)) ≡ (comes_before r k (first_row was (j + 1)) (j + 1) || (was && nat_lt r k))
column_now true p j r k low = grind (arith, nat_tests, low)
column_now false p j r k low = ap (λ b. b || false) (column_full p j r k low)

pub column_next : (was ahead : Bool) (p j r k : ℕ) → r < p → (was ≡ true → ahead ≡ false)
    → (ahead && (nat_lt r k && comes_before r k p j)) ≡ (ahead && (nat_lt r k && comes_before r k (first_row was (j + 1)) (j + 1)))
column_next true true p j r k low kinds = absurd (let e : true ≡ false = kinds refl in cc)
column_next true false p j r k low kinds = refl
column_next false ahead p j r k low kinds = ap (λ b. ahead && (nat_lt r k && b)) (column_full p j r k low)

pub column_final : (t j u k : ℕ) → (((t == u) && (j == k)) || final_at t j u k) ≡ final_at t (j + 1) u k
column_final t j u k = grind (arith, nat_tests)

-- one iteration more
pub turn_now : (ahead : Bool) (p i r k : ℕ) → k < p
    → (ahead && (nat_lt r k && comes_before r k i p)) ≡ (comes_before r k (first_row ahead 0) 0 || (ahead && nat_lt r k))
turn_now true p i r k low = grind (arith, nat_tests, low)
turn_now false p i r k low = sym (or_from _ _ (none_before r k) refl)

pub turn_next : (was ahead : Bool) (r k : ℕ) → (ahead && (nat_lt r k && comes_before r k (first_row was 0) 0)) ≡ false
turn_next true ahead r k = and_right ahead _ (and_right (nat_lt r k) _ (none_before r k))
turn_next false ahead r k = and_right ahead _ (and_right (nat_lt r k) _ (none_before r k))

pub turn_final : (t p u k : ℕ) → k < p → final_at t p u k ≡ final_at (suc t) 0 u k
turn_final t p u k low = grind (arith, nat_tests, low)

pub done_now : (was : Bool) (r k : ℕ) → (comes_before r k (first_row was 0) 0 || (was && nat_lt r k)) ≡ (was && nat_lt r k)
done_now true r k = ap (λ b. b || nat_lt r k) (none_before r k)
done_now false r k = ap (λ b. b || false) (none_before r k)

pub final_now : (t u k : ℕ) → final_at (suc t) 0 u k ≡ nat_lt u (suc t)
final_now t u k = grind (arith, nat_tests)

-- which chunks are final
pub not_final : (t j : ℕ) → final_at t j t j ≡ false
not_final t j = grind (arith, nat_tests)

pub later_open : (t j : ℕ) → final_at t j (suc t) j ≡ false
later_open t j = grind (arith, nat_tests)

pub before_final : (t j k : ℕ) → final_at (suc t) j t k ≡ true
before_final t j k = grind (arith, nat_tests)

pub source_final : (t j i : ℕ) → i < j → final_at t j t i ≡ true
source_final t j i low = grind (arith, nat_tests, low)

pub first_final_zero : (k : ℕ) → final_at 1 0 0 k ≡ true
first_final_zero k = refl

pub first_final_more : (u k : ℕ) → final_at 1 0 (suc u) k ≡ false
first_final_more u k = grind (arith, nat_tests)

-- the kinds of iterations
pub ahead_zero : (m : Mode) (limit : ℕ) → feeds_ahead m limit 0 ≡ false
ahead_zero mode.Plain limit = refl
ahead_zero mode.Fed limit = refl

pub kind_next : (m : Mode) (limit t : ℕ) → t < limit → kind_of m (suc t) ≡ kind_by (feeds_ahead m limit t)
kind_next mode.Plain limit t low = refl
kind_next mode.Fed limit t low = by_parity (cases_eq (t % 2) 0)
  where
    by_parity : (t % 2 ≡ 0) ⊎ (t % 2 ≡ 0 → ⊥) → kind_of mode.Fed (suc t) ≡ kind_by (feeds_ahead mode.Fed limit t)
    by_parity (inl even) =
        let next : (suc t % 2 == 1) ≡ true = eq-eqb (suc t % 2) 1 (omega arith) in
        let off : (t % 2 == 1) ≡ false = ne_eqb (t % 2) 1 (λ one. omega arith) in
        rw (next, off) refl
    by_parity (inr odd) =
        let next : (suc t % 2 == 1) ≡ false = ne_eqb (suc t % 2) 1 (λ one. odd (omega arith)) in
        let on : (t % 2 == 1) ≡ true = eq-eqb (t % 2) 1 (grind (arith, odd)) in
        rw (next, on, lt-ltb t limit low) refl

pub ahead_low : (m : Mode) (limit t : ℕ) → feeds_ahead m limit t ≡ true → t < limit
ahead_low mode.Plain limit t on = absurd (let e : false ≡ true = on in cc)
ahead_low mode.Fed limit t on = ltb-true t limit (and_parts (t % 2 == 1) (nat_lt t limit) on).1

-- an iteration that was fed ahead doesn't feed ahead
pub ahead_turns : (m : Mode) (limit t : ℕ) → feeds_ahead m limit t ≡ true → feeds_ahead m limit (suc t) ≡ false
ahead_turns mode.Plain limit t on = refl
ahead_turns mode.Fed limit t on =
    let odd : t % 2 ≡ 1 = eqb-true (t % 2) 1 (and_parts (t % 2 == 1) (nat_lt t limit) on).0 in
    let even : (suc t % 2 == 1) ≡ false = ne_eqb (suc t % 2) 1 (λ one. omega arith) in
    ap (λ b. b && nat_lt (suc t) limit) even
