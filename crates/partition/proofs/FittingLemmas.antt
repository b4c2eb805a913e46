-- The first number that fits.
use Rattle.std.proofs.Common.{◌≡◌, ◌<◌, ◌≤◌, ◌+◌, ◌-◌, ℕ, zero, suc, Bool, true, false, cond, nat_lt, Some, None, refl, sym, subst, arith}
use Rattle.std.specs.List.{find, range_with_len}
use Rattle.std.proofs.lemmas.Bool.Decides.{nat_tests}
use Rattle.partition.specs.Fitting.{IsLeast, NoneFits, fits, least_parts, need_at}

-- the first of so many numbers that passes a test
find_first : (test : ℕ → Bool) (first count p : ℕ) → first ≤ p → p < first + count → test p ≡ true → ((q : ℕ) → first ≤ q → q < p → test q ≡ false) → find test (range_with_len first count) ≡ Some p
find_first test first zero p low high hit before = absurd (omega arith)
find_first test first (suc count) p low high hit before =
    at_first (nat_lt first p) refl (λ next. find_first test (first + 1) count p next (omega arith) hit (λ q after. before q (omega arith)))
  where
    at_first : (b : Bool) → nat_lt first p ≡ b → (first + 1 ≤ p → find test (range_with_len (first + 1) count) ≡ Some p) → find test (range_with_len first (suc count)) ≡ Some p
    at_first true is later =
        let earlier : first < p = grind (arith, nat_tests) in
        rw (before first (omega arith) earlier) (later (omega arith))
    at_first false is later =
        let past : p ≤ first = grind (arith, nat_tests) in
        let same : p ≡ first = omega arith in
        subst (λ q. cond (test q) (Some q) (find test (range_with_len (first + 1) count)) ≡ Some p) same (rw hit refl)

-- none of so many numbers passes a test
find_none : (test : ℕ → Bool) (first count : ℕ) → ((q : ℕ) → first ≤ q → q < first + count → test q ≡ false) → find test (range_with_len first count) ≡ None
find_none test first zero none = refl
find_none test first (suc count) none =
    rw (none first (omega arith) (omega arith)) (find_none test (first + 1) count (λ q low high. none q (omega arith) (omega arith)))

fits_within : (n w b p : ℕ) → need_at n w p ≤ b → fits n w b p ≡ true
fits_within n w b p h = grind (arith, nat_tests)

fits_not : (n w b p : ℕ) → b < need_at n w p → fits n w b p ≡ false
fits_not n w b p h = grind (arith, nat_tests)

pub least_is : (n w b first p : ℕ) → IsLeast n w b first p → Some p ≡ least_parts n w b first
least_is n w b first p h =
    let low = h.from in
    let high = h.most in
    sym (find_first (fits n w b) first (257 - first) p low (omega arith) (fits_within n w b p h.within) (λ q from below. fits_not n w b q (h.least q from below)))

pub none_is : (n w b first : ℕ) → NoneFits n w b first → None ≡ least_parts n w b first
none_is n w b first h =
    sym (find_none (fits n w b) first (257 - first) (λ q low high. fits_not n w b q (h q low (omega arith))))
