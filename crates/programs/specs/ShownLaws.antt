-- Numbers shown in decimal: what the laws of a program ask of its shown texts.
use Rattle.std.proofs.Common.{◌≡◌, ◌≢◌, ◌==◌, ◌↔◌, ℕ, zero, suc, ◌+◌, ◌%◌, ◌^◌, ◌<◌, ◌≤◌, Bool, true, false, not, IsTrue, eqb, decimal, List, [], ◌∷◌, ◌++◌, length, drop, get_or, refl, ap, ap₂, arith}
use Rattle.std.proofs.lemmas.Bool.{eqb-true, eq-eqb}
use Rattle.std.proofs.lemmas.Fmt.{decimal_by_steps, decimal_injective, length-decimal-le}

apart_by : (b : Bool) (m n : ℕ) → eqb m n ≡ b → m < 2 ^ 64 → n < 2 ^ 64 → IsTrue (not b) ↔ (decimal m ≢ decimal n)
apart_by true m n e h k = (λ t same. cc, λ apart. absurd (apart (ap decimal (eqb-true m n e))))
apart_by false m n e h k = (λ t same. let equal = eq-eqb m n (decimal_injective m n h k same) in cc, λ apart. refl)

-- two numbers differ exactly where their texts do
pub shown_apart : (m n : ℕ) → m < 2 ^ 64 → n < 2 ^ 64 → IsTrue (not (m == n)) ↔ (decimal m ≢ decimal n)
shown_apart m n h k = apart_by (eqb m n) m n refl h k

-- a number's text has at most 96 bytes
pub shown_short : (n : ℕ) → n < 2 ^ 64 → length (decimal n) ≤ 96
shown_short n h = let short = length-decimal-le 20 n (omega arith) (omega arith) in omega arith

-- no byte of a text comes before the digits
abbrev pub IsHigh : List ℕ → Type 0
IsHigh text = (i : ℕ) → 48 ≤ get_or text i 48

digit_alone : (n : ℕ) → n < 10 → IsHigh ((48 + n) ∷ [])
digit_alone n h zero = omega arith
digit_alone n h (suc i) = omega arith

digit_more : (n : ℕ) (digits : List ℕ) → IsHigh digits → IsHigh (digits ++ ((48 + n % 10) ∷ []))
digit_more n [] each zero = omega arith
digit_more n [] each (suc i) = omega arith
digit_more n (d ∷ digits) each zero = each zero
digit_more n (d ∷ digits) each (suc i) = digit_more n digits (λ k. each (suc k)) i

-- so it is with a number's text
pub shown_high : (n : ℕ) → n < 2 ^ 64 → IsHigh (decimal n)
shown_high = decimal_by_steps (λ n text. IsHigh text) digit_alone (λ n digits h each. digit_more n digits each)

-- texts before the first space are the same where the whole texts are, and so is what stands behind it
pub same_front : (xs ys us vs : List ℕ) → IsHigh xs → IsHigh ys → xs ++ 32 ∷ us ≡ ys ++ 32 ∷ vs → (xs ≡ ys) × (us ≡ vs)
same_front [] [] us vs h k same = (refl, ap (drop 1) same)
same_front [] (y ∷ ys) us vs h k same =
    absurd (let first = ap (λ l. get_or l 0 0) same in let high = k 0 in omega (arith, first, high))
same_front (x ∷ xs) [] us vs h k same =
    absurd (let first = ap (λ l. get_or l 0 0) same in let high = h 0 in omega (arith, first, high))
same_front (x ∷ xs) (y ∷ ys) us vs h k same =
    let rest = same_front xs ys us vs (λ i. h (suc i)) (λ i. k (suc i)) (ap (drop 1) same) in
    (ap₂ (λ a l. a ∷ l) (ap (λ l. get_or l 0 0) same) rest.0, rest.1)
