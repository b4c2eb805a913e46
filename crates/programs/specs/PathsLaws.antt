-- The laws of `Paths`.
use Rattle.std.proofs.Common.{◌≡◌, ◌≢◌, ◌==◌, ◌↔◌, ℕ, ◌^◌, ◌<◌, ◌≤◌, Bool, true, false, not, cond, IsTrue, length, codes, decimal, Some, None, refl, sym, subst, ◌∙◌, arith, true≢false}
use Rattle.std.proofs.lemmas.Bool.{eqb-true, eq-eqb, ne_eqb}
use Rattle.lumos_law.specs.CombineLaws.{least_laws}
use Rattle.lumos_law.specs.Combines.{least, IsLeast, saturating}
use Rattle.lumos_law.specs.Program.{Lawful}
use Rattle.programs.specs.Paths.{cost_with, IsCost, cost_text, paths_program}
use Rattle.programs.specs.ShownLaws.{IsHigh, shown_apart, shown_high, shown_short}

-- a number's text is not `-`, which comes before the digits
dash_apart : (n : ℕ) → n < 2 ^ 64 → codes "-" ≡ decimal n → ⊥
dash_apart n h same =
    let high : IsHigh (codes "-") = subst IsHigh (sym same) (shown_high n h) in
    omega (arith, high 0)

-- the number of a known cost isn't that of an unknown one
unlike : (m n most : ℕ) → (m == most) ≡ true → (n == most) ≡ false → IsTrue (not (m == n)) × IsTrue (not (n == m))
unlike m n most is other =
    let apart : m ≡ n → ⊥ = λ same. absurd (true≢false (sym (eq-eqb n most (sym same ∙ eqb-true m most is)) ∙ other)) in
    (rw (ne_eqb m n apart) refl, rw (ne_eqb n m (λ same. apart (sym same))) refl)

-- two costs' texts differ exactly where their numbers do
apart_by : (a b : Bool) (m n : ℕ) → (m == 18446744073709551615) ≡ a → (n == 18446744073709551615) ≡ b → m < 2 ^ 64 → n < 2 ^ 64
    → IsTrue (not (m == n)) ↔ (cost_text (cond a None (Some m)) ≢ cost_text (cond b None (Some n)))
apart_by true true m n d e h k =
    let equal = eq-eqb m n (eqb-true m _ d ∙ sym (eqb-true n _ e)) in
    (λ t same. cc, λ apart. absurd (apart refl))
apart_by true false m n d e h k = (λ t same. dash_apart n k same, λ apart. (unlike m n _ d e).0)
apart_by false true m n d e h k = (λ t same. dash_apart m h (sym same), λ apart. (unlike n m _ e d).1)
apart_by false false m n d e h k = shown_apart m n h k

given_in : (b : Bool) (n w : ℕ) → n < 2 ^ 64 → IsLeast (cond b (least (saturating n w)) (least 18446744073709551615))
given_in true n w h = omega arith
given_in false n w h = omega arith

init_in : (b : Bool) → IsCost (cond b (cost_with 0 true) (cost_with 18446744073709551615 false))
init_in true = omega arith
init_in false = omega arith

text_short : (b : Bool) (n : ℕ) → n < 2 ^ 64 → length (cost_text (cond b None (Some n))) ≤ 96
text_short true n h = omega arith
text_short false n h = shown_short n h

pub paths_lawful : (start : ℕ) → Lawful IsCost IsLeast (paths_program start)
paths_lawful start = record {
  joins = least_laws;
  init_in = λ v info h k. init_in (v == start);
  contribution_in = λ x w h k. given_in x.fresh x.cost w h;
  apply_in = λ v x s h k l. omega arith;
  silent = λ x w h k none. rw none refl;
  moves = λ x y h k. apart_by _ _ x.cost y.cost refl refl h k;
  short = λ x h. text_short (x.cost == 18446744073709551615) x.cost h;
}
