-- The laws of `Spreading`, and of the bytes of its values.
use Rattle.std.proofs.Common.{◌≡◌, ◌≢◌, ◌==◌, ◌&&◌, ◌||◌, ◌↔◌, ℕ, zero, suc, ◌*◌, ◌/◌, ◌^◌, ◌<◌, ◌≤◌, Bool, true, false, not, cond, nat_lt, min, IsTrue, List, ◌++◌, length, drop, decimal, Option, Some, None, refl, ap, ◌∙◌, codes, length-append, arith}
use Rattle.std.proofs.Math.Nat.{zero-div, zero-mul}
use Rattle.std.proofs.lemmas.Bool.{eqb-true, eq-eqb}
use Rattle.std.proofs.lemmas.Bool.Decides.{nat_tests}
use Rattle.std.proofs.lemmas.Fmt.{decimal_injective, length-decimal-le}
use Rattle.byteorder.specs.Endian.{little_bytes}
use Rattle.byteorder.specs.Numbers.{little_number-reads_back}
use Rattle.lumos_base.specs.ByteLaws.{IsBytes-append, IsBytes-drop, number_bytes, number_in_range, number_reads_back}
use Rattle.lumos_base.specs.Bytes.{IsBytes}
use Rattle.lumos_law.specs.CombineLaws.{total4_laws}
use Rattle.lumos_law.specs.Combines.{IsTotal4, total4}
use Rattle.lumos_law.specs.Program.{Lawful}
use Rattle.programs.specs.Numbers.{part_by_weight}
use Rattle.programs.specs.Seeds.{class_of}
use Rattle.programs.specs.ShownLaws.{same_front, shown_high}
use Rattle.programs.specs.Spreading.{scores_with, IsScores, scores_bytes, scores_from, start_by, has_score, four_texts, spreading_program}
use Rattle.programs.specs.declared.seeds.Seed.{Seed}
use Rattle.programs.specs.declared.spreading.Scores.{Scores}

-- a value in range is read back from its bytes
pub scores_reads_back : (x : Scores) → IsScores x → scores_from (scores_bytes x) ≡ x
scores_reads_back x h =
    let a = little_number-reads_back 8 x.a (little_bytes 8 x.b ++ little_bytes 8 x.c ++ little_bytes 8 x.d ++ little_bytes 8 x.weight) h.a in
    let b = little_number-reads_back 8 x.b (little_bytes 8 x.c ++ little_bytes 8 x.d ++ little_bytes 8 x.weight) h.b in
    let c = little_number-reads_back 8 x.c (little_bytes 8 x.d ++ little_bytes 8 x.weight) h.c in
    let d = little_number-reads_back 8 x.d (little_bytes 8 x.weight) h.d in
    let w = number_reads_back 8 x.weight h.weight in
    λ i. scores_with (a i) (b i) (c i) (d i) (w i)

-- bytes stand for a value in range
pub scores_in_range : (bytes : List ℕ) → IsBytes bytes → IsScores (scores_from bytes)
scores_in_range bytes h = record {
  a = number_in_range 8 bytes h;
  b = number_in_range 8 (drop 8 bytes) (IsBytes-drop 8 bytes h);
  c = number_in_range 8 (drop 16 bytes) (IsBytes-drop 16 bytes h);
  d = number_in_range 8 (drop 24 bytes) (IsBytes-drop 24 bytes h);
  weight = number_in_range 8 (drop 32 bytes) (IsBytes-drop 32 bytes h);
}

pub scores_are_bytes : (x : Scores) → IsBytes (scores_bytes x)
scores_are_bytes x =
    let last = little_bytes 8 x.d ++ little_bytes 8 x.weight in
    let d = IsBytes-append (little_bytes 8 x.d) (little_bytes 8 x.weight) (number_bytes 8 x.d) (number_bytes 8 x.weight) in
    let c = IsBytes-append (little_bytes 8 x.c) last (number_bytes 8 x.c) d in
    let b = IsBytes-append (little_bytes 8 x.b) (little_bytes 8 x.c ++ last) (number_bytes 8 x.b) c in
    IsBytes-append (little_bytes 8 x.a) (little_bytes 8 x.b ++ little_bytes 8 x.c ++ last) (number_bytes 8 x.a) b

start_in : (unit : ℕ) (own : Option ℕ) (class : ℕ) → unit < 2 ^ 64 → start_by unit own class < 2 ^ 64
start_in unit None class fits = omega arith
start_in unit (Some own) class fits = by_test (own == class)
  where
    by_test : (b : Bool) → cond b unit 0 < 2 ^ 64
    by_test true = fits
    by_test false = omega arith

part_in : (b : Bool) (n : ℕ) → cond b 0 (min n 18446744073709551615) < 2 ^ 64
part_in true n = omega arith
part_in false n = omega arith

-- a vertex without edges, or without a score, gives nothing
no_weight : (b : Bool) (score w out : ℕ) → (out == 0) ≡ b → nat_lt 0 out ≡ false → cond b 0 (min (score * w / out) 18446744073709551615) ≡ 0
no_weight true score w out is none = refl
no_weight false score w out is none = absurd (grind (arith, nat_tests))

no_score : (b : Bool) (score w out : ℕ) → nat_lt 0 score ≡ false → cond b 0 (min (score * w / out) 18446744073709551615) ≡ 0
no_score true score w out none = refl
no_score false zero w out none =
    let nothing : 0 * w / out ≡ 0 = ap (λ n. n / out) (zero-mul w) ∙ zero-div out in omega (arith, nothing)
no_score false (suc score) w out none = absurd (grind (arith, nat_tests))

or_false : (a b : Bool) → (a || b) ≡ false → (a ≡ false) × (b ≡ false)
or_false true b none = absurd (cc)
or_false false b none = (refl, none)

silent_by : (b : Bool) (x : Scores) (w : ℕ) → nat_lt 0 x.weight ≡ b → (b && has_score x) ≡ false
    → total4 (part_by_weight x.a w x.weight) (part_by_weight x.b w x.weight) (part_by_weight x.c w x.weight) (part_by_weight x.d w x.weight)
    ≡ total4 0 0 0 0
silent_by false x w none all =
    λ i. total4 (no_weight (x.weight == 0) x.a w x.weight refl none i) (no_weight (x.weight == 0) x.b w x.weight refl none i)
    (no_weight (x.weight == 0) x.c w x.weight refl none i) (no_weight (x.weight == 0) x.d w x.weight refl none i)
silent_by true x w some all =
    let last = or_false (nat_lt 0 x.a || nat_lt 0 x.b || nat_lt 0 x.c) (nat_lt 0 x.d) all in
    let third = or_false (nat_lt 0 x.a || nat_lt 0 x.b) (nat_lt 0 x.c) last.0 in
    let second = or_false (nat_lt 0 x.a) (nat_lt 0 x.b) third.0 in
    λ i. total4 (no_score (x.weight == 0) x.a w x.weight second.0 i) (no_score (x.weight == 0) x.b w x.weight second.1 i)
    (no_score (x.weight == 0) x.c w x.weight third.1 i) (no_score (x.weight == 0) x.d w x.weight last.1 i)

-- the four numbers are the same where their texts are
pub record AreSame (x y : Scores) : Type 0 where
  pub a : x.a ≡ y.a
  pub b : x.b ≡ y.b
  pub c : x.c ≡ y.c
  pub d : x.d ≡ y.d

-- what stands behind the first spaces
abbrev two_texts : Scores → List ℕ
two_texts x = decimal x.c ++ (codes " " ++ decimal x.d)

abbrev three_texts : Scores → List ℕ
three_texts x = decimal x.b ++ (codes " " ++ two_texts x)

same_numbers : (x y : Scores) → IsScores x → IsScores y → four_texts x.a x.b x.c x.d ≡ four_texts y.a y.b y.c y.d → AreSame x y
same_numbers x y h k same =
    let first = same_front (decimal x.a) (decimal y.a) (three_texts x) (three_texts y) (shown_high x.a h.a) (shown_high y.a k.a) same in
    let second = same_front (decimal x.b) (decimal y.b) (two_texts x) (two_texts y) (shown_high x.b h.b) (shown_high y.b k.b) first.1 in
    let third = same_front (decimal x.c) (decimal y.c) (decimal x.d) (decimal y.d) (shown_high x.c h.c) (shown_high y.c k.c) second.1 in
    record {
      a = decimal_injective x.a y.a h.a k.a first.0;
      b = decimal_injective x.b y.b h.b k.b second.0;
      c = decimal_injective x.c y.c h.c k.c third.0;
      d = decimal_injective x.d y.d h.d k.d third.1;
    }

abbrev alike : Scores → Scores → Bool
alike x y = (x.a == y.a) && (x.b == y.b) && (x.c == y.c) && (x.d == y.d)

and_true : (a b : Bool) → (a && b) ≡ true → (a ≡ true) × (b ≡ true)
and_true true b both = (refl, both)
and_true false b both = absurd (cc)

alike_same : (x y : Scores) → alike x y ≡ true → AreSame x y
alike_same x y all =
    let last = and_true ((x.a == y.a) && (x.b == y.b) && (x.c == y.c)) (x.d == y.d) all in
    let third = and_true ((x.a == y.a) && (x.b == y.b)) (x.c == y.c) last.0 in
    let second = and_true (x.a == y.a) (x.b == y.b) third.0 in
    record {
      a = eqb-true x.a y.a second.0;
      b = eqb-true x.b y.b second.1;
      c = eqb-true x.c y.c third.1;
      d = eqb-true x.d y.d last.1;
    }

same_alike : (x y : Scores) → AreSame x y → alike x y ≡ true
same_alike x y same =
    let a = eq-eqb x.a y.a same.a in let b = eq-eqb x.b y.b same.b in
    let c = eq-eqb x.c y.c same.c in let d = eq-eqb x.d y.d same.d in
    rw a (rw b (rw c d))

same_texts : (x y : Scores) → AreSame x y → four_texts x.a x.b x.c x.d ≡ four_texts y.a y.b y.c y.d
same_texts x y same i = four_texts (same.a i) (same.b i) (same.c i) (same.d i)

moves_by : (b : Bool) (x y : Scores) → alike x y ≡ b → IsScores x → IsScores y
    → IsTrue (not b) ↔ (four_texts x.a x.b x.c x.d ≢ four_texts y.a y.b y.c y.d)
moves_by true x y is h k = (λ t same. cc, λ apart. absurd (apart (same_texts x y (alike_same x y is))))
moves_by false x y is h k = (λ t same. let equal = same_alike x y (same_numbers x y h k same) in cc, λ apart. refl)

texts_short : (x : Scores) → IsScores x → length (four_texts x.a x.b x.c x.d) ≤ 96
texts_short x h =
    let a = length-decimal-le 20 x.a (omega arith) (let fits = h.a in omega arith) in
    let b = length-decimal-le 20 x.b (omega arith) (let fits = h.b in omega arith) in
    let c = length-decimal-le 20 x.c (omega arith) (let fits = h.c in omega arith) in
    let d = length-decimal-le 20 x.d (omega arith) (let fits = h.d in omega arith) in
    let last = decimal x.d in
    omega (
      arith,
      length-append (decimal x.a) (codes " " ++ three_texts x),
      length-append (decimal x.b) (codes " " ++ two_texts x),
      length-append (decimal x.c) (codes " " ++ last),
    )

pub spreading_lawful : (unit share : ℕ) (seeds : List Seed) → unit < 2 ^ 64 → Lawful IsScores IsTotal4 (spreading_program unit share seeds)
spreading_lawful unit share seeds fits = record {
  joins = total4_laws;
  init_in = λ v info h k. record {
    a = start_in unit (class_of seeds v) 0 fits;
    b = start_in unit (class_of seeds v) 1 fits;
    c = start_in unit (class_of seeds v) 2 fits;
    d = start_in unit (class_of seeds v) 3 fits;
    weight = k.weight;
  };
  contribution_in = λ x w h k. record {
    a = part_in (x.weight == 0) _;
    b = part_in (x.weight == 0) _;
    c = part_in (x.weight == 0) _;
    d = part_in (x.weight == 0) _;
  };
  apply_in = λ v x s h k l. record {
    a = omega arith;
    b = omega arith;
    c = omega arith;
    d = omega arith;
    weight = k.weight;
  };
  silent = λ x w h k none. silent_by (nat_lt 0 x.weight) x w refl none;
  moves = λ x y h k. moves_by (alike x y) x y refl h k;
  short = λ x h. texts_short x h;
}
