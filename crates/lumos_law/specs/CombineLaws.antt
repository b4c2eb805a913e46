-- The laws of the four combines, and of their bytes.
use Rattle.std.proofs.Common.{◌≡◌, ℕ, suc, ◌+◌, ◌*◌, ◌^◌, ◌<◌, Bool, true, false, cond, nat_lt, min, List, ◌++◌, drop, refl, sym, ap, ◌∙◌, arith}
use Rattle.std.proofs.lemmas.Bool.Decides.{nat_tests}
use Rattle.std.proofs.lemmas.Bool.{ltb-true, ltb-false}
use Rattle.byteorder.specs.Endian.{little_bytes}
use Rattle.byteorder.specs.Numbers.{little_number-reads_back}
use Rattle.lumos_base.specs.Bytes.{IsBytes}
use Rattle.lumos_base.specs.ByteLaws.{IsBytes-append, IsBytes-drop, number_reads_back, number_in_range, number_bytes}
use Rattle.lumos_law.specs.Combines.{least, IsLeast, least_of, total, IsTotal, saturating, total_of, total4, IsTotal4, total4_bytes, total4_from, total4_of, triple, IsTriple, triple_bytes, triple_from, most_triple, comes_before, triple_of}
use Rattle.lumos_law.specs.Joins.{JoinLaws}
use Rattle.lumos_law.specs.declared.combines.LeastTriple.{LeastTriple}
use Rattle.lumos_law.specs.declared.combines.Total4.{Total4}

-- the smaller of two numbers up to `most` keeps the laws, with `most` as its unit
pub min_laws : (most : ℕ) → JoinLaws (λ n. n < suc most) most min
min_laws most = record {
  unit_in = omega arith;
  join_in = λ x y h k. omega arith;
  commutes = λ x y h k. omega arith;
  associates = λ x y z h k l. omega arith;
  starts = λ x h. omega arith;
}

-- the saturating sum keeps the laws, with 0 as its unit
pub saturating_laws : JoinLaws (λ n. n < 2 ^ 64) 0 saturating
saturating_laws = record {
  unit_in = omega arith;
  join_in = λ x y h k. omega arith;
  commutes = λ x y h k. omega arith;
  associates = λ x y z h k l. omega arith;
  starts = λ x h. omega arith;
}

-- a join keeps the laws where each sum is known by a number, and the numbers' own join keeps them
module _ {S : Type 0} {In : S → Type 0} {unit : S} {join : S → S → S} (number : S → ℕ)
    (same : (x y : S) → In x → In y → number x ≡ number y → x ≡ y)
    (unit_in : In unit) (join_in : (x y : S) → In x → In y → In (join x y))
    {InNumber : ℕ → Type 0} {first : ℕ} {op : ℕ → ℕ → ℕ} (laws : JoinLaws InNumber first op)
    (number_in : (x : S) → In x → InNumber (number x)) (unit_is : number unit ≡ first)
    (join_is : (x y : S) → In x → In y → number (join x y) ≡ op (number x) (number y)) where
  pub laws_by_number : JoinLaws In unit join
  laws_by_number = record {
    unit_in = unit_in;
    join_in = join_in;
    commutes = λ x y h k.
        same _ _ (join_in x y h k) (join_in y x k h)
        (join_is x y h k ∙ laws.commutes _ _ (number_in x h) (number_in y k) ∙ sym (join_is y x k h));
    associates = λ x y z h k l.
        same _ _ (join_in _ z (join_in x y h k) l) (join_in x _ h (join_in y z k l))
        (join_is _ z (join_in x y h k) l ∙ ap (λ n. op n (number z)) (join_is x y h k)
        ∙ laws.associates _ _ _ (number_in x h) (number_in y k) (number_in z l)
        ∙ ap (op (number x)) (sym (join_is y z k l)) ∙ sym (join_is x _ h (join_in y z k l)));
    starts = λ x h.
        same _ _ (join_in unit x unit_in h) h
        (join_is unit x unit_in h ∙ ap (λ n. op n (number x)) unit_is ∙ laws.starts _ (number_in x h));
  }

pub least_laws : JoinLaws IsLeast (least 18446744073709551615) least_of
least_laws =
    laws_by_number (λ s. s.0) (λ x y h k e. ap least e) (omega arith) (λ x y h k. omega arith)
    (min_laws 18446744073709551615) (λ x h. h) refl (λ x y h k. refl)

pub total_laws : JoinLaws IsTotal (total 0) total_of
total_laws =
    laws_by_number (λ s. s.0) (λ x y h k e. ap total e) (omega arith) (λ x y h k. omega arith)
    saturating_laws (λ x h. h) refl (λ x y h k. refl)

-- a `Total4` keeps the laws since each of its fields does
pub total4_laws : JoinLaws IsTotal4 (total4 0 0 0 0) total4_of
total4_laws =
    let each = saturating_laws in
    record {
      unit_in = record { a = each.unit_in; b = each.unit_in; c = each.unit_in; d = each.unit_in };
      join_in = λ x y h k. record {
        a = each.join_in _ _ h.a k.a;
        b = each.join_in _ _ h.b k.b;
        c = each.join_in _ _ h.c k.c;
        d = each.join_in _ _ h.d k.d;
      };
      commutes = λ x y h k i.
          total4 (each.commutes _ _ h.a k.a i) (each.commutes _ _ h.b k.b i) (each.commutes _ _ h.c k.c i) (each.commutes _ _ h.d k.d i);
      associates = λ x y z h k l i.
          total4 (each.associates _ _ _ h.a k.a l.a i) (each.associates _ _ _ h.b k.b l.b i)
          (each.associates _ _ _ h.c k.c l.c i) (each.associates _ _ _ h.d k.d l.d i);
      starts = λ x h i.
          total4 (each.starts _ h.a i) (each.starts _ h.b i) (each.starts _ h.c i) (each.starts _ h.d i);
    }

-- a triple as one number, in the same order
abbrev rank_of : LeastTriple → ℕ
rank_of s = (s.cost * 4294967296 + s.hops) * 4294967296 + s.last

rank_in : (s : LeastTriple) → IsTriple s → rank_of s < 2 ^ 128
rank_in s h = let c = h.cost in let o = h.hops in let l = h.last in omega arith

-- a triple in range is known by its number
rank_same : (a b : LeastTriple) → IsTriple a → IsTriple b → rank_of a ≡ rank_of b → a ≡ b
rank_same a b h k same =
    let ha = h.hops in let la = h.last in let hb = k.hops in let lb = k.last in
    let cost : a.cost ≡ b.cost = omega arith in
    let hops : a.hops ≡ b.hops = omega arith in
    let last : a.last ≡ b.last = omega arith in
    λ i. triple (cost i) (hops i) (last i)

before_is : (a b : LeastTriple) → IsTriple a → IsTriple b → comes_before b a ≡ nat_lt (rank_of b) (rank_of a)
before_is a b h k =
    let ha = h.hops in let la = h.last in let hb = k.hops in let lb = k.last in
    grind (arith, nat_tests)

smaller_by : (t : Bool) (a b : LeastTriple) → nat_lt (rank_of b) (rank_of a) ≡ t → rank_of (cond t b a) ≡ min (rank_of a) (rank_of b)
smaller_by true a b is = let h = ltb-true (rank_of b) (rank_of a) is in omega arith
smaller_by false a b is = let h = ltb-false (rank_of b) (rank_of a) is in omega arith

one_in : (t : Bool) (a b : LeastTriple) → IsTriple a → IsTriple b → IsTriple (cond t b a)
one_in true a b h k = k
one_in false a b h k = h

-- the triples keep the laws since their numbers do
pub triple_laws : JoinLaws IsTriple most_triple triple_of
triple_laws =
    laws_by_number rank_of rank_same (record { cost = omega arith; hops = omega arith; last = omega arith })
    (λ x y h k. one_in (comes_before y x) x y h k)
    (min_laws (rank_of most_triple)) rank_in refl
    (λ x y h k. smaller_by (comes_before y x) x y (sym (before_is x y h k)))

-- a `Total4` in range is read back from its bytes
pub total4_reads_back : (s : Total4) → IsTotal4 s → total4_from (total4_bytes s) ≡ s
total4_reads_back s h =
    let a = little_number-reads_back 8 s.a (little_bytes 8 s.b ++ little_bytes 8 s.c ++ little_bytes 8 s.d) h.a in
    let b = little_number-reads_back 8 s.b (little_bytes 8 s.c ++ little_bytes 8 s.d) h.b in
    let c = little_number-reads_back 8 s.c (little_bytes 8 s.d) h.c in
    let d = number_reads_back 8 s.d h.d in
    λ i. total4 (a i) (b i) (c i) (d i)

-- bytes stand for a `Total4` in range
pub total4_in_range : (bytes : List ℕ) → IsBytes bytes → IsTotal4 (total4_from bytes)
total4_in_range bytes h = record {
  a = number_in_range 8 bytes h;
  b = number_in_range 8 (drop 8 bytes) (IsBytes-drop 8 bytes h);
  c = number_in_range 8 (drop 16 bytes) (IsBytes-drop 16 bytes h);
  d = number_in_range 8 (drop 24 bytes) (IsBytes-drop 24 bytes h);
}

pub total4_are_bytes : (s : Total4) → IsBytes (total4_bytes s)
total4_are_bytes s =
    let ab = IsBytes-append (little_bytes 8 s.a) (little_bytes 8 s.b) (number_bytes 8 s.a) (number_bytes 8 s.b) in
    let abc = IsBytes-append (little_bytes 8 s.a ++ little_bytes 8 s.b) (little_bytes 8 s.c) ab (number_bytes 8 s.c) in
    IsBytes-append (little_bytes 8 s.a ++ little_bytes 8 s.b ++ little_bytes 8 s.c) (little_bytes 8 s.d) abc (number_bytes 8 s.d)

-- a triple in range is read back from its bytes
pub triple_reads_back : (s : LeastTriple) → IsTriple s → triple_from (triple_bytes s) ≡ s
triple_reads_back s h =
    let cost = little_number-reads_back 8 s.cost (little_bytes 4 s.hops ++ little_bytes 4 s.last) h.cost in
    let hops = little_number-reads_back 4 s.hops (little_bytes 4 s.last) h.hops in
    let last = number_reads_back 4 s.last h.last in
    λ i. triple (cost i) (hops i) (last i)

-- bytes stand for a triple in range
pub triple_in_range : (bytes : List ℕ) → IsBytes bytes → IsTriple (triple_from bytes)
triple_in_range bytes h = record {
  cost = number_in_range 8 bytes h;
  hops = number_in_range 4 (drop 8 bytes) (IsBytes-drop 8 bytes h);
  last = number_in_range 4 (drop 12 bytes) (IsBytes-drop 12 bytes h);
}

pub triple_are_bytes : (s : LeastTriple) → IsBytes (triple_bytes s)
triple_are_bytes s =
    IsBytes-append (little_bytes 8 s.cost ++ little_bytes 4 s.hops) (little_bytes 4 s.last)
    (IsBytes-append (little_bytes 8 s.cost) (little_bytes 4 s.hops) (number_bytes 8 s.cost) (number_bytes 4 s.hops))
    (number_bytes 4 s.last)
