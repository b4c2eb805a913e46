-- What is kept and marked after one more.
use Rattle.std.proofs.Common.{◌≡◌, ◌==◌, ◌⊎◌, ◌&&◌, ℕ, zero, suc, ◌+◌, ◌<◌, ◌≤◌, nat_lt, Bool, true, false, not, cond, List, [], ◌∷◌, count_by, find, Option, Some, None, option_map, refl, sym, ap, ap₂, ◌∙◌, inl, inr, arith}
use Rattle.std.specs.List.{range_with_len}
use Rattle.std.specs.Option.{option_or, is_some}
use Rattle.std.proofs.lemmas.Bool.{and_parts, eqb-true, eq-eqb, ne_eqb, ltb-true, cases_eq}
use Rattle.std.proofs.lemmas.List.Sums.{sum_by-cons}
use Rattle.flight_core.specs.Events.{Kept, is_mark, mark_of, is_kept, kept_of, without, mark, keep, reason_if}
use Rattle.flight_core.specs.Sound.{was_fed}
use Rattle.flight_core.specs.declared.event.Illegal.{Illegal}
use Rattle.flight_core.specs.declared.mark.Mark.{Mark}

-- refusals
pub no_reason : (b : Bool) (why : Illegal) → reason_if b why ≡ None → b ≡ false
no_reason true why h = absurd (let e : Some why ≡ None = h in cc)
no_reason false why h = refl

pub neither_of : {X : Type 0} (x y : Option X) → option_or x y ≡ None → (x ≡ None) × (y ≡ None)
neither_of None y h = (refl, h)
neither_of (Some x) y h = absurd (let e : Some x ≡ None = h in cc)

pub no_map : {X Y : Type 0} (f : X → Y) (o : Option X) → option_map f o ≡ None → o ≡ None
no_map f None h = refl
no_map f (Some x) h = absurd (let e : Some (f x) ≡ None = h in cc)

pub not_none : {X : Type 0} (o : Option X) → is_some o ≡ false → o ≡ None
not_none None h = refl
not_none (Some x) h = absurd (let e : true ≡ false = h in cc)

pub some_of : {X : Type 0} (o : Option X) → is_some o ≡ true → (x : X) × (o ≡ Some x)
some_of None h = absurd (let e : false ≡ true = h in cc)
some_of (Some x) h = (x, refl)

pub bound_parts : (t bound i j parts : ℕ) → (nat_lt 0 t && (nat_lt t (bound + 1) && (nat_lt i parts && nat_lt j parts))) ≡ true → (0 < t) × (i < parts) × (j < parts)
bound_parts t bound i j parts h =
    let one = and_parts (nat_lt 0 t) _ h in
    let two = and_parts (nat_lt t (bound + 1)) _ one.1 in
    let three = and_parts (nat_lt i parts) _ two.1 in
    (ltb-true 0 t one.0, ltb-true i parts three.0, ltb-true j parts three.1)

pub head_none : (b : Bool) (x : ℕ) (rest : Option ℕ) → cond b (Some x) rest ≡ None → (b ≡ false) × (rest ≡ None)
head_none true x rest h = absurd (let e : Some x ≡ None = h in cc)
head_none false x rest h = (refl, h)

-- where no number of a range passes, none below its end does
pub none_in : (q : ℕ → Bool) (first n v : ℕ) → find q (range_with_len first n) ≡ None → first ≤ v → v < first + n → q v ≡ false
none_in q first zero v none low high = absurd (omega arith)
none_in q first (suc n) v none low high =
    let parts = head_none (q first) first (find q (range_with_len (first + 1) n)) none in
    here parts.0 (cases_eq v first) (λ apart. none_in q (first + 1) n v parts.1 (omega arith) (omega arith))
  where
    here : q first ≡ false → (v ≡ first) ⊎ (v ≡ first → ⊥) → ((v ≡ first → ⊥) → q v ≡ false) → q v ≡ false
    here off (inl same) later = ap q same ∙ off
    here off (inr apart) later = later apart

-- keys
pub same_pair : (a b t j : ℕ) → ((a == t) && (b == j)) ≡ true → (a ≡ t) × (b ≡ j)
same_pair a b t j h = let both = and_parts (a == t) (b == j) h in (eqb-true a t both.0, eqb-true b j both.1)

pub self_pair : (t j : ℕ) → ((t == t) && (j == j)) ≡ true
self_pair t j = rw (eq-eqb t t refl, eq-eqb j j refl) refl

pub same_triple : (a b c t i j : ℕ) → ((a == t) && ((b == i) && (c == j))) ≡ true → (a ≡ t) × (b ≡ i) × (c ≡ j)
same_triple a b c t i j h =
    let one = and_parts (a == t) ((b == i) && (c == j)) h in
    let two = and_parts (b == i) (c == j) one.1 in
    (eqb-true a t one.0, eqb-true b i two.0, eqb-true c j two.1)

pub self_triple : (t i j : ℕ) → ((t == t) && ((i == i) && (j == j))) ≡ true
self_triple t i j = rw (eq-eqb t t refl, eq-eqb i i refl, eq-eqb j j refl) refl

module _ {X : Type 0} where
  pub kept_same : (t j : ℕ) (xs : List X) (ks : List (Kept X)) → kept_of (keep t j xs ∷ ks) t j ≡ Some xs
  kept_same t j xs ks = ap (λ b. cond b (Some xs) (kept_of ks t j)) (self_pair t j)

  pub kept_other : (a b t j : ℕ) (xs : List X) (ks : List (Kept X)) → ((a == t) && (b == j)) ≡ false → kept_of (keep a b xs ∷ ks) t j ≡ kept_of ks t j
  kept_other a b t j xs ks other = ap (λ q. cond q (Some xs) (kept_of ks t j)) other

  pub without_other : (a b t j : ℕ) → ((a == t) && (b == j)) ≡ false → (ks : List (Kept X)) → kept_of (without ks a b) t j ≡ kept_of ks t j
  without_other a b t j other [] = refl
  without_other a b t j other (k ∷ ks) = by_test (is_kept a b k) refl (without_other a b t j other ks)
    where
      by_test : (q : Bool) → is_kept a b k ≡ q → kept_of (without ks a b) t j ≡ kept_of ks t j
          → kept_of (cond q ks (k ∷ without ks a b)) t j ≡ kept_of (k ∷ ks) t j
      by_test true is rest =
          let same = same_pair k.time k.column a b is in
          let miss : is_kept t j k ≡ false = ap₂ (λ x y. (x == t) && (y == j)) same.0 same.1 ∙ other in
          sym (ap (λ q. cond q (Some k.items) (kept_of ks t j)) miss)
      by_test false is rest = ap (λ o. cond (is_kept t j k) (Some k.items) o) rest

pub mark_same : (t i j : ℕ) (b : Bool) (ms : List Mark) → mark_of (mark t i j b ∷ ms) t i j ≡ Some b
mark_same t i j b ms = ap (λ q. cond q (Some b) (mark_of ms t i j)) (self_triple t i j)

pub mark_other : (a d e t i j : ℕ) (b : Bool) (ms : List Mark) → ((a == t) && ((d == i) && (e == j))) ≡ false → mark_of (mark a d e b ∷ ms) t i j ≡ mark_of ms t i j
mark_other a d e t i j b ms other = ap (λ q. cond q (Some b) (mark_of ms t i j)) other

-- a triple that isn't done stands nowhere among the marks
pub unmarked : (t i j : ℕ) (ms : List Mark) → mark_of ms t i j ≡ None → count_by (is_mark t i j) ms ≡ 0
unmarked t i j [] h = refl
unmarked t i j (m ∷ ms) h = sum_by-cons (λ x. cond (is_mark t i j x) 1 0) m ms ∙ by_test (is_mark t i j m) h (λ rest. unmarked t i j ms rest)
  where
    by_test : (q : Bool) → cond q (Some m.is_fed) (mark_of ms t i j) ≡ None → (mark_of ms t i j ≡ None → count_by (is_mark t i j) ms ≡ 0) → cond q 1 0 + count_by (is_mark t i j) ms ≡ 0
    by_test true none rest = absurd (let e : Some m.is_fed ≡ None = none in cc)
    by_test false none rest = let zero_rest = rest none in omega arith

pub once_more : (a d e t i j : ℕ) (b : Bool) (ms : List Mark) → mark_of ms a d e ≡ None → count_by (is_mark t i j) ms ≤ 1 → count_by (is_mark t i j) (mark a d e b ∷ ms) ≤ 1
once_more a d e t i j b ms fresh once =
    let more = sum_by-cons (λ x. cond (is_mark t i j x) 1 0) (mark a d e b) ms in
    rw more (by_test ((a == t) && ((d == i) && (e == j))) refl)
  where
    by_test : (q : Bool) → ((a == t) && ((d == i) && (e == j))) ≡ q → cond q 1 0 + count_by (is_mark t i j) ms ≤ 1
    by_test true is =
        let same = same_triple a d e t i j is in
        let here : mark_of ms t i j ≡ None = rw (← same.0, ← same.1, ← same.2) fresh in
        let none = unmarked t i j ms here in
        omega arith
    by_test false is = omega arith

-- one mark more
pub more_done : (a d e t i j : ℕ) (b : Bool) (ms : List Mark) → is_some (mark_of ms t i j) ≡ true → is_some (mark_of (mark a d e b ∷ ms) t i j) ≡ true
more_done a d e t i j b ms h = by_test ((a == t) && ((d == i) && (e == j)))
  where
    by_test : (q : Bool) → is_some (cond q (Some b) (mark_of ms t i j)) ≡ true
    by_test true = refl
    by_test false = h

pub done_cases : (a d e t i j : ℕ) (b : Bool) (ms : List Mark) → is_some (mark_of (mark a d e b ∷ ms) t i j) ≡ true → ((a ≡ t) × (d ≡ i) × (e ≡ j)) ⊎ (is_some (mark_of ms t i j) ≡ true)
done_cases a d e t i j b ms h = by_test ((a == t) && ((d == i) && (e == j))) refl h
  where
    by_test : (q : Bool) → ((a == t) && ((d == i) && (e == j))) ≡ q → is_some (cond q (Some b) (mark_of ms t i j)) ≡ true → ((a ≡ t) × (d ≡ i) × (e ≡ j)) ⊎ (is_some (mark_of ms t i j) ≡ true)
    by_test true is h = inl (same_triple a d e t i j is)
    by_test false is h = inr h

pub mark_cases : (a d e t i j : ℕ) (b x : Bool) (ms : List Mark) → mark_of (mark a d e b ∷ ms) t i j ≡ Some x → ((a ≡ t) × (d ≡ i) × (e ≡ j) × (b ≡ x)) ⊎ (mark_of ms t i j ≡ Some x)
mark_cases a d e t i j b x ms h = by_test ((a == t) && ((d == i) && (e == j))) refl h
  where
    by_test : (q : Bool) → ((a == t) && ((d == i) && (e == j))) ≡ q → cond q (Some b) (mark_of ms t i j) ≡ Some x → ((a ≡ t) × (d ≡ i) × (e ≡ j) × (b ≡ x)) ⊎ (mark_of ms t i j ≡ Some x)
    by_test true is h = let same = same_triple a d e t i j is in let value : b ≡ x = cc in inl (same.0, same.1, same.2, value)
    by_test false is h = inr h

-- the rows of a column that were fed, after one more
pub row_first : (t i j x : ℕ) (ms : List Mark) → (was_fed (mark_of (mark t i j true ∷ ms) t x j) && was_fed (mark_of ms t x j)) ≡ was_fed (mark_of ms t x j)
row_first t i j x ms = by_test ((t == t) && ((i == x) && (j == j))) (was_fed (mark_of ms t x j)) refl
  where
    by_test : (q w : Bool) → was_fed (mark_of ms t x j) ≡ w → (was_fed (cond q (Some true) (mark_of ms t x j)) && was_fed (mark_of ms t x j)) ≡ was_fed (mark_of ms t x j)
    by_test true w is = refl
    by_test false true is = rw is refl
    by_test false false is = rw is refl

pub row_second : (t i j x : ℕ) (ms : List Mark) → mark_of ms t i j ≡ None → (was_fed (mark_of (mark t i j true ∷ ms) t x j) && not (was_fed (mark_of ms t x j))) ≡ (x == i)
row_second t i j x ms fresh = by_case (cases_eq x i)
  where
    on : (w : Bool) → w ≡ false → not w ≡ true
    on false is = refl
    on true is = absurd (let e : true ≡ false = is in cc)

    off : (w : Bool) → (w && not w) ≡ false
    off true = refl
    off false = refl

    by_case : (x ≡ i) ⊎ (x ≡ i → ⊥) → (was_fed (mark_of (mark t i j true ∷ ms) t x j) && not (was_fed (mark_of ms t x j))) ≡ (x == i)
    by_case (inl same) =
        let here : mark_of ms t x j ≡ None = rw same fresh in
        let hit : ((t == t) && ((i == x) && (j == j))) ≡ true = rw (same, self_triple t i j) refl in
        rw (hit, here, eq-eqb x i same) refl
    by_case (inr apart) =
        let miss : (i == x) ≡ false = ne_eqb i x (λ e. apart (sym e)) in
        let wrong : ((t == t) && ((i == x) && (j == j))) ≡ false = rw (miss, eq-eqb t t refl) refl in
        rw (wrong, ne_eqb x i apart) (off (was_fed (mark_of ms t x j)))

-- a skipped row isn't fed
pub row_skipped : (a i b t x j : ℕ) (ms : List Mark) → mark_of ms a i b ≡ None → was_fed (mark_of (mark a i b false ∷ ms) t x j) ≡ was_fed (mark_of ms t x j)
row_skipped a i b t x j ms fresh = by_test ((a == t) && ((i == x) && (b == j))) refl
  where
    by_test : (q : Bool) → ((a == t) && ((i == x) && (b == j))) ≡ q → was_fed (cond q (Some false) (mark_of ms t x j)) ≡ was_fed (mark_of ms t x j)
    by_test true is =
        let same = same_triple a i b t x j is in
        let here : mark_of ms t x j ≡ None = rw (← same.0, ← same.1, ← same.2) fresh in
        sym (ap was_fed here)
    by_test false is = refl

pub column_off : (a r b : Bool) → (a && b) ≡ false → (a && (r && b)) ≡ false
column_off true true b h = h
column_off true false b h = refl
column_off false r b h = refl

-- one list more
pub more_kept : {X : Type 0} (a b t j : ℕ) (xs : List X) (ks : List (Kept X)) → is_some (kept_of ks t j) ≡ true → is_some (kept_of (keep a b xs ∷ ks) t j) ≡ true
more_kept a b t j xs ks h = by_test ((a == t) && (b == j))
  where
    by_test : (q : Bool) → is_some (cond q (Some xs) (kept_of ks t j)) ≡ true
    by_test true = refl
    by_test false = h

pub kept_cases : {X : Type 0} (a b t j : ℕ) (xs ys : List X) (ks : List (Kept X)) → kept_of (keep a b xs ∷ ks) t j ≡ Some ys → ((a ≡ t) × (b ≡ j) × (xs ≡ ys)) ⊎ (kept_of ks t j ≡ Some ys)
kept_cases a b t j xs ys ks h = by_test ((a == t) && (b == j)) refl h
  where
    by_test : (q : Bool) → ((a == t) && (b == j)) ≡ q → cond q (Some xs) (kept_of ks t j) ≡ Some ys → ((a ≡ t) × (b ≡ j) × (xs ≡ ys)) ⊎ (kept_of ks t j ≡ Some ys)
    by_test true is h = let same = same_pair a b t j is in let value : xs ≡ ys = cc in inl (same.0, same.1, value)
    by_test false is h = inr h

pub not_kept : {X : Type 0} (a b t j : ℕ) (xs : List X) (ks : List (Kept X)) → is_some (kept_of (keep a b xs ∷ ks) t j) ≡ false → (((a == t) && (b == j)) ≡ false) × (is_some (kept_of ks t j) ≡ false)
not_kept a b t j xs ks h = by_test ((a == t) && (b == j)) refl h
  where
    by_test : (q : Bool) → ((a == t) && (b == j)) ≡ q → is_some (cond q (Some xs) (kept_of ks t j)) ≡ false → (((a == t) && (b == j)) ≡ false) × (is_some (kept_of ks t j) ≡ false)
    by_test true is h = absurd (let e : true ≡ false = h in cc)
    by_test false is h = (is, h)
