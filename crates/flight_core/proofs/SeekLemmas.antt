-- Marks and kept chunks, sought from the front of a list.
use Rattle.std.proofs.Common.{◌≡◌, ℕ, zero, suc, ◌+◌, ◌<◌, Bool, true, false, cond, List, [], ◌∷◌, ◌++◌, length, take, get_or, remove, Option, Some, None, refl, sym, ap, ◌∙◌, arith}
use Rattle.std.specs.Option.{option_or}
use Rattle.std.proofs.lemmas.List.{take_more}
use Rattle.flight_core.specs.Events.{Kept, is_mark, mark_of, is_kept, kept_of, without}
use Rattle.flight_core.specs.declared.mark.Mark.{Mark}

or_cond : {X : Type 0} (b : Bool) (x : X) (o p : Option X) → cond b (Some x) (option_or o p) ≡ option_or (cond b (Some x) o) p
or_cond true x o p = refl
or_cond false x o p = refl

module _ (t i j : ℕ) where
  -- two lists one after the other
  pub mark_of-append : (xs ys : List Mark) → mark_of (xs ++ ys) t i j ≡ option_or (mark_of xs t i j) (mark_of ys t i j)
  mark_of-append [] ys = refl
  mark_of-append (m ∷ xs) ys =
      ap (λ o. cond (is_mark t i j m) (Some m.is_fed) o) (mark_of-append xs ys) ∙ or_cond (is_mark t i j m) m.is_fed (mark_of xs t i j) (mark_of ys t i j)

  -- the first place whose mark is that of the triple
  pub mark_hit : (ms : List Mark) (k : ℕ) (d : Mark) → k < length ms → mark_of (take k ms) t i j ≡ None → is_mark t i j (get_or ms k d) ≡ true → mark_of ms t i j ≡ Some (get_or ms k d).is_fed
  mark_hit [] k d below none hit = absurd (omega arith)
  mark_hit (m ∷ ms) zero d below none hit = ap (λ b. cond b (Some m.is_fed) (mark_of ms t i j)) hit
  mark_hit (m ∷ ms) (suc k) d below none hit = by_test (is_mark t i j m) none (λ rest. mark_hit ms k d (omega arith) rest hit)
    where
      by_test : (b : Bool) → cond b (Some m.is_fed) (mark_of (take k ms) t i j) ≡ None → (mark_of (take k ms) t i j ≡ None → mark_of ms t i j ≡ Some (get_or ms k d).is_fed)
          → cond b (Some m.is_fed) (mark_of ms t i j) ≡ Some (get_or ms k d).is_fed
      by_test true before rest = absurd (let e : Some m.is_fed ≡ None = before in cc)
      by_test false before rest = rest before

  -- one mark more, of another triple
  pub mark_miss : (ms : List Mark) (k : ℕ) (d : Mark) → k < length ms → mark_of (take k ms) t i j ≡ None → is_mark t i j (get_or ms k d) ≡ false → mark_of (take (k + 1) ms) t i j ≡ None
  mark_miss ms k d below none miss =
      ap (λ l. mark_of l t i j) (take_more ms k d below) ∙ mark_of-append (take k ms) (get_or ms k d ∷ [])
      ∙ ap (λ o. option_or o (cond (is_mark t i j (get_or ms k d)) (Some (get_or ms k d).is_fed) None)) none ∙ ap (λ b. cond b (Some (get_or ms k d).is_fed) None) miss

module _ {X : Type 0} (t j : ℕ) where
  pub kept_of-append : (xs ys : List (Kept X)) → kept_of (xs ++ ys) t j ≡ option_or (kept_of xs t j) (kept_of ys t j)
  kept_of-append [] ys = refl
  kept_of-append (k ∷ xs) ys =
      ap (λ o. cond (is_kept t j k) (Some k.items) o) (kept_of-append xs ys) ∙ or_cond (is_kept t j k) k.items (kept_of xs t j) (kept_of ys t j)

  -- the first place at which the chunk is kept
  pub kept_hit : (ks : List (Kept X)) (a : ℕ) (d : Kept X) → a < length ks → kept_of (take a ks) t j ≡ None → is_kept t j (get_or ks a d) ≡ true → kept_of ks t j ≡ Some (get_or ks a d).items
  kept_hit [] a d below none hit = absurd (omega arith)
  kept_hit (k ∷ ks) zero d below none hit = ap (λ b. cond b (Some k.items) (kept_of ks t j)) hit
  kept_hit (k ∷ ks) (suc a) d below none hit = by_test (is_kept t j k) none (λ rest. kept_hit ks a d (omega arith) rest hit)
    where
      by_test : (b : Bool) → cond b (Some k.items) (kept_of (take a ks) t j) ≡ None → (kept_of (take a ks) t j ≡ None → kept_of ks t j ≡ Some (get_or ks a d).items)
          → cond b (Some k.items) (kept_of ks t j) ≡ Some (get_or ks a d).items
      by_test true before rest = absurd (let e : Some k.items ≡ None = before in cc)
      by_test false before rest = rest before

  -- one more, which is of another chunk
  pub kept_miss : (ks : List (Kept X)) (a : ℕ) (d : Kept X) → a < length ks → kept_of (take a ks) t j ≡ None → is_kept t j (get_or ks a d) ≡ false → kept_of (take (a + 1) ks) t j ≡ None
  kept_miss ks a d below none miss =
      ap (λ l. kept_of l t j) (take_more ks a d below) ∙ kept_of-append (take a ks) (get_or ks a d ∷ [])
      ∙ ap (λ o. option_or o (cond (is_kept t j (get_or ks a d)) (Some (get_or ks a d).items) None)) none ∙ ap (λ b. cond b (Some (get_or ks a d).items) None) miss

  -- the first place at which the chunk is kept, left out
  pub without_hit : (ks : List (Kept X)) (a : ℕ) (d : Kept X) → a < length ks → kept_of (take a ks) t j ≡ None → is_kept t j (get_or ks a d) ≡ true → remove ks a ≡ without ks t j
  without_hit [] a d below none hit = absurd (omega arith)
  without_hit (k ∷ ks) zero d below none hit = sym (ap (λ b. cond b ks (k ∷ without ks t j)) hit)
  without_hit (k ∷ ks) (suc a) d below none hit = by_test (is_kept t j k) none (λ rest. without_hit ks a d (omega arith) rest hit)
    where
      by_test : (b : Bool) → cond b (Some k.items) (kept_of (take a ks) t j) ≡ None → (kept_of (take a ks) t j ≡ None → remove ks a ≡ without ks t j)
          → k ∷ remove ks a ≡ cond b ks (k ∷ without ks t j)
      by_test true before rest = absurd (let e : Some k.items ≡ None = before in cc)
      by_test false before rest = ap (λ l. k ∷ l) (rest before)

  -- where the chunk isn't kept there is nothing to leave out
  pub without_none : (ks : List (Kept X)) → kept_of ks t j ≡ None → without ks t j ≡ ks
  without_none [] none = refl
  without_none (k ∷ ks) none = by_test (is_kept t j k) none (λ rest. without_none ks rest)
    where
      by_test : (b : Bool) → cond b (Some k.items) (kept_of ks t j) ≡ None → (kept_of ks t j ≡ None → without ks t j ≡ ks) → cond b ks (k ∷ without ks t j) ≡ k ∷ ks
      by_test true before rest = absurd (let e : Some k.items ≡ None = before in cc)
      by_test false before rest = ap (λ l. k ∷ l) (rest before)
