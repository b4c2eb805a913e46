-- A list of seeds, item by item.
use Rattle.std.proofs.Common.{◌≡◌, ◌∙◌, ◌<◌, ◌≤◌, ◌+◌, ℕ, Bool, true, false, not, refl, sym, ap, List, [], ◌∷◌, ◌++◌, length, drop, get_or, Option, Some, None, append-nil, append_assoc, arith, length-append, eqb-true, nat_le, nat_lt, suc, leb-true, subst, ◌-◌}
use Rattle.std.specs.Prelude.{◌==◌, ◌&&◌, ◌||◌, if◌then◌else◌, IfSome, option_and_then}
use Rattle.std.specs.List.{All, after_first, before_first, list_any, slice_split}
use Rattle.std.proofs.lemmas.Bool.Decides.{nat_tests}
use Rattle.std.proofs.lemmas.List.{at_drop_more}
use Rattle.std.proofs.lemmas.List.Elements.{All-cons}
use Rattle.std.proofs.lemmas.List.Folds.{list_any-append}
use Rattle.clap.proofs.WalkLemmas.{both}
use Rattle.lumos_words.specs.Options.{Text}
use Rattle.lumos_words.specs.Fits.{SeedFits, SeedsFit}
use Rattle.lumos_words.specs.Numbers.{are_distinct, are_seeds, class_of, has_vertex, if_new, number_of, seed_before, seed_of, seed_of_parts, seeds_in, seeds_of, vertex_of}
use Rattle.lumos_words.specs.declared.request.SeedWord.{SeedWord}

-- ---- one item after another

abbrev pub with_seed : List SeedWord → Option SeedWord → (List SeedWord → Option (List SeedWord)) → Option (List SeedWord)
with_seed before None next = None
with_seed before (Some seed) next = next (before ++ seed ∷ [])

-- the seeds before, and those of the items, as each is found to be new
unfoldable pub seeds_after : List SeedWord → List Text → Option (List SeedWord)
seeds_after before [] = Some before
seeds_after before (item ∷ rest) = with_seed before (if_new before (seed_of item)) (λ more. seeds_after more rest)

one_item : (before : List SeedWord) (item : Text) (rest : List Text) → seeds_after before (item ∷ rest) ≡ with_seed before (if_new before (seed_of item)) (λ more. seeds_after more rest)
unfolding seeds_after
one_item before item rest = refl

pub seeds_turn : (before : List SeedWord) (pieces : List Text) (n : ℕ) (item : Text) → (n < length pieces) × (item ≡ get_or pieces n item)
    → seeds_after before (drop n pieces) ≡ with_seed before (if_new before (seed_of item)) (λ more. seeds_after more (drop (n + 1) pieces))
seeds_turn before pieces n item h =
    at_drop_more (seeds_after before) pieces n item h.0 ∙ (ap (λ (x : Text). seeds_after before (x ∷ drop (n + 1) pieces)) (sym h.1) ∙ one_item before item (drop (n + 1) pieces))

pub seeds_end : (before : List SeedWord) → seeds_after before [] ≡ Some before
unfolding seeds_after
seeds_end before = refl

-- ---- the same as all at once

abbrev if_seeds : List SeedWord → Option (List SeedWord)
if_seeds seeds = if are_seeds seeds then Some seeds else None

same_number : (n : ℕ) → (n == n) ≡ true
same_number n = grind (arith, nat_tests)

or_neither : (b : Bool) → (b || (false || false)) ≡ b
or_neither true = refl
or_neither false = refl

or_true : (b : Bool) → (b || true) ≡ true
or_true true = refl
or_true false = refl

and_false : (b : Bool) → (b && false) ≡ false
and_false true = refl
and_false false = refl

-- a vertex that stood before stands twice
pub repeats : (before : List SeedWord) (seed : SeedWord) (more : List SeedWord) → has_vertex seed.vertex before ≡ true → are_distinct (before ++ seed ∷ more) ≡ false
repeats [] seed more h = cc
repeats (b ∷ before) seed more h = go (b.vertex == seed.vertex) refl (repeats before seed more)
  where
    go : (e : Bool) → (b.vertex == seed.vertex) ≡ e → (has_vertex seed.vertex before ≡ true → are_distinct (before ++ seed ∷ more) ≡ false) → are_distinct ((b ∷ before) ++ seed ∷ more) ≡ false
    go true e rest =
        let same : b.vertex ≡ seed.vertex = eqb-true b.vertex seed.vertex e in
        let there : has_vertex b.vertex (before ++ seed ∷ more) ≡ true = list_any-append (λ (s : SeedWord). s.vertex == b.vertex) before (seed ∷ more) ∙ rw (same, same_number seed.vertex) (or_true _) in
        rw there refl
    go false e rest = rw (rest (rw e at h)) (and_false _)

-- a new vertex stands once
still_distinct : (before : List SeedWord) (seed : SeedWord) → are_distinct before ≡ true → has_vertex seed.vertex before ≡ false → are_distinct (before ++ seed ∷ []) ≡ true
still_distinct [] seed h new = refl
still_distinct (b ∷ before) seed h new = go (b.vertex == seed.vertex) refl (still_distinct before seed ((both _ _ h).1))
  where
    go : (e : Bool) → (b.vertex == seed.vertex) ≡ e → (has_vertex seed.vertex before ≡ false → are_distinct (before ++ seed ∷ []) ≡ true) → are_distinct ((b ∷ before) ++ seed ∷ []) ≡ true
    go true e rest =
        let bad : true ≡ false = rw e at new in
        cc
    go false e rest =
        let later : has_vertex seed.vertex before ≡ false = rw e at new in
        let other : (seed.vertex == b.vertex) ≡ false = grind (arith, nat_tests, e) in
        let there : has_vertex b.vertex (before ++ seed ∷ []) ≡ has_vertex b.vertex before = list_any-append (λ (s : SeedWord). s.vertex == b.vertex) before (seed ∷ []) ∙ rw other (or_neither _) in
        let first : not (has_vertex b.vertex before) ≡ true = (both _ _ h).0 in
        rw (there, rest later) (rw first refl)

too_long : (a b : ℕ) → nat_lt a 64 ≡ false → nat_le (a + suc b) 64 ≡ false
too_long a b h = grind (arith, nat_tests)

one_more : (a : ℕ) → nat_lt a 64 ≡ true → nat_le (a + 1) 64 ≡ true
one_more a h = grind (arith, nat_tests)

-- the seeds before and those of the items fit together
abbrev Together : List SeedWord → List Text → Type 0
Together before items = seeds_after before items ≡ option_and_then (λ more. if_seeds (before ++ more)) (seeds_in items)

one_together : (before : List SeedWord) (item : Text) (rest : List Text) → are_seeds before ≡ true → ((longer : List SeedWord) → are_seeds longer ≡ true → Together longer rest) → Together before (item ∷ rest)
one_together before item rest fit later = one_item before item rest ∙ go (seed_of item)
  where
    never : (seed : SeedWord) → ((more : List SeedWord) → are_seeds (before ++ seed ∷ more) ≡ false) → (o : Option (List SeedWord))
        → None ≡ option_and_then (λ more. if_seeds (before ++ more)) (seed_before (Some seed) o)
    never seed unfit None = refl
    never seed unfit (Some more) = rw (unfit more) refl

    regrouped : (seed : SeedWord) (o : Option (List SeedWord))
        → option_and_then (λ more. if_seeds ((before ++ seed ∷ []) ++ more)) o ≡ option_and_then (λ more. if_seeds (before ++ more)) (seed_before (Some seed) o)
    regrouped seed None = refl
    regrouped seed (Some more) = ap if_seeds (append_assoc before (seed ∷ []) more)

    new : (seed : SeedWord) (stood room : Bool) → has_vertex seed.vertex before ≡ stood → nat_lt (length before) 64 ≡ room
        → with_seed before (if_new before (Some seed)) (λ more. seeds_after more rest) ≡ option_and_then (λ more. if_seeds (before ++ more)) (seed_before (Some seed) (seeds_in rest))
    new seed true room stood-is room-is =
        rw stood-is (never seed (λ more. rw (repeats before seed more stood-is) (and_false _)) (seeds_in rest))
    new seed false false stood-is room-is =
        rw (stood-is, room-is) (never seed (λ more. rw (length-append before (seed ∷ more), too_long (length before) (length more) room-is) refl) (seeds_in rest))
    new seed false true stood-is room-is =
        let parts = both _ _ fit in
        let longer : are_seeds (before ++ seed ∷ []) ≡ true = rw (length-append before (seed ∷ []), one_more (length before) room-is, still_distinct before seed parts.1 stood-is) refl in
        rw (stood-is, room-is) (later (before ++ seed ∷ []) longer ∙ regrouped seed (seeds_in rest))

    go : (o : Option SeedWord) → with_seed before (if_new before o) (λ more. seeds_after more rest) ≡ option_and_then (λ more. if_seeds (before ++ more)) (seed_before o (seeds_in rest))
    go None = refl
    go (Some seed) = new seed (has_vertex seed.vertex before) (nat_lt (length before) 64) refl refl

each_new : (before : List SeedWord) (items : List Text) → are_seeds before ≡ true → Together before items
each_new before [] fit = seeds_end before ∙ rw (append-nil before, fit) refl
each_new before (item ∷ rest) fit = one_together before item rest fit (λ longer good. each_new longer rest good)

pub seeds_whole : (text : Text) → seeds_after [] (slice_split (λ b. b == 44) text) ≡ seeds_of text
seeds_whole text = each_new [] (slice_split (λ b. b == 44) text) refl

-- ---- they lie in their ranges

class_fits : (text : Text) (class : ℕ) → class_of text ≡ Some class → class ≤ 3
class_fits [] class h = cc
class_fits (byte ∷ []) class h = go (nat_le 48 byte && nat_le byte 51) refl
  where
    go : (b : Bool) → (nat_le 48 byte && nat_le byte 51) ≡ b → class ≤ 3
    go true e =
        let is : Some (byte - 48) ≡ Some class = rw e at h in
        let same : byte - 48 ≡ class = cc in
        let high : byte ≤ 51 = leb-true byte 51 (both (nat_le 48 byte) (nat_le byte 51) e).1 in
        omega (arith, same)
    go false e =
        let is : None ≡ Some class = rw e at h in
        cc
class_fits (x ∷ y ∷ rest) class h = cc

vertex_fits : (text : Text) (vertex : ℕ) → vertex_of text ≡ Some vertex → vertex ≤ 268435455
vertex_fits text vertex h = go (number_of text) refl
  where
    test : (n : ℕ) (b : Bool) → nat_le n 268435455 ≡ b → number_of text ≡ Some n → vertex ≤ 268435455
    test n true e is =
        let named : Some n ≡ Some vertex = rw (is, e) at h in
        let same : n ≡ vertex = cc in
        let low : n ≤ 268435455 = leb-true n 268435455 e in
        omega (arith, same)
    test n false e is =
        let none : None ≡ Some vertex = rw (is, e) at h in
        cc

    go : (o : Option ℕ) → number_of text ≡ o → vertex ≤ 268435455
    go None is =
        let none : None ≡ Some vertex = rw is at h in
        cc
    go (Some n) is = test n (nat_le n 268435455) refl is

seed_fits : (item : Text) (seed : SeedWord) → seed_of item ≡ Some seed → SeedFits seed
seed_fits item seed h = go (list_any (λ b. b == 58) item) refl
  where
    low : Text
    low = before_first (λ b. b == 58) item

    high : Text
    high = after_first (λ b. b == 58) item

    parts : (v k : Option ℕ) → vertex_of low ≡ v → class_of high ≡ k → seed_of_parts v k ≡ Some seed → SeedFits seed
    parts None k v-is k-is e = cc
    parts (Some v) None v-is k-is e = cc
    parts (Some v) (Some k) v-is k-is e =
        let is : record { vertex = v; class = k } ≡ seed = cc in
        subst SeedFits is (record { vertex = vertex_fits low v v-is; class = class_fits high k k-is })

    go : (b : Bool) → list_any (λ b. b == 58) item ≡ b → SeedFits seed
    go true e = parts (vertex_of low) (class_of high) refl refl (rw e at h)
    go false e =
        let none : None ≡ Some seed = rw e at h in
        cc

each_fits : (items : List Text) (seeds : List SeedWord) → seeds_in items ≡ Some seeds → All SeedFits seeds
each_fits [] seeds h =
    let none : [] ≡ seeds = cc in
    subst (All SeedFits) none (λ k d below. absurd (omega arith))
each_fits (item ∷ rest) seeds h = go (seed_of item) (seeds_in rest) refl (each_fits rest) h
  where
    go : (o : Option SeedWord) (more : Option (List SeedWord)) → seed_of item ≡ o → ((tail : List SeedWord) → more ≡ Some tail → All SeedFits tail) → seed_before o more ≡ Some seeds → All SeedFits seeds
    go None more is later e = cc
    go (Some seed) None is later e = cc
    go (Some seed) (Some tail) is later e =
        let same : seed ∷ tail ≡ seeds = cc in
        subst (All SeedFits) same (All-cons SeedFits seed tail (seed_fits item seed is) (later tail refl))

pub seeds_fit : (text : Text) (o : Option (List SeedWord)) → o ≡ seeds_of text → IfSome o SeedsFit
seeds_fit text None h = tt
seeds_fit text (Some seeds) h = go (seeds_in (slice_split (λ b. b == 44) text)) refl
  where
    test : (found : List SeedWord) (b : Bool) → are_seeds found ≡ b → seeds_in (slice_split (λ b. b == 44) text) ≡ Some found → SeedsFit seeds
    test found true good is =
        let named : Some seeds ≡ Some found = rw (is, good) at h in
        let same : found ≡ seeds = cc in
        let parts = both _ _ good in
        let few : length found ≤ 64 = leb-true (length found) 64 parts.0 in
        subst SeedsFit same (record { each = each_fits (slice_split (λ b. b == 44) text) found is; few = few; distinct = parts.1 })
    test found false bad is =
        let none : Some seeds ≡ None = rw (is, bad) at h in
        cc

    go : (o : Option (List SeedWord)) → seeds_in (slice_split (λ b. b == 44) text) ≡ o → SeedsFit seeds
    go None is =
        let none : Some seeds ≡ None = rw is at h in
        cc
    go (Some found) is = test found (are_seeds found) refl is
