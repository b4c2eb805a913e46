-- What a write leaves outside its range, and what goes on being read there.
use Rattle.std.proofs.Common.{◌≡◌, ◌⊎◌, inl, inr, ℕ, zero, suc, ◌+◌, ◌-◌, ◌*◌, ◌<◌, ◌≤◌, List, [], ◌++◌, length, take, drop, map, Option, Some, None, refl, sym, ap, ap₂, subst, ◌∙◌, arith, length-append, length-drop, append-nil, append_assoc}
use Rattle.std.specs.Prelude.{IfSome, IsSomeAnd}
use Rattle.std.specs.Option.{option_map}
use Rattle.std.proofs.lemmas.List.{drop-drop, drop-take, drop_at, length-take-le, take-append-drop, take-take, take_at}
use Rattle.lumos_depot.specs.Files.{Mixed, MixedTold, SameOutside, SameOutsideTold, overwritten, range_at}

pub outside_none : (place n : ℕ) (file : List ℕ) → SameOutside place n file file
outside_none place n file = record { before = refl; behind = refl; long = refl }

pub outside_then : (place n : ℕ) (a b c : List ℕ) → SameOutside place n a b → SameOutside place n b c → SameOutside place n a c
outside_then place n a b c first second =
    record { before = second.before ∙ first.before; behind = second.behind ∙ first.behind; long = second.long ∙ first.long }

-- a wider range
pub outside_wider : (place n at m : ℕ) (old new : List ℕ) → at ≤ place → place + n ≤ at + m → SameOutside place n old new → SameOutside at m old new
outside_wider place n at m old new low high same =
    let past : at + m ≡ place + n + (at + m - (place + n)) = omega arith in
    let cut : (l : List ℕ) → drop (at + m) l ≡ drop (at + m - (place + n)) (drop (place + n) l) = λ l. ap (λ (k : ℕ). drop k l) past ∙ sym (drop-drop (at + m - (place + n)) (place + n) l) in
    record {
      before = sym (take-take at place new low) ∙ ap (take at) same.before ∙ take-take at place old low;
      behind = cut new ∙ ap (drop (at + m - (place + n))) same.behind ∙ sym (cut old);
      long = same.long;
    }

-- bytes that were written
pub outside_written : (place : ℕ) (bytes file : List ℕ) → place + length bytes ≤ length file → SameOutside place (length bytes) file (overwritten place bytes file)
outside_written place bytes file inside =
    let front = take place file in
    let rest = drop (place + length bytes) file in
    let long = length-take-le place file (omega arith) in
    let size : length (front ++ bytes) ≡ place + length bytes = omega (arith, length-append front bytes, long) in
    record {
      before = ap (take place) (append_assoc front bytes rest) ∙ take_at front (bytes ++ rest) place long;
      behind = drop_at (front ++ bytes) rest (place + length bytes) size;
      long = omega (arith, length-append (front ++ bytes) rest, size, length-drop (place + length bytes) file);
    }

-- the same of what is told
pub told_outside_none : (place n : ℕ) (told : Option (List ℕ)) → SameOutsideTold place n told told
told_outside_none place n None = refl
told_outside_none place n (Some file) = outside_none place n file

pub told_outside_same : (place n : ℕ) (old new : Option (List ℕ)) → new ≡ old → SameOutsideTold place n old new
told_outside_same place n old new is = subst (SameOutsideTold place n old) (sym is) (told_outside_none place n old)

pub told_outside_then : (place n : ℕ) (a b c : Option (List ℕ)) → SameOutsideTold place n a b → SameOutsideTold place n b c → SameOutsideTold place n a c
told_outside_then place n None b c first second = subst (λ o. SameOutsideTold place n o c) first second
told_outside_then place n (Some a) None c first second = absurd first
told_outside_then place n (Some a) (Some b) None first second = absurd second
told_outside_then place n (Some a) (Some b) (Some c) first second = outside_then place n a b c first second

pub told_outside_wider : (place n at m : ℕ) (old new : Option (List ℕ)) → at ≤ place → place + n ≤ at + m → SameOutsideTold place n old new → SameOutsideTold at m old new
told_outside_wider place n at m None new low high same = same
told_outside_wider place n at m (Some old) None low high same = same
told_outside_wider place n at m (Some old) (Some new) low high same = outside_wider place n at m old new low high same

pub told_outside_written : (place : ℕ) (bytes : List ℕ) (old new : Option (List ℕ)) → IfSome old (λ file. place + length bytes ≤ length file) → new ≡ option_map (overwritten place bytes) old → SameOutsideTold place (length bytes) old new
told_outside_written place bytes None new inside is = is
told_outside_written place bytes (Some file) new inside is = rw is (outside_written place bytes file inside)

pub told_outside_mixed : (place : ℕ) (bytes : List ℕ) (old new : Option (List ℕ)) → MixedTold place bytes old new → SameOutsideTold place (length bytes) old new
told_outside_mixed place bytes None new mixed = mixed
told_outside_mixed place bytes (Some old) None mixed = mixed
told_outside_mixed place bytes (Some old) (Some new) mixed = record { before = mixed.before; behind = mixed.behind; long = mixed.same_length }

-- the length stays
pub told_outside_long : (place n : ℕ) (old new : Option (List ℕ)) (P : ℕ → Type 0) → SameOutsideTold place n old new → IfSome old (λ file. P (length file)) → IfSome new (λ file. P (length file))
told_outside_long place n None new P same had = rw same tt
told_outside_long place n (Some old) None P same had = absurd same
told_outside_long place n (Some old) (Some new) P same had = subst P (sym same.long) had

-- a range in front of what changed, or behind it, stays
pub range_outside : (place n a m : ℕ) (old new : List ℕ) → SameOutside place n old new → (a + m ≤ place) ⊎ (place + n ≤ a) → range_at a m new ≡ range_at a m old
range_outside place n a m old new same (inl before) =
    let cut : (l : List ℕ) → range_at a m l ≡ drop a (take (a + m) (take place l)) = λ l. sym (drop-take a m l) ∙ ap (drop a) (sym (take-take (a + m) place l before)) in
    cut new ∙ ap (λ l. drop a (take (a + m) l)) same.before ∙ sym (cut old)
range_outside place n a m old new same (inr behind) =
    let from : a ≡ place + n + (a - (place + n)) = omega arith in
    let cut : (l : List ℕ) → range_at a m l ≡ take m (drop (a - (place + n)) (drop (place + n) l)) =
    λ l. ap (λ (k : ℕ). take m (drop k l)) from ∙ ap (take m) (sym (drop-drop (a - (place + n)) (place + n) l)) in
    cut new ∙ ap (λ l. take m (drop (a - (place + n)) l)) same.behind ∙ sym (cut old)
