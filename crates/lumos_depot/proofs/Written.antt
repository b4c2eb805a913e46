-- One write after another.
use Rattle.std.proofs.Common.{◌≡◌, ℕ, ◌+◌, List, ◌++◌, length, take, min, Option, Some, None, Result, Ok, Err, IsOk, refl, sym, ◌∙◌, ap, arith}
use Rattle.std.proofs.Math.Seq.{take-append-add}
use Rattle.std.proofs.lemmas.List.{append_assoc, take_all, take-append-le, take_min, append-nil}
use Rattle.lumos_depot.specs.Streams.{AppendsFront, Writes, after_told}

pub after_told-after : (old : Option (List ℕ)) (a b : List ℕ) → after_told (after_told old a) b ≡ after_told old (a ++ b)
after_told-after None a b = refl
after_told-after (Some held) a b = ap Some (append_assoc held a b)

take_front : (n : ℕ) (a b : List ℕ) → take n a ≡ take (min n (length a)) (a ++ b)
take_front n a b = sym (take_min n a) ∙ sym (take-append-le (min n (length a)) a b (omega arith))

-- a front of a text is one of a longer text
pub front_longer : (old new : Option (List ℕ)) (a b : List ℕ) → AppendsFront old new a → AppendsFront old new (a ++ b)
front_longer old new a b h = record { count = min h.count (length a); front = h.front ∙ ap (after_told old) (take_front h.count a b) }

-- a front of a text behind another text
pub front_behind : (old mid new : Option (List ℕ)) (a b : List ℕ) → mid ≡ after_told old a → AppendsFront mid new b → AppendsFront old new (a ++ b)
front_behind old mid new a b first h = record {
  count = length a + h.count;
  front = h.front ∙ ap (λ m. after_told m (take h.count b)) first ∙ after_told-after old a (take h.count b) ∙ ap (after_told old) (sym (take-append-add a b h.count));
}

-- all of a text is a front of it
pub front_whole : (old new : Option (List ℕ)) (a : List ℕ) → new ≡ after_told old a → AppendsFront old new a
front_whole old new a h = record { count = length a; front = h ∙ ap (after_told old) (sym (take_all (length a) a (omega arith))) }

-- nothing is a front of each text
pub front_none : (old new : Option (List ℕ)) (a : List ℕ) → new ≡ old → AppendsFront old new a
front_none None new a h = record { count = 0; front = h }
front_none (Some held) new a h = record { count = 0; front = h ∙ ap Some (sym (append-nil held)) }

pub writes_then : {D E : Type 0} (old mid new : Option (List ℕ)) (first : Result (Unit {0}) D) (result : Result (Unit {0}) E) (a b : List ℕ) → IsOk first → Writes old mid first a → Writes mid new result b →
    Writes old new result (a ++ b)
writes_then old mid new (Err e) result a b ok h k = absurd (cc)
writes_then old mid new (Ok done) (Ok also) a b ok h k = record {
  front = front_behind old mid new a b h.whole k.front;
  whole = k.whole ∙ ap (λ m. after_told m b) h.whole ∙ after_told-after old a b;
}
writes_then old mid new (Ok done) (Err e) a b ok h k = record { front = front_behind old mid new a b h.whole k.front; whole = tt }

pub writes_cut : {D E : Type 0} (old new : Option (List ℕ)) (first : Result (Unit {0}) D) (e : E) (a b : List ℕ) → Writes old new first a → Writes old new (Err e) (a ++ b)
writes_cut old new first e a b h = record { front = front_longer old new a b h.front; whole = tt }
