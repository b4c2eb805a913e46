-- What a buffer's range becomes, and that bytes pass through it in their order.
use Rattle.std.proofs.Common.{◌≡◌, ℕ, ◌+◌, ◌-◌, ◌≤◌, ◌<◌, List, [], ◌++◌, length, take, drop, min, Option, Some, None, Result, Ok, Err, OnOk, sym, ◌∙◌, ap, arith}
use Rattle.std.proofs.lemmas.List.{append-nil, drop-append-le, drop-drop, drop-take, length-drop, length-take, length-take-le, take-append-drop, take_all}
use lib.Seq.{drop-nil}
use Rattle.std.proofs.KnownBytes.{Appends-kept, prepend_known-read}
use Rattle.std.specs.Prelude.{slice_range}
use Rattle.std.specs.Io.KnownBytes.{Appends, Consumes, IsAtEnd, Keeps, append_known, prepend_known}
use Rattle.lumos_depot.specs.Causes.{HasCause, Rose}
use Rattle.lumos_cli.specs.Buffered.{AppendsSome, EndsWith, SinkView, all_given}

range_is : (xs : List ℕ) (a b : ℕ) → a ≤ b → slice_range xs a b ≡ drop a (take b xs)
range_is xs a b h = sym (drop-take a (b - a) xs) ∙ ap (λ k. drop a (take k xs)) {y = b} (omega arith)

-- a range that isn't empty
pub range_some : (xs : List ℕ) (a b : ℕ) → a < b → b ≤ length xs → slice_range xs a b ≡ [] → ⊥
range_some xs a b some fits none = absurd (omega (arith, length-take (b - a) (drop a xs), length-drop a xs, ap length none))

-- a range without its front
pub range_drop : (xs : List ℕ) (a b n : ℕ) → a + n ≤ b → drop n (slice_range xs a b) ≡ slice_range xs (a + n) b
range_drop xs a b n h = ap (λ k. drop n (take k (drop a xs))) {y = n + (b - (a + n))} (omega arith)
    ∙ drop-take n (b - (a + n)) (drop a xs) ∙ ap (take (b - (a + n))) (drop-drop n a xs)

-- a range with bytes behind it
pub range_grown : (xs new bytes : List ℕ) (a e : ℕ) → a ≤ e → e ≤ length xs → take (e + length bytes) new ≡ take e xs ++ bytes
    → slice_range new a (e + length bytes) ≡ slice_range xs a e ++ bytes
range_grown xs new bytes a e h k same =
    let long : a ≤ length (take e xs) = rw (length-take-le e xs k) h in
    range_is new a (e + length bytes) (omega arith) ∙ ap (drop a) same ∙ drop-append-le a (take e xs) bytes long ∙ ap (λ l. l ++ bytes) (sym (range_is xs a e h))

-- bytes that were held are given
pub held_given : (a left : Option (List ℕ)) (old new buf : List ℕ) (n room : ℕ) → Keeps a (prepend_known old left) → n ≡ min room (length old) → take n buf ≡ take n old
    → new ≡ drop n old → 0 < room → (old ≡ [] → IsAtEnd left) → Consumes a (prepend_known new left) (take n buf) × (n ≡ 0 → 0 < length buf → IsAtEnd (prepend_known new left))
held_given a left old new buf n room kept count same rest some end =
    let split : old ≡ take n buf ++ new = sym (take-append-drop n old) ∙ ap (λ l. l ++ drop n old) (sym same) ∙ ap (λ l. take n buf ++ l) (sym rest) in
    let read = prepend_known-read a left old new (take n buf) (n ≡ 0) kept split (λ none.
    let empty : old ≡ [] = sym (take_all 0 old (omega arith)) in
    (rest ∙ ap (drop n) empty ∙ drop-nil n, end empty)) in
    (read.0, λ none _. read.1 none)

-- bytes are handed on where none wait
pub none_waited : (a b : Option (List ℕ)) (waiting bytes : List ℕ) → waiting ≡ [] → Appends a b bytes → Appends (append_known a waiting) (append_known b waiting) bytes
none_waited None b waiting bytes none h = tt
none_waited (Some x) None waiting bytes none h = absurd h
none_waited (Some x) (Some y) waiting bytes none h = rw (none, append-nil x, append-nil y) h

pub all_came : {E : Type 0} (old new : Option (List ℕ)) (bytes : List ℕ) → Appends old new bytes → AppendsSome {E = E} old new (Ok tt) bytes
all_came old new bytes h = record { front = record { count = length bytes; front = rw (take_all (length bytes) bytes (omega arith)) h }; whole = h }

end_whole : {E F : Type 0} (old mid new : SinkView) (line : List ℕ) (put : Result (Unit {0}) E) (flushed : Result (Unit {0}) F)
    → HasCause old.faults mid.faults put → AppendsSome (all_given old) (all_given mid) put line
    → HasCause mid.faults new.faults flushed → OnOk flushed (new.waiting ≡ []) → Keeps (all_given mid) (all_given new)
    → (Rose old.faults new.faults → ⊥) → Appends (all_given old) (all_given new) line × (new.waiting ≡ [])
end_whole old mid new line (Ok u) (Ok v) a came b none kept calm = (Appends-kept _ _ _ _ came.whole kept, none)
end_whole old mid new line (Ok u) (Err f) a came b none kept calm = absurd (calm (omega (arith, a.later, b.failed)))
end_whole old mid new line (Err e) flushed a came b none kept calm = absurd (calm (omega (arith, a.failed, b.later)))

-- A line was put, and then all was handed on, whatever the two calls answered.
pub ended_with : {E F : Type 0} (old mid new : SinkView) (put : Result (Unit {0}) E) (flushed : Result (Unit {0}) F) (line : List ℕ)
    → HasCause old.faults mid.faults put → AppendsSome (all_given old) (all_given mid) put line
    → HasCause mid.faults new.faults flushed → OnOk flushed (new.waiting ≡ []) → Keeps (all_given mid) (all_given new) → EndsWith old new line
ended_with old mid new put flushed line a came b none kept = record {
  front = record { count = came.front.count; front = Appends-kept _ _ _ _ came.front.front kept };
  whole = end_whole old mid new line put flushed a came b none kept;
}
