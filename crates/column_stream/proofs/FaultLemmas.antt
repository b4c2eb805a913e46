-- The first word outside its range, part by part.
use Rattle.std.proofs.Common.{◌≡◌, ℕ, zero, suc, ◌+◌, ◌-◌, ◌*◌, ◌<◌, ◌≤◌, inl, inr, Bool, true, false, cond, List, [], ◌∷◌, ◌++◌, length, take, drop, Option, None, Some, All, refl, sym, ap, subst, ◌∙◌, arith}
use Rattle.std.specs.Option.{option_or}
use Rattle.std.proofs.lemmas.Bool.Decides.{nat_tests}
use Rattle.std.proofs.lemmas.Option.{same_Some}
use Rattle.std.proofs.lemmas.List.Elements.{All-cons, All-head, All-nil, All-tail, filter-append}
use Rattle.lumos_base.specs.Records.{edge_from}
use Rattle.lumos_base.specs.declared.records.Edge.{Edge}
use Rattle.lumos_depot.specs.declared.depot.FileKind.{FileKind}
use Rattle.partition.specs.declared.records.VertexRange.{VertexRange}
use Rattle.value_files.specs.declared.fault.FileFault.{FileFault}
use Rattle.value_files.specs.declared.fault.FileFault.TheVariants.{Depot, Damaged}
use Rattle.column_stream.specs.Records.{Fits, IsDamage, IsIn, IsOutside, Word, edges_at, fault_of, first_fault, lies_outside, strays, words_at}
use Rattle.column_stream.specs.declared.records.Ends.{Ends}
use Rattle.column_stream.proofs.EdgeLemmas.{edge_at_front, edges-add, length-edges}

words-append : (ends : Ends) (place : ℕ) (xs ys : List Edge) → words_at ends place (xs ++ ys) ≡ words_at ends place xs ++ words_at ends (place + 12 * length xs) ys
words-append ends place [] ys =
    let here : place ≡ place + 12 * zero = omega arith in ap (λ (p : ℕ). words_at ends p ys) here
words-append ends place (x ∷ xs) ys =
    let next : place + 12 + 12 * length xs ≡ place + 12 * suc (length xs) = omega arith in
    let first : Word = record { place = place; found = x.source.0; range = ends.sources } in
    let second : Word = record { place = place + 4; found = x.target.0; range = ends.targets } in
    ap (λ l. first ∷ second ∷ l) (words-append ends (place + 12) xs ys ∙ ap (λ (p : ℕ). words_at ends (place + 12) xs ++ words_at ends p ys) next)

fault-append : (file : FileKind) (xs ys : List Word) → fault_of file (xs ++ ys) ≡ option_or (fault_of file xs) (fault_of file ys)
fault-append file [] ys = refl
fault-append file (x ∷ xs) ys = refl

-- the fault of records is that of the first ones, or else that of those behind them
pub first-append : (file : FileKind) (ends : Ends) (place : ℕ) (xs ys : List Edge) → first_fault file ends place (xs ++ ys) ≡ option_or (first_fault file ends place xs) (first_fault file ends (place + 12 * length xs) ys)
first-append file ends place xs ys =
    ap (λ l. fault_of file (strays l)) (words-append ends place xs ys)
    ∙ ap (fault_of file) (filter-append (λ (w : Word). lies_outside w.range w.found) (words_at ends place xs) (words_at ends (place + 12 * length xs) ys))
    ∙ fault-append file (strays (words_at ends place xs)) (strays (words_at ends (place + 12 * length xs) ys))

-- the same of the edges of records
pub first-add : (file : FileKind) (ends : Ends) (at place n m : ℕ) (bytes : List ℕ) → first_fault file ends place (edges_at at (n + m) bytes) ≡ option_or (first_fault file ends place (edges_at at n bytes)) (first_fault file ends (place + 12 * n) (edges_at (at + 12 * n) m bytes))
first-add file ends at place n m bytes =
    ap (first_fault file ends place) (edges-add at n m bytes)
    ∙ first-append file ends place (edges_at at n bytes) (edges_at (at + 12 * n) m bytes)
    ∙ ap (λ (k : ℕ). option_or (first_fault file ends place (edges_at at n bytes)) (first_fault file ends (place + 12 * k) (edges_at (at + 12 * n) m bytes))) (length-edges at n bytes)

-- no fault in the first records, and none behind them
pub none_more : (file : FileKind) (ends : Ends) (at place n m : ℕ) (bytes : List ℕ) → first_fault file ends place (edges_at at n bytes) ≡ None → first_fault file ends (place + 12 * n) (edges_at (at + 12 * n) m bytes) ≡ None → first_fault file ends place (edges_at at (n + m) bytes) ≡ None
none_more file ends at place n m bytes had more = first-add file ends at place n m bytes ∙ rw (had, more) refl

-- no fault in the first records, and then one, which stands whatever comes behind
pub fault_stands : (file : FileKind) (ends : Ends) (at place n m all : ℕ) (bytes : List ℕ) (fault : FileFault) → n + m ≤ all → first_fault file ends place (edges_at at n bytes) ≡ None → first_fault file ends (place + 12 * n) (edges_at (at + 12 * n) m bytes) ≡ Some fault → first_fault file ends place (edges_at at all bytes) ≡ Some fault
fault_stands file ends at place n m all bytes fault room had found =
    let cut : all ≡ n + m + (all - (n + m)) = omega arith in
    let front : first_fault file ends place (edges_at at (n + m) bytes) ≡ Some fault = first-add file ends at place n m bytes ∙ rw (had, found) refl in
    ap (λ (k : ℕ). first_fault file ends place (edges_at at k bytes)) cut
    ∙ first-add file ends at place (n + m) (all - (n + m)) bytes ∙ rw front refl

-- one record, read from its part of the bytes
pub one_record : (bytes : List ℕ) (i : ℕ) (e : Edge) → e ≡ edge_from (take (12 * i + 12 - 12 * i) (drop (12 * i) bytes)) → e ∷ [] ≡ edges_at (0 + 12 * i) 1 bytes
one_record bytes i e is =
    let here : 12 * i ≡ 0 + 12 * i = omega arith in
    ap (λ x. x ∷ []) (is ∙ edge_at_front (12 * i + 12 - 12 * i) (12 * i) bytes (omega arith)) ∙ ap (λ (p : ℕ). edges_at p 1 bytes) here

-- the record behind the first i is at fault
pub record_fault : (file : FileKind) (ends : Ends) (place n i : ℕ) (bytes : List ℕ) (e : Edge) (fault : FileFault) → i < n → e ≡ edge_from (take (12 * i + 12 - 12 * i) (drop (12 * i) bytes)) → first_fault file ends place (edges_at 0 i bytes) ≡ None → first_fault file ends (place + 12 * i) (e ∷ []) ≡ Some fault → first_fault file ends place (edges_at 0 n bytes) ≡ Some fault
record_fault file ends place n i bytes e fault low is had found =
    fault_stands file ends 0 place i 1 n bytes fault (omega arith) had
    (ap (first_fault file ends (place + 12 * i)) (sym (one_record bytes i e is)) ∙ found)

-- it isn't
pub record_sound : (file : FileKind) (ends : Ends) (place i : ℕ) (bytes : List ℕ) (e : Edge) → e ≡ edge_from (take (12 * i + 12 - 12 * i) (drop (12 * i) bytes)) → first_fault file ends place (edges_at 0 i bytes) ≡ None → first_fault file ends (place + 12 * i) (e ∷ []) ≡ None → first_fault file ends place (edges_at 0 (i + 1) bytes) ≡ None
record_sound file ends place i bytes e is had found =
    none_more file ends 0 place i 1 bytes had (ap (first_fault file ends (place + 12 * i)) (sym (one_record bytes i e is)) ∙ found)

fault_of-cond : (file : FileKind) (b : Bool) (w : Word) (xs ys : List Word) → fault_of file (cond b (w ∷ xs) ys) ≡ cond b (Some (Damaged file w.place w.found)) (fault_of file ys)
fault_of-cond file true w xs ys = refl
fault_of-cond file false w xs ys = refl

-- the fault of a record and those behind it, by its two words
pub fault_step : (file : FileKind) (ends : Ends) (place : ℕ) (e : Edge) (es : List Edge) → first_fault file ends place (e ∷ es) ≡ cond (lies_outside ends.sources e.source.0) (Some (Damaged file place e.source.0)) (cond (lies_outside ends.targets e.target.0) (Some (Damaged file (place + 4) e.target.0)) (first_fault file ends (place + 12) es))
fault_step file ends place e es =
    let first : Word = record { place = place; found = e.source.0; range = ends.sources } in
    let second : Word = record { place = place + 4; found = e.target.0; range = ends.targets } in
    let more = words_at ends (place + 12) es in
    fault_of-cond file (lies_outside ends.sources e.source.0) first (strays (second ∷ more)) (strays (second ∷ more))
    ∙ ap (λ o. cond (lies_outside ends.sources e.source.0) (Some (Damaged file place e.source.0)) o) (fault_of-cond file (lies_outside ends.targets e.target.0) second (strays more) (strays more))

inside : (range : VertexRange) (v : ℕ) → lies_outside range v ≡ false → IsIn range v
inside range v h = record { low = grind (arith, nat_tests); high = grind (arith, nat_tests) }

outside : (range : VertexRange) (v : ℕ) → lies_outside range v ≡ true → IsOutside range v
outside range v h = grind (arith, nat_tests)

-- no word is found: each test failed
none_cases : (a b : Bool) (f g : FileFault) (rest : Option FileFault) → cond a (Some f) (cond b (Some g) rest) ≡ None → (a ≡ false) × (b ≡ false) × (rest ≡ None)
none_cases true b f g rest h = absurd (cc)
none_cases false true f g rest h = absurd (cc)
none_cases false false f g rest h = (refl, refl, h)

-- a word is found: one of the tests, or one further behind, found it
some_cases : (a b : Bool) (f g fault : FileFault) (rest : Option FileFault) (P : FileFault → Type 0) → (a ≡ true → P f) → (b ≡ true → P g) → (rest ≡ Some fault → P fault) → cond a (Some f) (cond b (Some g) rest) ≡ Some fault → P fault
some_cases true b f g fault rest P first second behind h = subst P (same_Some f fault h) (first refl)
some_cases false true f g fault rest P first second behind h = subst P (same_Some g fault h) (second refl)
some_cases false false f g fault rest P first second behind h = behind h

-- where there is no fault both ends of each edge lie in their ranges
pub fits_all : (file : FileKind) (ends : Ends) (place : ℕ) (edges : List Edge) → first_fault file ends place edges ≡ None → All (Fits ends) edges
fits_all file ends place [] h = All-nil (Fits ends)
fits_all file ends place (e ∷ es) h =
    let cases = none_cases (lies_outside ends.sources e.source.0) (lies_outside ends.targets e.target.0) (Damaged file place e.source.0) (Damaged file (place + 4) e.target.0) (first_fault file ends (place + 12) es) (sym (fault_step file ends place e es) ∙ h) in
    let here : Fits ends e = record { source = inside ends.sources e.source.0 cases.0; target = inside ends.targets e.target.0 cases.1 } in
    All-cons (Fits ends) e es here (fits_all file ends (place + 12) es cases.2)

-- and the other way round
pub none_fits : (file : FileKind) (ends : Ends) (place : ℕ) (edges : List Edge) → All (Fits ends) edges → first_fault file ends place edges ≡ None
none_fits file ends place [] h = refl
none_fits file ends place (e ∷ es) h =
    let here : Fits ends e = All-head (Fits ends) e es h in
    let source : lies_outside ends.sources e.source.0 ≡ false = within ends.sources e.source.0 here.source in
    let target : lies_outside ends.targets e.target.0 ≡ false = within ends.targets e.target.0 here.target in
    fault_step file ends place e es ∙ rw (source, target) (none_fits file ends (place + 12) es (All-tail (Fits ends) e es h))
  where
    within : (range : VertexRange) (v : ℕ) → IsIn range v → lies_outside range v ≡ false
    within range v is = let low = is.low in let high = is.high in grind (arith, nat_tests)

-- a word behind the first record is one of all
damage_behind : (file : FileKind) (ends : Ends) (place n : ℕ) (fault : FileFault) → IsDamage file ends (place + 12) n fault → IsDamage file ends place (suc n) fault
damage_behind file ends place n Depot h = tt
damage_behind file ends place n (Damaged other at found) h =
    let stray = h.1 in (
      h.0,
      record {
        index = suc stray.index;
        low = let low = stray.low in omega arith;
        word = elim stray.word [
          | inl w ↦ inl ((let at_is = w.0 in omega arith), w.1)
          | inr w ↦ inr ((let at_is = w.0 in omega arith), w.1)
        ];
      },
    )

-- a fault is a word of one of the records, which lies outside its range
pub damage : (file : FileKind) (ends : Ends) (place : ℕ) (edges : List Edge) (fault : FileFault) → first_fault file ends place edges ≡ Some fault → IsDamage file ends place (length edges) fault
damage file ends place [] fault h = absurd (cc)
damage file ends place (e ∷ es) fault h =
    some_cases (lies_outside ends.sources e.source.0) (lies_outside ends.targets e.target.0) (Damaged file place e.source.0) (Damaged file (place + 4) e.target.0) fault (first_fault file ends (place + 12) es) (IsDamage file ends place (suc (length es)))
    (λ is. (refl, record { index = 0; low = omega arith; word = inl (omega arith, outside ends.sources e.source.0 is) }))
    (λ is. (refl, record { index = 0; low = omega arith; word = inr (omega arith, outside ends.targets e.target.0 is) }))
    (λ is. damage_behind file ends place (length es) fault (damage file ends (place + 12) es fault is))
    (sym (fault_step file ends place e es) ∙ h)
