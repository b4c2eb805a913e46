-- Meta, as it is written piece by piece.
use Rattle.std.proofs.Common.{◌≡◌, ◌⊎◌, inl, inr, ℕ, ◌+◌, ◌-◌, ◌*◌, ◌<◌, ◌≤◌, ◌&&◌, Bool, true, false, nat_eq, List, [], ◌∷◌, ◌++◌, length, get_or, take, drop, replicate, Option, Some, None, IfSome, refl, sym, ap, ap₂, subst, ◌∙◌, arith, append_assoc, append-nil, length-append, length-drop}
use Rattle.std.specs.List.{flat_map, starts_with}
use Rattle.std.specs.Option.{option_map}
use Rattle.std.proofs.Math.Nat.{add-mul}
use Rattle.std.proofs.Math.Seq.{take-add}
use Rattle.std.proofs.lemmas.Nat.{mul-le}
use Rattle.std.proofs.lemmas.Bool.{eqb-true}
use Rattle.std.proofs.lemmas.List.{drop-drop, drop_at, drop-replicate, length-take-le, take_all, take_at, take-append-drop, take_more, length-replicate, replicate-append-replicate}
use Rattle.std.proofs.lemmas.List.Concat.{flat_map-append}
use lib.Pointwise.{pointwise}
use Rattle.byteorder.specs.Numbers.{length-bytes_low_first}
use Rattle.lumos_depot.specs.Files.{Mixed, MixedTold, overwritten, resized}
use Rattle.grid_format.specs.Heads.{field, head_fields, magic, meta_bytes}
use Rattle.grid_format.specs.Writing.{IsMeta, MarkedWhole, Unmarked, unfinished}
use Rattle.grid_format.specs.declared.head.GridInfo.{GridInfo}
use Rattle.grid_format.proofs.NumberLemmas.{length-magic, starts_with-take}

pub length-field : (n x : ℕ) → length (field n x) ≡ n
unfolding field
length-field n x = length-bytes_low_first 0 n x

pub length-fields : (xs : List ℕ) → length (flat_map (field 8) xs) ≡ 8 * length xs
length-fields [] = refl
length-fields (x ∷ xs) =
    let one = length-append (field 8 x) (flat_map (field 8) xs) in
    omega (arith, one, length-field 8 x, length-fields xs)

-- a part is written behind those that stand
pub written_next : (n : ℕ) (front part rest : List ℕ) → length front ≡ n → overwritten n part (front ++ rest) ≡ front ++ part ++ drop (length part) rest
written_next n front part rest long =
    let behind : drop (n + length part) (front ++ rest) ≡ drop (length part) rest = sym (drop-drop (length part) n (front ++ rest)) ∙ ap (drop (length part)) (drop_at front rest n long) in
    rw (take_at front rest n long, behind) refl

-- what is told by way of another is that
pub told_as : (told other : Option (List ℕ)) (x : List ℕ) (P : List ℕ → Type 0) → told ≡ option_map (λ _. x) other → P x → IfSome told P
told_as told None x P is h = rw is tt
told_as told (Some y) x P is h = rw is h

pub option_map-const : (f : List ℕ → List ℕ) (x : List ℕ) (other : Option (List ℕ)) → option_map f (option_map (λ _. x) other) ≡ option_map (λ _. f x) other
option_map-const f x None = refl
option_map-const f x (Some y) = refl

-- a write behind the first eight bytes that failed leaves a Meta that isn't marked
pub mixed_unmarked : (place : ℕ) (bytes : List ℕ) (old new : Option (List ℕ)) → 8 ≤ place → Unmarked old → MixedTold place bytes old new → Unmarked new
mixed_unmarked place bytes None new behind un mixed = rw mixed tt
mixed_unmarked place bytes (Some file) None behind un mixed = absurd mixed
mixed_unmarked place bytes (Some file) (Some meta) behind un mixed =
    sym (starts_with-take place meta magic (omega (arith, length-magic)))
    ∙ ap (λ m. starts_with nat_eq m magic) mixed.before
    ∙ starts_with-take place file magic (omega (arith, length-magic))
    ∙ un

-- an unfinished Meta isn't marked
pub unfinished_unmarked : (info : GridInfo) (counts : List ℕ) (left : ℕ) → starts_with nat_eq (unfinished info counts left) magic ≡ false
unfolding magic
unfinished_unmarked info counts left = refl

begins : (p xs : List ℕ) → pointwise nat_eq p xs ≡ true → p ≡ xs
begins [] [] h = refl
begins [] (x ∷ xs) h = absurd (cc)
begins (y ∷ p) [] h = absurd (cc)
begins (y ∷ p) (x ∷ xs) h = ap₂ ◌∷◌ (eqb-true y x (both (nat_eq y x) (pointwise nat_eq p xs) h).0) (begins p xs (both (nat_eq y x) (pointwise nat_eq p xs) h).1)
  where
    both : (a b : Bool) → (a && b) ≡ true → (a ≡ true) × (b ≡ true)
    both true true k = (refl, refl)
    both true false k = absurd (cc)
    both false b k = absurd (cc)

-- a write of the magic that failed leaves a Meta that isn't marked, or wrote all of it
pub mixed_magic : (file meta : List ℕ) → Mixed 0 magic file meta → (starts_with nat_eq meta magic ≡ false) ⊎ (meta ≡ overwritten 0 magic file)
mixed_magic file meta mixed = by_test (starts_with nat_eq meta magic) refl
  where
    by_test : (b : Bool) → starts_with nat_eq meta magic ≡ b → (starts_with nat_eq meta magic ≡ false) ⊎ (meta ≡ overwritten 0 magic file)
    by_test false is = inl is
    by_test true is =
        let front = begins magic (take (length magic) meta) is in
        let start : length magic ≡ 0 + length magic = omega arith in
        inr (sym (take-append-drop (length magic) meta) ∙ ap₂ ◌++◌ (sym front) (ap (λ (k : ℕ). drop k meta) start ∙ mixed.behind))

-- the same of what is told
pub mixed_told : (old new : Option (List ℕ)) → MixedTold 0 magic old new → MarkedWhole old new
mixed_told None new mixed = mixed
mixed_told (Some file) None mixed = absurd mixed
mixed_told (Some file) (Some meta) mixed = mixed_magic file meta mixed

pub marked_as : (old mid new : Option (List ℕ)) (x : List ℕ) → mid ≡ option_map (λ _. x) old → MarkedWhole mid new → IfSome new (λ meta. (starts_with nat_eq meta magic ≡ false) ⊎ (meta ≡ overwritten 0 magic x))
marked_as None mid new x is marked = marked_none new (let P : Option (List ℕ) → Type 0 = λ m. MarkedWhole m new in subst P is marked)
  where
    marked_none : (new : Option (List ℕ)) → new ≡ None → IfSome new (λ meta. (starts_with nat_eq meta magic ≡ false) ⊎ (meta ≡ overwritten 0 magic x))
    marked_none None h = tt
    marked_none (Some meta) h = absurd (cc)
marked_as (Some y) mid new x is marked = let P : Option (List ℕ) → Type 0 = λ m. MarkedWhole m new in subst P is marked

-- one count more in a column
pub put_next : (i : ℕ) (counts column here : List ℕ) → i < length counts → here ≡ flat_map (field 8) (take i counts) ++ drop (8 * i) column → overwritten (8 * i) (field 8 (get_or counts i 0)) here ≡ flat_map (field 8) (take (i + 1) counts) ++ drop (8 * (i + 1)) column
put_next i counts column here h is =
    let part = field 8 (get_or counts i 0) in
    let front = flat_map (field 8) (take i counts) in
    let long : length front ≡ 8 * i = length-fields (take i counts) ∙ ap (λ (n : ℕ). 8 * n) (length-take-le i counts (omega arith)) in
    let more : front ++ part ≡ flat_map (field 8) (take (i + 1) counts) =
    ap (λ l. front ++ l) (sym (append-nil part)) ∙ sym (flat_map-append (field 8) (take i counts) (get_or counts i 0 ∷ [])) ∙ ap (flat_map (field 8)) (sym (take_more counts i 0 h)) in
    let place : 8 * i + length part ≡ 8 * (i + 1) = omega (arith, length-field 8 (get_or counts i 0)) in
    ap (overwritten (8 * i) part) is
    ∙ written_next (8 * i) front part (drop (8 * i) column) long
    ∙ ap₂ ◌++◌ more (drop-drop (length part) (8 * i) column ∙ ap (λ (k : ℕ). drop k column) place)

pub length-head : (info : GridInfo) → length (head_fields info) ≡ 24
length-head info =
    let a = field 4 info.version in
    let b = field 4 info.parts in
    let d = field 4 info.vertices in
    let e = field 4 0 in
    let f = field 8 info.edges in
    omega (arith, length-append (a ++ b ++ d ++ e) f, length-append (a ++ b ++ d) e, length-append (a ++ b) d, length-append a b, length-field 4 info.version, length-field 4 info.parts, length-field 4 info.vertices, length-field 4 0, length-field 8 info.edges)

pub resized_nil : (n : ℕ) → resized n [] ≡ replicate n 0
resized_nil n =
    let all : n - 0 ≡ n = omega arith in
    ap₂ ◌++◌ (take_all n [] (omega arith)) (ap (λ (k : ℕ). replicate k 0) all)

-- an empty Meta that was sized has zero bytes
pub sized_meta : (n : ℕ) (old new : Option (List ℕ)) → IsMeta old [] → new ≡ option_map (resized n) old → new ≡ option_map (λ _. replicate n 0) old
sized_meta n old new empty is =
    is ∙ ap (option_map (resized n)) empty ∙ option_map-const (resized n) [] old ∙ ap (λ x. option_map (λ _. x) old) (resized_nil n)

zeros_in_front : (rest : List ℕ) → starts_with nat_eq (replicate 8 0 ++ rest) magic ≡ false
unfolding magic
zeros_in_front rest = refl

pub zeros_unmarked : (n : ℕ) → 8 ≤ n → starts_with nat_eq (replicate n 0) magic ≡ false
zeros_unmarked n long =
    let cut : n ≡ 8 + (n - 8) = omega arith in
    ap (λ (k : ℕ). starts_with nat_eq (replicate k 0) magic) cut
    ∙ ap (λ l. starts_with nat_eq l magic) (sym (replicate-append-replicate 8 (n - 8) 0))
    ∙ zeros_in_front (replicate (n - 8) 0)

pub nothing_unmarked : starts_with nat_eq [] magic ≡ false
unfolding magic
nothing_unmarked = refl

-- the head in a Meta of zero bytes
pub head_written : (info : GridInfo) (left : ℕ) → overwritten 8 (head_fields info) (replicate (32 + left) 0) ≡ unfinished info [] left
head_written info left =
    let head = head_fields info in
    let front : List ℕ = replicate 8 0 in
    let cut : 32 + left ≡ 8 + (24 + left) = omega arith in
    let rest : 24 + left - length head ≡ left = omega (arith, length-head info) in
    ap (λ (k : ℕ). overwritten 8 head (replicate k 0)) cut
    ∙ ap (overwritten 8 head) (sym (replicate-append-replicate 8 (24 + left) 0))
    ∙ written_next 8 front head (replicate (24 + left) 0) refl
    ∙ ap₂ ◌++◌ (sym (append-nil (front ++ head))) (drop-replicate (length head) (24 + left) 0 ∙ ap (λ (k : ℕ). replicate k 0) rest)

-- one column more
pub columns_written : (info : GridInfo) (counts : List ℕ) (p j : ℕ) → length counts ≡ p * p → j < p → overwritten (32 + 8 * (j * p)) (flat_map (field 8) (take p (drop (j * p) counts))) (unfinished info (take (j * p) counts) (8 * (p * p - j * p))) ≡ unfinished info (take ((j + 1) * p) counts) (8 * (p * p - (j + 1) * p))
columns_written info counts p j whole h =
    let head = replicate 8 0 ++ head_fields info in
    let done = flat_map (field 8) (take (j * p) counts) in
    let part = flat_map (field 8) (take p (drop (j * p) counts)) in
    let next : (j + 1) * p ≡ j * p + p = omega (arith, add-mul j 1 p) in
    let room : (j + 1) * p ≤ p * p = mul-le (j + 1) p p p (omega arith) (omega arith) in
    let before : length done ≡ 8 * (j * p) = length-fields (take (j * p) counts) ∙ ap (λ (n : ℕ). 8 * n) (length-take-le (j * p) counts (omega (arith, next, room, whole))) in
    let front : length (head ++ done) ≡ 32 + 8 * (j * p) = omega (arith, length-append head done, length-append (replicate 8 0) (head_fields info), length-head info, before) in
    let behind : length (take p (drop (j * p) counts)) ≡ p = length-take-le p (drop (j * p) counts) (simp length-drop (omega (arith, next, room, whole))) in
    let long : length part ≡ 8 * p = length-fields (take p (drop (j * p) counts)) ∙ ap (λ (n : ℕ). 8 * n) behind in
    let left : 8 * (p * p - j * p) - length part ≡ 8 * (p * p - (j + 1) * p) = omega (arith, next, room, long) in
    let more : done ++ part ≡ flat_map (field 8) (take ((j + 1) * p) counts) =
    sym (flat_map-append (field 8) (take (j * p) counts) (take p (drop (j * p) counts)))
    ∙ ap (flat_map (field 8)) (sym (take-add (j * p) p counts) ∙ ap (λ (k : ℕ). take k counts) (sym next)) in
    written_next (32 + 8 * (j * p)) (head ++ done) part (replicate (8 * (p * p - j * p)) 0) front
    ∙ ap₂ ◌++◌ (append_assoc head done part ∙ ap (λ l. head ++ l) more) (drop-replicate (length part) (8 * (p * p - j * p)) 0 ∙ ap (λ (k : ℕ). replicate k 0) left)

-- the magic in a Meta that is whole but for it
pub marked : (info : GridInfo) (counts : List ℕ) → overwritten 0 magic (unfinished info counts 0) ≡ meta_bytes info counts
marked info counts =
    let head = head_fields info in
    let tail = flat_map (field 8) counts in
    let start : 0 + length magic ≡ 8 = omega (arith, length-magic) in
    let rest : drop (0 + length magic) (unfinished info counts 0) ≡ head ++ tail ++ [] = ap (λ (k : ℕ). drop k (unfinished info counts 0)) start in
    ap (λ l. magic ++ l) (rest ∙ append-nil (head ++ tail)) ∙ sym (append_assoc magic head tail)

-- how long an unfinished Meta is
pub length-unfinished : (info : GridInfo) (counts : List ℕ) (left : ℕ) → length (unfinished info counts left) ≡ 32 + 8 * length counts + left
length-unfinished info counts left =
    let head = replicate 8 0 ++ head_fields info in
    omega (arith, length-append (head ++ flat_map (field 8) counts) (replicate left 0), length-append head (flat_map (field 8) counts), length-append (replicate 8 0) (head_fields info), length-head info, length-fields counts, length-replicate {A = ℕ})

-- there is room for a column in it
pub column_room : (info : GridInfo) (counts column : List ℕ) (p j : ℕ) → length counts ≡ p * p → length column ≡ 8 * p → j < p → 32 + 8 * (j * p) + length column ≤ length (unfinished info (take (j * p) counts) (8 * (p * p - j * p)))
column_room info counts column p j whole long h =
    let next : (j + 1) * p ≡ j * p + p = omega (arith, add-mul j 1 p) in
    let room : (j + 1) * p ≤ p * p = mul-le (j + 1) p p p (omega arith) (omega arith) in
    let done = length-take-le (j * p) counts (omega (arith, next, room, whole)) in
    omega (arith, next, room, done, long, length-unfinished info (take (j * p) counts) (8 * (p * p - j * p)))

-- the magic in a Meta that is told as a whole one but for it
pub marked_told : (info : GridInfo) (counts : List ℕ) (old first mid new : Option (List ℕ)) (x : List ℕ) → first ≡ option_map (λ _. x) old → mid ≡ option_map (λ _. unfinished info counts 0) first → new ≡ option_map (overwritten 0 magic) mid → new ≡ option_map (λ _. meta_bytes info counts) old
marked_told info counts old first mid new x begun whole is =
    let all = whole ∙ ap (option_map (λ _. unfinished info counts 0)) begun ∙ option_map-const (λ _. unfinished info counts 0) x old in
    is ∙ ap (option_map (overwritten 0 magic)) all ∙ option_map-const (overwritten 0 magic) (unfinished info counts 0) old
    ∙ ap (λ y. option_map (λ _. y) old) (marked info counts)

-- the same where the write of the magic failed
pub marked_half : (info : GridInfo) (counts : List ℕ) (first mid new : Option (List ℕ)) → mid ≡ option_map (λ _. unfinished info counts 0) first → MarkedWhole mid new → IfSome new (λ meta. (starts_with nat_eq meta magic ≡ false) ⊎ (meta ≡ meta_bytes info counts))
marked_half info counts first mid new whole half =
    let P : List ℕ → Type 0 = λ y. IfSome new (λ meta. (starts_with nat_eq meta magic ≡ false) ⊎ (meta ≡ y)) in
    subst P (marked info counts) (marked_as first mid new (unfinished info counts 0) whole half)

-- one column more in a Meta that is told
pub column_told : (info : GridInfo) (counts column : List ℕ) (p j : ℕ) (old mid new : Option (List ℕ)) → length counts ≡ p * p → j < p → column ≡ flat_map (field 8) (take (j * p + p - j * p) (drop (j * p) counts)) → mid ≡ option_map (λ _. unfinished info (take (j * p) counts) (8 * (p * p - j * p))) old → new ≡ option_map (overwritten (32 + 8 * (j * p)) column) mid →
    new ≡ option_map (λ _. unfinished info (take ((j + 1) * p) counts) (8 * (p * p - (j + 1) * p))) old
column_told info counts column p j old mid new whole h part before is =
    let many : j * p + p - j * p ≡ p = omega arith in
    let place = 32 + 8 * (j * p) in
    let was = unfinished info (take (j * p) counts) (8 * (p * p - j * p)) in
    let same : column ≡ flat_map (field 8) (take p (drop (j * p) counts)) = part ∙ ap (λ (k : ℕ). flat_map (field 8) (take k (drop (j * p) counts))) many in
    is ∙ ap (option_map (overwritten place column)) before ∙ option_map-const (overwritten place column) was old
    ∙ ap (λ y. option_map (λ _. y) old) (ap (λ b. overwritten place b was) same ∙ columns_written info counts p j whole h)
