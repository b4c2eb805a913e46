-- Blocks one after another: where each begins, and how many edges there are in all.
use Rattle.std.proofs.Common.{◌≡◌, ℕ, zero, suc, ◌+◌, ◌*◌, ◌<◌, List, [], ◌∷◌, ◌++◌, length, get_or, take, drop, map, flat_map, sum, refl, sym, ap, ◌∙◌, arith, length-append}
use Rattle.std.specs.List.{range_with_len}
use Rattle.std.proofs.Math.Nat.{add-mul, mul_comm}
use Rattle.std.proofs.lemmas.List.{drop_at, get_or-append-add, get_or_append_left, take_at, take_all, drop_all, drop-drop, map-append}
use Rattle.std.proofs.lemmas.List.Concat.{flat_map-append}
use Rattle.std.proofs.Math.Seq.{take-append-add}
use Rattle.std.proofs.lemmas.List.Sums.{sum_by-cons}

pub length-range : (a n : ℕ) → length (range_with_len a n) ≡ n
length-range a zero = refl
length-range a (suc n) = ap suc (length-range (a + 1) n)

pub get_or-range : (a n i d : ℕ) → i < n → get_or (range_with_len a n) i d ≡ a + i
get_or-range a zero i d h = absurd (omega arith)
get_or-range a (suc n) zero d h = omega arith
get_or-range a (suc n) (suc i) d h = let rest = get_or-range (a + 1) n i d (omega arith) in omega (arith, rest)

suc_times : (m p : ℕ) → suc m * p ≡ p + m * p
suc_times m p =
    let e : suc m ≡ m + 1 = omega arith in
    let d = add-mul m 1 p in
    ap (λ (k : ℕ). k * p) e ∙ d ∙ (let f : m * p + 1 * p ≡ p + m * p = omega arith in f)

pub times_suc : (n m : ℕ) → n * suc m ≡ n + n * m
times_suc n m = mul_comm n (suc m) ∙ suc_times m n ∙ ap (λ (k : ℕ). n + k) (mul_comm m n)

module _ {X : Type 0} where
  -- lists of one length one after another: an element by its list and its place there
  pub get_or-rows : (g : ℕ → List X) (p a m j i : ℕ) (d : X) → ((k : ℕ) → length (g k) ≡ p) → j < m → i < p → get_or (flat_map g (range_with_len a m)) (j * p + i) d ≡ get_or (g (a + j)) i d
  get_or-rows g p a zero j i d long h k = absurd (omega arith)
  get_or-rows g p a (suc m) zero i d long h k =
      let place : 0 * p + i ≡ i = omega arith in
      let row : a ≡ a + 0 = omega arith in
      ap (λ (q : ℕ). get_or (g a ++ flat_map g (range_with_len (a + 1) m)) q d) place
      ∙ get_or_append_left (g a) (flat_map g (range_with_len (a + 1) m)) d i (omega (arith, long a))
      ∙ ap (λ (q : ℕ). get_or (g q) i d) row
  get_or-rows g p a (suc m) (suc j) i d long h k =
      let place : suc j * p + i ≡ length (g a) + (j * p + i) = omega (arith, long a, suc_times j p) in
      let row : a + 1 + j ≡ a + suc j = omega arith in
      ap (λ (q : ℕ). get_or (g a ++ flat_map g (range_with_len (a + 1) m)) q d) place
      ∙ get_or-append-add (g a) (flat_map g (range_with_len (a + 1) m)) (j * p + i) d
      ∙ get_or-rows g p (a + 1) m j i d long (omega arith) k
      ∙ ap (λ (q : ℕ). get_or (g q) i d) row

  pub length-rows : (g : ℕ → List X) (p a m : ℕ) → ((k : ℕ) → length (g k) ≡ p) → length (flat_map g (range_with_len a m)) ≡ m * p
  length-rows g p a zero long = omega arith
  length-rows g p a (suc m) long =
      let rest = length-rows g p (a + 1) m long in
      omega (arith, length-append (g a) (flat_map g (range_with_len (a + 1) m)), rest, long a, suc_times m p)

  -- the places of lists one after another, by their lengths
  pub part_at_place : (xss : List (List X)) (k : ℕ) → k < length xss → take (length (get_or xss k [])) (drop (sum (take k (map length xss))) (flat_map (λ xs. xs) xss)) ≡ get_or xss k []
  part_at_place [] k h = absurd (omega arith)
  part_at_place (xs ∷ xss) zero h = take_at xs (flat_map (λ xs. xs) xss) (length xs) refl
  part_at_place (xs ∷ xss) (suc k) h =
      let rest = flat_map (λ xs. xs) xss in
      let before : ℕ = sum (take k (map length xss)) in
      let skip : drop (length xs + before) (xs ++ rest) ≡ drop before rest = sym (drop-drop before (length xs) (xs ++ rest)) ∙ ap (drop before) (drop_at xs rest (length xs) refl) in
      ap (λ (q : ℕ). take (length (get_or xss k [])) (drop q (xs ++ rest))) (sum_by-cons (λ x. x) (length xs) (take k (map length xss)))
      ∙ ap (take (length (get_or xss k []))) skip
      ∙ part_at_place xss k (omega arith)

  pub sum-lengths : (xss : List (List X)) → sum (map length xss) ≡ length (flat_map (λ xs. xs) xss)
  sum-lengths [] = refl
  sum-lengths (xs ∷ xss) =
      let rest = sum-lengths xss in
      omega (arith, sum_by-cons (λ x. x) (length xs) (map length xss), length-append xs (flat_map (λ xs. xs) xss), rest)

  -- a function that gives n elements for each: its fronts and rests
  pub length-each : {Y : Type 0} (f : Y → List X) (n : ℕ) (ys : List Y) → ((y : Y) → length (f y) ≡ n) → length (flat_map f ys) ≡ n * length ys
  length-each f n [] long = omega arith
  length-each f n (y ∷ ys) long =
      let rest = length-each f n ys long in
      omega (arith, length-append (f y) (flat_map f ys), long y, rest, times_suc n (length ys))

  -- their rests
  pub drop-each : {Y : Type 0} (f : Y → List X) (n s : ℕ) (ys : List Y) → ((y : Y) → length (f y) ≡ n) → drop (n * s) (flat_map f ys) ≡ flat_map f (drop s ys)
  drop-each f n zero ys long = let none : n * 0 ≡ 0 = omega arith in ap (λ (k : ℕ). drop k (flat_map f ys)) none
  drop-each f n (suc s) [] long = drop_all (n * suc s) [] (omega arith)
  drop-each f n (suc s) (y ∷ ys) long =
      ap (λ (k : ℕ). drop k (f y ++ flat_map f ys)) (times_suc n s)
      ∙ sym (drop-drop (n * s) n (f y ++ flat_map f ys))
      ∙ ap (drop (n * s)) (drop_at (f y) (flat_map f ys) n (long y))
      ∙ drop-each f n s ys long

  -- their fronts
  pub take-each : {Y : Type 0} (f : Y → List X) (n s : ℕ) (ys : List Y) → ((y : Y) → length (f y) ≡ n) → take (n * s) (flat_map f ys) ≡ flat_map f (take s ys)
  take-each f n zero ys long = let none : n * 0 ≡ 0 = omega arith in ap (λ (k : ℕ). take k (flat_map f ys)) none
  take-each f n (suc s) [] long = take_all (n * suc s) [] (omega arith)
  take-each f n (suc s) (y ∷ ys) long =
      let start : n ≡ length (f y) = sym (long y) in
      ap (λ (k : ℕ). take k (f y ++ flat_map f ys)) (times_suc n s ∙ ap (λ (k : ℕ). k + n * s) start)
      ∙ take-append-add (f y) (flat_map f ys) (n * s)
      ∙ ap (λ l. f y ++ l) (take-each f n s ys long)

  pub flat_map-flat_map : {Y Z : Type 0} (f : Y → List X) (g : Z → List Y) (zs : List Z) → flat_map f (flat_map g zs) ≡ flat_map (λ z. flat_map f (g z)) zs
  flat_map-flat_map f g [] = refl
  flat_map-flat_map f g (z ∷ zs) = flat_map-append f (g z) (flat_map g zs) ∙ ap (λ l. flat_map f (g z) ++ l) (flat_map-flat_map f g zs)

  pub map-flat_map : {Y Z : Type 0} (f : Y → X) (g : Z → List Y) (zs : List Z) → map f (flat_map g zs) ≡ flat_map (λ z. map f (g z)) zs
  map-flat_map f g [] = refl
  map-flat_map f g (z ∷ zs) = map-append f (g z) (flat_map g zs) ∙ ap (λ l. map f (g z) ++ l) (map-flat_map f g zs)

  pub map_twice : {Y Z : Type 0} (f : Y → X) (g : Z → Y) (zs : List Z) → map f (map g zs) ≡ map (λ z. f (g z)) zs
  map_twice f g [] = refl
  map_twice f g (z ∷ zs) = ap (λ l. f (g z) ∷ l) (map_twice f g zs)
