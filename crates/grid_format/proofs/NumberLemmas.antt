-- Numbers read from a range of a file, and counts added up piece by piece.
use Rattle.std.proofs.Common.{◌≡◌, ℕ, zero, suc, ◌+◌, ◌-◌, ◌*◌, ◌<◌, ◌≤◌, ◌&&◌, Bool, true, false, nat_eq, nat_lt, List, [], ◌∷◌, ◌++◌, length, take, drop, sum, Ok, Err, refl, sym, ap, ap₂, ◌∙◌, arith, if◌then◌else◌}
use Rattle.std.specs.List.{starts_with}
use Rattle.std.proofs.lemmas.List.Sums.{sum_by-append, sum_by-cons}
use Rattle.std.proofs.Math.Nat.{add-mul}
use Rattle.std.proofs.lemmas.Nat.{mul-le}
use Rattle.std.proofs.lemmas.List.{drop-drop, drop-take, take-take, take_all, take_at}
use Rattle.std.proofs.lemmas.Bool.Decides.{nat_tests}
use lib.Pointwise.{pointwise}
use Rattle.byteorder.specs.Endian.{little_number}
use Rattle.byteorder.specs.Numbers.{little_from-take}
use Rattle.lumos_depot.specs.Files.{range_at}
use Rattle.grid_format.specs.Heads.{number_at, numbers, magic}
use Rattle.grid_format.specs.Checks.{added, ◌>>=◌}

-- what is dropped of a front is the front of what is dropped
drop_front : (k m : ℕ) (xs : List ℕ) → k ≤ m → drop k (take m xs) ≡ take (m - k) (drop k xs)
drop_front k m xs h =
    let whole : m ≡ k + (m - k) = omega arith in
    ap (λ (n : ℕ). drop k (take n xs)) whole ∙ drop-take k (m - k) xs

-- a number read from a range is the one that stands there in the file
pub number_in_range : (n k place m : ℕ) (file : List ℕ) → k + n ≤ m → number_at n k (range_at place m file) ≡ number_at n (place + k) file
unfolding number_at
number_in_range n k place m file h =
    ap (little_number n) (drop_front k m (drop place file) (omega arith))
    ∙ little_from-take 0 n (m - k) (drop k (drop place file)) (omega arith)
    ∙ ap (little_number n) (drop-drop k place file)

-- the same of the numbers in a row
pub numbers_in_range : (n k place m : ℕ) (file : List ℕ) → k + 8 * n ≤ m → numbers k n (range_at place m file) ≡ numbers (place + k) n file
numbers_in_range zero k place m file h = refl
numbers_in_range (suc n) k place m file h =
    let next : place + (k + 8) ≡ place + k + 8 = omega arith in
    ap₂ ◌∷◌ (number_in_range 8 k place m file (omega arith))
    (numbers_in_range n (k + 8) place m file (omega arith) ∙ ap (λ (p : ℕ). numbers p n file) next)

pub length-numbers : (place n : ℕ) (file : List ℕ) → length (numbers place n file) ≡ n
length-numbers place zero file = refl
length-numbers place (suc n) file = ap suc (length-numbers (place + 8) n file)

-- numbers in a row, cut in two
pub numbers-add : (place n m : ℕ) (file : List ℕ) → numbers place (n + m) file ≡ numbers place n file ++ numbers (place + 8 * n) m file
numbers-add place zero m file =
    let a : zero + m ≡ m = omega arith in
    let b : place ≡ place + 8 * zero = omega arith in
    ap (λ (k : ℕ). numbers place k file) a ∙ ap (λ (p : ℕ). numbers p m file) b
numbers-add place (suc n) m file =
    let a : suc n + m ≡ suc (n + m) = omega arith in
    let b : place + 8 + 8 * n ≡ place + 8 * suc n = omega arith in
    ap (λ (k : ℕ). numbers place k file) a
    ∙ ap (λ l. number_at 8 place file ∷ l) (numbers-add (place + 8) n m file ∙ ap (λ (p : ℕ). numbers (place + 8) n file ++ numbers p m file) b)

-- a front of a row
pub numbers-take : (place n m : ℕ) (file : List ℕ) → n ≤ m → take n (numbers place m file) ≡ numbers place n file
numbers-take place n m file h =
    let cut : m ≡ n + (m - n) = omega arith in
    ap (λ (k : ℕ). take n (numbers place k file)) cut ∙ ap (take n) (numbers-add place n (m - n) file)
    ∙ take_at (numbers place n file) (numbers (place + 8 * n) (m - n) file) n (length-numbers place n file)

-- no rest of a row has a greater sum
pub sum-numbers-rest : (n k : ℕ) (bytes : List ℕ) → k ≤ n → sum (numbers (8 * k) (n - k) bytes) ≤ sum (numbers 0 n bytes)
sum-numbers-rest n k bytes h =
    let cut : n ≡ k + (n - k) = omega arith in
    let place : 0 + 8 * k ≡ 8 * k = omega arith in
    let whole = ap sum (ap (λ (m : ℕ). numbers 0 m bytes) cut ∙ numbers-add 0 k (n - k) bytes) in
    omega (arith, whole, ap (λ (q : ℕ). sum (numbers q (n - k) bytes)) place, sum_by-append (λ x. x) (numbers 0 k bytes) (numbers (0 + 8 * k) (n - k) bytes))

-- one number of a row
pub numbers_step : (n i : ℕ) (bytes : List ℕ) → i < n → numbers (8 * i) (n - i) bytes ≡ number_at 8 (8 * i) bytes ∷ numbers (8 * (i + 1)) (n - (i + 1)) bytes
numbers_step n i bytes h =
    let more : n - i ≡ suc (n - (i + 1)) = omega arith in
    let next : 8 * i + 8 ≡ 8 * (i + 1) = omega arith in
    ap (λ (k : ℕ). numbers (8 * i) k bytes) more ∙ ap (λ (p : ℕ). number_at 8 (8 * i) bytes ∷ numbers p (n - (i + 1)) bytes) next

-- one count that fits
pub added_step : (edges place total n i count : ℕ) (bytes : List ℕ) → i < n → count ≡ number_at 8 (8 * i) bytes → total + count ≤ edges → added edges (place + 8 * i) total (numbers (8 * i) (n - i) bytes) ≡ added edges (place + 8 * (i + 1)) (total + count) (numbers (8 * (i + 1)) (n - (i + 1)) bytes)
added_step edges place total n i count bytes h is fits =
    let test : nat_lt edges (total + count) ≡ false = grind (arith, nat_tests) in
    let next : place + 8 * i + 8 ≡ place + 8 * (i + 1) = omega arith in
    rw (numbers_step n i bytes h, ← is, test, next) refl

-- counts added piece by piece
pub added-append : (edges place total : ℕ) (xs ys : List ℕ) → added edges place total (xs ++ ys) ≡ (added edges place total xs >>= λ t. added edges (place + 8 * length xs) t ys)
added-append edges place total [] ys =
    let here : place ≡ place + 8 * zero = omega arith in ap (λ (p : ℕ). added edges p total ys) here
added-append edges place total (x ∷ xs) ys =
    let next : place + 8 + 8 * length xs ≡ place + 8 * suc (length xs) = omega arith in
    by_test (added-append edges (place + 8) (total + x) xs ys ∙ ap (λ (p : ℕ). added edges (place + 8) (total + x) xs >>= λ t. added edges p t ys) next) (nat_lt edges (total + x))
  where
    by_test : added edges (place + 8) (total + x) (xs ++ ys) ≡ (added edges (place + 8) (total + x) xs >>= λ t. added edges (place + 8 * suc (length xs)) t ys) → (b : Bool) → (if b then Err (record { place = place; found = x }) else added edges (place + 8) (total + x) (xs ++ ys)) ≡ ((if b then Err (record { place = place; found = x }) else added edges (place + 8) (total + x) xs) >>= λ t. added edges (place + 8 * suc (length xs)) t ys)
    by_test rest true = refl
    by_test rest false = rest

-- a front of the file shows whether it begins with these bytes
pub starts_with-take : (n : ℕ) (xs p : List ℕ) → length p ≤ n → starts_with nat_eq (take n xs) p ≡ starts_with nat_eq xs p
starts_with-take n xs p h = rw (take-take (length p) n xs h) refl

pub length-magic : length magic ≡ 8
unfolding magic
length-magic = refl

pointwise-short : (p xs : List ℕ) → length xs < length p → pointwise nat_eq p xs ≡ false
pointwise-short [] xs h = absurd (omega arith)
pointwise-short (y ∷ p) [] h = refl
pointwise-short (y ∷ p) (x ∷ xs) h = let rest = pointwise-short p xs (omega arith) in rw rest (none (nat_eq y x))
  where
    none : (b : Bool) → (b && false) ≡ false
    none true = refl
    none false = refl

-- fewer bytes than those don't begin with them
pub starts_with-short : (xs p : List ℕ) → length xs < length p → starts_with nat_eq xs p ≡ false
starts_with-short xs p h = rw (take_all (length p) xs (omega arith)) (pointwise-short p xs h)

-- a column that was read is the one that stands in the file
pub column_numbers : (place n m : ℕ) (meta column : List ℕ) → column ≡ range_at place m meta → m ≡ 8 * n → numbers place n meta ≡ numbers 0 n column
column_numbers place n m meta column is long =
    let here : place + 0 ≡ place = omega arith in
    ap (λ (p : ℕ). numbers p n meta) (sym here) ∙ sym (numbers_in_range n 0 place m meta (omega arith)) ∙ ap (numbers 0 n) (sym is)

pub column_read : (edges place before n m : ℕ) (meta column : List ℕ) → column ≡ range_at place m meta → m ≡ 8 * n → added edges place before (numbers place n meta) ≡ added edges place before (numbers 0 n column)
column_read edges place before n m meta column is long = ap (added edges place before) (column_numbers place n m meta column is long)

-- the numbers from column j on: that column, and then those from the next on
pub numbers_split : (p j : ℕ) (meta : List ℕ) → j < p → numbers (32 + 8 * (j * p)) (p * p - j * p) meta ≡ numbers (32 + 8 * (j * p)) p meta ++ numbers (32 + 8 * ((j + 1) * p)) (p * p - (j + 1) * p) meta
numbers_split p j meta h =
    let place = 32 + 8 * (j * p) in
    let rest = p * p - (j + 1) * p in
    let next : (j + 1) * p ≡ j * p + p = omega (arith, add-mul j 1 p) in
    let room : (j + 1) * p ≤ p * p = mul-le (j + 1) p p p (omega arith) (omega arith) in
    let cut : p * p - j * p ≡ p + rest = omega (arith, next, room) in
    let behind : place + 8 * p ≡ 32 + 8 * ((j + 1) * p) = omega (arith, next) in
    ap (λ (n : ℕ). numbers place n meta) cut ∙ numbers-add place p rest meta
    ∙ ap (λ (q : ℕ). numbers place p meta ++ numbers q rest meta) behind

-- the counts from column j on, added: that column, and then those from the next on
pub columns_split : (edges p j total : ℕ) (meta : List ℕ) → j < p → added edges (32 + 8 * (j * p)) total (numbers (32 + 8 * (j * p)) (p * p - j * p) meta) ≡ (added edges (32 + 8 * (j * p)) total (numbers (32 + 8 * (j * p)) p meta) >>= λ t. added edges (32 + 8 * ((j + 1) * p)) t (numbers (32 + 8 * ((j + 1) * p)) (p * p - (j + 1) * p) meta))
columns_split edges p j total meta h =
    let place = 32 + 8 * (j * p) in
    let first = numbers place p meta in
    let rest = numbers (32 + 8 * ((j + 1) * p)) (p * p - (j + 1) * p) meta in
    let next : (j + 1) * p ≡ j * p + p = omega (arith, add-mul j 1 p) in
    let behind : place + 8 * length first ≡ 32 + 8 * ((j + 1) * p) = omega (arith, next, length-numbers place p meta) in
    ap (added edges place total) (numbers_split p j meta h) ∙ added-append edges place total first rest
    ∙ ap (λ (q : ℕ). added edges place total first >>= λ t. added edges q t rest) behind

-- what was added is the sum of the counts
pub added_sum : (edges place before total : ℕ) (xs : List ℕ) → added edges place before xs ≡ Ok total → total ≡ before + sum xs
added_sum edges place before total [] h = let same : before ≡ total = cc in omega (arith, same)
added_sum edges place before total (x ∷ xs) h = by_test (λ k. added_sum edges (place + 8) (before + x) total xs k) (nat_lt edges (before + x)) h
  where
    by_test : (added edges (place + 8) (before + x) xs ≡ Ok total → total ≡ before + x + sum xs) → (b : Bool) → (if b then Err (record { place = place; found = x }) else added edges (place + 8) (before + x) xs) ≡ Ok total → total ≡ before + sum (x ∷ xs)
    by_test rest true k = absurd (cc)
    by_test rest false k = let r = rest k in omega (arith, r, sum_by-cons (λ x. x) x xs)

-- no column is left
pub columns_end : (place p j : ℕ) (meta : List ℕ) → j ≡ p → numbers place (p * p - j * p) meta ≡ []
columns_end place p j meta is =
    let none : p * p - j * p ≡ 0 = rw is (omega arith) in ap (λ (n : ℕ). numbers place n meta) none

-- count i of column j is one of those of the table
pub in_square : (p j i : ℕ) → j < p → i < p → j * p + i < p * p
in_square p j i h k =
    let next : (j + 1) * p ≡ j * p + p = omega (arith, add-mul j 1 p) in
    let room : (j + 1) * p ≤ p * p = mul-le (j + 1) p p p (omega arith) (omega arith) in
    omega (arith, next, room)
