-- Records in a row, and the values that they stand for.
use Rattle.std.proofs.Common.{◌≡◌, ℕ, zero, suc, ◌+◌, ◌-◌, ◌*◌, ◌<◌, ◌≤◌, List, [], ◌∷◌, ◌++◌, length, set, take, drop, map, Option, Some, refl, sym, ap, ap₂, subst, ◌∙◌, arith, length-append}
use Rattle.std.proofs.Math.Nat.{mul-suc}
use Rattle.std.proofs.lemmas.List.{drop-drop, drop-take, length-take-le, map-append, take-take, take_more_set}
use Rattle.lumos_depot.specs.Files.{range_at}
use Rattle.value_files.specs.Records.{AreRecords, records_at}

-- one more of w each
pub times_more : (w n : ℕ) → w * (n + 1) ≡ w * n + w
times_more w n = let one : n + 1 ≡ suc n = omega arith in ap (λ (k : ℕ). w * k) one ∙ mul-suc w n

-- so many more
pub times_add : (w n m : ℕ) → w * (n + m) ≡ w * n + w * m
times_add w n zero = let a : n + zero ≡ n = omega arith in ap (λ (k : ℕ). w * k) a ∙ (let b : w * n ≡ w * n + w * zero = omega arith in b)
times_add w n (suc m) =
    let a : n + suc m ≡ suc (n + m) = omega arith in
    let b = times_add w n m in
    ap (λ (k : ℕ). w * k) a ∙ mul-suc w (n + m) ∙ (let c : w * (n + m) + w ≡ w * n + (w * m + w) = omega arith in c) ∙ ap (λ (k : ℕ). w * n + k) (sym (mul-suc w m))

pub times_within : (w n m : ℕ) → n ≤ m → w * n ≤ w * m
times_within w n m low =
    let whole : m ≡ n + (m - n) = omega arith in
    let cut = ap (λ (k : ℕ). w * k) whole ∙ times_add w n (m - n) in
    omega (arith, cut)

pub length-records : (w place n : ℕ) (bytes : List ℕ) → length (records_at w place n bytes) ≡ n
length-records w place zero bytes = refl
length-records w place (suc n) bytes = ap suc (length-records w (place + w) n bytes)

-- so many records, and those behind them
pub records-add : (w place n m : ℕ) (bytes : List ℕ) → records_at w place (n + m) bytes ≡ records_at w place n bytes ++ records_at w (place + w * n) m bytes
records-add w place zero m bytes =
    let a : zero + m ≡ m = omega arith in
    let b : place ≡ place + w * zero = omega arith in
    ap (λ (k : ℕ). records_at w place k bytes) a ∙ ap (λ (p : ℕ). records_at w p m bytes) b
records-add w place (suc n) m bytes =
    let a : suc n + m ≡ suc (n + m) = omega arith in
    let b : place + w + w * n ≡ place + w * suc n = omega (arith, mul-suc w n) in
    ap (λ (k : ℕ). records_at w place k bytes) a
    ∙ ap (λ l. range_at place w bytes ∷ l) (records-add w (place + w) n m bytes ∙ ap (λ (p : ℕ). records_at w (place + w) n bytes ++ records_at w p m bytes) b)

-- what is dropped of a range of a file
pub drop_range : (k place m : ℕ) (file : List ℕ) → k ≤ m → drop k (range_at place m file) ≡ take (m - k) (drop (place + k) file)
drop_range k place m file h =
    let whole : m ≡ k + (m - k) = omega arith in
    ap (λ (n : ℕ). drop k (take n (drop place file))) whole ∙ drop-take k (m - k) (drop place file) ∙ ap (take (m - k)) (drop-drop k place file)

-- a range of a range
pub range_in_range : (k w place m : ℕ) (file : List ℕ) → k + w ≤ m → range_at k w (range_at place m file) ≡ range_at (place + k) w file
range_in_range k w place m file room =
    ap (take w) (drop_range k place m file (omega arith)) ∙ take-take w (m - k) (drop (place + k) file) (omega arith)

-- the records of a range are those that stand there in the file
pub records_in_range : (w n k place m : ℕ) (file : List ℕ) → k + w * n ≤ m → records_at w k n (range_at place m file) ≡ records_at w (place + k) n file
records_in_range w zero k place m file room = refl
records_in_range w (suc n) k place m file room =
    let more = mul-suc w n in
    let next : place + (k + w) ≡ place + k + w = omega arith in
    ap₂ ◌∷◌ (range_in_range k w place m file (omega (arith, more)))
    (records_in_range w n (k + w) place m file (omega (arith, more)) ∙ ap (λ (p : ℕ). records_at w p n file) next)

-- the records of a range, from its first byte on
pub records_of_range : (w n place m : ℕ) (file bytes : List ℕ) → bytes ≡ range_at place m file → m ≡ w * n → records_at w 0 n bytes ≡ records_at w place n file
records_of_range w n place m file bytes is long =
    let here : place + 0 ≡ place = omega arith in
    ap (records_at w 0 n) is ∙ records_in_range w n 0 place m file (omega arith) ∙ ap (λ (p : ℕ). records_at w p n file) here

module _ {V : Type 0} (value_of : List ℕ → Option V) (w : ℕ) where
  pub are_none : (place : ℕ) (bytes : List ℕ) → AreRecords value_of w place [] bytes
  are_none place bytes = refl

  -- values, and those of the records behind theirs
  pub are_append : (place next : ℕ) (xs ys : List V) (bytes : List ℕ) → next ≡ place + w * length xs → AreRecords value_of w place xs bytes → AreRecords value_of w next ys bytes → AreRecords value_of w place (xs ++ ys) bytes
  are_append place next xs ys bytes is first second =
      ap (λ (k : ℕ). map value_of (records_at w place k bytes)) (length-append xs ys)
      ∙ ap (map value_of) (records-add w place (length xs) (length ys) bytes ∙ ap (λ (p : ℕ). records_at w place (length xs) bytes ++ records_at w p (length ys) bytes) (sym is))
      ∙ map-append value_of (records_at w place (length xs) bytes) (records_at w next (length ys) bytes)
      ∙ ap₂ ◌++◌ first second
      ∙ sym (map-append Some xs ys)

  -- one value more
  pub are_more : (place : ℕ) (out : List V) (i : ℕ) (x : V) (bytes : List ℕ) → i < length out → value_of (range_at (place + w * i) w bytes) ≡ Some x → AreRecords value_of w place (take i out) bytes → AreRecords value_of w place (take (i + 1) (set out i x)) bytes
  are_more place out i x bytes low is had =
      let long = length-take-le i out (omega arith) in
      let next : place + w * i ≡ place + w * length (take i out) = ap (λ (k : ℕ). place + w * k) (sym long) in
      subst (λ l. AreRecords value_of w place l bytes) (sym (take_more_set out i x low))
      (are_append place (place + w * i) (take i out) (x ∷ []) bytes next had (ap (λ o. o ∷ []) is))

  -- the values of a range that was read are those that stand there in the file
  pub are_of_range : (place m : ℕ) (items : List V) (file bytes : List ℕ) → bytes ≡ range_at place m file → m ≡ w * length items → AreRecords value_of w 0 items bytes → AreRecords value_of w place items file
  are_of_range place m items file bytes is long had =
      ap (map value_of) (sym (records_of_range w (length items) place m file bytes is long)) ∙ had

  somes_same : (xs ys : List V) → map Some xs ≡ map Some ys → xs ≡ ys
  somes_same [] [] is = refl
  somes_same [] (y ∷ ys) is = absurd (cc)
  somes_same (x ∷ xs) [] is = absurd (cc)
  somes_same (x ∷ xs) (y ∷ ys) is =
      let first : x ≡ y = cc in
      let rest : map Some xs ≡ map Some ys = cc in
      ap₂ ◌∷◌ first (somes_same xs ys rest)

  -- so many records stand for one list of values
  pub are_same : (place : ℕ) (xs ys : List V) (bytes : List ℕ) → length xs ≡ length ys → AreRecords value_of w place xs bytes → AreRecords value_of w place ys bytes → xs ≡ ys
  are_same place xs ys bytes long first second =
      somes_same xs ys (sym first ∙ ap (λ (k : ℕ). map value_of (records_at w place k bytes)) long ∙ second)
