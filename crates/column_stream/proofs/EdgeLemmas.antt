-- The edges of records, part by part.
use Rattle.std.proofs.Common.{◌≡◌, ℕ, zero, suc, ◌+◌, ◌-◌, ◌*◌, ◌<◌, ◌≤◌, List, [], ◌∷◌, ◌++◌, length, set, take, drop, refl, sym, ap, ap₂, ◌∙◌, arith}
use Rattle.std.proofs.lemmas.List.{drop-drop, drop-take, take_more_set}
use Rattle.byteorder.specs.Endian.{little_number}
use Rattle.byteorder.specs.Numbers.{little_from-take}
use Rattle.lumos_base.specs.Records.{edge_from, vertex_of, weight_of}
use Rattle.lumos_base.specs.declared.records.Edge.{Edge}
use Rattle.lumos_depot.specs.Files.{range_at}
use Rattle.column_stream.specs.Records.{edges_at}

-- the edges of so many records, and those of the records behind them
pub edges-add : (place n m : ℕ) (bytes : List ℕ) → edges_at place (n + m) bytes ≡ edges_at place n bytes ++ edges_at (place + 12 * n) m bytes
edges-add place zero m bytes =
    let a : zero + m ≡ m = omega arith in
    let b : place ≡ place + 12 * zero = omega arith in
    ap (λ (k : ℕ). edges_at place k bytes) a ∙ ap (λ (p : ℕ). edges_at p m bytes) b
edges-add place (suc n) m bytes =
    let a : suc n + m ≡ suc (n + m) = omega arith in
    let b : place + 12 + 12 * n ≡ place + 12 * suc n = omega arith in
    ap (λ (k : ℕ). edges_at place k bytes) a
    ∙ ap (λ l. edge_from (drop place bytes) ∷ l) (edges-add (place + 12) n m bytes ∙ ap (λ (p : ℕ). edges_at (place + 12) n bytes ++ edges_at p m bytes) b)

pub length-edges : (place n : ℕ) (bytes : List ℕ) → length (edges_at place n bytes) ≡ n
length-edges place zero bytes = refl
length-edges place (suc n) bytes = ap suc (length-edges (place + 12) n bytes)

-- one edge more
pub edges_more : (place n : ℕ) (bytes : List ℕ) → edges_at place (n + 1) bytes ≡ edges_at place n bytes ++ edge_from (drop (place + 12 * n) bytes) ∷ []
edges_more place n bytes = edges-add place n 1 bytes

-- an edge is read from its first twelve bytes
pub edge_front : (n : ℕ) (bytes : List ℕ) → 12 ≤ n → edge_from (take n bytes) ≡ edge_from bytes
edge_front n bytes h =
    let source = little_from-take 0 4 n bytes (omega arith) in
    let four : drop 4 (take n bytes) ≡ take (n - 4) (drop 4 bytes) =
    (let e : n ≡ 4 + (n - 4) = omega arith in ap (λ (k : ℕ). drop 4 (take k bytes)) e ∙ drop-take 4 (n - 4) bytes) in
    let eight : drop 8 (take n bytes) ≡ take (n - 8) (drop 8 bytes) =
    (let e : n ≡ 8 + (n - 8) = omega arith in ap (λ (k : ℕ). drop 8 (take k bytes)) e ∙ drop-take 8 (n - 8) bytes) in
    let target = ap (little_number 4) four ∙ little_from-take 0 4 (n - 4) (drop 4 bytes) (omega arith) in
    let weight = ap (little_number 4) eight ∙ little_from-take 0 4 (n - 8) (drop 8 bytes) (omega arith) in
    λ i. record { source = vertex_of (source i); target = vertex_of (target i); weight = weight_of (weight i) }

pub edge_at_front : (n place : ℕ) (bytes : List ℕ) → n ≡ 12 → edge_from (take n (drop place bytes)) ≡ edge_from (drop place bytes)
edge_at_front n place bytes is = edge_front n (drop place bytes) (omega arith)

-- what is dropped of a range of a file
drop_range : (k place m : ℕ) (file : List ℕ) → k ≤ m → drop k (range_at place m file) ≡ take (m - k) (drop (place + k) file)
drop_range k place m file h =
    let whole : m ≡ k + (m - k) = omega arith in
    ap (λ (n : ℕ). drop k (take n (drop place file))) whole ∙ drop-take k (m - k) (drop place file) ∙ ap (take (m - k)) (drop-drop k place file)

-- the edges read from a range are those that stand there in the file
pub edges_in_range : (n k place m : ℕ) (file : List ℕ) → k + 12 * n ≤ m → edges_at k n (range_at place m file) ≡ edges_at (place + k) n file
edges_in_range zero k place m file h = refl
edges_in_range (suc n) k place m file h =
    let next : place + (k + 12) ≡ place + k + 12 = omega arith in
    ap₂ ◌∷◌ (ap edge_from (drop_range k place m file (omega arith)) ∙ edge_front (m - k) (drop (place + k) file) (omega arith))
    (edges_in_range n (k + 12) place m file (omega arith) ∙ ap (λ (p : ℕ). edges_at p n file) next)

-- the edges of a range, from its first byte on
pub edges_of_range : (n place m : ℕ) (file bytes : List ℕ) → bytes ≡ range_at place m file → m ≡ 12 * n → edges_at 0 n bytes ≡ edges_at place n file
edges_of_range n place m file bytes is long =
    let here : place + 0 ≡ place = omega arith in
    ap (edges_at 0 n) is ∙ edges_in_range n 0 place m file (omega arith) ∙ ap (λ (p : ℕ). edges_at p n file) here

-- one edge more was read
pub read_more : (bytes : List ℕ) (out : List Edge) (i : ℕ) (e : Edge) → i < length out → e ≡ edge_from (drop (12 * i) bytes) → take i out ≡ edges_at 0 i bytes → take (i + 1) (set out i e) ≡ edges_at 0 (i + 1) bytes
read_more bytes out i e low is had =
    let place : 12 * i ≡ 0 + 12 * i = omega arith in
    take_more_set out i e low
    ∙ ap₂ (λ l x. l ++ x ∷ []) had (is ∙ ap (λ (p : ℕ). edge_from (drop p bytes)) place)
    ∙ sym (edges_more 0 i bytes)
