-- A Meta that was written is read.
use Rattle.std.proofs.Common.{◌≡◌, ◌==◌, ℕ, zero, suc, ◌+◌, ◌*◌, ◌^◌, ◌<◌, ◌≤◌, true, false, nat_eq, nat_lt, List, [], ◌∷◌, ◌++◌, length, drop, sum, Ok, refl, sym, ap, ap₂, ◌∙◌, arith, append_assoc, length-append}
use Rattle.std.specs.List.{flat_map, starts_with}
use Rattle.std.proofs.lemmas.Bool.{eq-eqb}
use Rattle.std.proofs.lemmas.Bool.Decides.{nat_tests}
use Rattle.std.proofs.lemmas.List.{drop_at, drop-drop, take_at}
use Rattle.std.proofs.lemmas.List.Sums.{sum_by-cons}
use Rattle.byteorder.specs.Endian.{little_number}
use Rattle.byteorder.specs.Numbers.{little_number-reads_back}
use lib.Pointwise.{pointwise}
use Rattle.lumos_depot.specs.declared.depot.FileKind.{FileKind}
use Rattle.lumos_depot.specs.declared.depot.FileKind.TheVariants.{Meta, Primary, Secondary, Info}
use Rattle.grid_format.specs.Checks.{GridFiles, ◌>>=◌, added, counted, fields_of, head_of, judged, reached, sized, table_of}
use Rattle.grid_format.specs.Heads.{IsHead, counts_of, field, head_at, head_fields, magic, meta_bytes, meta_length, number_at, numbers}
use Rattle.grid_format.specs.Tables.{low_edges}
use Rattle.grid_format.specs.declared.head.GridInfo.{GridInfo}
use Rattle.grid_format.proofs.NumberLemmas.{length-magic}
use Rattle.grid_format.proofs.WriteLemmas.{length-field, length-fields, length-head}

-- a number behind others is read from its place among the rest
pub number_behind : (n place q : ℕ) (front rest : List ℕ) → length front ≡ place → number_at n (place + q) (front ++ rest) ≡ number_at n q rest
unfolding number_at
number_behind n place q front rest long =
    ap (little_number n) (sym (drop-drop q place (front ++ rest)) ∙ ap (drop q) (drop_at front rest place long))

-- a number that was written is read back
pub number_front : (n x : ℕ) (rest : List ℕ) → x < 256 ^ n → number_at n 0 (field n x ++ rest) ≡ x
unfolding number_at field
number_front n x rest fits = little_number-reads_back n x rest fits

numbers_behind : (m place q : ℕ) (front rest : List ℕ) → length front ≡ place → numbers (place + q) m (front ++ rest) ≡ numbers q m rest
numbers_behind zero place q front rest long = refl
numbers_behind (suc m) place q front rest long =
    let next : place + q + 8 ≡ place + (q + 8) = omega arith in
    ap₂ ◌∷◌ (number_behind 8 place q front rest long)
    (ap (λ (k : ℕ). numbers k m (front ++ rest)) next ∙ numbers_behind m place (q + 8) front rest long)

numbers_front : (xs : List ℕ) → sum xs < 2 ^ 64 → numbers 0 (length xs) (flat_map (field 8) xs) ≡ xs
numbers_front [] fits = refl
numbers_front (x ∷ xs) fits =
    let all = sum_by-cons (λ x. x) x xs in
    ap₂ ◌∷◌ (number_front 8 x (flat_map (field 8) xs) (omega (arith, all)))
    (numbers_behind (length xs) 8 0 (field 8 x) (flat_map (field 8) xs) (length-field 8 x) ∙ numbers_front xs (omega (arith, all)))

length-front : (info : GridInfo) → length (magic ++ head_fields info) ≡ 32
length-front info = omega (arith, length-append magic (head_fields info), length-magic, length-head info)

pub length-meta : (info : GridInfo) (counts : List ℕ) → length (meta_bytes info counts) ≡ 32 + 8 * length counts
length-meta info counts =
    omega (arith, length-append (magic ++ head_fields info) (flat_map (field 8) counts), length-front info, length-fields counts)

-- the counts that were written are read back
pub counts_read : (info : GridInfo) (counts : List ℕ) (p : ℕ) → length counts ≡ p * p → sum counts < 2 ^ 64 → counts_of p (meta_bytes info counts) ≡ counts
counts_read info counts p long fits =
    ap (λ (n : ℕ). numbers 32 n (meta_bytes info counts)) (sym long)
    ∙ numbers_behind (length counts) 32 0 (magic ++ head_fields info) (flat_map (field 8) counts) (length-front info)
    ∙ numbers_front counts fits

-- counts that don't pass the edges are all added
added_all : (edges place total : ℕ) (xs : List ℕ) → total + sum xs ≤ edges → added edges place total xs ≡ Ok (total + sum xs)
added_all edges place total [] fits = let same : total ≡ total + 0 = omega arith in ap Ok same
added_all edges place total (x ∷ xs) fits =
    let all = sum_by-cons (λ x. x) x xs in
    let test : nat_lt edges (total + x) ≡ false = within (omega (arith, all)) in
    let whole : total + x + sum xs ≡ total + sum (x ∷ xs) = omega (arith, all) in
    rw test (added_all edges (place + 8) (total + x) xs (omega (arith, all)) ∙ ap Ok whole)
  where
    within : total + x ≤ edges → nat_lt edges (total + x) ≡ false
    within h = grind (arith, nat_tests)

pub counted_all : (edges : ℕ) (counts : List ℕ) → sum counts ≡ edges → counted edges counts ≡ Ok tt
counted_all edges counts whole =
    ap (λ r. r >>= reached edges) (added_all edges 32 0 counts (omega (arith, whole)) ∙ ap Ok (let e : 0 + sum counts ≡ edges = omega (arith, whole) in e))
    ∙ reached_same edges
  where
    reached_same : (n : ℕ) → reached n n ≡ Ok tt
    reached_same n = let test : nat_lt n n ≡ false = grind (arith, nat_tests) in rw test refl

pub sized_same : (kind : FileKind) (want found : ℕ) → found ≡ want → sized kind want found ≡ Ok tt
sized_same kind want found is = rw (eq-eqb found want is) refl

judged_head : (info : GridInfo) → info.version ≡ 1 → IsHead info → judged info 0 ≡ Ok info
judged_head info first h =
    let version : (info.version == 1) ≡ true = eq-eqb info.version 1 first in
    let none : (info.parts == 0) ≡ false = positive info.parts h.some_parts in
    let few : nat_lt 256 info.parts ≡ false = below 256 info.parts h.few_parts in
    let vertices : nat_lt 268435456 info.vertices ≡ false = below 268435456 info.vertices h.vertices in
    let edges : nat_lt 2147483648 info.edges ≡ false = below 2147483648 info.edges h.edges in
    rw (version, none, few, vertices, edges) refl
  where
    below : (a b : ℕ) → b ≤ a → nat_lt a b ≡ false
    below a b k = grind (arith, nat_tests)

    positive : (a : ℕ) → 0 < a → (a == 0) ≡ false
    positive a k = grind (arith, nat_tests)

magic_same : pointwise nat_eq magic magic ≡ true
unfolding magic
magic_same = refl

begins_magic : (rest : List ℕ) → starts_with nat_eq (magic ++ rest) magic ≡ true
begins_magic rest = ap (pointwise nat_eq magic) (take_at magic rest (length magic) refl) ∙ magic_same

-- the head that was written is read back
pub fields_read : (info : GridInfo) (counts : List ℕ) → info.version ≡ 1 → IsHead info → fields_of (meta_bytes info counts) ≡ Ok info
fields_read info counts first h =
    let a = field 4 info.version in
    let b = field 4 info.parts in
    let d = field 4 info.vertices in
    let e = field 4 0 in
    let f = field 8 info.edges in
    let r4 = f ++ flat_map (field 8) counts in
    let r3 = e ++ r4 in
    let r2 = d ++ r3 in
    let r1 = b ++ r2 in
    let r0 = a ++ r1 in
    let meta = meta_bytes info counts in
    let regrouped : meta ≡ magic ++ r0 = simp append_assoc in
    let begins : starts_with nat_eq meta magic ≡ true = ap (λ m. starts_with nat_eq m magic) regrouped ∙ begins_magic r0 in
    let long : nat_lt (length meta) 32 ≡ false = long_enough (length meta) (omega (arith, length-meta info counts)) in
    let behind_a = length-field 4 info.version in
    let behind_b = length-field 4 info.parts in
    let behind_d = length-field 4 info.vertices in
    let behind_e = length-field 4 0 in
    let version : number_at 4 8 meta ≡ info.version = ap (number_at 4 8) regrouped ∙ number_behind 4 8 0 magic r0 length-magic ∙ number_front 4 info.version r1 (omega (arith, first)) in
    let parts : number_at 4 12 meta ≡ info.parts = ap (number_at 4 12) regrouped ∙ number_behind 4 8 4 magic r0 length-magic ∙ number_behind 4 4 0 a r1 behind_a ∙ number_front 4 info.parts r2 (omega (arith, h.few_parts)) in
    let vertices : number_at 4 16 meta ≡ info.vertices = ap (number_at 4 16) regrouped ∙ number_behind 4 8 8 magic r0 length-magic ∙ number_behind 4 4 4 a r1 behind_a ∙ number_behind 4 4 0 b r2 behind_b ∙ number_front 4 info.vertices r3 (omega (arith, h.vertices)) in
    let word : number_at 4 20 meta ≡ 0 = ap (number_at 4 20) regrouped ∙ number_behind 4 8 12 magic r0 length-magic ∙ number_behind 4 4 8 a r1 behind_a ∙ number_behind 4 4 4 b r2 behind_b ∙ number_behind 4 4 0 d r3 behind_d ∙ number_front 4 0 r4 (omega arith) in
    let edges : number_at 8 24 meta ≡ info.edges = ap (number_at 8 24) regrouped ∙ number_behind 8 8 16 magic r0 length-magic ∙ number_behind 8 4 12 a r1 behind_a ∙ number_behind 8 4 8 b r2 behind_b ∙ number_behind 8 4 4 d r3 behind_d ∙ number_behind 8 4 0 e r4 behind_e ∙ number_front 8 info.edges (flat_map (field 8) counts) (omega (arith, h.edges)) in
    let head : head_at 8 meta ≡ info = λ i. record { version = version i; parts = parts i; vertices = vertices i; edges = edges i } in
    rw (begins, long) (ap₂ judged head word ∙ judged_head info first h)
  where
    long_enough : (n : ℕ) → 32 ≤ n → nat_lt n 32 ≡ false
    long_enough n k = grind (arith, nat_tests)

-- files that pass each check of the head pass all
pub head_whole : (files : GridFiles) (info : GridInfo) → fields_of files.meta ≡ Ok info → length files.meta ≡ meta_length info.parts → counted info.edges (counts_of info.parts files.meta) ≡ Ok tt → length files.primary ≡ 12 * info.edges → length files.secondary ≡ 12 * low_edges (table_of info.parts files.meta) info.parts → length files.info ≡ 12 * info.vertices → head_of files ≡ Ok info
head_whole files info fields long counts primary secondary infos =
    rw (fields, sized_same Meta (meta_length info.parts) (length files.meta) long, counts, sized_same Primary (12 * info.edges) (length files.primary) primary, sized_same Secondary (12 * low_edges (table_of info.parts files.meta) info.parts) (length files.secondary) secondary, sized_same Info (12 * info.vertices) (length files.info) infos) refl
