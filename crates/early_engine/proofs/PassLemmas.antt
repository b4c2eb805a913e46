-- One block more among those that an iteration goes through.
use Rattle.std.proofs.Common.{◌≡◌, ◌==◌, ◌<◌, ℕ, ◌+◌, ◌*◌, ◌&&◌, Bool, true, false, not, cond, nat_lt, List, [], ◌∷◌, ◌++◌, flat_map, length, map, count_by, sum_by, refl, sym, ap, ap₂, ◌∙◌, arith, add-one, append-nil, length-append}
use Rattle.std.specs.List.{range_with_len}
use Rattle.std.proofs.lemmas.Bool.{eq-eqb, lt-ltb, ne_eqb}
use Rattle.std.proofs.lemmas.Grind.{flat_map-append}
use Rattle.std.proofs.lemmas.List.{map-append}
use Rattle.std.proofs.lemmas.List.Elements.{filter-append}
use Rattle.std.proofs.lemmas.List.Sums.{sum_by-append}
use Rattle.partition.proofs.BucketLemmas.{range_more}
use Rattle.io_account.specs.declared.Counts.{Counts}
use Rattle.lumos_report.specs.declared.records.Kind.{Kind}
use Rattle.lumos_report.specs.declared.records.Kind.TheVariants.{Full, Fed}
use Rattle.lumos_depot.specs.declared.depot.FileKind.{FileKind}
use Rattle.early_engine.proofs.BytesLemmas.{beside_same, both, moved_none, moved_then, of_values}
use Rattle.early_engine.specs.Gone.{Beside, HasGone, HasMoved, and_loads, loads_of, none_beside}
use Rattle.early_engine.specs.Passes.{Place, bytes_of, place_at, places, places_below, reads, tally_of}
use Rattle.early_engine.specs.Steps.{with_read}

-- the blocks of column j in the n rows from a on
abbrev pub rows_from : ℕ → ℕ → ℕ → List Place
rows_from a n j = map (λ i. place_at i j) (range_with_len a n)

-- one row more
pub rows_more : (a n k j : ℕ) → k ≡ a + n → rows_from a (n + 1) j ≡ rows_from a n j ++ place_at k j ∷ []
rows_more a n k j is =
    ap (λ (m : ℕ). rows_from a m j) (add-one n)
    ∙ ap (map (λ i. place_at i j)) (range_more a n)
    ∙ map-append (λ i. place_at i j) (range_with_len a n) ((a + n) ∷ [])
    ∙ ap (λ (i : ℕ). rows_from a n j ++ place_at i j ∷ []) (sym is)

-- one column more
pub below_more : (kind : Kind) (p n : ℕ) → places_below kind p (n + 1) ≡ places_below kind p n ++ places kind p n
below_more kind p n =
    let e : 0 + n ≡ n = omega arith in
    ap (λ (k : ℕ). places_below kind p k) (add-one n)
    ∙ ap (flat_map (places kind p)) (range_more 0 n)
    ∙ flat_map-append (places kind p) (range_with_len 0 n) ((0 + n) ∷ [])
    ∙ ap (λ (j : ℕ). places_below kind p n ++ (places kind p j ++ [])) e
    ∙ ap (λ l. places_below kind p n ++ l) (append-nil (places kind p n))

-- what an iteration of a kind counts that read so many blocks
abbrev counted_as : Kind → ℕ → ℕ → ℕ → ℕ → Counts
counted_as Full read skipped empty moved = record { primary = read; secondary = 0; skipped = skipped; empty = empty; moved = moved }
counted_as Fed read skipped empty moved = record { primary = 0; secondary = read; skipped = skipped; empty = empty; moved = moved }

-- one block more that isn't needed
abbrev pub with_skipped : Counts → Counts
with_skipped counts = record counts { skipped = counts.skipped + 1 }

-- one block more without edges
abbrev pub with_empty : Counts → Counts
with_empty counts = record counts { empty = counts.empty + 1 }

one_read : (b : Bool) (x : Place) → length (cond b (x ∷ []) []) ≡ cond b 1 0
one_read true x = refl
one_read false x = refl

one_sum : (b : Bool) (f : Place → ℕ) (x : Place) → sum_by f (cond b (x ∷ []) []) ≡ cond b (f x) 0
one_sum true f x = omega arith
one_sum false f x = omega arith

no_and : (b : Bool) → (b && false) ≡ false
no_and true = refl
no_and false = refl

some_edges : (n : ℕ) → 0 < n → nat_lt 0 n ≡ true
some_edges n some = lt-ltb 0 n some

no_edges : (n : ℕ) → n ≡ 0 → nat_lt 0 n ≡ false
no_edges n none = ap (nat_lt 0) none

none_more : (n : ℕ) → n + 0 ≡ n
none_more n = omega arith

-- how many blocks pass a test, with one block more
counted_more : (q : Place → Bool) (bs : List Place) (b : Place) (is : Bool) → q b ≡ is → count_by q (bs ++ b ∷ []) ≡ count_by q bs + cond is 1 0
counted_more q bs b is same =
    let last : count_by q (b ∷ []) ≡ cond (q b) 1 0 = omega arith in
    sum_by-append (λ x. cond (q x) 1 0) bs (b ∷ []) ∙ ap (λ (n : ℕ). count_by q bs + n) last ∙ ap (λ (t : Bool). count_by q bs + cond t 1 0) same

counted_same : (q : Place → Bool) (bs : List Place) (b : Place) → q b ≡ false → count_by q (bs ++ b ∷ []) ≡ count_by q bs
counted_same q bs b not_it = counted_more q bs b false not_it ∙ none_more (count_by q bs)

one_read_more : (kind : Kind) (read skipped empty moved : ℕ) → counted_as kind (read + 1) skipped empty moved ≡ with_read kind (counted_as kind read skipped empty moved)
one_read_more Full read skipped empty moved = refl
one_read_more Fed read skipped empty moved = refl

one_skipped_more : (kind : Kind) (read skipped empty moved : ℕ) → counted_as kind read (skipped + 1) empty moved ≡ with_skipped (counted_as kind read skipped empty moved)
one_skipped_more Full read skipped empty moved = refl
one_skipped_more Fed read skipped empty moved = refl

one_empty_more : (kind : Kind) (read skipped empty moved : ℕ) → counted_as kind read skipped (empty + 1) moved ≡ with_empty (counted_as kind read skipped empty moved)
one_empty_more Full read skipped empty moved = refl
one_empty_more Fed read skipped empty moved = refl

module _ (size : Place → ℕ) (need : Place → Bool) where
  abbrev is_read : Place → Bool
  is_read b = nat_lt 0 (size b) && need b

  abbrev is_skipped : Place → Bool
  is_skipped b = nat_lt 0 (size b) && not (need b)

  abbrev is_empty : Place → Bool
  is_empty b = size b == 0

  -- what some blocks that are read and others add up to
  pub read_both : (f : Place → ℕ) (some bs : List Place) → sum_by f (reads size need (some ++ bs)) ≡ sum_by f (reads size need some) + sum_by f (reads size need bs)
  read_both f some bs = ap (sum_by f) (filter-append is_read some bs) ∙ sum_by-append f (reads size need some) (reads size need bs)

  -- the bytes of some blocks and of others
  pub bytes_both : (some bs : List Place) → bytes_of size need (some ++ bs) ≡ bytes_of size need some + bytes_of size need bs
  bytes_both some bs = read_both (λ x. 12 * size x) some bs

  sum_block : (f : Place → ℕ) (b : Place) (is : Bool) → is_read b ≡ is → sum_by f (reads size need (b ∷ [])) ≡ cond is (f b) 0
  sum_block f b is same = one_sum (is_read b) f b ∙ ap (λ (t : Bool). cond t (f b) 0) same

  -- what a block that is read adds
  pub sum_read : (f : Place → ℕ) (b : Place) → 0 < size b → need b ≡ true → sum_by f (reads size need (b ∷ [])) ≡ f b
  sum_read f b some is = sum_block f b true (ap₂ (λ (x : Bool) (y : Bool). x && y) (some_edges (size b) some) is)

  -- one that isn't needed
  pub sum_skipped : (f : Place → ℕ) (b : Place) → need b ≡ false → sum_by f (reads size need (b ∷ [])) ≡ 0
  sum_skipped f b is = sum_block f b false (ap (λ x. nat_lt 0 (size b) && x) is ∙ no_and (nat_lt 0 (size b)))

  -- one without edges
  pub sum_empty : (f : Place → ℕ) (b : Place) → size b ≡ 0 → sum_by f (reads size need (b ∷ [])) ≡ 0
  sum_empty f b none = sum_block f b false (ap (λ x. x && need b) (no_edges (size b) none))

  read_more : (bs : List Place) (b : Place) (is : Bool) → is_read b ≡ is → length (reads size need (bs ++ b ∷ [])) ≡ length (reads size need bs) + cond is 1 0
  read_more bs b is same =
      ap length (filter-append is_read bs (b ∷ []))
      ∙ length-append (reads size need bs) (cond (is_read b) (b ∷ []) [])
      ∙ ap (λ (n : ℕ). length (reads size need bs) + n) (one_read (is_read b) b)
      ∙ ap (λ (t : Bool). length (reads size need bs) + cond t 1 0) same

  read_same : (bs : List Place) (b : Place) → is_read b ≡ false → length (reads size need (bs ++ b ∷ [])) ≡ length (reads size need bs)
  read_same bs b not_it = read_more bs b false not_it ∙ none_more (length (reads size need bs))

  tally_is : (kind : Kind) (bs : List Place) (moved read skipped empty : ℕ) → length (reads size need bs) ≡ read → count_by is_skipped bs ≡ skipped → count_by is_empty bs ≡ empty
      → tally_of kind size need bs moved ≡ counted_as kind read skipped empty moved
  tally_is Full bs moved read skipped empty first second third = λ i. counted_as Full (first i) (second i) (third i) moved
  tally_is Fed bs moved read skipped empty first second third = λ i. counted_as Fed (first i) (second i) (third i) moved

  as_counted : (kind : Kind) (bs : List Place) (moved : ℕ) → counted_as kind (length (reads size need bs)) (count_by is_skipped bs) (count_by is_empty bs) moved ≡ tally_of kind size need bs moved
  as_counted kind bs moved = sym (tally_is kind bs moved _ _ _ refl refl refl)

  -- a block that is read
  pub tally_read : (kind : Kind) (bs : List Place) (b : Place) (moved : ℕ) → 0 < size b → need b ≡ true → tally_of kind size need (bs ++ b ∷ []) moved ≡ with_read kind (tally_of kind size need bs moved)
  tally_read kind bs b moved some is =
      let there = some_edges (size b) some in
      tally_is kind (bs ++ b ∷ []) moved (length (reads size need bs) + 1) (count_by is_skipped bs) (count_by is_empty bs)
      (read_more bs b true (ap₂ (λ (x : Bool) (y : Bool). x && y) there is))
      (counted_same is_skipped bs b (ap₂ (λ (x : Bool) (y : Bool). x && not y) there is))
      (counted_same is_empty bs b (ne_eqb (size b) 0 (λ none. omega arith)))
      ∙ one_read_more kind (length (reads size need bs)) (count_by is_skipped bs) (count_by is_empty bs) moved
      ∙ ap (with_read kind) (as_counted kind bs moved)

  -- a block that isn't needed
  pub tally_skipped : (kind : Kind) (bs : List Place) (b : Place) (moved : ℕ) → 0 < size b → need b ≡ false → tally_of kind size need (bs ++ b ∷ []) moved ≡ with_skipped (tally_of kind size need bs moved)
  tally_skipped kind bs b moved some is =
      let there = some_edges (size b) some in
      tally_is kind (bs ++ b ∷ []) moved (length (reads size need bs)) (count_by is_skipped bs + 1) (count_by is_empty bs)
      (read_same bs b (ap₂ (λ (x : Bool) (y : Bool). x && y) there is))
      (counted_more is_skipped bs b true (ap₂ (λ (x : Bool) (y : Bool). x && not y) there is))
      (counted_same is_empty bs b (ne_eqb (size b) 0 (λ none. omega arith)))
      ∙ one_skipped_more kind (length (reads size need bs)) (count_by is_skipped bs) (count_by is_empty bs) moved
      ∙ ap with_skipped (as_counted kind bs moved)

  -- a block without edges
  pub tally_empty : (kind : Kind) (bs : List Place) (b : Place) (moved : ℕ) → size b ≡ 0 → tally_of kind size need (bs ++ b ∷ []) moved ≡ with_empty (tally_of kind size need bs moved)
  tally_empty kind bs b moved none =
      let gone = no_edges (size b) none in
      tally_is kind (bs ++ b ∷ []) moved (length (reads size need bs)) (count_by is_skipped bs) (count_by is_empty bs + 1)
      (read_same bs b (ap (λ (x : Bool). x && need b) gone))
      (counted_same is_skipped bs b (ap (λ (x : Bool). x && not (need b)) gone))
      (counted_more is_empty bs b true (eq-eqb (size b) 0 none))
      ∙ one_empty_more kind (length (reads size need bs)) (count_by is_skipped bs) (count_by is_empty bs) moved
      ∙ ap with_empty (as_counted kind bs moved)

  -- an iteration went through one block more
  gone_more : (kind : Kind) (loads : Place → ℕ) (bs : List Place) (b : Place) (beside : Beside) (t s t1 s1 t2 s2 : FileKind → ℕ) (n m : ℕ) (old new : Counts) → new.moved ≡ old.moved → new ≡ tally_of kind size need (bs ++ b ∷ []) old.moved → bytes_of size need (b ∷ []) ≡ n
      → loads_of size need loads (b ∷ []) ≡ m → HasMoved kind n (of_values m) t1 s1 t2 s2 → HasGone kind size need loads bs beside t s t1 s1 old → HasGone kind size need loads (bs ++ b ∷ []) beside t s t2 s2 new
  gone_more kind loads bs b beside t s t1 s1 t2 s2 n m old new still counted bytes load step gone =
      let some = loads_of size need loads bs in
      let all = loads_of size need loads (bs ++ b ∷ []) in
      let more : all ≡ some + m = read_both loads bs (b ∷ []) ∙ ap (λ (k : ℕ). some + k) load in
      let values : all + beside.values_in ≡ some + beside.values_in + m = omega (arith, more) in
      let out : beside.values_out ≡ beside.values_out + 0 = omega arith in
      let sums_in : beside.sums_in ≡ beside.sums_in + 0 = omega arith in
      let sums_out : beside.sums_out ≡ beside.sums_out + 0 = omega arith in
      record {
        counted = counted ∙ ap (tally_of kind size need (bs ++ b ∷ [])) (sym still);
        moved = moved_then kind (bytes_of size need bs) n (bytes_of size need (bs ++ b ∷ [])) (and_loads some beside) (of_values m) (and_loads all beside) t s t1 s1 t2 s2
            (bytes_both bs (b ∷ []) ∙ ap (λ (k : ℕ). bytes_of size need bs + k) bytes) (beside_same (and_loads all beside) (both (and_loads some beside) (of_values m)) values out sums_in sums_out) gone.moved step;
      }

  pub gone_read : (kind : Kind) (loads : Place → ℕ) (bs : List Place) (b : Place) (beside : Beside) (t s t1 s1 t2 s2 : FileKind → ℕ) (old new : Counts) → 0 < size b → need b ≡ true → new ≡ with_read kind old → new.moved ≡ old.moved
      → HasMoved kind (12 * size b) (of_values (loads b)) t1 s1 t2 s2 → HasGone kind size need loads bs beside t s t1 s1 old → HasGone kind size need loads (bs ++ b ∷ []) beside t s t2 s2 new
  gone_read kind loads bs b beside t s t1 s1 t2 s2 old new some is counted still step gone =
      gone_more kind loads bs b beside t s t1 s1 t2 s2 (12 * size b) (loads b) old new still (counted ∙ ap (with_read kind) gone.counted ∙ sym (tally_read kind bs b old.moved some is)) (sum_read (λ x. 12 * size x) b some is) (sum_read loads b some is) step gone

  pub gone_skipped : (kind : Kind) (loads : Place → ℕ) (bs : List Place) (b : Place) (beside : Beside) (t s t1 s1 : FileKind → ℕ) (old new : Counts) → 0 < size b → need b ≡ false → new ≡ with_skipped old
      → HasGone kind size need loads bs beside t s t1 s1 old → HasGone kind size need loads (bs ++ b ∷ []) beside t s t1 s1 new
  gone_skipped kind loads bs b beside t s t1 s1 old new some is counted gone =
      gone_more kind loads bs b beside t s t1 s1 t1 s1 0 0 old new (ap (λ (k : Counts). k.moved) counted) (counted ∙ ap with_skipped gone.counted ∙ sym (tally_skipped kind bs b old.moved some is))
      (sum_skipped (λ x. 12 * size x) b is) (sum_skipped loads b is) (moved_none kind t1 s1) gone

  pub gone_empty : (kind : Kind) (loads : Place → ℕ) (bs : List Place) (b : Place) (beside : Beside) (t s t1 s1 : FileKind → ℕ) (old new : Counts) → size b ≡ 0 → new ≡ with_empty old
      → HasGone kind size need loads bs beside t s t1 s1 old → HasGone kind size need loads (bs ++ b ∷ []) beside t s t1 s1 new
  gone_empty kind loads bs b beside t s t1 s1 old new none counted gone =
      gone_more kind loads bs b beside t s t1 s1 t1 s1 0 0 old new (ap (λ (k : Counts). k.moved) counted) (counted ∙ ap with_empty gone.counted ∙ sym (tally_empty kind bs b old.moved none))
      (sum_empty (λ x. 12 * size x) b none) (sum_empty loads b none) (moved_none kind t1 s1) gone

  -- through none yet
  pub gone_none : (kind : Kind) (loads : Place → ℕ) (t s : FileKind → ℕ) (counts : Counts) → counts ≡ record { primary = 0; secondary = 0; skipped = 0; empty = 0; moved = 0 } → HasGone kind size need loads [] none_beside t s t s counts
  gone_none kind loads t s counts none = record { counted = none ∙ as_none kind ∙ ap (tally_of kind size need []) (sym (ap (λ (k : Counts). k.moved) none)); moved = moved_none kind t s }
    where
      as_none : (kind : Kind) → ◌≡◌ {A = Counts} (record { primary = 0; secondary = 0; skipped = 0; empty = 0; moved = 0 }) (tally_of kind size need [] 0)
      as_none Full = refl
      as_none Fed = refl
