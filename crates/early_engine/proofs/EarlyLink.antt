-- The partial sums of an iteration that was fed ahead are those of the early edges.
use Rattle.std.proofs.Common.{◌≡◌, ◌==◌, ◌&&◌, ℕ, suc, ◌+◌, ◌<◌, ◌≤◌, ◌^◌, nat_lt, Bool, true, false, List, map, filter, length, All, Option, Some, None, refl, sym, ap, ◌∙◌, arith, IsPermutation}
use Rattle.std.specs.List.{AllByRecursion}
use Rattle.std.specs.Option.{is_some}
use Rattle.std.proofs.lemmas.Bool.{and_parts, eqb-true, eq-eqb, ltb-true}
use Rattle.std.proofs.lemmas.List.Elements.{filter_agree, recursion_from_All}
use Rattle.lumos_base.specs.Records.{IsEdge}
use Rattle.lumos_base.specs.declared.records.Edge.{Edge}
use Rattle.lumos_law.specs.Joins.{join_from}
use Rattle.lumos_law.specs.Program.{Program, Lawful}
use Rattle.lumos_law.specs.Sync.{edges_into, sum_at, values, IsChunk}
use Rattle.lumos_law.proofs.ChunkLemmas.{chunk_same}
use Rattle.lumos_law.proofs.OrderLemmas.{sum_at-permutation}
use Rattle.lumos_law.proofs.SumLemmas.{all-filter}
use Rattle.lumos_law.proofs.ValueLemmas.{values_in}
use Rattle.partition.specs.Blocks.{block, column}
use Rattle.partition.specs.Parts.{first_vertex, part_at}
use Rattle.partition.proofs.BlockLemmas.{column_buckets}
use Rattle.partition.proofs.BucketLemmas.{buckets-permutation, filter-filter}
use Rattle.partition.proofs.RangeLemmas.{of_part}
use Rattle.flight_core.specs.Events.{State, is_done, is_final, mark_of, sums_of}
use Rattle.flight_core.specs.Sound.{was_fed, IsSound}
use Rattle.flight_core.proofs.EventLemmas.{not_both}
use Rattle.flight_core.proofs.FedEdgeLemmas.{all-passed, all_map, by_class, drop_units}
use Rattle.early_engine.specs.Early.{early_edges}

and_wide : (a b c : Bool) → (c ≡ true → a ≡ true) → ((a && b) && c) ≡ (b && c)
and_wide true b c h = refl
and_wide false true true h = absurd (let e : false ≡ true = h refl in cc)
and_wide false true false h = refl
and_wide false false c h = refl

and_narrow : (a b : Bool) → (b ≡ true → a ≡ true) → (a && b) ≡ b
and_narrow true b h = refl
and_narrow false true h = absurd (let e : false ≡ true = h refl in cc)
and_narrow false false h = refl

module _ {V S : Type 0} {ValueIn : V → Type 0} {SumIn : S → Type 0} (p : Program V S) (laws : Lawful ValueIn SumIn p) (edges : List Edge) (state : ℕ → V)
    (known : (u : ℕ) → u < 2 ^ 32 → ValueIn (state u)) (all : AllByRecursion IsEdge edges) (c j v : ℕ) (part : part_at c v ≡ j) where
  -- the rows of a column below m hold the edges from the parts below m
  column_below : (m : ℕ) → sum_at p (filter (λ e. nat_lt (part_at c e.source.0) m) edges) state v ≡ sum_at p (column edges c j m) state v
  column_below m =
      let low : Edge → Bool = λ e. nat_lt (part_at c e.source.0) m in
      let into : Edge → Bool = λ e. part_at c e.target.0 == j in
      let here : Edge → Bool = λ e. e.target.0 == v in
      let same : edges_into (filter low edges) v ≡ edges_into (filter low (filter into edges)) v =
      filter-filter here low edges
      ∙ sym (ap (filter here) (filter-filter low into edges) ∙ filter-filter here (λ e. into e && low e) edges
      ∙ filter_agree _ _ (λ e. and_wide (into e) (low e) (here e) (λ hit. eq-eqb (part_at c e.target.0) j (ap (part_at c) (eqb-true e.target.0 v hit) ∙ part))) edges) in
      let cut : IsPermutation (filter low (filter into edges)) (column edges c j m) = rw (column_buckets edges c j m) (buckets-permutation (λ e. part_at c e.source.0) (filter into edges) m) in
      ap (λ l. join_from p.join p.unit (map (λ (e : Edge). p.contribution (state e.source.0) e.weight.0) l)) same
      ∙ sum_at-permutation p laws (filter low (filter into edges)) (column edges c j m) state v cut known (all-filter IsEdge low _ (all-filter IsEdge into edges all))

  -- of these, those that give the unit may be left out
  fed_below : (m : ℕ) (q : Edge → Bool) → ((e : Edge) → q e ≡ true → nat_lt (part_at c e.source.0) m ≡ true)
      → AllByRecursion (λ e. q e ≡ false → e.target.0 ≡ v → p.contribution (state e.source.0) e.weight.0 ≡ p.unit) (filter (λ e. nat_lt (part_at c e.source.0) m) edges)
      → sum_at p (filter q edges) state v ≡ sum_at p (column edges c j m) state v
  fed_below m q inside units =
      let low : Edge → Bool = λ e. nat_lt (part_at c e.source.0) m in
      let twice : filter q (filter low edges) ≡ filter q edges = filter-filter q low edges ∙ filter_agree _ q (λ e. and_narrow (low e) (q e) (inside e)) edges in
      ap (λ l. sum_at p l state v) (sym twice)
      ∙ drop_units p laws state known q v (filter low edges) (all-filter IsEdge low edges all) units p.unit laws.joins.unit_in
      ∙ column_below m

module _ {V S : Type 0} {ValueIn : V → Type 0} {SumIn : S → Type 0} (p : Program V S) (laws : Lawful ValueIn SumIn p) (edges : List Edge) (n c parts : ℕ)
    (few : length edges ≤ 2147483648) (numbers : All IsEdge edges) (s : State V S) (sound : IsSound p edges n c parts s) (t j : ℕ)
    (inside : j < parts) (open_column : is_final s (suc t) j ≡ false) (rows : (r : ℕ) → r < parts → is_done s (suc t) r j ≡ nat_lt r j) where
  edges_in : AllByRecursion IsEdge edges
  edges_in = recursion_from_All IsEdge edges numbers

  abbrev fed_row : ℕ → Bool
  fed_row r = was_fed (mark_of s.done (suc t) r j)

  fed_low : (r : ℕ) → fed_row r ≡ true → nat_lt r j ≡ true
  fed_low r on =
      let done : is_done s (suc t) r j ≡ true = by_mark (mark_of s.done (suc t) r j) on in
      sym (rows r (sound.sources (suc t) r j done).row) ∙ done
    where
      by_mark : (o : Option Bool) → was_fed o ≡ true → is_some o ≡ true
      by_mark None h = absurd (let e : false ≡ true = h in cc)
      by_mark (Some b) h = refl

  -- what an edge gives where its row wasn't fed
  abbrev GivesUnit : Edge → Type 0
  GivesUnit e = fed_row (part_at c e.source.0) ≡ false → p.contribution (values p edges t e.source.0) e.weight.0 ≡ p.unit

  units_in : (i : ℕ) → nat_lt i j ≡ true → AllByRecursion GivesUnit (block edges c i j)
  units_in i low = by_mark (mark_of s.done (suc t) i j) refl (rows i (let below = ltb-true i j low in omega arith) ∙ low)
    where
      there : (e : Edge) → mark_of s.done (suc t) i j ≡ Some true → part_at c e.source.0 ≡ i → fed_row (part_at c e.source.0) ≡ true
      there e is same = rw (same, is) refl

      by_mark : (o : Option Bool) → mark_of s.done (suc t) i j ≡ o → is_some o ≡ true → AllByRecursion GivesUnit (block edges c i j)
      by_mark None is done = absurd (let e : false ≡ true = done in cc)
      by_mark (Some true) is done =
          all-passed IsEdge GivesUnit (λ e. (part_at c e.source.0 == i) && (part_at c e.target.0 == j))
          (λ e edge passed off. absurd (not_both _ (there e is (eqb-true (part_at c e.source.0) i (and_parts _ _ passed).0)) off)) edges edges_in
      by_mark (Some false) is done = all_map _ GivesUnit (λ e unit off. unit) (block edges c i j) (recursion_from_All _ _ (sound.silent t i j is))

  -- the partial sums of the next iteration, where exactly the rows above the diagonal are done
  pub early_chunk : IsChunk (sum_at p (early_edges edges c j) (values p edges t)) (first_vertex n c j) (sums_of p n c s (suc t) j)
  early_chunk =
      let held = sound.partial t j inside open_column in
      let known : (u : ℕ) → u < 2 ^ 32 → ValueIn (values p edges t u) = λ u h. values_in p laws edges t u few edges_in h in
      let classes = by_class GivesUnit (λ e. part_at c e.source.0) (λ e. part_at c e.target.0 == j) (λ i. nat_lt i j ≡ true) edges units_in in
      chunk_same _ _ (first_vertex n c j) (sums_of p n c s (suc t) j) (λ k below.
      let v = first_vertex n c j + k in
      let part : part_at c v ≡ j = (of_part n c j v (record { low = omega arith; high = omega (arith, below, held.long) })).1 in
      fed_below p laws edges (values p edges t) known edges_in c j v part j (λ e. fed_row (part_at c e.source.0)) (λ e on. fed_low (part_at c e.source.0) on)
      (all-passed _ _ (λ e. nat_lt (part_at c e.source.0) j) (λ e each low off hit. each low (eq-eqb (part_at c e.target.0) j (ap (part_at c) hit ∙ part)) off) edges classes)) held.chunk
