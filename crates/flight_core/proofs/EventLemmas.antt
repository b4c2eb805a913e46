-- What the events keep.
use Rattle.std.proofs.Common.{◌≡◌, ◌==◌, ◌⊎◌, ◌&&◌, ℕ, zero, suc, ◌+◌, ◌-◌, ◌*◌, ◌/◌, ◌<◌, ◌≤◌, ◌^◌, Bool, true, false, List, [], ◌∷◌, length, get_or, replicate, All, Option, Some, None, refl, sym, ap, ◌∙◌, subst, inl, inr, arith}
use Rattle.std.specs.List.{AllByRecursion}
use Rattle.std.specs.Option.{unwrap_or, is_some}
use Rattle.std.proofs.lemmas.Bool.{cases_Bool, cases_eq, eq-eqb, eqb-true, and_parts}
use Rattle.std.proofs.lemmas.List.Elements.{recursion_from_All, All-from_recursion, filter_agree}
use Rattle.lumos_base.specs.declared.records.Edge.{Edge}
use Rattle.lumos_base.specs.Records.{IsEdge}
use Rattle.lumos_law.specs.Program.{Program, Lawful}
use Rattle.lumos_law.specs.Sync.{fed_sum, sum_at, values}
use Rattle.lumos_law.proofs.ChunkLemmas.{chunk_same}
use Rattle.lumos_law.proofs.SumLemmas.{all-filter}
use Rattle.lumos_law.proofs.ValueLemmas.{values_in}
use Rattle.partition.specs.Blocks.{block, IsBelow}
use Rattle.partition.specs.Parts.{first_vertex, part_length, IsInPart}
use Rattle.partition.proofs.BlockLemmas.{block_sources}
use Rattle.partition.proofs.RangeLemmas.{of_part}
use Rattle.std.proofs.Math.Nat.{div-lt_iff_lt-mul}
use Rattle.flight_core.specs.declared.event.Event.{Event}
use Rattle.flight_core.specs.declared.event.Event.TheVariants.{Feed, Skip, Finalise}
use Rattle.flight_core.specs.declared.event.Illegal.TheVariants.{Bounds, NotSkippable}
use Rattle.flight_core.specs.Events.{State, each_from, mark, without, giver, mark_of, kept_of, prior, is_final, is_done, values_of, sums_of, before_of, made_values, step, refusal}
use Rattle.flight_core.specs.Sound.{was_fed, fed_edges, IsOfChunk, HasSource, HasColumn, IsSound, IsOpen}
use Rattle.flight_core.proofs.EachLemmas.{chunk_each, each_length}
use Rattle.flight_core.proofs.FedEdgeLemmas.{sum_more, drop_units, fed_sum-same, by_class, all_map, all-passed}
use Rattle.flight_core.proofs.LegalLemmas.{may_feed, may_finalise}
use Rattle.flight_core.proofs.LookLemmas.{kept_same, kept_other, without_other, mark_other, once_more, some_of, same_pair, none_in, neither_of, no_map, more_done, done_cases, mark_cases, row_first, row_second, row_skipped, column_off, more_kept, kept_cases, not_kept}

pub not_both : (b : Bool) → b ≡ true → b ≡ false → ⊥
not_both b on off = let e : true ≡ false = sym on ∙ off in cc

module _ {V S : Type 0} (p : Program V S) (edges : List Edge) (n c parts : ℕ) (s : State V S) (sound : IsSound p edges n c parts s) where
  -- a final chunk was final in every iteration before
  final_below : (k t j : ℕ) → is_final s (k + t) j ≡ true → is_final s t j ≡ true
  final_below zero t j h = let same : zero + t ≡ t = omega arith in subst (λ m. is_final s m j ≡ true) same h
  final_below (suc k) t j h =
      let same : suc k + t ≡ suc (k + t) = omega arith in
      final_below k t j (sound.whole (k + t) j (subst (λ m. is_final s m j ≡ true) same h)).before

  -- where a triple of iteration t + 2 is done, all chunks of iteration t are final
  all_final : (t i j r : ℕ) → is_done s (suc (suc t)) i j ≡ true → r < parts → is_final s t r ≡ true
  all_final t i j r done below =
      let source = sound.sources (suc (suc t)) i j done in
      let rows = (sound.whole t i source.source).rows r below in
      (sound.sources (suc t) r i rows).source

  pub consecutive : (t u : ℕ) → IsOpen parts s t → IsOpen parts s u → t < u → u ≡ suc t
  consecutive t u first second before = by_gap (cases_eq u (suc t))
    where
      by_gap : (u ≡ suc t) ⊎ (u ≡ suc t → ⊥) → u ≡ suc t
      by_gap (inl same) = same
      by_gap (inr apart) =
          let far : u ≡ suc (suc ((u - suc (suc t)) + t)) = omega arith in
          let begun = subst (λ m. is_done s m second.some_row second.some_column ≡ true) far second.begun in
          let final = all_final ((u - suc (suc t)) + t) second.some_row second.some_column first.left begun first.left_below in
          absurd (not_both _ (final_below (u - suc (suc t)) t first.left final) first.unfinished)

-- a place within a chunk is a vertex of its part
place_in : (n c j k : ℕ) → k < part_length n c j → (first_vertex n c j + k) / c ≡ j
place_in n c j k below = (of_part n c j (first_vertex n c j + k) (record { low = omega arith; high = omega arith })).1

-- the sums of a column that isn't final
abbrev IsPartial : {V S : Type 0} → Program V S → List Edge → ℕ → ℕ → State V S → ℕ → ℕ → Type 0
IsPartial p edges n c s t j = IsOfChunk n c j (sum_at p (fed_edges edges c s (suc t) j) (values p edges t)) (sums_of p n c s (suc t) j)

module _ {V S : Type 0} (p : Program V S) (edges : List Edge) (n c : ℕ) where
  -- equal sums and equal rows fed
  partial_same : (s s' : State V S) (t j : ℕ) → sums_of p n c s' (suc t) j ≡ sums_of p n c s (suc t) j
      → ((x : ℕ) → was_fed (mark_of s'.done (suc t) x j) ≡ was_fed (mark_of s.done (suc t) x j)) → IsPartial p edges n c s t j → IsPartial p edges n c s' t j
  partial_same s s' t j sums rows held =
      let same : fed_edges edges c s' (suc t) j ≡ fed_edges edges c s (suc t) j = filter_agree _ _ (λ e. rows (e.source.0 / c)) edges in
      rw (same, sums) held

module _ {V S : Type 0} {ValueIn : V → Type 0} {SumIn : S → Type 0} (p : Program V S) (laws : Lawful ValueIn SumIn p) (edges : List Edge) (n c parts : ℕ)
    (some : 0 < c) (few : length edges ≤ 2147483648) (known_edges : All IsEdge edges) (ends : All (IsBelow n) edges) (s : State V S) (sound : IsSound p edges n c parts s) where
  edges_in : AllByRecursion IsEdge edges
  edges_in = recursion_from_All IsEdge edges known_edges

  known : (t u : ℕ) → u < 2 ^ 32 → ValueIn (values p edges t u)
  known t u below = values_in p laws edges t u few edges_in below

  -- the final values of a chunk, as a state
  pub source_at : (t i v : ℕ) → is_final s t i ≡ true → IsInPart n c i v → before_of p n c s (suc t) i v ≡ values p edges t v
  source_at t i v final within =
      let held = some_of (kept_of s.finals t i) final in
      let xs = held.0 in
      let facts = sound.synchronous t i xs held.1 in
      let place : first_vertex n c i + (v - first_vertex n c i) ≡ v = let low = within.low in omega arith in
      let inside : v - first_vertex n c i < length xs = let low = within.low in let high = within.high in (let long = facts.long in omega arith) in
      rw held.1 (facts.chunk.at _ (v - first_vertex n c i) inside ∙ ap (values p edges t) place)

  block_same : (u i j : ℕ) → is_final s u i ≡ true → (v : ℕ) (a : S)
      → fed_sum p (block edges c i j) (before_of p n c s (suc u) i) v a ≡ fed_sum p (block edges c i j) (values p edges u) v a
  block_same u i j source v a =
      fed_sum-same p _ _ v (block edges c i j)
      (all_map _ _ (λ e within. source_at u i e.source.0 source within) (block edges c i j) (recursion_from_All _ _ (block_sources edges n c i j some ends))) a

  -- the rows done after one mark more
  rows_kept : (u i j : ℕ) (b : Bool) (t k : ℕ) → ((r : ℕ) → r < parts → is_done s (suc t) r k ≡ true) → (r : ℕ) → r < parts → is_some (mark_of (mark (suc u) i j b ∷ s.done) (suc t) r k) ≡ true
  rows_kept u i j b t k rows r below = more_done (suc u) i j (suc t) r k b s.done (rows r below)

  sources_kept : (u i j : ℕ) → i < parts → j < parts → is_final s u i ≡ true → (b : Bool) (t r k : ℕ) → is_some (mark_of (mark (suc u) i j b ∷ s.done) t r k) ≡ true
      → HasSource parts s t r k
  sources_kept u i j row column source b t r k done = by_case (done_cases (suc u) i j t r k b s.done done)
    where
      by_case : ((suc u ≡ t) × (i ≡ r) × (j ≡ k)) ⊎ (is_some (mark_of s.done t r k) ≡ true) → HasSource parts s t r k
      by_case (inl same) =
          record {
            some_time = omega (arith, same.0);
            row = omega (arith, same.1);
            column = omega (arith, same.2);
            source = subst (λ m. is_final s (prior m) r ≡ true) same.0 (subst (λ x. is_final s u x ≡ true) same.1 source);
          }
      by_case (inr old) = sound.sources t r k old

  fed_here : (u i j : ℕ) → j < parts → is_final s (suc u) j ≡ false → mark_of s.done (suc u) i j ≡ None → is_final s u i ≡ true
      → IsPartial p edges n c (step p edges n c s (Feed (suc u) i j)) u j
  fed_here u i j column open_column fresh source =
      let old = sums_of p n c s (suc u) j in
      let src = before_of p n c s (suc u) i in
      let add : ℕ → S → S = λ v sum. fed_sum p (block edges c i j) src v sum in
      let new = each_from add (first_vertex n c j) old in
      let held = sound.partial u j column open_column in
      let long : length new ≡ part_length n c j = each_length add (first_vertex n c j) old ∙ held.long in
      let kept : sums_of p n c (step p edges n c s (Feed (suc u) i j)) (suc u) j ≡ new = ap (λ o. unwrap_or o (replicate (part_length n c j) p.unit)) (kept_same (suc u) j new (without s.sums (suc u) j)) in
      let added = chunk_each add (sum_at p (fed_edges edges c s (suc u) j) (values p edges u)) (first_vertex n c j) old held.chunk in
      let whole = chunk_same _ (sum_at p (fed_edges edges c (step p edges n c s (Feed (suc u) i j)) (suc u) j) (values p edges u)) (first_vertex n c j) new (λ k below.
      let v = first_vertex n c j + k in
      let part : v / c ≡ j = place_in n c j k (omega (arith, long)) in
      block_same u i j source v (sum_at p (fed_edges edges c s (suc u) j) (values p edges u) v)
      ∙ sum_more p laws edges (values p edges u) (known u) edges_in c i j v part
      (λ e. was_fed (mark_of s.done (suc u) (e.source.0 / c) j)) (λ e. was_fed (mark_of (mark (suc u) i j true ∷ s.done) (suc u) (e.source.0 / c) j))
      (λ e. row_first (suc u) i j (e.source.0 / c) s.done) (λ e. row_second (suc u) i j (e.source.0 / c) s.done fresh)) added in
      rw kept (record { chunk = whole; long = long })

  pub sound_feed : (u i j : ℕ) → i < parts → j < parts → is_final s (suc u) j ≡ false → mark_of s.done (suc u) i j ≡ None → is_final s u i ≡ true
      → IsSound p edges n c parts (step p edges n c s (Feed (suc u) i j))
  sound_feed u i j row column open_column fresh source = record {
    blocks = sound.blocks;
    synchronous = sound.synchronous;
    within = sound.within;
    once = λ t r k. once_more (suc u) i j t r k true s.done fresh (sound.once t r k);
    partial = λ t k below open_k. fed_partial t k below open_k ((suc u == suc t) && (j == k)) refl;
    silent = λ t r k skipped. fed_silent t r k (mark_cases (suc u) i j (suc t) r k true false s.done skipped);
    sources = λ t r k done. let h = sources_kept u i j row column source true t r k done in record { some_time = h.some_time; row = h.row; column = h.column; source = h.source };
    starts = sound.starts;
    whole = λ t k final. let old = sound.whole t k final in record { before = old.before; rows = rows_kept u i j true t k old.rows };
  }
    where
      fed_partial : (t k : ℕ) → k < parts → is_final s (suc t) k ≡ false → (q : Bool) → ((suc u == suc t) && (j == k)) ≡ q → IsPartial p edges n c (step p edges n c s (Feed (suc u) i j)) t k
      fed_partial t k below open_k true is =
          let same = same_pair (suc u) j (suc t) k is in
          let time : u ≡ t = omega (arith, same.0) in
          let now = step p edges n c s (Feed (suc u) i j) in
          subst (λ m. IsPartial p edges n c now m k) time (subst (λ x. IsPartial p edges n c now u x) same.1 (fed_here u i j column open_column fresh source))
      fed_partial t k below open_k false is =
          let now = step p edges n c s (Feed (suc u) i j) in
          let units = replicate (part_length n c k) p.unit in
          partial_same p edges n c s now t k
          (ap (λ o. unwrap_or o units) (kept_other (suc u) j (suc t) k _ (without s.sums (suc u) j) is ∙ without_other (suc u) j (suc t) k is s.sums))
          (λ x. ap was_fed (mark_other (suc u) i j (suc t) x k true s.done (column_off (suc u == suc t) (i == x) (j == k) is)))
          (sound.partial t k below open_k)

      fed_silent : (t r k : ℕ) → ((suc u ≡ suc t) × (i ≡ r) × (j ≡ k) × (true ≡ false)) ⊎ (mark_of s.done (suc t) r k ≡ Some false)
          → All (λ e. p.contribution (values p edges t e.source.0) e.weight.0 ≡ p.unit) (block edges c r k)
      fed_silent t r k (inl same) = absurd (let e : true ≡ false = same.3 in cc)
      fed_silent t r k (inr old) = sound.silent t r k old

  -- a chunk in which nothing contributes gives only units
  units_here : (u i j : ℕ) → is_final s u i ≡ true → giver p n c s (suc u) i ≡ None → All (λ e. p.contribution (values p edges u e.source.0) e.weight.0 ≡ p.unit) (block edges c i j)
  units_here u i j source none =
      All-from_recursion _ _ (each (block edges c i j) (all-filter IsEdge _ edges edges_in) (recursion_from_All _ _ (block_sources edges n c i j some ends)))
    where
      quiet : (v : ℕ) → IsInPart n c i v → p.contributes (values p edges u v) ≡ false
      quiet v within = ap p.contributes (sym (source_at u i v source within)) ∙ none_in _ (first_vertex n c i) (part_length n c i) v none within.low within.high

      each : (es : List Edge) → AllByRecursion IsEdge es → AllByRecursion (λ e. IsInPart n c i e.source.0) es
          → AllByRecursion (λ e. p.contribution (values p edges u e.source.0) e.weight.0 ≡ p.unit) es
      each [] all within = tt
      each (e ∷ es) all within =
          (laws.silent (values p edges u e.source.0) e.weight.0 (known u e.source.0 all.0.source) all.0.weight (quiet e.source.0 within.0), each es all.1 within.1)

  pub sound_skip : (u i j : ℕ) → i < parts → j < parts → mark_of s.done (suc u) i j ≡ None → is_final s u i ≡ true → giver p n c s (suc u) i ≡ None
      → IsSound p edges n c parts (step p edges n c s (Skip (suc u) i j))
  sound_skip u i j row column fresh source none = record {
    blocks = sound.blocks;
    synchronous = sound.synchronous;
    within = sound.within;
    once = λ t r k. once_more (suc u) i j t r k false s.done fresh (sound.once t r k);
    partial = λ t k below open_k. partial_same p edges n c s (step p edges n c s (Skip (suc u) i j)) t k refl (λ x. row_skipped (suc u) i j (suc t) x k s.done fresh) (sound.partial t k below open_k);
    silent = λ t r k skipped. skip_silent t r k (mark_cases (suc u) i j (suc t) r k false false s.done skipped);
    sources = λ t r k done. let h = sources_kept u i j row column source false t r k done in record { some_time = h.some_time; row = h.row; column = h.column; source = h.source };
    starts = sound.starts;
    whole = λ t k final. let old = sound.whole t k final in record { before = old.before; rows = rows_kept u i j false t k old.rows };
  }
    where
      skip_silent : (t r k : ℕ) → ((suc u ≡ suc t) × (i ≡ r) × (j ≡ k) × (false ≡ false)) ⊎ (mark_of s.done (suc t) r k ≡ Some false)
          → All (λ e. p.contribution (values p edges t e.source.0) e.weight.0 ≡ p.unit) (block edges c r k)
      skip_silent t r k (inl same) =
          let time : u ≡ t = omega (arith, same.0) in
          subst (λ m. All (λ e. p.contribution (values p edges m e.source.0) e.weight.0 ≡ p.unit) (block edges c r k)) time
          (rw (← same.1, ← same.2) (units_here u i j source none))
      skip_silent t r k (inr old) = sound.silent t r k old

  -- where all rows of a column are done, its partial sums are the sums over all edges
  sums_whole : (u j v : ℕ) → n ≤ parts * c → ((i : ℕ) → i < parts → is_done s (suc u) i j ≡ true) → v / c ≡ j → sum_at p (fed_edges edges c s (suc u) j) (values p edges u) v ≡ sum_at p edges (values p edges u) v
  sums_whole u j v covers rows part =
      drop_units p laws (values p edges u) (known u) (λ e. was_fed (mark_of s.done (suc u) (e.source.0 / c) j)) v edges edges_in
      (both_ways edges rows_in (by_class (λ e. was_fed (mark_of s.done (suc u) (e.source.0 / c) j) ≡ false → p.contribution (values p edges u e.source.0) e.weight.0 ≡ p.unit)
      (λ e. e.source.0 / c) (λ e. e.target.0 / c == j) (λ i. i < parts) edges (λ i below. class i below)))
      p.unit laws.joins.unit_in
    where
      rows_in : AllByRecursion (λ e. e.source.0 / c < parts) edges
      rows_in = all_map (IsBelow n) _ (λ (e : Edge) (below : IsBelow n e). let low = below.source in (div-lt_iff_lt-mul {x = e.source.0} {y = parts} some).1 (omega arith)) edges (recursion_from_All _ edges ends)

      fed_there : (i : ℕ) (e : Edge) → mark_of s.done (suc u) i j ≡ Some true → e.source.0 / c ≡ i → was_fed (mark_of s.done (suc u) (e.source.0 / c) j) ≡ true
      fed_there i e is same = rw (same, is) refl

      by_mark : (i : ℕ) (o : Option Bool) → mark_of s.done (suc u) i j ≡ o → is_some o ≡ true → AllByRecursion (λ e. was_fed (mark_of s.done (suc u) (e.source.0 / c) j) ≡ false → p.contribution (values p edges u e.source.0) e.weight.0 ≡ p.unit) (block edges c i j)
      by_mark i None is some_mark = absurd (let e : false ≡ true = some_mark in cc)
      by_mark i (Some true) is some_mark = all-passed IsEdge _ (λ e. (e.source.0 / c == i) && (e.target.0 / c == j)) (λ e edge passed off. absurd (not_both _ (fed_there i e is (eqb-true (e.source.0 / c) i (and_parts _ _ passed).0)) off)) edges edges_in
      by_mark i (Some false) is some_mark = all_map _ _ (λ e unit off. unit) (block edges c i j) (recursion_from_All _ _ (sound.silent u i j is))

      class : (i : ℕ) → i < parts → AllByRecursion (λ e. was_fed (mark_of s.done (suc u) (e.source.0 / c) j) ≡ false → p.contribution (values p edges u e.source.0) e.weight.0 ≡ p.unit) (block edges c i j)
      class i below = by_mark i (mark_of s.done (suc u) i j) refl (rows i below)

      both_ways : (es : List Edge) → AllByRecursion (λ e. e.source.0 / c < parts) es
          → AllByRecursion (λ e. e.source.0 / c < parts → (e.target.0 / c == j) ≡ true → was_fed (mark_of s.done (suc u) (e.source.0 / c) j) ≡ false → p.contribution (values p edges u e.source.0) e.weight.0 ≡ p.unit) es
          → AllByRecursion (λ e. was_fed (mark_of s.done (suc u) (e.source.0 / c) j) ≡ false → e.target.0 ≡ v → p.contribution (values p edges u e.source.0) e.weight.0 ≡ p.unit) es
      both_ways [] all each = tt
      both_ways (e ∷ es) all each =
          (λ off hit. each.0 all.0 (eq-eqb (e.target.0 / c) j (ap (λ w. w / c) hit ∙ part)) off, both_ways es all.1 each.1)

  final_here : (u j : ℕ) → n ≤ parts * c → j < parts → is_final s (suc u) j ≡ false → is_final s u j ≡ true → ((i : ℕ) → i < parts → is_done s (suc u) i j ≡ true)
      → (xs : List V) → xs ≡ each_from (λ v x. p.apply v x (get_or (sums_of p n c s (suc u) j) (v - first_vertex n c j) p.unit)) (first_vertex n c j) (values_of s u j)
      → IsOfChunk n c j (values p edges (suc u)) xs
  final_here u j covers column open_column old rows xs is =
      let first = first_vertex n c j in
      let before = some_of (kept_of s.finals u j) old in
      let from = before.0 in
      let facts = sound.synchronous u j from before.1 in
      let sums = sums_of p n c s (suc u) j in
      let held = sound.partial u j column open_column in
      let make : ℕ → V → V = λ v x. p.apply v x (get_or sums (v - first) p.unit) in
      let told : values_of s u j ≡ from = ap (λ o. unwrap_or o []) before.1 in
      let made : xs ≡ each_from make first from = is ∙ ap (each_from make first) told in
      let long : length (each_from make first from) ≡ part_length n c j = each_length make first from ∙ facts.long in
      let whole = chunk_same _ (values p edges (suc u)) first (each_from make first from) (λ k below.
      let v = first + k in
      let inside : k < length sums = (let all = held.long in omega (arith, long)) in
      let place : v - first ≡ k = omega arith in
      let part : v / c ≡ j = place_in n c j k (omega (arith, long)) in
      ap (p.apply v (values p edges u v)) (ap (λ m. get_or sums m p.unit) place ∙ held.chunk.at p.unit k inside ∙ sums_whole u j v covers rows part)) (chunk_each make (values p edges u) first from facts.chunk) in
      rw made (record { chunk = whole; long = long })

  pub sound_final : (u j : ℕ) → n ≤ parts * c → j < parts → is_final s (suc u) j ≡ false → is_final s u j ≡ true → ((i : ℕ) → i < parts → is_done s (suc u) i j ≡ true)
      → IsSound p edges n c parts (step p edges n c s (Finalise (suc u) j))
  sound_final u j covers column open_column old rows =
      let first = first_vertex n c j in
      let made = each_from (λ v x. p.apply v x (get_or (sums_of p n c s (suc u) j) (v - first) p.unit)) first (values_of s u j) in
      record {
        blocks = sound.blocks;
        synchronous = λ t k xs is. final_values t k xs (kept_cases (suc u) j t k made xs s.finals is);
        within = λ t k final. let held = some_of _ final in final_within t k (kept_cases (suc u) j t k made held.0 s.finals held.1);
        once = sound.once;
        partial = λ t k below open_k.
            let apart = not_kept (suc u) j (suc t) k made s.finals open_k in
            let units = replicate (part_length n c k) p.unit in
            partial_same p edges n c s (step p edges n c s (Finalise (suc u) j)) t k (ap (λ o. unwrap_or o units) (without_other (suc u) j (suc t) k apart.0 s.sums)) (λ x. refl) (sound.partial t k below apart.1);
        silent = sound.silent;
        sources = λ t r k done. let facts = sound.sources t r k done in record { some_time = facts.some_time; row = facts.row; column = facts.column; source = more_kept (suc u) j (prior t) r made s.finals facts.source };
        starts = λ k below. more_kept (suc u) j 0 k made s.finals (sound.starts k below);
        whole = λ t k final. final_whole t k (cases_Bool ((suc u == suc t) && (j == k))) final;
      }
    where
      final_values : (t k : ℕ) (xs : List V)
          → ((suc u ≡ t) × (j ≡ k) × (each_from (λ v x. p.apply v x (get_or (sums_of p n c s (suc u) j) (v - first_vertex n c j) p.unit)) (first_vertex n c j) (values_of s u j) ≡ xs)) ⊎ (kept_of s.finals t k ≡ Some xs)
          → IsOfChunk n c k (values p edges t) xs
      final_values t k xs (inl same) =
          subst (λ m. IsOfChunk n c k (values p edges m) xs) same.0
          (subst (λ x. IsOfChunk n c x (values p edges (suc u)) xs) same.1
          (final_here u j covers column open_column old rows xs (sym same.2)))
      final_values t k xs (inr before) = sound.synchronous t k xs before

      final_within : (t k : ℕ) {xs : List V} → ((suc u ≡ t) × (j ≡ k) × (made_values p n c s (suc u) j ≡ xs)) ⊎ (kept_of s.finals t k ≡ Some xs) → k < parts
      final_within t k (inl same) = omega (arith, same.1)
      final_within t k (inr before) = sound.within t k (ap is_some before)

      final_whole : (t k : ℕ) → (((suc u == suc t) && (j == k)) ≡ true) ⊎ (((suc u == suc t) && (j == k)) ≡ false)
          → is_final (step p edges n c s (Finalise (suc u) j)) (suc t) k ≡ true
          → HasColumn parts (step p edges n c s (Finalise (suc u) j)) t k
      final_whole t k (inl hit) final =
          let same = same_pair (suc u) j (suc t) k hit in
          let time : u ≡ t = omega (arith, same.0) in
          record {
            before = more_kept (suc u) j t k _ s.finals (subst (λ m. is_final s m k ≡ true) time (subst (λ x. is_final s u x ≡ true) same.1 old));
            rows = λ i below. subst (λ m. is_done s (suc m) i k ≡ true) time (subst (λ x. is_done s (suc u) i x ≡ true) same.1 (rows i below));
          }
      final_whole t k (inr miss) final =
          let before = sym (ap is_some (kept_other (suc u) j (suc t) k _ s.finals miss)) ∙ final in
          let facts = sound.whole t k before in
          record { before = more_kept (suc u) j t k _ s.finals facts.before; rows = facts.rows }

  -- each legal event keeps it all
  pub legal_event : (bound : ℕ) → n ≤ parts * c → (event : Event) → refusal p n c parts bound s event ≡ None → IsSound p edges n c parts (step p edges n c s event)
  legal_event bound covers (Feed zero i j) legal =
      absurd (let e : Some Bounds ≡ None = legal in cc)
  legal_event bound covers (Feed (suc u) i j) legal =
      let may = may_feed bound parts s (suc u) i j legal in
      sound_feed u i j may.bounds.row may.bounds.column may.unfinished may.fresh may.source
  legal_event bound covers (Skip zero i j) legal =
      absurd (let e : Some Bounds ≡ None = legal in cc)
  legal_event bound covers (Skip (suc u) i j) legal =
      let both = neither_of _ _ legal in
      let may = may_feed bound parts s (suc u) i j both.0 in
      sound_skip u i j may.bounds.row may.bounds.column may.fresh may.source (no_map NotSkippable _ both.1)
  legal_event bound covers (Finalise zero j) legal =
      absurd (let e : Some Bounds ≡ None = legal in cc)
  legal_event bound covers (Finalise (suc u) j) legal =
      let may = may_finalise bound parts s (suc u) j legal in
      sound_final u j covers may.bounds.column may.unfinished may.before may.rows
