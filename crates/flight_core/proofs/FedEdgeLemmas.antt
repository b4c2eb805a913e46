-- The edges of fed blocks, and their sums.
use Rattle.std.proofs.Common.{◌≡◌, ◌==◌, ◌&&◌, ℕ, ◌/◌, ◌<◌, ◌^◌, Bool, true, false, not, cond, List, [], ◌∷◌, ◌++◌, map, filter, fold, refl, sym, ap, ◌∙◌, IsPermutation}
use Rattle.std.specs.List.{AllByRecursion}
use Rattle.std.proofs.lemmas.Bool.{eqb-true, eq-eqb}
use Rattle.std.proofs.lemmas.List.Elements.{filter_agree}
use Rattle.std.proofs.lemmas.List.Sorted.{IsPermutation-filter_both}
use Rattle.lumos_base.specs.declared.records.Edge.{Edge}
use Rattle.lumos_base.specs.Records.{IsEdge}
use Rattle.lumos_law.specs.Program.{Program, Lawful}
use Rattle.lumos_law.specs.Sync.{edges_into, contributions, fed_sum, sum_at}
use Rattle.lumos_law.proofs.OrderLemmas.{sum_at-permutation}
use Rattle.lumos_law.proofs.SkipLemmas.{unit_last}
use Rattle.lumos_law.proofs.SumLemmas.{all-filter, fed_sum-append}
use Rattle.partition.specs.Blocks.{block}
use Rattle.partition.proofs.BucketLemmas.{filter-filter}

turn_both : (r c i : Bool) → (i ≡ true → c ≡ true) → ((r && c) && i) ≡ (r && i)
turn_both true true true h = refl
turn_both true false true h = absurd (let e = h refl in cc)
turn_both true true false h = refl
turn_both true false false h = refl
turn_both false true true h = refl
turn_both false false true h = refl
turn_both false true false h = refl
turn_both false false false h = refl

-- the edges into v of a block are those from its source chunk
pub block_into : (edges : List Edge) (c i j v : ℕ) → v / c ≡ j → edges_into (block edges c i j) v ≡ edges_into (filter (λ e. e.source.0 / c == i) edges) v
block_into edges c i j v is =
    filter-filter (λ (e : Edge). e.target.0 == v) (λ e. (e.source.0 / c == i) && (e.target.0 / c == j)) edges
    ∙ filter_agree _ _ (λ e. turn_both (e.source.0 / c == i) (e.target.0 / c == j) (e.target.0 == v) (λ hit. eq-eqb (e.target.0 / c) j (ap (λ u. u / c) (eqb-true e.target.0 v hit) ∙ is))) edges
    ∙ sym (filter-filter (λ (e : Edge). e.target.0 == v) (λ e. e.source.0 / c == i) edges)

module _ {X : Type 0} where
  -- what passes one of two tests that exclude each other
  pub filter_either : (q r more : X → Bool) → ((x : X) → (more x && q x) ≡ q x) → ((x : X) → (more x && not (q x)) ≡ r x) → (xs : List X) → IsPermutation (filter more xs) (filter q xs ++ filter r xs)
  filter_either q r more first second xs =
      let split = IsPermutation-filter_both q (λ x. not (q x)) (λ x. refl) (filter more xs) in
      let one = filter-filter q more xs ∙ filter_agree _ q first xs in
      let two = filter-filter (λ x. not (q x)) more xs ∙ filter_agree _ r second xs in
      rw (one, two) at split

  -- what holds of each class of a list holds of each element, for the classes asked of
  pub by_class : (P : X → Type 0) (key : X → ℕ) (inside : X → Bool) (asked : ℕ → Type 0) (xs : List X)
      → ((i : ℕ) → asked i → AllByRecursion P (filter (λ x. (key x == i) && inside x) xs))
      → AllByRecursion (λ x. asked (key x) → inside x ≡ true → P x) xs
  by_class P key inside asked [] each = tt
  by_class P key inside asked (x ∷ xs) each = (
    λ ask on. head_of ((key x == key x) && inside x) (filter (λ y. (key y == key x) && inside y) xs) (rw (eq-eqb (key x) (key x) refl, on) refl) (each (key x) ask),
    by_class P key inside asked xs (λ i ask. tail_of ((key x == i) && inside x) (filter (λ y. (key y == i) && inside y) xs) (each i ask)),
  )
    where
      head_of : (b : Bool) (rest : List X) → b ≡ true → AllByRecursion P (cond b (x ∷ rest) rest) → P x
      head_of true rest is all = all.0
      head_of false rest is all = absurd (let e : false ≡ true = is in cc)

      tail_of : (b : Bool) (rest : List X) → AllByRecursion P (cond b (x ∷ rest) rest) → AllByRecursion P rest
      tail_of true rest all = all.1
      tail_of false rest all = all

  kept_by : (Q : X → Type 0) (b : Bool) (x : X) (xs : List X) → (b ≡ true → Q x) → AllByRecursion Q xs → AllByRecursion Q (cond b (x ∷ xs) xs)
  kept_by Q true x xs h all = (h refl, all)
  kept_by Q false x xs h all = all

  -- what passes a filter had P and passed the test
  pub all-passed : (P Q : X → Type 0) (q : X → Bool) → ((x : X) → P x → q x ≡ true → Q x) → (xs : List X) → AllByRecursion P xs → AllByRecursion Q (filter q xs)
  all-passed P Q q one [] all = tt
  all-passed P Q q one (x ∷ xs) all = kept_by Q (q x) x (filter q xs) (one x all.0) (all-passed P Q q one xs all.1)

  pub filter_none : (q : X → Bool) → ((x : X) → q x ≡ false) → (xs : List X) → filter q xs ≡ []
  filter_none q none [] = refl
  filter_none q none (x ∷ xs) = rw (none x, filter_none q none xs) refl

  pub all_map : (P Q : X → Type 0) → ((x : X) → P x → Q x) → (xs : List X) → AllByRecursion P xs → AllByRecursion Q xs
  all_map P Q more [] all = tt
  all_map P Q more (x ∷ xs) all = (more x all.0, all_map P Q more xs all.1)

module _ {V S : Type 0} (p : Program V S) where
  -- two states that agree on the sources
  pub fed_sum-same : (f h : ℕ → V) (v : ℕ) (edges : List Edge) → AllByRecursion (λ e. f e.source.0 ≡ h e.source.0) edges → (a : S) → fed_sum p edges f v a ≡ fed_sum p edges h v a
  fed_sum-same f h v [] all a = refl
  fed_sum-same f h v (e ∷ edges) all a = by_test (e.target.0 == v) (λ s. fed_sum-same f h v edges all.1 s)
    where
      by_test : (b : Bool) → ((s : S) → fed_sum p edges f v s ≡ fed_sum p edges h v s)
          → fold p.join a (map (λ (d : Edge). p.contribution (f d.source.0) d.weight.0) (cond b (e ∷ edges_into edges v) (edges_into edges v)))
          ≡ fold p.join a (map (λ (d : Edge). p.contribution (h d.source.0) d.weight.0) (cond b (e ∷ edges_into edges v) (edges_into edges v)))
      by_test true rest = rest (p.join a (p.contribution (f e.source.0) e.weight.0)) ∙ ap (λ x. fold p.join (p.join a (p.contribution x e.weight.0)) (contributions p edges h v)) all.0
      by_test false rest = rest a

module _ {V S : Type 0} {ValueIn : V → Type 0} {SumIn : S → Type 0} (p : Program V S) (laws : Lawful ValueIn SumIn p) where
  -- edges that give the unit may be left out
  pub drop_units : (state : ℕ → V) → ((u : ℕ) → u < 2 ^ 32 → ValueIn (state u)) → (q : Edge → Bool) (v : ℕ) (edges : List Edge) → AllByRecursion IsEdge edges
      → AllByRecursion (λ e. q e ≡ false → e.target.0 ≡ v → p.contribution (state e.source.0) e.weight.0 ≡ p.unit) edges
      → (a : S) → SumIn a → fed_sum p (filter q edges) state v a ≡ fed_sum p edges state v a
  drop_units state known q v [] all units a h = refl
  drop_units state known q v (e ∷ edges) all units a h =
      by_tests (q e) (e.target.0 == v) refl refl (λ s k. drop_units state known q v edges all.1 units.1 s k)
    where
      by_tests : (b t : Bool) → q e ≡ b → (e.target.0 == v) ≡ t → ((s : S) → SumIn s → fed_sum p (filter q edges) state v s ≡ fed_sum p edges state v s)
          → fold p.join a (map (λ (d : Edge). p.contribution (state d.source.0) d.weight.0) (edges_into (cond b (e ∷ filter q edges) (filter q edges)) v))
          ≡ fold p.join a (map (λ (d : Edge). p.contribution (state d.source.0) d.weight.0) (cond t (e ∷ edges_into edges v) (edges_into edges v)))
      by_tests true true on hit rest =
          ap (λ w. fold p.join a (map (λ (d : Edge). p.contribution (state d.source.0) d.weight.0) (cond w (e ∷ edges_into (filter q edges) v) (edges_into (filter q edges) v)))) hit
          ∙ rest (p.join a (p.contribution (state e.source.0) e.weight.0)) (laws.joins.join_in a _ h (laws.contribution_in (state e.source.0) e.weight.0 (known e.source.0 all.0.source) all.0.weight))
      by_tests true false on hit rest =
          ap (λ w. fold p.join a (map (λ (d : Edge). p.contribution (state d.source.0) d.weight.0) (cond w (e ∷ edges_into (filter q edges) v) (edges_into (filter q edges) v)))) hit
          ∙ rest a h
      by_tests false true off hit rest =
          rest a h ∙ ap (λ s. fold p.join s (contributions p edges state v)) (sym (ap (p.join a) (units.0 off (eqb-true e.target.0 v hit)) ∙ unit_last p laws a h))
      by_tests false false off hit rest = rest a h

  -- one block more
  pub sum_more : (edges : List Edge) (state : ℕ → V) → ((u : ℕ) → u < 2 ^ 32 → ValueIn (state u)) → AllByRecursion IsEdge edges
      → (c i j v : ℕ) → v / c ≡ j → (q more : Edge → Bool) → ((e : Edge) → (more e && q e) ≡ q e) → ((e : Edge) → (more e && not (q e)) ≡ (e.source.0 / c == i))
      → fed_sum p (block edges c i j) state v (sum_at p (filter q edges) state v) ≡ sum_at p (filter more edges) state v
  sum_more edges state known all c i j v is q more first second =
      let here : Edge → Bool = λ e. e.source.0 / c == i in
      let start = sum_at p (filter q edges) state v in
      let same : fed_sum p (block edges c i j) state v start ≡ fed_sum p (filter here edges) state v start =
      ap (λ l. fold p.join start (map (λ (e : Edge). p.contribution (state e.source.0) e.weight.0) l)) (block_into edges c i j v is) in
      same ∙ sym (fed_sum-append p state v (filter q edges) (filter here edges) p.unit)
      ∙ sym (sum_at-permutation p laws (filter more edges) (filter q edges ++ filter here edges) state v (filter_either q here more first second edges) known (all-filter IsEdge more edges all))
