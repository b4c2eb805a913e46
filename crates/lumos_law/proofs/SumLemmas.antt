-- Sums over the edges into a vertex.
use Rattle.std.proofs.Common.{◌≡◌, ◌==◌, ℕ, ◌+◌, ◌<◌, ◌^◌, Bool, true, false, cond, List, [], ◌∷◌, ◌++◌, map, filter, fold, length, get_or, refl, sym, ap, ◌∙◌, arith, set, inl, inr, ◌⊎◌}
use Rattle.std.proofs.lemmas.Bool.{cases_eq, eq-eqb, ne_eqb}
use Rattle.std.specs.List.{AllByRecursion}
use Rattle.std.proofs.lemmas.List.{map-append, length-set, get_or-set_same, get_or-set_other}
use Rattle.std.proofs.lemmas.List.Sums.{fold-append}
use Rattle.lumos_base.specs.declared.records.Edge.{Edge}
use Rattle.lumos_base.specs.Records.{IsEdge}
use Rattle.lumos_law.specs.Program.{Program, Lawful}
use Rattle.lumos_law.specs.Sync.{edges_into, contributions, fed_sum, IsChunk}

cond-append : {X : Type 0} (b : Bool) (x : X) (ks xs ys : List X) → ks ≡ xs ++ ys → cond b (x ∷ ks) ks ≡ cond b (x ∷ xs) xs ++ ys
cond-append true x ks xs ys h = ap (λ l. x ∷ l) h
cond-append false x ks xs ys h = h

-- a filter goes through two lists in a row one after the other
pub filter-append : {X : Type 0} (p : X → Bool) (xs ys : List X) → filter p (xs ++ ys) ≡ filter p xs ++ filter p ys
filter-append p [] ys = refl
filter-append p (x ∷ xs) ys = cond-append (p x) x _ (filter p xs) (filter p ys) (filter-append p xs ys)

module _ {V S : Type 0} (p : Program V S) (state : ℕ → V) (v : ℕ) where
  -- what two lists in a row contribute
  pub contributions-append : (xs ys : List Edge) → contributions p (xs ++ ys) state v ≡ contributions p xs state v ++ contributions p ys state v
  contributions-append xs ys =
      ap (map (λ (e : Edge). p.contribution (state e.source.0) e.weight.0)) (filter-append (λ e. e.target.0 == v) xs ys)
      ∙ map-append (λ (e : Edge). p.contribution (state e.source.0) e.weight.0) (edges_into xs v) (edges_into ys v)

  -- a sum is fed by two lists in a row as by the first and then the second
  pub fed_sum-append : (xs ys : List Edge) (a : S) → fed_sum p (xs ++ ys) state v a ≡ fed_sum p ys state v (fed_sum p xs state v a)
  fed_sum-append xs ys a =
      ap (fold p.join a) (contributions-append xs ys) ∙ fold-append p.join a (contributions p xs state v) (contributions p ys state v)

  -- an edge into another vertex changes nothing
  pub fed_sum-other : (xs : List Edge) (e : Edge) (a : S) → (e.target.0 == v) ≡ false → fed_sum p (xs ++ e ∷ []) state v a ≡ fed_sum p xs state v a
  fed_sum-other xs e a other =
      fed_sum-append xs (e ∷ []) a ∙ (let now = fed_sum p xs state v a in rw other refl)

  -- an edge into v is joined
  pub fed_sum-into : (xs : List Edge) (e : Edge) (a : S) → (e.target.0 == v) ≡ true → fed_sum p (xs ++ e ∷ []) state v a ≡ p.join (fed_sum p xs state v a) (p.contribution (state e.source.0) e.weight.0)
  fed_sum-into xs e a into =
      fed_sum-append xs (e ∷ []) a ∙ (let now = fed_sum p xs state v a in rw into refl)

module _ {V S : Type 0} (p : Program V S) where
  -- one edge more, whose target stands at `at` of the sums
  pub fed_chunk-more : (edges : List Edge) (e : Edge) (state : ℕ → V) (first_sum : ℕ → S) (first : ℕ) (sums : List S) (at : ℕ) (new : S)
      → e.target.0 ≡ first + at → at < length sums
      → IsChunk (λ v. fed_sum p edges state v (first_sum v)) first sums
      → new ≡ p.join (get_or sums at new) (p.contribution (state e.source.0) e.weight.0)
      → IsChunk (λ v. fed_sum p (edges ++ e ∷ []) state v (first_sum v)) first (set sums at new)
  fed_chunk-more edges e state first_sum first sums at new is within chunk joined = record { at = λ d k below. here d k below (cases_eq k at) }
    where
      here : (d : S) (k : ℕ) → k < length (set sums at new) → (k ≡ at) ⊎ (k ≡ at → ⊥)
          → get_or (set sums at new) k d ≡ fed_sum p (edges ++ e ∷ []) state (first + k) (first_sum (first + k))
      here d k below (inl same) =
          let inside : k < length sums = omega (arith, length-set sums at new) in
          let hit = eq-eqb e.target.0 (first + k) (omega arith) in
          ap (λ j. get_or (set sums at new) j d) same ∙ get_or-set_same sums at new d within ∙ joined
          ∙ ap (λ x. p.join x (p.contribution (state e.source.0) e.weight.0)) (ap (λ j. get_or sums j new) (sym same) ∙ chunk.at new k inside)
          ∙ sym (fed_sum-into p state (first + k) edges e (first_sum (first + k)) hit)
      here d k below (inr apart) =
          let inside : k < length sums = omega (arith, length-set sums at new) in
          let miss = ne_eqb e.target.0 (first + k) (λ same. apart (omega arith)) in
          get_or-set_other sums at k new d apart ∙ chunk.at d k inside
          ∙ sym (fed_sum-other p state (first + k) edges e (first_sum (first + k)) miss)

all_by : {X : Type 0} (P : X → Type 0) (b : Bool) (x : X) (xs : List X) → P x → AllByRecursion P xs → AllByRecursion P (cond b (x ∷ xs) xs)
all_by P true x xs h all = (h, all)
all_by P false x xs h all = all

-- what holds of each element holds of each that a filter keeps
pub all-filter : {X : Type 0} (P : X → Type 0) (q : X → Bool) (xs : List X) → AllByRecursion P xs → AllByRecursion P (filter q xs)
all-filter P q [] all = tt
all-filter P q (x ∷ xs) all = all_by P (q x) x (filter q xs) all.0 (all-filter P q xs all.1)

module _ {V S : Type 0} {ValueIn : V → Type 0} {SumIn : S → Type 0} (p : Program V S) (laws : Lawful ValueIn SumIn p) where
  -- what the edges give is in range
  pub given_in : (state : ℕ → V) → ((u : ℕ) → u < 2 ^ 32 → ValueIn (state u)) → (v : ℕ) (edges : List Edge) → AllByRecursion IsEdge edges → AllByRecursion SumIn (contributions p edges state v)
  given_in state known v [] all = tt
  given_in state known v (e ∷ edges) all =
      given_by (e.target.0 == v) (edges_into edges v)
      (laws.contribution_in (state e.source.0) e.weight.0 (known e.source.0 all.0.source) all.0.weight) (given_in state known v edges all.1)
    where
      given_by : (b : Bool) (rest : List Edge) → SumIn (p.contribution (state e.source.0) e.weight.0) → AllByRecursion SumIn (map (λ (f : Edge). p.contribution (state f.source.0) f.weight.0) rest) → AllByRecursion SumIn (map (λ (f : Edge). p.contribution (state f.source.0) f.weight.0) (cond b (e ∷ rest) rest))
      given_by true rest h more = (h, more)
      given_by false rest h more = more
