-- What the costs of `Paths` are: the least costs of walks from the start.
use Rattle.std.proofs.Common.{◌≡◌, ◌==◌, ℕ, zero, suc, ◌+◌, ◌-◌, ◌≤◌, ◌<◌, ◌^◌, ◌⊎◌, inl, inr, Bool, true, false, cond, List, [], ◌∷◌, ◌++◌, length, All, Contains, Some, None, refl, sym, ap, ap₂, subst, ◌∙◌, arith, true≢false}
use Rattle.std.proofs.lemmas.Bool.{eqb-true, eq-eqb, ne_eqb}
use Rattle.std.proofs.lemmas.List.Elements.{All-contains, All-head, All-tail}
use Rattle.std.proofs.lemmas.List.Sums.{sum_by-cons, sum_by_push}
use Rattle.lumos_base.specs.declared.records.Edge.{Edge}
use Rattle.lumos_base.specs.Records.{IsEdge}
use Rattle.lumos_law.specs.Combines.{saturating}
use Rattle.lumos_law.specs.Sync.{still_in, ending, values}
use Rattle.programs.specs.Paths.{cost_with, known, paths_program}
use Rattle.programs.specs.Walks.{Leads, IsWalk, IsWalkWithin, cost_of, HasLeastCost, IsBestOf, IsBestWithin, IsBest}
use Rattle.programs.specs.declared.paths.Cost.{Cost}
use Rattle.programs.proofs.SpreadLemmas.{Spreads, GivenBy, number_falls_to, reaches, came}
use Rattle.programs.proofs.StillLemmas.{StoodStill, stood_still, still_low, number_same}
use Rattle.programs.proofs.WalkLemmas.{walk_on, walk_longer, walk_none, walk_cheap}

abbrev number : Cost → ℕ
number x = x.cost

abbrev fresh : Cost → Bool
fresh x = x.fresh

spreads : (start : ℕ) → Spreads (paths_program start) number fresh saturating
spreads start = record {
  starts = refl;
  joins = λ a b. refl;
  gives = λ x w is. rw is refl;
  silent = λ x w none. rw none refl;
  becomes = λ v x s. refl;
  freshens = λ v x s. refl;
  moves = λ x y. refl;
}

-- a first value, by whether its vertex is the start
abbrev first_by : Bool → Cost
first_by b = cond b (cost_with 0 true) (cost_with 18446744073709551615 false)

first_low : (b : Bool) → (first_by b).cost ≤ 18446744073709551615
first_low true = omega arith
first_low false = omega arith

first_none : (b : Bool) → (first_by b).fresh ≡ false → (first_by b).cost ≡ 18446744073709551615
first_none true h = absurd (true≢false h)
first_none false h = refl

-- there is a walk of this cost from the start to v, of at most t edges
record HasWalk (t : ℕ) (edges : List Edge) (start v cost : ℕ) : Type 0 where
  walk : List Edge
  fits : IsWalkWithin t edges start v walk
  has : cost_of walk ≡ cost

module _ (start : ℕ) (edges : List Edge) where
  -- the cost of v after t iterations
  abbrev cost_at : ℕ → ℕ → ℕ
  cost_at t v = (values (paths_program start) edges t v).cost

  falls_to : (t s v : ℕ) → s ≤ t → cost_at t v ≤ cost_at s v
  falls_to = number_falls_to (paths_program start) number fresh saturating (spreads start) edges

  cost_most : (t v : ℕ) → cost_at t v ≤ 18446744073709551615
  cost_most t v = let first = falls_to t 0 v (omega arith) in let low = first_low (v == start) in omega arith

  reached : (t : ℕ) (e : Edge) → Contains edges e → cost_at (suc t) e.target.0 ≤ saturating (cost_at t e.source.0) e.weight.0
  reached = reaches (paths_program start) number fresh saturating (spreads start) edges
      (λ e within none.
      let most = first_none (e.source.0 == start) none in
      let low = first_low (e.target.0 == start) in
      omega arith)

  -- the start has cost 0
  start_zero : (t : ℕ) → cost_at t start ≡ 0
  start_zero t =
      let first : cost_at 0 start ≡ 0 = ap (λ (b : Bool). (first_by b).cost) (eq-eqb start start refl) in
      let low = falls_to t 0 start (omega arith) in
      omega arith

  -- along a walk, an edge in each iteration, a cost grows by at most the walk's
  along_walk : (walk : List Edge) (t s a v : ℕ) → t ≡ length walk + s → All (Contains edges) walk → Leads a walk v → cost_at t v ≤ cost_at s a + cost_of walk
  along_walk [] t s a v is along leads =
      let now : t ≡ s = omega arith in
      let same = ap₂ cost_at now (sym leads) in
      omega arith
  along_walk (e ∷ walk) t s a v is along leads =
      let rest = along_walk walk t (suc s) e.target.0 v (omega arith) (All-tail (Contains edges) e walk along) leads.1 in
      let one = reached s e (All-head (Contains edges) e walk along) in
      let same = ap (cost_at s) leads.0 in
      rw (sum_by-cons (λ (d : Edge). d.weight.0) e walk) (omega arith)

  -- no walk to v costs less than v's cost
  cost_low : (t v : ℕ) (walk : List Edge) → IsWalkWithin t edges start v walk → cost_at t v ≤ cost_of walk
  cost_low t v walk h =
      let short = h.short in
      let later = along_walk walk t (t - length walk) start v (omega arith) h.walks.along h.walks.leads in
      let first = start_zero (t - length walk) in
      omega arith

  module _ (numbers : All IsEdge edges) where
    -- a vertex with a cost has a walk of that cost to it
    cost_walk : (t v : ℕ) → t ≤ 1000000 → (cost_at t v ≡ 18446744073709551615) ⊎ HasWalk t edges start v (cost_at t v)
    cost_walk zero v low = by_case (v == start) refl
      where
        by_case : (b : Bool) → (v == start) ≡ b → ((first_by b).cost ≡ 18446744073709551615) ⊎ HasWalk 0 edges start v (first_by b).cost
        by_case true is = inr (record { walk = []; fits = subst (λ u. IsWalkWithin 0 edges start u []) (sym (eqb-true v start is)) (walk_none 0 edges start); has = refl })
        by_case false is = inl refl
    cost_walk (suc t) v low = by_case (came (paths_program start) number fresh saturating (spreads start) edges t v (cost_most t v)) (λ u. cost_walk t u (omega arith))
      where
        longer : cost_at (suc t) v ≡ cost_at t v → (cost_at t v ≡ 18446744073709551615) ⊎ HasWalk t edges start v (cost_at t v) → (cost_at (suc t) v ≡ 18446744073709551615) ⊎ HasWalk (suc t) edges start v (cost_at (suc t) v)
        longer same (inl most) = inl (same ∙ most)
        longer same (inr w) = inr (record { walk = w.walk; fits = walk_longer t edges start v w.walk w.fits; has = w.has ∙ sym same })

        onwards : (h : GivenBy (λ e. saturating (cost_at t e.source.0) e.weight.0) edges v (cost_at (suc t) v))
            → (cost_at t h.edge.source.0 ≡ 18446744073709551615) ⊎ HasWalk t edges start h.edge.source.0 (cost_at t h.edge.source.0)
            → (cost_at (suc t) v ≡ 18446744073709551615) ⊎ HasWalk (suc t) edges start v (cost_at (suc t) v)
        onwards h (inl most) = let by = h.gives in inl (omega arith)
        onwards h (inr w) =
            let by = h.gives in
            let has = w.has in
            let cheap = walk_cheap t edges start h.edge.source.0 w.walk numbers (omega arith) w.fits in
            let edge = All-contains IsEdge edges h.edge numbers h.within in
            let weight = edge.weight in
            let more = sum_by_push (λ (d : Edge). d.weight.0) w.walk h.edge in
            inr (record {
              walk = w.walk ++ h.edge ∷ [];
              fits = walk_on t edges start v w.walk h.edge w.fits h.within h.target;
              has = omega arith;
            })

        by_case : (cost_at (suc t) v ≡ cost_at t v) ⊎ GivenBy (λ e. saturating (cost_at t e.source.0) e.weight.0) edges v (cost_at (suc t) v)
            → ((u : ℕ) → (cost_at t u ≡ 18446744073709551615) ⊎ HasWalk t edges start u (cost_at t u))
            → (cost_at (suc t) v ≡ 18446744073709551615) ⊎ HasWalk (suc t) edges start v (cost_at (suc t) v)
        by_case (inl same) rest = longer same (rest v)
        by_case (inr h) rest = onwards h (rest h.edge.source.0)

    -- the costs are the least ones over walks of at most t edges
    pub cost_best : (t v : ℕ) → t ≤ 1000000 → IsBestWithin t edges start v (known (cost_at t v))
    cost_best t v low = by_test (cost_at t v == 18446744073709551615) refl
      where
        some : (cost_at t v ≡ 18446744073709551615 → ⊥) → (cost_at t v ≡ 18446744073709551615) ⊎ HasWalk t edges start v (cost_at t v) → HasLeastCost (IsWalkWithin t edges start v) (cost_at t v)
        some apart (inl most) = absurd (apart most)
        some apart (inr w) = record { walk = w.walk; fits = w.fits; has = w.has; least = λ other h. cost_low t v other h }

        by_test : (b : Bool) → (cost_at t v == 18446744073709551615) ≡ b → IsBestOf (IsWalkWithin t edges start v) (cond b None (Some (cost_at t v)))
        by_test true is = λ walk h.
            let most = eqb-true (cost_at t v) 18446744073709551615 is in
            let least = cost_low t v walk h in
            let cheap = walk_cheap t edges start v walk numbers low h in
            omega arith
        by_test false is = some (λ most. true≢false (sym (eq-eqb (cost_at t v) 18446744073709551615 most) ∙ is)) (cost_walk t v low)

    module _ (n : ℕ) (sources : All (λ e. e.source.0 < n) edges) where
      -- costs that stand still grow along every walk by at most its cost
      along_still : (s : ℕ) → ((u : ℕ) → u < n → cost_at s u ≡ cost_at (suc s) u) → (walk : List Edge) (a v : ℕ) → All (Contains edges) walk → Leads a walk v → cost_at (suc s) v ≤ cost_at (suc s) a + cost_of walk
      along_still s still [] a v along leads = let same = ap (cost_at (suc s)) leads in omega arith
      along_still s still (e ∷ walk) a v along leads =
          let within = All-head (Contains edges) e walk along in
          let rest = along_still s still walk e.target.0 v (All-tail (Contains edges) e walk along) leads.1 in
          let one = reached s e within in
          let same = still e.source.0 (All-contains (λ (d : Edge). d.source.0 < n) edges e sources within) in
          let begins = ap (cost_at (suc s)) leads.0 in
          rw (sum_by-cons (λ (d : Edge). d.weight.0) e walk) (omega arith)

      cheap_still : (s v : ℕ) → suc s ≤ 1000000 → cost_at (suc s) v < 18446744073709551615 → cost_at (suc s) v < 2 ^ 52
      cheap_still s v low known_one = by_case (cost_walk (suc s) v low)
        where
          by_case : (cost_at (suc s) v ≡ 18446744073709551615) ⊎ HasWalk (suc s) edges start v (cost_at (suc s) v) → cost_at (suc s) v < 2 ^ 52
          by_case (inl most) = absurd (omega (arith, known_one))
          by_case (inr w) = let cheap = walk_cheap (suc s) edges start v w.walk numbers low w.fits in let has = w.has in omega arith

      -- and where a walk begins with a cost, it ends with one
      known_along : (s : ℕ) → suc s ≤ 1000000 → ((u : ℕ) → u < n → cost_at s u ≡ cost_at (suc s) u) → (walk : List Edge) (a v : ℕ) → All (Contains edges) walk → Leads a walk v
          → cost_at (suc s) a < 18446744073709551615 → cost_at (suc s) v < 18446744073709551615
      known_along s low still [] a v along leads begins = let same = ap (cost_at (suc s)) leads in omega arith
      known_along s low still (e ∷ walk) a v along leads begins =
          let within = All-head (Contains edges) e walk along in
          let edge = All-contains IsEdge edges e numbers within in
          let weight = edge.weight in
          let one = reached s e within in
          let same = still e.source.0 (All-contains (λ (d : Edge). d.source.0 < n) edges e sources within) in
          let at = ap (cost_at (suc s)) leads.0 in
          let cheap = cheap_still s e.source.0 low (omega arith) in
          known_along s low still walk e.target.0 v (All-tail (Contains edges) e walk along) leads.1 (omega arith)

      -- where a run ends still, they are the least ones over all walks
      pub cost_still : (limit t v : ℕ) → limit ≤ 1000000 → ending (paths_program start) edges n limit ≡ still_in t → IsBest edges start v (known (cost_at t v))
      cost_still limit t v few ends = by_test (cost_at t v == 18446744073709551615) refl
        where
          low : t ≤ 1000000
          low = let last = still_low (paths_program start) edges n limit t ends in omega arith

          stood : StoodStill (paths_program start) edges n t
          stood = stood_still (paths_program start) edges n limit t ends

          still : (u : ℕ) → u < n → cost_at stood.before u ≡ cost_at (suc stood.before) u
          still u below = number_same (paths_program start) number fresh saturating (spreads start) edges n stood.before u stood.none below

          now : cost_at t v ≡ cost_at (suc stood.before) v
          now = ap (λ (k : ℕ). cost_at k v) stood.next

          some : (cost_at t v ≡ 18446744073709551615 → ⊥) → (cost_at t v ≡ 18446744073709551615) ⊎ HasWalk t edges start v (cost_at t v) → HasLeastCost (IsWalk edges start v) (cost_at t v)
          some apart (inl most) = absurd (apart most)
          some apart (inr w) = record {
            walk = w.walk;
            fits = w.fits.walks;
            has = w.has;
            least = λ other h.
                let grows = along_still stood.before still other start v h.along h.leads in
                let begins = start_zero (suc stood.before) in
                let here = now in
                omega arith;
          }

          by_test : (b : Bool) → (cost_at t v == 18446744073709551615) ≡ b → IsBestOf (IsWalk edges start v) (cond b None (Some (cost_at t v)))
          by_test true is = λ walk h.
              let most = eqb-true (cost_at t v) 18446744073709551615 is in
              let begins = start_zero (suc stood.before) in
              let next = stood.next in
              let last = low in
              let ends_known = known_along stood.before (omega arith) still walk start v h.along h.leads (omega arith) in
              let here = now in
              omega arith
          by_test false is = some (λ most. true≢false (sym (eq-eqb (cost_at t v) 18446744073709551615 most) ∙ is)) (cost_walk t v low)

  module _ (n : ℕ) (sources : All (λ e. e.source.0 < n) edges) (beyond : n ≤ start) where
    -- where the start is no vertex, no vertex has a cost
    pub cost_none : (t v : ℕ) → v < n → cost_at t v ≡ 18446744073709551615
    cost_none zero v below = ap (λ (b : Bool). (first_by b).cost) (ne_eqb v start (λ same. absurd (omega (arith, beyond))))
    cost_none (suc t) v below = by_case (came (paths_program start) number fresh saturating (spreads start) edges t v (cost_most t v)) (cost_none t)
      where
        by_case : (cost_at (suc t) v ≡ cost_at t v) ⊎ GivenBy (λ e. saturating (cost_at t e.source.0) e.weight.0) edges v (cost_at (suc t) v)
            → ((u : ℕ) → u < n → cost_at t u ≡ 18446744073709551615) → cost_at (suc t) v ≡ 18446744073709551615
        by_case (inl same) rest = same ∙ rest v below
        by_case (inr h) rest =
            let by = h.gives in
            let most = rest h.edge.source.0 (All-contains (λ (d : Edge). d.source.0 < n) edges h.edge sources h.within) in
            omega arith
