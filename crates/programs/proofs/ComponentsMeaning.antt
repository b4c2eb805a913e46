-- What the labels of `Components` are: the least vertices from which walks lead.
use Rattle.std.proofs.Common.{◌≡◌, ℕ, zero, suc, ◌+◌, ◌-◌, ◌≤◌, ◌<◌, ◌^◌, ◌⊎◌, inl, inr, Bool, List, [], ◌∷◌, ◌++◌, length, map, All, Contains, get_or, refl, sym, ap, ap₂, subst, arith, true≢false}
use Rattle.std.proofs.lemmas.List.Elements.{All-contains, All-head, All-tail, All-weaker, Contains-append_cases, Contains-append_left}
use Rattle.lumos_base.specs.declared.records.Edge.{Edge}
use Rattle.lumos_base.specs.Records.{IsEdge}
use Rattle.lumos_law.specs.Sync.{still_in, ending, values}
use Rattle.programs.specs.Components.{components_program}
use Rattle.programs.specs.Walks.{Leads, IsWalkWithin, IsLeastWithin, IsLeastTo, IsLeastJoined, HasBothWays, either_way, turned}
use Rattle.programs.specs.declared.components.Label.{Label}
use Rattle.programs.proofs.SpreadLemmas.{Spreads, GivenBy, number_falls_to, reaches, came}
use Rattle.programs.proofs.StillLemmas.{stood_still, number_same}
use Rattle.programs.proofs.WalkLemmas.{walk_on, walk_longer, walk_none}

abbrev number : Label → ℕ
number x = x.label

abbrev fresh : Label → Bool
fresh x = x.fresh

-- a label goes over an edge as it is
abbrev step : ℕ → ℕ → ℕ
step n w = n

spreads : Spreads components_program number fresh step
spreads = record {
  starts = refl;
  joins = λ a b. refl;
  gives = λ x w is. rw is refl;
  silent = λ x w none. rw none refl;
  becomes = λ v x s. refl;
  freshens = λ v x s. refl;
  moves = λ x y. refl;
}

module _ (edges : List Edge) where
  -- the label of v after t iterations
  abbrev label_at : ℕ → ℕ → ℕ
  label_at t v = (values components_program edges t v).label

  reached : (t : ℕ) (e : Edge) → Contains edges e → label_at (suc t) e.target.0 ≤ label_at t e.source.0
  reached = reaches components_program number fresh step spreads edges (λ e within none. absurd (true≢false none))

  falls_to : (t s v : ℕ) → s ≤ t → label_at t v ≤ label_at s v
  falls_to = number_falls_to components_program number fresh step spreads edges

  -- a label goes along a walk, an edge in each iteration
  along_walk : (walk : List Edge) (t s a v : ℕ) → t ≡ length walk + s → All (Contains edges) walk → Leads a walk v → label_at t v ≤ label_at s a
  along_walk [] t s a v is along leads =
      let now : t ≡ s = omega arith in
      let same = ap₂ label_at now (sym leads) in
      omega arith
  along_walk (e ∷ walk) t s a v is along leads =
      let rest = along_walk walk t (suc s) e.target.0 v (omega arith) (All-tail (Contains edges) e walk along) leads.1 in
      let one = reached s e (All-head (Contains edges) e walk along) in
      let same = ap (label_at s) leads.0 in
      omega arith

  -- no vertex from which a walk leads to v is below its label
  label_low : (t a v : ℕ) (walk : List Edge) → IsWalkWithin t edges a v walk → label_at t v ≤ a
  label_low t a v walk h =
      let short = h.short in
      let later = along_walk walk t (t - length walk) a v (omega arith) h.walks.along h.walks.leads in
      let first = falls_to (t - length walk) 0 a (omega arith) in
      omega arith

  module _ (numbers : All IsEdge edges) where
    -- from the label of v a walk leads to it
    label_walk : (t v : ℕ) → v < 2 ^ 32 → (walk : List Edge) × IsWalkWithin t edges (label_at t v) v walk
    label_walk zero v below = ([], walk_none zero edges v)
    label_walk (suc t) v below =
        by_case (came components_program number fresh step spreads edges t v (let first = falls_to t 0 v (omega arith) in omega arith)) (label_walk t)
      where
        by_case : (label_at (suc t) v ≡ label_at t v) ⊎ GivenBy (λ e. label_at t e.source.0) edges v (label_at (suc t) v)
            → ((u : ℕ) → u < 2 ^ 32 → (walk : List Edge) × IsWalkWithin t edges (label_at t u) u walk)
            → (walk : List Edge) × IsWalkWithin (suc t) edges (label_at (suc t) v) v walk
        by_case (inl same) rest =
            let before = rest v below in
            (before.0, rw same (walk_longer t edges (label_at t v) v before.0 before.1))
        by_case (inr h) rest =
            let edge = All-contains IsEdge edges h.edge numbers h.within in
            let before = rest h.edge.source.0 edge.source in
            (before.0 ++ h.edge ∷ [], rw h.gives (walk_on t edges (label_at t h.edge.source.0) v before.0 h.edge before.1 h.within h.target))

    -- the labels are the least vertices from which walks of at most t edges lead
    pub label_least : (t v : ℕ) → v < 2 ^ 32 → IsLeastWithin t edges v (label_at t v)
    label_least t v below =
        let found = label_walk t v below in
        record { walk = found.0; fits = found.1; least = λ b other h. label_low t b v other h }

    module _ (n : ℕ) (sources : All (λ e. e.source.0 < n) edges) where
      -- labels that stand still go along every walk
      along_still : (s : ℕ) → ((u : ℕ) → u < n → label_at s u ≡ label_at (suc s) u) → (walk : List Edge) (a v : ℕ) → All (Contains edges) walk → Leads a walk v → label_at (suc s) v ≤ label_at (suc s) a
      along_still s still [] a v along leads = let same = ap (label_at (suc s)) leads in omega arith
      along_still s still (e ∷ walk) a v along leads =
          let within = All-head (Contains edges) e walk along in
          let rest = along_still s still walk e.target.0 v (All-tail (Contains edges) e walk along) leads.1 in
          let one = reached s e within in
          let same = still e.source.0 (All-contains (λ (d : Edge). d.source.0 < n) edges e sources within) in
          let begins = ap (label_at (suc s)) leads.0 in
          omega arith

      -- where a run ends still, they are the least vertices from which any walks lead
      pub label_still : (limit t v : ℕ) → ending components_program edges n limit ≡ still_in t → v < 2 ^ 32 → IsLeastTo edges v (label_at t v)
      label_still limit t v ends below = record {
        walk = (label_walk t v below).0;
        fits = (label_walk t v below).1.walks;
        least = λ b other h.
            let stood = stood_still components_program edges n limit t ends in
            let still = λ (u : ℕ) (low : u < n). number_same components_program number fresh step spreads edges n stood.before u stood.none low in
            let later = along_still stood.before still other b v h.along h.leads in
            let first = falls_to (suc stood.before) 0 b (omega arith) in
            let same = ap (λ (k : ℕ). label_at k v) stood.next in
            omega arith;
      }

  -- an edge turned round is an edge of the list, where this has both ways of each
  within_turned : (all : List Edge) → All (λ e. Contains edges (turned e)) all → (e : Edge) → Contains (map turned all) e → Contains edges e
  within_turned [] both e h = absurd (let below = h.1 in omega arith)
  within_turned (d ∷ all) both e h = by_place h.0 h.1 h.2 (within_turned all (All-tail (λ (x : Edge). Contains edges (turned x)) d all both) e)
    where
      by_place : (k : ℕ) → k < length (map turned (d ∷ all)) → get_or (map turned (d ∷ all)) k e ≡ e → (Contains (map turned all) e → Contains edges e) → Contains edges e
      by_place zero below is rest = subst (Contains edges) is (All-head (λ (x : Edge). Contains edges (turned x)) d all both)
      by_place (suc k) below is rest = rest (k, omega arith, is)

  module _ (both : HasBothWays edges) where
    one_way : (e : Edge) → Contains (either_way edges) e → Contains edges e
    one_way e h = by_case (Contains-append_cases edges (map turned edges) e h)
      where
        by_case : Contains edges e ⊎ Contains (map turned edges) e → Contains edges e
        by_case (inl within) = within
        by_case (inr within) = within_turned edges both e within

    -- where the list has both ways of each edge, a walk along edges either way is one along edges
    pub least_joined : (v a : ℕ) → IsLeastTo edges v a → IsLeastJoined edges v a
    least_joined v a h = record {
      walk = h.walk;
      fits = record { along = All-weaker (Contains edges) (Contains (either_way edges)) (λ e within. Contains-append_left edges (map turned edges) e within) h.walk h.fits.along; leads = h.fits.leads };
      least = λ b other fits. h.least b other (record { along = All-weaker (Contains (either_way edges)) (Contains edges) one_way other fits.along; leads = fits.leads });
    }
