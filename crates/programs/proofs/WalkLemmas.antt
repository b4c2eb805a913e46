-- Walks that go on by one edge, what their costs are bounded by, and that what is least over them is one.
use Rattle.std.proofs.Common.{◌≡◌, ℕ, suc, ◌*◌, ◌≤◌, ◌<◌, ◌^◌, List, [], ◌∷◌, ◌++◌, length, All, Contains, Option, Some, None, refl, sym, ap, ◌∙◌, arith, length-append}
use Rattle.std.proofs.lemmas.List.Elements.{All-contains, All-head, All-nil, All-push, All-tail}
use Rattle.std.proofs.lemmas.List.Sums.{sum_by-cons}
use Rattle.lumos_base.specs.declared.records.Edge.{Edge}
use Rattle.lumos_base.specs.Records.{IsEdge}
use Rattle.programs.specs.Walks.{Leads, IsWalkWithin, cost_of, IsBestOf, IsBestWithin, IsLeastFor}

-- edges that lead to an edge's source, and the edge, lead to its target
leads_on : (a u v : ℕ) (walk : List Edge) (e : Edge) → Leads a walk u → e.source.0 ≡ u → e.target.0 ≡ v → Leads a (walk ++ e ∷ []) v
leads_on a u v [] e leads source target = (source ∙ sym leads, target)
leads_on a u v (d ∷ walk) e leads source target = (leads.0, leads_on d.target.0 u v walk e leads.1 source target)

-- a walk of at most t edges to an edge's source goes on to its target
pub walk_on : (t : ℕ) (edges : List Edge) (a v : ℕ) (walk : List Edge) (e : Edge) → IsWalkWithin t edges a e.source.0 walk → Contains edges e → e.target.0 ≡ v → IsWalkWithin (suc t) edges a v (walk ++ e ∷ [])
walk_on t edges a v walk e h within target = record {
  walks = record {
    along = All-push (Contains edges) walk e h.walks.along within;
    leads = leads_on a e.source.0 v walk e h.walks.leads refl target;
  };
  short = let short = h.short in omega (arith, length-append walk (e ∷ []));
}

-- and is one of at most t + 1 edges
pub walk_longer : (t : ℕ) (edges : List Edge) (a v : ℕ) (walk : List Edge) → IsWalkWithin t edges a v walk → IsWalkWithin (suc t) edges a v walk
walk_longer t edges a v walk h = record { walks = h.walks; short = let short = h.short in omega arith }

-- the empty walk
pub walk_none : (t : ℕ) (edges : List Edge) (a : ℕ) → IsWalkWithin t edges a a []
walk_none t edges a = record { walks = record { along = All-nil (Contains edges); leads = refl }; short = omega arith }

-- a walk's cost is below 2 ^ 32 for each of its edges
cost_below : (edges walk : List Edge) → All IsEdge edges → All (Contains edges) walk → cost_of walk ≤ 4294967295 * length walk
cost_below edges [] numbers along = omega arith
cost_below edges (e ∷ walk) numbers along =
    let rest = cost_below edges walk numbers (All-tail (Contains edges) e walk along) in
    let edge = All-contains IsEdge edges e numbers (All-head (Contains edges) e walk along) in
    let weight = edge.weight in
    rw (sum_by-cons (λ (d : Edge). d.weight.0) e walk) (omega arith)

-- A walk of at most a million edges costs less than 2 ^ 52, so that no sum of weights comes near the greatest number.
pub walk_cheap : (t : ℕ) (edges : List Edge) (a v : ℕ) (walk : List Edge) → All IsEdge edges → t ≤ 1000000 → IsWalkWithin t edges a v walk → cost_of walk < 2 ^ 52
walk_cheap t edges a v walk numbers few h =
    let below = cost_below edges walk numbers h.walks.along in
    let short = h.short in
    omega arith

-- nor does the least cost over them
pub best_cheap : (t : ℕ) (edges : List Edge) (start v cost : ℕ) → All IsEdge edges → t ≤ 1000000 → IsBestWithin t edges start v (Some cost) → cost < 2 ^ 52
best_cheap t edges start v cost numbers few h =
    let cheap = walk_cheap t edges start v h.walk numbers few h.fits in
    let has = h.has in
    omega arith

-- two least costs of the same walks are one
pub best_same : (Fits : List Edge → Type 0) (a b : Option ℕ) → IsBestOf Fits a → IsBestOf Fits b → a ≡ b
best_same Fits None None h k = refl
best_same Fits None (Some n) h k = absurd (h k.walk k.fits)
best_same Fits (Some m) None h k = absurd (k h.walk h.fits)
best_same Fits (Some m) (Some n) h k =
    let low = h.least k.walk k.fits in
    let high = k.least h.walk h.fits in
    let first = h.has in let second = k.has in
    let same : m ≡ n = omega arith in
    ap (λ (c : ℕ). Some c) same

-- two least vertices of the same walks are one
pub least_same : (Fits : ℕ → List Edge → Type 0) (a b : ℕ) → IsLeastFor Fits a → IsLeastFor Fits b → a ≡ b
least_same Fits a b h k =
    let low = h.least b k.walk k.fits in
    let high = k.least a h.walk h.fits in
    omega arith
