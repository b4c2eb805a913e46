-- Seeds, sought from the front of a list.
use Rattle.std.proofs.Common.{◌≡◌, ◌==◌, ℕ, zero, suc, ◌<◌, Bool, true, false, cond, List, [], ◌∷◌, length, take, get_or, Option, Some, None, sym, ap, arith}
use Rattle.std.proofs.lemmas.Bool.{eq-eqb, ne_eqb}
use Rattle.std.proofs.lemmas.Option.{none-some}
use Rattle.programs.specs.Seeds.{class_of}
use Rattle.programs.specs.declared.seeds.Seed.{Seed}

by_test : (b : Bool) (x : ℕ) (before after sought : Option ℕ) → cond b (Some x) before ≡ None → (before ≡ None → after ≡ sought)
    → cond b (Some x) after ≡ sought
by_test true x before after sought none rest = absurd (none-some _ (sym none))
by_test false x before after sought none rest = rest none

-- the first seed of a vertex gives its class
pub class_hit : (v : ℕ) (seeds : List Seed) (k : ℕ) (d : Seed) → k < length seeds → class_of (take k seeds) v ≡ None
    → (get_or seeds k d).vertex ≡ v → class_of seeds v ≡ Some (get_or seeds k d).class
class_hit v [] k d below none hit = absurd (omega arith)
class_hit v (seed ∷ seeds) zero d below none hit = ap (λ b. cond b (Some seed.class) (class_of seeds v)) (eq-eqb seed.vertex v hit)
class_hit v (seed ∷ seeds) (suc k) d below none hit =
    by_test (seed.vertex == v) seed.class _ _ _ none (λ rest. class_hit v seeds k d (omega arith) rest hit)

-- one seed more, of another vertex
pub class_miss : (v : ℕ) (seeds : List Seed) (k : ℕ) (d : Seed) → k < length seeds → class_of (take k seeds) v ≡ None
    → ((get_or seeds k d).vertex ≡ v → ⊥) → class_of (take (suc k) seeds) v ≡ None
class_miss v [] k d below none miss = absurd (omega arith)
class_miss v (seed ∷ seeds) zero d below none miss = ap (λ b. cond b (Some seed.class) None) (ne_eqb seed.vertex v miss)
class_miss v (seed ∷ seeds) (suc k) d below none miss =
    by_test (seed.vertex == v) seed.class _ _ _ none (λ rest. class_miss v seeds k d (omega arith) rest miss)
