-- Which parts are hot: flags that are marked one after another, and what they say of the vertices.
use Rattle.std.proofs.Common.{◌≡◌, ◌⊎◌, inl, inr, ◌<◌, ◌≤◌, ◌||◌, ℕ, ◌+◌, ◌-◌, Bool, true, false, List, [], ◌∷◌, length, set, refl, sym, ap, ap₂, ◌∙◌, arith, add-one}
use Rattle.std.specs.List.{list_any, range_with_len}
use Rattle.std.proofs.lemmas.Bool.{cases_eq}
use Rattle.std.proofs.lemmas.List.{get_or-set_same, get_or-set_other}
use Rattle.std.proofs.lemmas.List.Folds.{list_any-append, list_any_at}
use Rattle.std.proofs.lemmas.List.FromFn.{get_or-range_with_len, length-range_with_len}
use Rattle.active_sets.specs.Active.{hot_at}
use Rattle.lumos_base.specs.declared.records.Edge.{Edge}
use Rattle.lumos_law.specs.Program.{Program}
use Rattle.lumos_law.specs.Sync.{values}
use Rattle.partition.specs.Parts.{chunk_size, first_vertex, part_length}
use Rattle.partition.proofs.BucketLemmas.{range_more}
use Rattle.early_engine.specs.Core.{IsSilent}
use Rattle.early_engine.specs.Passes.{is_hot}

-- a number of a range that passes
pub any_hit : (q : ℕ → Bool) (a n k v : ℕ) → v ≡ a + k → k < n → q v ≡ true → list_any q (range_with_len a n) ≡ true
any_hit q a n k v is below hit =
    let long = length-range_with_len a n in
    list_any_at q (range_with_len a n) k 0 (omega (arith, long, below)) (ap q (get_or-range_with_len a n k 0 below ∙ sym is) ∙ hit)

-- one more that doesn't, behind those of which none does
pub any_miss : (q : ℕ → Bool) (a n v : ℕ) → v ≡ a + n → list_any q (range_with_len a n) ≡ false → q v ≡ false → list_any q (range_with_len a (n + 1)) ≡ false
any_miss q a n v is none miss =
    let last : q (a + n) ≡ false = ap q (sym is) ∙ miss in
    ap (λ (m : ℕ). list_any q (range_with_len a m)) (add-one n) ∙ ap (list_any q) (range_more a n) ∙ list_any-append q (range_with_len a n) ((a + n) ∷ [])
    ∙ ap₂ (λ b d. b || (d || false)) none last

-- where none does, a number of the range doesn't
pub any_none : (q : ℕ → Bool) (a n v : ℕ) → list_any q (range_with_len a n) ≡ false → a ≤ v → v < a + n → q v ≡ false
any_none q a n v none low high = by (q v) refl
  where
    by : (b : Bool) → q v ≡ b → b ≡ false
    by false is = refl
    by true is =
        let place : v ≡ a + (v - a) = omega arith in
        let hit : list_any q (range_with_len a n) ≡ true = any_hit q a n (v - a) v place (omega arith) is in
        let e : true ≡ false = sym hit ∙ none in
        absurd (cc)

-- one part more is marked
pub marked : (flags : List Bool) (hot : ℕ → Bool) (i : ℕ) (now : Bool) → i < length flags → now ≡ hot i → ((k : ℕ) → k < i → hot_at flags k ≡ hot k) → (k : ℕ) → k < i + 1 → hot_at (set flags i now) k ≡ hot k
marked flags hot i now within is before k below = here (cases_eq k i)
  where
    here : (k ≡ i) ⊎ (k ≡ i → ⊥) → hot_at (set flags i now) k ≡ hot k
    here (inl same) = ap (hot_at (set flags i now)) same ∙ get_or-set_same flags i now false within ∙ is ∙ ap hot (sym same)
    here (inr apart) = get_or-set_other flags i k now false apart ∙ before k (omega arith)

-- in a chunk that isn't hot nothing contributes
pub cold_silent : {V S : Type 0} (p : Program V S) (edges : List Edge) (n parts : ℕ) → IsSilent p edges n (chunk_size n parts) (is_hot p edges n parts)
cold_silent p edges n parts t i v off within =
    any_none (λ u. p.contributes (values p edges t u)) (first_vertex n (chunk_size n parts) i) (part_length n (chunk_size n parts) i) v off within.low within.high
