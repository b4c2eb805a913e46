-- Edges whose sources give nothing change no sum.
use Rattle.std.proofs.Common.{◌≡◌, ◌==◌, ℕ, ◌<◌, ◌^◌, Bool, true, false, cond, List, [], ◌∷◌, map, fold, refl, ap, ◌∙◌}
use Rattle.std.specs.List.{AllByRecursion}
use Rattle.lumos_base.specs.declared.records.Edge.{Edge}
use Rattle.lumos_base.specs.Records.{IsEdge}
use Rattle.lumos_law.specs.Program.{Program, Lawful}
use Rattle.lumos_law.specs.Sync.{edges_into, contributions, fed_sum}

module _ {V S : Type 0} {ValueIn : V → Type 0} {SumIn : S → Type 0} (p : Program V S) (laws : Lawful ValueIn SumIn p) where
  -- the unit may be joined last
  pub unit_last : (a : S) → SumIn a → p.join a p.unit ≡ a
  unit_last a h = laws.joins.commutes a p.unit h laws.joins.unit_in ∙ laws.joins.starts a h

  -- edges whose sources do not contribute leave every sum as it is
  pub silent_block : (state : ℕ → V) → ((u : ℕ) → u < 2 ^ 32 → ValueIn (state u)) → (v : ℕ) (edges : List Edge)
      → AllByRecursion IsEdge edges → AllByRecursion (λ e. p.contributes (state e.source.0) ≡ false) edges
      → (a : S) → SumIn a → fed_sum p edges state v a ≡ a
  silent_block state known v [] all silent a h = refl
  silent_block state known v (e ∷ edges) all silent a h =
      by_test (e.target.0 == v) (silent_block state known v edges all.1 silent.1)
    where
      gives_unit : p.contribution (state e.source.0) e.weight.0 ≡ p.unit
      gives_unit = laws.silent (state e.source.0) e.weight.0 (known e.source.0 all.0.source) all.0.weight silent.0

      by_test : (b : Bool) → ((s : S) → SumIn s → fed_sum p edges state v s ≡ s)
          → fold p.join a (map (λ (d : Edge). p.contribution (state d.source.0) d.weight.0) (cond b (e ∷ edges_into edges v) (edges_into edges v))) ≡ a
      by_test true rest =
          ap (λ s. fold p.join s (contributions p edges state v)) (ap (p.join a) gives_unit ∙ unit_last a h) ∙ rest a h
      by_test false rest = rest a h
