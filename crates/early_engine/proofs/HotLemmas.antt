-- Which blocks an iteration needs, by the flags and by the edges.
use Rattle.std.proofs.Common.{◌≡◌, ◌&&◌, ◌||◌, ◌+◌, ℕ, suc, ◌<◌, nat_lt, cond, Bool, true, false, List, Option, refl, sym, ap, ◌∙◌}
use Rattle.std.proofs.lemmas.Bool.{ltb-true}
use Rattle.active_sets.specs.Active.{hot_at}
use Rattle.lumos_base.specs.declared.records.Edge.{Edge}
use Rattle.lumos_depot.specs.declared.depot.FileKind.{FileKind}
use Rattle.lumos_law.specs.Program.{Program}
use Rattle.partition.specs.Parts.{Cut, chunk_of}
use Rattle.flight_core.specs.Events.{prior}
use Rattle.grid_format.specs.Tables.{BlockCounts}
use Rattle.early_engine.specs.Early.{AreHot}
use Rattle.early_engine.specs.Gone.{AreOf, loads_by}
use Rattle.early_engine.specs.Grids.{IsOnGrid}
use Rattle.early_engine.specs.Passes.{Place, is_hot, needed, place_at, size_at}
use Rattle.early_engine.proofs.GridLemmas.{size_is}

and_same : (ahead low a b : Bool) → (low ≡ true → a ≡ b) → (ahead && low && a) ≡ (ahead && low && b)
and_same true true a b same = same refl
and_same true false a b same = refl
and_same false low a b same = refl

-- what is needed by some flags is needed by the same ones
need_same : (ahead low w x a b : Bool) → w ≡ x → (low ≡ true → a ≡ b) → (w || (ahead && low && a)) ≡ (x || (ahead && low && b))
need_same ahead low w x a b before now = (λ i. before i || (ahead && low && a)) ∙ ap (λ c. x || c) (and_same ahead low a b now)

-- and so are the loads
loads_same : (ahead low w x a b : Bool) (m n : ℕ) → m ≡ n → w ≡ x → (low ≡ true → a ≡ b) → cond w m 0 + cond (ahead && low && a) m 0 ≡ cond x n 0 + cond (ahead && low && b) n 0
loads_same ahead low w x a b m n load before now =
    (λ i. cond (before i) (load i) 0 + cond (ahead && low && a) (load i) 0) ∙ ap (λ c. cond x n 0 + cond c n 0) (and_same ahead low a b now)

-- Flags that tell the same of the parts below column k make the same of its blocks, also where the loads are equal numbers.
pub of_same : (table : BlockCounts) (load load' : ℕ → ℕ) (were were' flags new : List Bool) (ahead : Bool) (size : Place → ℕ) (need : Place → Bool) (loads : Place → ℕ) (i k : ℕ) → load' i ≡ load i → were' ≡ were → (i < k → hot_at flags i ≡ hot_at new i)
    → AreOf table load were new ahead size need loads i k → AreOf table load' were' flags ahead size need loads i k
of_same table load load' were were' flags new ahead size need loads i k load_is were_is same of = record {
  size_is = of.size_is;
  need_is = need_same ahead (nat_lt i k) (hot_at were' i) (hot_at were i) (hot_at flags i) (hot_at new i) (ap (λ f. hot_at f i) were_is) (λ low. same (ltb-true i k low)) ∙ of.need_is;
  loads_is = loads_same ahead (nat_lt i k) (hot_at were' i) (hot_at were i) (hot_at flags i) (hot_at new i) (load' i) (load i) load_is (ap (λ f. hot_at f i) were_is) (λ low. same (ltb-true i k low)) ∙ of.loads_is;
}

-- A told grid has these numbers of edges, and the flags these needs and loads.
pub told_of : {V S : Type 0} (p : Program V S) (edges : List Edge) (cut : Cut) (table : BlockCounts) (told : FileKind → Option (List ℕ)) (load : ℕ → ℕ) (were are : List Bool) (ahead : Bool) (t u i j : ℕ) → u ≡ suc t → i < cut.parts → j < cut.parts → IsOnGrid edges cut table told
    → AreHot p edges cut t were → AreHot p edges cut (suc t) are
    → AreOf table load were are ahead (size_at edges (chunk_of cut)) (needed (is_hot p edges cut.vertices cut.parts) ahead u)
    (loads_by load (is_hot p edges cut.vertices cut.parts (prior u)) (is_hot p edges cut.vertices cut.parts u) ahead) i j
told_of p edges cut table told load were are ahead t u i j next row column grid before now =
    let hot = is_hot p edges cut.vertices cut.parts in
    record {
      size_is = sym (size_is edges cut table told i j row column grid);
      need_is = need_same ahead (nat_lt i j) (hot_at were i) (hot t i) (hot_at are i) (hot (suc t) i) (before i row) (λ low. now i row)
          ∙ ap (λ (w : ℕ). needed hot ahead w (place_at i j)) (sym next);
      loads_is = loads_same ahead (nat_lt i j) (hot_at were i) (hot t i) (hot_at are i) (hot (suc t) i) (load i) (load i) refl (before i row) (λ low. now i row)
          ∙ ap (λ (w : ℕ). loads_by load (hot (prior w)) (hot w) ahead (place_at i j)) (sym next);
    }
