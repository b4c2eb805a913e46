-- What stands in the core after the first iterations, and that an engine keeps the same.
use Rattle.std.proofs.Common.{◌≡◌, ◌&&◌, ℕ, suc, ◌<◌, ◌≤◌, nat_lt, Bool, true, List, length, sym, ap, subst, ◌∙◌, arith}
use Rattle.std.proofs.lemmas.Bool.{le-ltb, lt-ltb}
use Rattle.lumos_base.specs.declared.records.Edge.{Edge}
use Rattle.lumos_law.specs.Program.{Program, Lawful}
use Rattle.lumos_law.specs.Sync.{sum_at, values, IsChunk}
use Rattle.partition.specs.Parts.{Cut, chunk_of, chunk_size, first_vertex, part_length}
use Rattle.partition.proofs.BlockLemmas.{hold_once}
use Rattle.partition.proofs.RangeLemmas.{parts_suffice}
use Rattle.flight_core.specs.EdgeList.{IsEdgeList}
use Rattle.flight_core.specs.Events.{State, is_done, is_final, kept_of, start, sums_of}
use Rattle.flight_core.proofs.EachLemmas.{chunk_unique}
use Rattle.flight_core.proofs.LookLemmas.{some_of}
use Rattle.windows.specs.Kept.{KeepsList, StoresList}
use Rattle.windows.specs.Windows.{Coding, Told, WindowState}
use Rattle.early_engine.specs.Core.{HasFinal, IsCoreState, IsSilent, StandsAfter, core_state, passes_to}
use Rattle.early_engine.specs.Early.{IsKept, early_edges}
use Rattle.early_engine.specs.Passes.{Hot, feeds_ahead, is_hot}
use Rattle.early_engine.specs.declared.options.Mode.{Mode}
use Rattle.early_engine.proofs.FlagLemmas.{cold_silent}
use Rattle.early_engine.proofs.EarlyLink.{early_chunk}
use Rattle.early_engine.proofs.PassSteps.{Begins, Leaves, passes_leave}
use Rattle.early_engine.proofs.TurnTests.{done_now, final_now}

-- two lists with what a state has in a chunk are the same list
chunk_is : {X : Type 0} (state : ℕ → X) (cut own : Cut) (j : ℕ) (xs ys : List X) → own ≡ cut → length xs ≡ part_length cut.vertices (chunk_of cut) j → IsChunk state (first_vertex cut.vertices (chunk_of cut) j) xs
    → length ys ≡ part_length own.vertices (chunk_of own) j → IsChunk state (first_vertex own.vertices (chunk_of own) j) ys → ys ≡ xs
chunk_is state cut own j xs ys same long chunk own_long own_chunk =
    let long_too = subst (λ (k : Cut). length ys ≡ part_length k.vertices (chunk_of k) j) same own_long in
    let chunk_too = subst (λ (k : Cut). IsChunk state (first_vertex k.vertices (chunk_of k) j) ys) same own_chunk in
    chunk_unique state (first_vertex cut.vertices (chunk_of cut) j) ys xs (long_too ∙ sym long) chunk_too chunk

module _ {V S : Type 0} {ValueIn : V → Type 0} {SumIn : S → Type 0} (p : Program V S) (laws : Lawful ValueIn SumIn p) (edges : List Edge) where
  module _ (n parts bound : ℕ) (hot : Hot) (mode : Mode) (limit t : ℕ) where
    abbrev behind : State V S
    behind = core_state p edges n parts hot mode limit t

    -- the events of the first t iterations are legal one after another, and what stands in the core behind them
    pub stands_after : 0 < parts → IsEdgeList n edges → IsSilent p edges n (chunk_size n parts) hot → limit ≤ bound → t ≤ limit → StandsAfter p edges n parts hot mode limit t bound
    stands_after some list silent inside most = record {
      legal = left.legal;
      sound = left.sound;
      final = final;
      done = done;
      early = λ on j low. early_chunk p laws edges n (chunk_size n parts) parts list.few list.numbers behind left.sound t j low (final (suc t) j low ∙ le-ltb (suc t) (suc t) (omega arith))
          (λ r row. done r j row low ∙ ap (λ b. b && nat_lt r j) on);
    }
      where
        left : Leaves p edges n (chunk_size n parts) parts bound (start p edges n (chunk_size n parts) parts) (passes_to hot mode limit parts t) (Begins parts mode limit t)
        left =
            passes_leave p laws edges n (chunk_size n parts) parts bound (omega arith) (parts_suffice n parts some) list.few list.numbers list.ends hot silent mode limit inside
            (hold_once edges n parts some list.ends) t most

        final : (u j : ℕ) → j < parts → is_final behind u j ≡ nat_lt u (suc t)
        final u j low = left.stands.final u j low ∙ final_now t u j

        done : (i j : ℕ) → i < parts → j < parts → is_done behind (suc t) i j ≡ (feeds_ahead mode limit t && nat_lt i j)
        done i j row column = left.stands.now i j row column ∙ done_now (feeds_ahead mode limit t) i j

  -- what windows and their files keep is what the core does
  pub core_state_of : (coding : Coding V S) (cut : Cut) (mode : Mode) (limit t : ℕ) (windows : WindowState V S) (told : Told) (flags : List Bool) → 0 < cut.parts → IsEdgeList cut.vertices edges → limit ≤ 1000000 → t ≤ limit
      → windows.cut ≡ cut → IsKept coding p edges cut mode limit t windows told flags → IsCoreState coding p edges cut mode limit t windows told
  core_state_of coding cut mode limit t windows told flags some list inside most cut_is kept = record { legal = stands.legal; finals = finals; partial = partial }
    where
      core : State V S
      core = core_state p edges cut.vertices cut.parts (is_hot p edges cut.vertices cut.parts) mode limit t

      stands : StandsAfter p edges cut.vertices cut.parts (is_hot p edges cut.vertices cut.parts) mode limit t 1000000
      stands = stands_after cut.vertices cut.parts 1000000 (is_hot p edges cut.vertices cut.parts) mode limit t some list (cold_silent p edges cut.vertices cut.parts) inside most

      finals : (j : ℕ) → j < cut.parts → HasFinal coding core t windows told j
      finals j low =
          let held = some_of (kept_of core.finals t j) (stands.final t j low ∙ lt-ltb t (suc t) (omega arith)) in
          let facts = stands.sound.synchronous t j held.0 held.1 in
          let keeps = kept.holds j low in
          let same = chunk_is (values p edges t) cut windows.cut j held.0 keeps.items cut_is facts.long facts.chunk keeps.kept.long keeps.chunk in
          record { items = held.0; is = held.1; kept = subst (KeepsList coding windows told t j) same keeps.kept }

      partial : feeds_ahead mode limit t ≡ true → (j : ℕ) → j < cut.parts → StoresList coding windows told j (sums_of p cut.vertices (chunk_of cut) core (suc t) j)
      partial on j low =
          let facts = stands.sound.partial t j low (stands.final (suc t) j low ∙ le-ltb (suc t) (suc t) (omega arith)) in
          let stores = kept.ahead on j low in
          let sums = sums_of p cut.vertices (chunk_of cut) core (suc t) j in
          let same = chunk_is (sum_at p (early_edges edges (chunk_of cut) j) (values p edges t)) cut windows.cut j sums stores.items cut_is facts.long (stands.early on j low) stores.stored.long stores.chunk in
          subst (StoresList coding windows told j) same stores.stored
