-- The first state is sound, and so is each state after legal events.
use Rattle.std.proofs.Common.{◌≡◌, ◌⊎◌, ℕ, zero, suc, ◌+◌, ◌*◌, ◌<◌, ◌≤◌, false, true, List, [], ◌∷◌, ◌++◌, map, length, All, Some, None, refl, sym, ap, ◌∙◌, subst, inl, inr, arith}
use Rattle.std.specs.List.{range_with_len}
use Rattle.std.specs.Option.{is_some}
use Rattle.std.proofs.lemmas.Bool.{cases_eq}
use Rattle.std.proofs.lemmas.List.{length-replicate}
use Rattle.flight_core.specs.Events.{State, Kept, first_kept, kept_of, step, after, start, refusal, AreLegal}
use Rattle.flight_core.specs.Sound.{fed_edges, IsSound}
use Rattle.flight_core.specs.declared.event.Event.{Event}
use Rattle.flight_core.proofs.EachLemmas.{chunk_is, length_chunk, chunk_replicate}
use Rattle.flight_core.proofs.EventLemmas.{legal_event}
use Rattle.flight_core.proofs.FedEdgeLemmas.{filter_none}
use Rattle.flight_core.proofs.LookLemmas.{kept_same, some_of, more_kept, kept_cases}
use Rattle.lumos_base.specs.Records.{IsEdge}
use Rattle.lumos_base.specs.declared.records.Edge.{Edge}
use Rattle.lumos_law.specs.Program.{Program, Lawful}
use Rattle.lumos_law.specs.Sync.{values, chunk}
use Rattle.partition.specs.Blocks.{HoldOnce, IsBelow}
use Rattle.partition.specs.Parts.{first_vertex, part_length}

module _ {V S : Type 0} (p : Program V S) (edges : List Edge) (n c : ℕ) where
  -- the first values of chunk j
  abbrev begun : ℕ → List V
  begun j = chunk (values p edges 0) (first_vertex n c j) (part_length n c j)

  -- the first values of m chunks from a on
  abbrev firsts : ℕ → ℕ → List (Kept V)
  firsts a m = map (first_kept p edges n c) (range_with_len a m)

  pub start_kept : (a m t k : ℕ) (xs : List V) → kept_of (firsts a m) t k ≡ Some xs
      → (t ≡ 0) × (k < a + m) × (xs ≡ begun k)
  start_kept a zero t k xs is = absurd (let e : None ≡ Some xs = is in cc)
  start_kept a (suc m) t k xs is =
      by_case (kept_cases 0 a t k (begun a) xs _ is)
      (λ rest. let old = start_kept (a + 1) m t k xs rest in (old.0, (let low = old.1 in omega arith), old.2))
    where
      by_case : ((0 ≡ t) × (a ≡ k) × (begun a ≡ xs)) ⊎ (kept_of (firsts (a + 1) m) t k ≡ Some xs)
          → (kept_of (firsts (a + 1) m) t k ≡ Some xs → (t ≡ 0) × (k < a + suc m) × (xs ≡ begun k))
          → (t ≡ 0) × (k < a + suc m) × (xs ≡ begun k)
      by_case (inl same) later = (sym same.0, omega (arith, same.1), sym same.2 ∙ ap (λ x. begun x) same.1)
      by_case (inr rest) later = later rest

  pub start_has : (a m k : ℕ) → a ≤ k → k < a + m → is_some (kept_of (firsts a m) 0 k) ≡ true
  start_has a zero k low high = absurd (omega arith)
  start_has a (suc m) k low high = by_case (cases_eq k a) (λ apart. start_has (a + 1) m k (omega arith) (omega arith))
    where
      by_case : (k ≡ a) ⊎ (k ≡ a → ⊥) → ((k ≡ a → ⊥) → is_some (kept_of (firsts (a + 1) m) 0 k) ≡ true)
          → is_some (kept_of (firsts a (suc m)) 0 k) ≡ true
      by_case (inl same) later = subst (λ x. is_some (kept_of (firsts a (suc m)) 0 x) ≡ true) (sym same) (ap is_some (kept_same 0 a (begun a) (firsts (a + 1) m)))
      by_case (inr apart) later = more_kept 0 a 0 k (begun a) (firsts (a + 1) m) (later apart)

  pub sound_start : (parts : ℕ) → HoldOnce edges n c parts → IsSound p edges n c parts (start p edges n c parts)
  sound_start parts hold = record {
    blocks = hold;
    synchronous = λ t j xs is.
        let found = start_kept 0 parts t j xs is in
        rw (found.2, found.0) (record { chunk = chunk_is (values p edges 0) (first_vertex n c j) (part_length n c j); long = length_chunk (values p edges 0) (first_vertex n c j) (part_length n c j) });
    within = λ t j is. let held = some_of _ is in let low = (start_kept 0 parts t j held.0 held.1).1 in omega arith;
    once = λ t i j. omega arith;
    partial = λ t j below open_j.
        let none : fed_edges edges c (start p edges n c parts) (suc t) j ≡ [] = filter_none _ (λ e. refl) edges in
        record { chunk = rw none (chunk_replicate p.unit (first_vertex n c j) (part_length n c j)); long = length-replicate (part_length n c j) p.unit };
    silent = λ t i j is. absurd (let e : None ≡ Some false = is in cc);
    sources = λ t i j is. absurd (let e : false ≡ true = is in cc);
    starts = λ j below. start_has 0 parts j (omega arith) (omega arith);
    whole = λ t j is. let found = some_of _ is in absurd (let never = (start_kept 0 parts (suc t) j found.0 found.1).0 in omega arith);
  }

module _ {V S : Type 0} {ValueIn : V → Type 0} {SumIn : S → Type 0} (p : Program V S) (laws : Lawful ValueIn SumIn p) (edges : List Edge) (n c parts bound : ℕ)
    (some : 0 < c) (covers : n ≤ parts * c) (few : length edges ≤ 2147483648) (known_edges : All IsEdge edges) (ends : All (IsBelow n) edges) where
  -- any legal events
  pub legal_list : (events : List Event) (s : State V S) → IsSound p edges n c parts s → AreLegal p edges n c parts bound s events → IsSound p edges n c parts (after p edges n c s events)
  legal_list [] s sound legal = sound
  legal_list (e ∷ es) s sound legal =
      legal_list es (step p edges n c s e) (legal_event p laws edges n c parts some few known_edges ends s sound bound covers e legal.0) legal.1

module _ {V S : Type 0} (p : Program V S) (edges : List Edge) (n c : ℕ) where
  -- one event more
  pub after_more : (events : List Event) (s : State V S) (e : Event) → after p edges n c s (events ++ e ∷ []) ≡ step p edges n c (after p edges n c s events) e
  after_more [] s e = refl
  after_more (d ∷ events) s e = after_more events (step p edges n c s d) e

  -- one legal event more
  pub legal_more : (parts bound : ℕ) (events : List Event) (s : State V S) (e : Event) → AreLegal p edges n c parts bound s events
      → refusal p n c parts bound (after p edges n c s events) e ≡ None → AreLegal p edges n c parts bound s (events ++ e ∷ [])
  legal_more parts bound [] s e legal last = (last, tt)
  legal_more parts bound (d ∷ events) s e legal last = (legal.0, legal_more parts bound events (step p edges n c s d) e legal.1 last)
