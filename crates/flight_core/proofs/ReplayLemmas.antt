-- What the steps of a state rest on.
use Rattle.std.proofs.Common.{◌≡◌, ℕ, zero, suc, ◌-◌, ◌<◌, List, length, replicate, find, slice_index_or, Option, None, ◌∙◌, arith}
use Rattle.std.specs.List.{range_with_len}
use Rattle.std.specs.Option.{unwrap_or}
use Rattle.flight_core.specs.Events.{Kept, State, prior, kept_of, values_of, sums_of, state_of, each_from, fed_sums, made_values, giver, step, refusal}
use Rattle.flight_core.specs.Replayed.{IsReplay}
use Rattle.flight_core.specs.declared.event.Event.{Event}
use Rattle.flight_core.specs.declared.mark.Mark.{Mark}
use Rattle.flight_core.proofs.EachLemmas.{chunk_own}
use Rattle.flight_core.proofs.EventLemmas.{legal_event}
use Rattle.lumos_base.specs.declared.records.Edge.{Edge}
use Rattle.lumos_law.specs.Program.{Program, Lawful}
use Rattle.lumos_law.specs.Sync.{fed_sum, IsChunk}
use Rattle.partition.specs.Blocks.{block}
use Rattle.partition.specs.Parts.{Cut, chunk_of, first_vertex, part_length}
use Rattle.partition.proofs.RangeLemmas.{parts_suffice}

-- the state of three lists
abbrev pub state_by : {V S : Type 0} → List Mark → List (Kept S) → List (Kept V) → State V S
state_by done sums finals = record { done = done; sums = sums; finals = finals }

-- two states with equal lists
pub state_is : {V S : Type 0} {done done' : List Mark} {sums sums' : List (Kept S)} {finals finals' : List (Kept V)}
    → done ≡ done' → sums ≡ sums' → finals ≡ finals' → state_by done sums finals ≡ state_by done' sums' finals'
state_is same_done same_sums same_finals = λ i. state_by (same_done i) (same_sums i) (same_finals i)

-- the iteration before is one less
pub prior_is : (t : ℕ) → prior t ≡ t - 1
prior_is zero = omega arith
prior_is (suc t) = omega arith

module _ {V S : Type 0} (p : Program V S) where
  -- a column's sums, by equal parts
  pub fed_is : (edges : List Edge) (n c : ℕ) (s : State V S) (t i j : ℕ) (es : List Edge) (from into : ℕ) (xs : List V) (ys : List S)
      → es ≡ block edges c i j → from ≡ first_vertex n c i → into ≡ first_vertex n c j → xs ≡ values_of s (prior t) i → ys ≡ sums_of p n c s t j
      → each_from (λ v sum. fed_sum p es (state_of p from xs) v sum) into ys ≡ fed_sums p edges n c s t i j
  fed_is edges n c s t i j es from into xs ys same_es same_from same_into same_xs same_ys =
      λ k. each_from (λ v sum. fed_sum p (same_es k) (state_of p (same_from k) (same_xs k)) v sum) (same_into k) (same_ys k)

  -- a chunk's next values, by equal parts
  pub made_is : (n c : ℕ) (s : State V S) (t j first : ℕ) (xs : List V) (ys : List S)
      → first ≡ first_vertex n c j → xs ≡ values_of s (prior t) j → ys ≡ sums_of p n c s t j
      → each_from (λ v x. p.apply v x (slice_index_or ys (v - first) p.unit)) first xs ≡ made_values p n c s t j
  made_is n c s t j first xs ys same_first same_xs same_ys =
      λ k. each_from (λ v x. p.apply v x (slice_index_or (same_ys k) (v - same_first k) p.unit)) (same_first k) (same_xs k)

  -- a column's sums, by what is kept of it
  pub sums_are : (n c : ℕ) (s : State V S) (t j count : ℕ) (unit : S) (kept : Option (List S))
      → kept ≡ kept_of s.sums t j → count ≡ part_length n c j → unit ≡ p.unit → unwrap_or kept (replicate count unit) ≡ sums_of p n c s t j
  sums_are n c s t j count unit kept same_kept same_count same_unit =
      λ k. unwrap_or (same_kept k) (replicate (same_count k) (same_unit k))

  -- the least vertex that contributes, by what is kept of the chunk
  pub giver_is : (n c : ℕ) (s : State V S) (t i first : ℕ) (xs : List V) (found : Option ℕ)
      → first ≡ first_vertex n c i → xs ≡ values_of s (prior t) i → length xs ≡ part_length n c i
      → ((state : ℕ → V) → IsChunk state first xs → found ≡ find (λ v. p.contributes (state v)) (range_with_len first (length xs)))
      → found ≡ giver p n c s t i
  giver_is n c s t i first xs found same_first same_xs long is =
      is (state_of p first xs) (chunk_own xs first (p.init 0 (record { degree = 0; weight = 0 })))
      ∙ λ k. find (λ v. p.contributes (state_of p (same_first k) (same_xs k) v)) (range_with_len (same_first k) (long k))

module _ {V S : Type 0} {ValueIn : V → Type 0} {SumIn : S → Type 0} (p : Program V S) (laws : Lawful ValueIn SumIn p) where
  -- a legal event keeps all that holds of a state
  pub replay_step : (edges : List Edge) (cut : Cut) (s : State V S) (event : Event) → IsReplay p edges cut s
      → refusal p cut.vertices (chunk_of cut) cut.parts 1024 s event ≡ None → IsReplay p edges cut (step p edges cut.vertices (chunk_of cut) s event)
  replay_step edges cut s event whole legal =
      let some_vertex : 0 < chunk_of cut = omega arith in
      record {
        some = whole.some;
        few = whole.few;
        list = whole.list;
        sound = legal_event p laws edges cut.vertices (chunk_of cut) cut.parts some_vertex whole.list.few whole.list.numbers whole.list.ends s whole.sound 1024
            (parts_suffice cut.vertices cut.parts whole.some) event legal;
      }
