-- What holds where an event is legal.
use Rattle.std.proofs.Common.{◌≡◌, ℕ, ◌+◌, ◌<◌, ◌≤◌, nat_lt, true, false, not, None, arith}
use Rattle.std.proofs.lemmas.Bool.{and_parts, ltb-true, not-false}
use Rattle.flight_core.specs.Events.{State, in_bounds, prior, is_final, is_done, mark_of, block_refusal, chunk_refusal}
use Rattle.flight_core.specs.declared.event.Illegal.TheVariants.{Bounds, ColumnFinal, AlreadyDone, SourceNotFinal, OldNotFinal, ColumnOpen}
use Rattle.flight_core.proofs.LookLemmas.{neither_of, no_reason, no_map, not_none, none_in}

-- t is an iteration from 1 to the greatest one, and i and j are parts
pub record IsInBounds (bound parts t i j : ℕ) : Type 0 where
  pub some_time : 0 < t
  pub time : t ≤ bound
  pub row : i < parts
  pub column : j < parts

pub bounds_of : (bound parts t i j : ℕ) → in_bounds bound parts t i j ≡ true → IsInBounds bound parts t i j
bounds_of bound parts t i j h =
    let one = and_parts (nat_lt 0 t) _ h in
    let two = and_parts (nat_lt t (bound + 1)) _ one.1 in
    let three = and_parts (nat_lt i parts) _ two.1 in
    let high = ltb-true t (bound + 1) two.0 in
    record {
      some_time = ltb-true 0 t one.0;
      time = omega arith;
      row = ltb-true i parts three.0;
      column = ltb-true j parts three.1;
    }

-- a block that may be fed
pub record MayFeed {V S : Type 0} (bound parts : ℕ) (s : State V S) (t i j : ℕ) : Type 0 where
  pub bounds : IsInBounds bound parts t i j
  pub unfinished : is_final s t j ≡ false
  pub fresh : mark_of s.done t i j ≡ None
  pub source : is_final s (prior t) i ≡ true

pub may_feed : {V S : Type 0} (bound parts : ℕ) (s : State V S) (t i j : ℕ) → block_refusal bound parts s t i j ≡ None → MayFeed bound parts s t i j
may_feed bound parts s t i j legal =
    let one = neither_of _ _ legal in
    let two = neither_of _ _ one.1 in
    let three = neither_of _ _ two.1 in
    let four = neither_of _ _ three.1 in
    record {
      bounds = bounds_of bound parts t i j (not-false _ (no_reason _ Bounds one.0));
      unfinished = no_reason _ ColumnFinal two.0;
      fresh = not_none _ (no_reason _ AlreadyDone three.0);
      source = not-false _ (no_reason _ SourceNotFinal four.0);
    }

-- a chunk that may be made final
pub record MayFinalise {V S : Type 0} (bound parts : ℕ) (s : State V S) (t j : ℕ) : Type 0 where
  pub bounds : IsInBounds bound parts t 0 j
  pub unfinished : is_final s t j ≡ false
  pub before : is_final s (prior t) j ≡ true
  pub rows : (i : ℕ) → i < parts → is_done s t i j ≡ true

pub may_finalise : {V S : Type 0} (bound parts : ℕ) (s : State V S) (t j : ℕ) → chunk_refusal bound parts s t j ≡ None → MayFinalise bound parts s t j
may_finalise bound parts s t j legal =
    let one = neither_of _ _ legal in
    let two = neither_of _ _ one.1 in
    let three = neither_of _ _ two.1 in
    let four = neither_of _ _ three.1 in
    record {
      bounds = bounds_of bound parts t 0 j (not-false _ (no_reason _ Bounds one.0));
      unfinished = no_reason _ ColumnFinal two.0;
      before = not-false _ (no_reason _ OldNotFinal three.0);
      rows = λ i below. not-false _ (none_in (λ r. not (is_done s t r j)) 0 parts i (no_map ColumnOpen _ four.0) (omega arith) (omega arith));
    }
