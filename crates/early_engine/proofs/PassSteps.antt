-- The events of an engine's iterations are legal one after another, and where the state stands behind them.
use Rattle.std.proofs.Common.{◌≡◌, ◌==◌, ◌&&◌, ◌||◌, ℕ, zero, suc, ◌+◌, ◌-◌, ◌*◌, ◌<◌, ◌≤◌, nat_lt, Bool, true, false, not, cond, List, [], ◌∷◌, ◌++◌, flat_map, length, find, All, Option, Some, None, refl, sym, ap, ◌∙◌, subst, arith}
use Rattle.std.specs.List.{range_with_len}
use Rattle.std.specs.Option.{is_some}
use Rattle.std.proofs.lemmas.Bool.{and_parts, eq-eqb, ne_eqb, lt-ltb, ltb-true}
use Rattle.lumos_base.specs.Records.{IsEdge}
use Rattle.lumos_base.specs.declared.records.Edge.{Edge}
use Rattle.lumos_law.specs.Program.{Program, Lawful}
use Rattle.partition.specs.Blocks.{HoldOnce, IsBelow}
use Rattle.partition.specs.Parts.{first_vertex, part_length, IsInPart}
use Rattle.flight_core.specs.Events.{State, after, giver, in_bounds, is_done, is_final, kept_of, mark_of, open_row, refusal, start, step, AreLegal}
use Rattle.flight_core.specs.Sound.{IsSound}
use Rattle.flight_core.specs.declared.event.Event.{Event}
use Rattle.flight_core.specs.declared.event.Event.TheVariants.{Feed, Skip, Finalise}
use Rattle.flight_core.proofs.EventLemmas.{legal_event, source_at}
use Rattle.flight_core.proofs.LookLemmas.{some_of}
use Rattle.flight_core.proofs.StartLemmas.{sound_start, start_has, start_kept}
use Rattle.early_engine.specs.Core.{IsSilent, block_events, column_events, event_of, pass, passes_to}
use Rattle.early_engine.specs.Passes.{Hot, feeds_ahead, rows_of}
use Rattle.early_engine.specs.declared.options.Mode.{Mode}
use Rattle.early_engine.proofs.TurnTests.{ahead_low, ahead_turns, ahead_zero, before_final, column_final, column_next, column_now, comes_before, final_at, first_final_more, first_final_zero, first_low, first_on, first_row, kind_by, kind_next, later_open, next_fresh, not_final, now_fresh, row_ahead, row_behind, row_now, rows_are, rows_done, source_final, turn_final, turn_next, turn_now}

-- where no number of a range passes, none is found
none_found : (q : ℕ → Bool) (first n : ℕ) → ((v : ℕ) → first ≤ v → v < first + n → q v ≡ false) → find q (range_with_len first n) ≡ None
none_found q first zero none = refl
none_found q first (suc n) none =
    ap (λ b. cond b (Some first) (find q (range_with_len (first + 1) n))) (none first (omega arith) (omega arith))
    ∙ none_found q (first + 1) n (λ v low high. none v (omega arith) (omega arith))

more_some : {X : Type 0} (q : Bool) (x : X) (m : Option X) → is_some (cond q (Some x) m) ≡ (q || is_some m)
more_some true x m = refl
more_some false x m = refl

not_next : (t : ℕ) → (t == suc t) ≡ false
not_next t = ne_eqb t (suc t) (λ same. omega arith)

-- iteration t is at row i of column j; the one before fed it ahead or not, and so does it
pub record IsAt {V S : Type 0} (parts : ℕ) (s : State V S) (t j i : ℕ) (was ahead : Bool) : Type 0 where
  pub now : (r k : ℕ) → r < parts → k < parts → is_done s t r k ≡ (comes_before r k i j || (was && nat_lt r k))
  pub next : (r k : ℕ) → r < parts → k < parts → is_done s (suc t) r k ≡ (ahead && (nat_lt r k && comes_before r k i j))
  pub later : (u r k : ℕ) → suc t < u → is_done s u r k ≡ false
  pub final : (u k : ℕ) → k < parts → is_final s u k ≡ final_at t j u k

-- iteration t + 1 is at its first block
abbrev pub Begins : {V S : Type 0} → ℕ → Mode → ℕ → ℕ → State V S → Type 0
Begins parts mode limit t s =
    IsAt parts s (suc t) 0 (first_row (feeds_ahead mode limit t) 0) (feeds_ahead mode limit t) (feeds_ahead mode limit (suc t))

module _ {V S : Type 0} (p : Program V S) (edges : List Edge) (n c parts bound : ℕ) where
  -- what the event of a block leaves
  record HasDone (s : State V S) (t i j : ℕ) (e : Event) : Type 0 where
    legal : refusal p n c parts bound s e ≡ None
    sound : IsSound p edges n c parts (step p edges n c s e)
    here : (r k : ℕ) → is_done (step p edges n c s e) t r k ≡ (((i == r) && (j == k)) || is_done s t r k)
    elsewhere : (u r k : ℕ) → (t == u) ≡ false → is_done (step p edges n c s e) u r k ≡ is_done s u r k
    final : (u k : ℕ) → is_final (step p edges n c s e) u k ≡ is_final s u k

  -- events are legal one after another, and what stands behind them
  pub record Leaves (s : State V S) (es : List Event) (Stands : State V S → Type 0) : Type 0 where
    pub legal : AreLegal p edges n c parts bound s es
    pub sound : IsSound p edges n c parts (after p edges n c s es)
    pub stands : Stands (after p edges n c s es)

  legal-append : (s : State V S) (xs ys : List Event) → AreLegal p edges n c parts bound s xs → AreLegal p edges n c parts bound (after p edges n c s xs) ys → AreLegal p edges n c parts bound s (xs ++ ys)
  legal-append s [] ys first second = second
  legal-append s (e ∷ xs) ys first second = (first.0, legal-append (step p edges n c s e) xs ys first.1 second)

module _ {V S : Type 0} (p : Program V S) (edges : List Edge) (n c : ℕ) where
  after-append : (s : State V S) (xs ys : List Event) → after p edges n c s (xs ++ ys) ≡ after p edges n c (after p edges n c s xs) ys
  after-append s [] ys = refl
  after-append s (e ∷ xs) ys = after-append (step p edges n c s e) xs ys

module _ {V S : Type 0} (p : Program V S) (edges : List Edge) (n c parts bound : ℕ) where
  -- some events, and then others
  leaves-append : (s : State V S) (xs ys : List Event) (Stands Next : State V S → Type 0) → Leaves p edges n c parts bound s xs Stands
      → ((x : State V S) → IsSound p edges n c parts x → Stands x → Leaves p edges n c parts bound x ys Next)
      → Leaves p edges n c parts bound s (xs ++ ys) Next
  leaves-append s xs ys Stands Next first more =
      let second = more (after p edges n c s xs) first.sound first.stands in
      let same = sym (after-append p edges n c s xs ys) in
      record {
        legal = legal-append p edges n c parts bound s xs ys first.legal second.legal;
        sound = subst (λ x. IsSound p edges n c parts x) same second.sound;
        stands = subst Next same second.stands;
      }

  -- the events of m numbers from `first` on
  along : (f : ℕ → List Event) (Stands : ℕ → State V S → Type 0) (m first : ℕ)
      → ((a : ℕ) → first ≤ a → a < first + m → (s : State V S) → IsSound p edges n c parts s → Stands a s → Leaves p edges n c parts bound s (f a) (Stands (a + 1)))
      → (s : State V S) → IsSound p edges n c parts s → Stands first s → Leaves p edges n c parts bound s (flat_map f (range_with_len first m)) (Stands (first + m))
  along f Stands zero first each s sound at =
      let same : first ≡ first + 0 = omega arith in
      record { legal = tt; sound = sound; stands = subst (λ a. Stands a s) same at }
  along f Stands (suc m) first each s sound at =
      let place : first + 1 + m ≡ first + suc m = omega arith in
      subst (λ a. Leaves p edges n c parts bound s (flat_map f (range_with_len first (suc m))) (Stands a)) place
      (leaves-append s (f first) (flat_map f (range_with_len (first + 1) m)) (Stands (first + 1)) (Stands (first + 1 + m)) (each first (omega arith) (omega arith) s sound at)
      (λ x sound' at'. along f Stands m (first + 1) (λ a low high. each a (omega arith) (omega arith)) x sound' at'))

module _ {V S : Type 0} {ValueIn : V → Type 0} {SumIn : S → Type 0} (p : Program V S) (laws : Lawful ValueIn SumIn p) (edges : List Edge) (n c parts bound : ℕ)
    (some : 0 < c) (covers : n ≤ parts * c) (few : length edges ≤ 2147483648) (numbers : All IsEdge edges) (ends : All (IsBelow n) edges) where
  fits : (w i j : ℕ) → suc w ≤ bound → i < parts → j < parts → in_bounds bound parts (suc w) i j ≡ true
  fits w i j last row column = rw (lt-ltb 0 (suc w) (omega arith), lt-ltb (suc w) (bound + 1) (omega arith), lt-ltb i parts row, lt-ltb j parts column) refl

  kept_sound : (s : State V S) → IsSound p edges n c parts s → (e : Event) → refusal p n c parts bound s e ≡ None → IsSound p edges n c parts (step p edges n c s e)
  kept_sound s sound e legal = legal_event p laws edges n c parts some few numbers ends s sound bound covers e legal

  -- a column's end, where all its rows are done
  column_end : (w j : ℕ) (was ahead : Bool) → suc w ≤ bound → (was ≡ true → ahead ≡ false) → j < parts → (s : State V S) → IsSound p edges n c parts s → IsAt parts s (suc w) j parts was ahead
      → Leaves p edges n c parts bound s (Finalise (suc w) j ∷ []) (λ x. IsAt parts x (suc w) (j + 1) (first_row was (j + 1)) was ahead)
  column_end w j was ahead last kinds column s sound at = record {
    legal = (legal, tt);
    sound = kept_sound s sound (Finalise (suc w) j) legal;
    stands = record {
      now = λ r k row low. at.now r k row low ∙ column_now was parts j r k row;
      next = λ r k row low. at.next r k row low ∙ column_next was ahead parts j r k row kinds;
      later = at.later;
      final = λ u k low. more_some ((suc w == u) && (j == k)) _ (kept_of s.finals u k) ∙ ap (λ b. ((suc w == u) && (j == k)) || b) (at.final u k low) ∙ column_final (suc w) j u k;
    };
  }
    where
      all_done : open_row parts s (suc w) j ≡ None
      all_done = none_found _ 0 parts (λ r low high. ap not (at.now r j (omega arith) column ∙ rows_done parts j r (was && nat_lt r j) (omega arith)))

      legal : refusal p n c parts bound s (Finalise (suc w) j) ≡ None
      legal = rw (fits w 0 j last (omega arith) column, at.final (suc w) j column ∙ not_final (suc w) j, at.final w j column ∙ before_final w j j, all_done) refl

  module _ (hot : Hot) (silent : IsSilent p edges n c hot) where
    -- the event of a block that may be fed
    block_done : (w i j : ℕ) → suc w ≤ bound → i < parts → j < parts → (s : State V S) → IsSound p edges n c parts s
        → is_final s (suc w) j ≡ false → is_done s (suc w) i j ≡ false → is_final s w i ≡ true → HasDone p edges n c parts bound s (suc w) i j (event_of hot (suc w) i j)
    block_done w i j last row column s sound open_column fresh source = by_hot (hot w i) refl
      where
        none_gives : hot w i ≡ false → giver p n c s (suc w) i ≡ None
        none_gives off =
            none_found _ (first_vertex n c i) (part_length n c i) (λ v low high.
            let within : IsInPart n c i v = record { low = low; high = high } in
            ap p.contributes (source_at p laws edges n c parts some few numbers ends s sound w i v source within) ∙ silent w i v off within)

        fed : refusal p n c parts bound s (Feed (suc w) i j) ≡ None
        fed = rw (fits w i j last row column, open_column, fresh, source) refl

        skipped : hot w i ≡ false → refusal p n c parts bound s (Skip (suc w) i j) ≡ None
        skipped off = rw (fits w i j last row column, open_column, fresh, source, none_gives off) refl

        here : (b : Bool) (r k : ℕ) → is_some (cond ((suc w == suc w) && ((i == r) && (j == k))) (Some b) (mark_of s.done (suc w) r k)) ≡ (((i == r) && (j == k)) || is_done s (suc w) r k)
        here b r k =
            ap (λ q. is_some (cond (q && ((i == r) && (j == k))) (Some b) (mark_of s.done (suc w) r k))) (eq-eqb (suc w) (suc w) refl)
            ∙ more_some ((i == r) && (j == k)) b (mark_of s.done (suc w) r k)

        elsewhere : (b : Bool) (u r k : ℕ) → (suc w == u) ≡ false → is_some (cond ((suc w == u) && ((i == r) && (j == k))) (Some b) (mark_of s.done u r k)) ≡ is_done s u r k
        elsewhere b u r k off = ap (λ q. is_some (cond (q && ((i == r) && (j == k))) (Some b) (mark_of s.done u r k))) off

        by_hot : (b : Bool) → hot w i ≡ b → HasDone p edges n c parts bound s (suc w) i j (cond b (Feed (suc w) i j) (Skip (suc w) i j))
        by_hot true on = record { legal = fed; sound = kept_sound s sound (Feed (suc w) i j) fed; here = here true; elsewhere = elsewhere true; final = λ u k. refl }
        by_hot false off = record { legal = skipped off; sound = kept_sound s sound (Skip (suc w) i j) (skipped off); here = here false; elsewhere = elsewhere false; final = λ u k. refl }

    -- the state behind it
    abbrev behind : State V S → ℕ → ℕ → ℕ → State V S
    behind s w i j = step p edges n c s (event_of hot (suc w) i j)

    -- the events of a block
    block_leaves : (w j : ℕ) (was ahead : Bool) → suc w ≤ bound → (ahead ≡ true → suc (suc w) ≤ bound) → j < parts → (i : ℕ) → i < parts → (was ≡ true → j ≤ i)
        → (s : State V S) → IsSound p edges n c parts s → IsAt parts s (suc w) j i was ahead
        → Leaves p edges n c parts bound s (block_events hot ahead (suc w) j i) (λ x. IsAt parts x (suc w) j (i + 1) was ahead)
    block_leaves w j was ahead last more column i row low s sound at = by_test (ahead && nat_lt i j) refl
      where
        first : HasDone p edges n c parts bound s (suc w) i j (event_of hot (suc w) i j)
        first =
            block_done w i j last row column s sound (at.final (suc w) j column ∙ not_final (suc w) j)
            (at.now i j row column ∙ now_fresh was i j low) (at.final w i row ∙ before_final w j i)

        now : (r k : ℕ) → r < parts → k < parts → is_done (behind s w i j) (suc w) r k ≡ (comes_before r k (i + 1) j || (was && nat_lt r k))
        now r k low_r low_k =
            first.here r k ∙ ap (λ b. ((i == r) && (j == k)) || b) (at.now r k low_r low_k) ∙ row_now i j r k (was && nat_lt r k)

        next : (r k : ℕ) → r < parts → k < parts → is_done (behind s w i j) (suc (suc w)) r k ≡ (ahead && (nat_lt r k && comes_before r k i j))
        next r k low_r low_k = first.elsewhere (suc (suc w)) r k (not_next (suc w)) ∙ at.next r k low_r low_k

        later : (u r k : ℕ) → suc (suc w) < u → is_done (behind s w i j) u r k ≡ false
        later u r k high = first.elsewhere u r k (ne_eqb (suc w) u (λ same. omega arith)) ∙ at.later u r k high

        final : (u k : ℕ) → k < parts → is_final (behind s w i j) u k ≡ final_at (suc w) j u k
        final u k low_k = first.final u k ∙ at.final u k low_k

        second : (ahead && nat_lt i j) ≡ true → HasDone p edges n c parts bound (behind s w i j) (suc (suc w)) i j (event_of hot (suc (suc w)) i j)
        second on =
            let both = and_parts ahead (nat_lt i j) on in
            block_done (suc w) i j (more both.0) row column (behind s w i j) first.sound (final (suc (suc w)) j column ∙ later_open (suc w) j)
            (next i j row column ∙ next_fresh ahead i j) (final (suc w) i row ∙ source_final (suc w) j i (ltb-true i j both.1))

        by_test : (b : Bool) → (ahead && nat_lt i j) ≡ b
            → Leaves p edges n c parts bound s (event_of hot (suc w) i j ∷ cond b (event_of hot (suc (suc w)) i j ∷ []) []) (λ x. IsAt parts x (suc w) j (i + 1) was ahead)
        by_test false off = record {
          legal = (first.legal, tt);
          sound = first.sound;
          stands = record { now = now; next = λ r k low_r low_k. next r k low_r low_k ∙ row_behind ahead i j r k off; later = later; final = final };
        }
        by_test true on =
            let both = and_parts ahead (nat_lt i j) on in
            let fed = second on in
            record {
              legal = (first.legal, (fed.legal, tt));
              sound = fed.sound;
              stands = record {
                now = λ r k low_r low_k. fed.elsewhere (suc w) r k (ne_eqb (suc (suc w)) (suc w) (λ same. omega arith)) ∙ now r k low_r low_k;
                next = λ r k low_r low_k. fed.here r k ∙ ap (λ b. ((i == r) && (j == k)) || b) (next r k low_r low_k) ∙ row_ahead ahead i j r k both.0 (ltb-true i j both.1);
                later = λ u r k high. fed.elsewhere u r k (ne_eqb (suc (suc w)) u (λ same. omega arith)) ∙ later u r k high;
                final = λ u k low_k. fed.final u k ∙ final u k low_k;
              };
            }

    -- the events of a column
    column_leaves : (w : ℕ) (was ahead : Bool) → suc w ≤ bound → (ahead ≡ true → suc (suc w) ≤ bound) → (was ≡ true → ahead ≡ false) → (j : ℕ) → j < parts
        → (s : State V S) → IsSound p edges n c parts s → IsAt parts s (suc w) j (first_row was j) was ahead
        → Leaves p edges n c parts bound s (column_events hot (kind_by was) ahead parts (suc w) j) (λ x. IsAt parts x (suc w) (j + 1) (first_row was (j + 1)) was ahead)
    column_leaves w was ahead last more kinds j column s sound at =
        leaves-append p edges n c parts bound s (flat_map (block_events hot ahead (suc w) j) (rows_of (kind_by was) parts j)) (Finalise (suc w) j ∷ [])
        (λ x. IsAt parts x (suc w) j parts was ahead) _
        (subst (λ l. Leaves p edges n c parts bound s (flat_map (block_events hot ahead (suc w) j) l) (λ x. IsAt parts x (suc w) j parts was ahead)) (sym (rows_are was parts j))
        (subst (λ i. Leaves p edges n c parts bound s (flat_map (block_events hot ahead (suc w) j) (range_with_len (first_row was j) (parts - first_row was j))) (λ x. IsAt parts x (suc w) j i was ahead)) whole rows))
        (column_end w j was ahead last kinds column)
      where
        whole : first_row was j + (parts - first_row was j) ≡ parts
        whole = let low = first_low was parts j column in omega arith

        rows : Leaves p edges n c parts bound s (flat_map (block_events hot ahead (suc w) j) (range_with_len (first_row was j) (parts - first_row was j)))
            (λ x. IsAt parts x (suc w) j (first_row was j + (parts - first_row was j)) was ahead)
        rows =
            along p edges n c parts bound (block_events hot ahead (suc w) j) (λ i x. IsAt parts x (suc w) j i was ahead) (parts - first_row was j) (first_row was j)
            (λ i low high. block_leaves w j was ahead last more column i (omega (arith, whole, high)) (first_on was i j low)) s sound at

    module _ (mode : Mode) (limit : ℕ) (inside : limit ≤ bound) where
      -- the events of an iteration
      pass_leaves : (w : ℕ) → w < limit → (s : State V S) → IsSound p edges n c parts s → Begins parts mode limit w s
          → Leaves p edges n c parts bound s (pass hot mode limit parts (suc w)) (Begins parts mode limit (suc w))
      pass_leaves w low s sound at =
          let was = feeds_ahead mode limit w in
          let ahead = feeds_ahead mode limit (suc w) in
          let same : 0 + parts ≡ parts = omega arith in
          let columns = subst (λ j. Leaves p edges n c parts bound s (flat_map (column_events hot (kind_by was) ahead parts (suc w)) (range_with_len 0 parts)) (λ x. IsAt parts x (suc w) j (first_row was j) was ahead)) same
          (along p edges n c parts bound (column_events hot (kind_by was) ahead parts (suc w)) (λ j x. IsAt parts x (suc w) j (first_row was j) was ahead) parts 0
          (λ j first high. column_leaves w was ahead (omega arith) (λ on. let left = ahead_low mode limit (suc w) on in omega arith) (λ on. ahead_turns mode limit w on) j (omega arith)) s sound at) in
          subst (λ kind. Leaves p edges n c parts bound s (flat_map (column_events hot kind ahead parts (suc w)) (range_with_len 0 parts)) (Begins parts mode limit (suc w))) (sym (kind_next mode limit w low))
          (record { legal = columns.legal; sound = columns.sound; stands = turned _ (first_row was parts) was ahead columns.stands })
        where
          turned : (x : State V S) (i : ℕ) (was ahead : Bool) → IsAt parts x (suc w) parts i was ahead → IsAt parts x (suc (suc w)) 0 (first_row ahead 0) ahead (feeds_ahead mode limit (suc (suc w)))
          turned x i was ahead at = record {
            now = λ r k low_r low_k. at.next r k low_r low_k ∙ turn_now ahead parts i r k low_k;
            next = λ r k low_r low_k. at.later (suc (suc (suc w))) r k (omega arith) ∙ sym (turn_next ahead (feeds_ahead mode limit (suc (suc w))) r k);
            later = λ u r k high. at.later u r k (omega arith);
            final = λ u k low_k. at.final u k low_k ∙ turn_final (suc w) parts u k low_k;
          }

      begins_first : Begins parts mode limit 0 (start p edges n c parts)
      begins_first = subst (λ was. IsAt parts (start p edges n c parts) 1 0 (first_row was 0) was (feeds_ahead mode limit 1)) (sym (ahead_zero mode limit)) (record {
        now = λ r k low_r low_k. turn_now false parts 0 r k low_k;
        next = λ r k low_r low_k. sym (turn_next false (feeds_ahead mode limit 1) r k);
        later = λ u r k high. refl;
        final = λ u k low_k. by_time u k low_k (is_final (start p edges n c parts) u k) refl;
      })
        where
          by_time : (u k : ℕ) → k < parts → (b : Bool) → is_final (start p edges n c parts) u k ≡ b → is_final (start p edges n c parts) u k ≡ final_at 1 0 u k
          by_time zero k low b is = start_has p edges n c 0 parts k (omega arith) (omega arith) ∙ sym (first_final_zero k)
          by_time (suc u) k low true is = let found = some_of (kept_of (start p edges n c parts).finals (suc u) k) is in absurd (let never = (start_kept p edges n c 0 parts (suc u) k found.0 found.1).0 in omega arith)
          by_time (suc u) k low false is = is ∙ sym (first_final_more u k)

      -- those of the first t iterations
      pub passes_leave : HoldOnce edges n c parts → (t : ℕ) → t ≤ limit → Leaves p edges n c parts bound (start p edges n c parts) (passes_to hot mode limit parts t) (Begins parts mode limit t)
      passes_leave hold t most =
          let last : 1 + t - 1 ≡ t = omega arith in
          subst (λ u. Leaves p edges n c parts bound (start p edges n c parts) (passes_to hot mode limit parts t) (Begins parts mode limit u)) last
          (along p edges n c parts bound (pass hot mode limit parts) (λ a. Begins parts mode limit (a - 1)) t 1 (λ a low high. one a low (omega arith)) (start p edges n c parts) (sound_start p edges n c parts hold) begins_first)
        where
          one : (a : ℕ) → 1 ≤ a → a ≤ limit → (s : State V S) → IsSound p edges n c parts s → Begins parts mode limit (a - 1) s → Leaves p edges n c parts bound s (pass hot mode limit parts a) (Begins parts mode limit (a + 1 - 1))
          one a low high s sound at =
              let now : suc (a - 1) ≡ a = omega arith in
              let next : suc (a - 1) ≡ a + 1 - 1 = omega arith in
              subst (λ b. Leaves p edges n c parts bound s (pass hot mode limit parts b) (Begins parts mode limit (a + 1 - 1))) now
              (subst (λ b. Leaves p edges n c parts bound s (pass hot mode limit parts (suc (a - 1))) (Begins parts mode limit b)) next (pass_leaves (a - 1) (omega arith) s sound at))
