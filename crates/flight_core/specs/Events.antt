-- Many iterations on one state: which events are legal in it, and what stands after them.
use Rattle.std.specs.Prelude.{◌≡◌, ◌==◌, ℕ, zero, suc, ◌+◌, ◌-◌, nat_lt, Bool, true, false, not, ◌&&◌, cond, List, [], ◌∷◌, map, find, replicate, slice_index_or, Option, Some, None, option_map}
use Rattle.std.specs.List.{range_with_len}
use Rattle.std.specs.Option.{option_or, unwrap_or, is_some}
use Rattle.flight_core.specs.declared.event.Event.{Event}
use Rattle.flight_core.specs.declared.event.Event.TheVariants.{Feed, Skip, Finalise}
use Rattle.flight_core.specs.declared.event.Illegal.{Illegal}
use Rattle.flight_core.specs.declared.event.Illegal.TheVariants.{Bounds, ColumnFinal, AlreadyDone, SourceNotFinal, NotSkippable, OldNotFinal, ColumnOpen}
use Rattle.flight_core.specs.declared.mark.Mark.{Mark}
use Rattle.lumos_base.specs.declared.records.Edge.{Edge}
use Rattle.lumos_law.specs.Program.{Program}
use Rattle.lumos_law.specs.Sync.{fed_sum, values, chunk}
use Rattle.partition.specs.Blocks.{block}
use Rattle.partition.specs.Parts.{first_vertex, part_length}

-- what is kept of a chunk in an iteration: an item for each of its vertices
pub record Kept (X : Type 0) : Type 0 where
  pub time : ℕ
  pub column : ℕ
  pub items : List X

-- the done triples, the partial sums of the columns that were fed and aren't final, and the values of the final chunks
pub record State (V S : Type 0) : Type 0 where
  pub done : List Mark
  pub sums : List (Kept S)
  pub finals : List (Kept V)

-- whether a mark is that of a triple
abbrev pub is_mark : ℕ → ℕ → ℕ → Mark → Bool
is_mark t i j m = (m.time == t) && ((m.row == i) && (m.column == j))

-- whether a triple was fed or skipped, where it is done
abbrev pub mark_of : List Mark → ℕ → ℕ → ℕ → Option Bool
mark_of [] t i j = None
mark_of (m ∷ ms) t i j = cond (is_mark t i j m) (Some m.is_fed) (mark_of ms t i j)

-- whether something is kept of a chunk in an iteration
abbrev pub is_kept : {X : Type 0} → ℕ → ℕ → Kept X → Bool
is_kept t j k = (k.time == t) && (k.column == j)

-- what is kept of a chunk in an iteration
abbrev pub kept_of : {X : Type 0} → List (Kept X) → ℕ → ℕ → Option (List X)
kept_of [] t j = None
kept_of (k ∷ ks) t j = cond (is_kept t j k) (Some k.items) (kept_of ks t j)

-- a list without what it keeps of a chunk in an iteration, which stands first of its kind
abbrev pub without : {X : Type 0} → List (Kept X) → ℕ → ℕ → List (Kept X)
without [] t j = []
without (k ∷ ks) t j = cond (is_kept t j k) ks (k ∷ without ks t j)

-- a triple's mark
abbrev pub mark : ℕ → ℕ → ℕ → Bool → Mark
mark t i j is_fed = record { time = t; row = i; column = j; is_fed = is_fed }

-- what is kept of a chunk
abbrev pub keep : {X : Type 0} → ℕ → ℕ → List X → Kept X
keep t j xs = record { time = t; column = j; items = xs }

-- the function at each place of a list, whose first place is `first`
abbrev pub each_from : {A B : Type 0} → (ℕ → A → B) → ℕ → List A → List B
each_from f first [] = []
each_from f first (x ∷ xs) = f first x ∷ each_from f (first + 1) xs

-- the iteration before
abbrev pub prior : ℕ → ℕ
prior zero = zero
prior (suc t) = t

-- whether chunk j is final in iteration t
abbrev pub is_final : {V S : Type 0} → State V S → ℕ → ℕ → Bool
is_final s t j = is_some (kept_of s.finals t j)

-- whether block (i, j) is done in iteration t
abbrev pub is_done : {V S : Type 0} → State V S → ℕ → ℕ → ℕ → Bool
is_done s t i j = is_some (mark_of s.done t i j)

-- the final values of a chunk
abbrev pub values_of : {V S : Type 0} → State V S → ℕ → ℕ → List V
values_of s t j = unwrap_or (kept_of s.finals t j) []

-- the values of the vertices from `first` on, by vertex
abbrev pub state_of : {V S : Type 0} → Program V S → ℕ → List V → ℕ → V
state_of p first xs u = slice_index_or xs (u - first) (p.init 0 (record { degree = 0; weight = 0 }))

module _ {V S : Type 0} (p : Program V S) (n c : ℕ) where
  -- the partial sums of a column: units where none of its blocks was fed
  abbrev pub sums_of : State V S → ℕ → ℕ → List S
  sums_of s t j = unwrap_or (kept_of s.sums t j) (replicate (part_length n c j) p.unit)

  -- the values of a chunk before an iteration, by vertex
  abbrev pub before_of : State V S → ℕ → ℕ → ℕ → V
  before_of s t i = state_of p (first_vertex n c i) (values_of s (prior t) i)

  -- the next values of a chunk, made of its values before and its sums
  abbrev pub made_values : State V S → ℕ → ℕ → List V
  made_values s t j =
      each_from (λ v x. p.apply v x (slice_index_or (sums_of s t j) (v - first_vertex n c j) p.unit)) (first_vertex n c j)
      (values_of s (prior t) j)

module _ {V S : Type 0} (p : Program V S) (edges : List Edge) (n c : ℕ) where
  -- the partial sums of a column, with what block (i, j) contributes joined to them
  abbrev pub fed_sums : State V S → ℕ → ℕ → ℕ → List S
  fed_sums s t i j =
      each_from (λ v sum. fed_sum p (block edges c i j) (before_of p n c s t i) v sum) (first_vertex n c j) (sums_of p n c s t j)

  -- the state after an event
  abbrev pub step : State V S → Event → State V S
  step s (Feed t i j) = record {
    done = mark t i j true ∷ s.done;
    sums = keep t j (fed_sums s t i j) ∷ without s.sums t j;
    finals = s.finals;
  }
  step s (Skip t i j) = record { done = mark t i j false ∷ s.done; sums = s.sums; finals = s.finals }
  step s (Finalise t j) = record {
    done = s.done;
    sums = without s.sums t j;
    finals = keep t j (made_values p n c s t j) ∷ s.finals;
  }

  -- the state after a list of events
  abbrev pub after : State V S → List Event → State V S
  after s [] = s
  after s (e ∷ es) = after (step s e) es

  -- the first values of a chunk
  abbrev pub first_kept : ℕ → Kept V
  first_kept j = keep 0 j (chunk (values p edges 0) (first_vertex n c j) (part_length n c j))

  -- the first state over so many parts: iteration 0 is final in all chunks
  abbrev pub start : ℕ → State V S
  start parts = record { done = []; sums = []; finals = map first_kept (range_with_len 0 parts) }

-- a reason, where the test says so
abbrev pub reason_if : Bool → Illegal → Option Illegal
reason_if test why = cond test (Some why) None

-- the first of the reasons
abbrev pub first_of : List (Option Illegal) → Option Illegal
first_of [] = None
first_of (r ∷ rs) = option_or r (first_of rs)

-- t is an iteration from 1 to `bound`, and i and j are parts
abbrev pub in_bounds : ℕ → ℕ → ℕ → ℕ → ℕ → Bool
in_bounds bound parts t i j = nat_lt 0 t && (nat_lt t (bound + 1) && (nat_lt i parts && nat_lt j parts))

-- the least row of column j that isn't done in iteration t
abbrev pub open_row : {V S : Type 0} → ℕ → State V S → ℕ → ℕ → Option ℕ
open_row parts s t j = find (λ i. not (is_done s t i j)) (range_with_len 0 parts)

-- the least vertex of chunk i that contributes in the iteration before t
abbrev pub giver : {V S : Type 0} → Program V S → ℕ → ℕ → State V S → ℕ → ℕ → Option ℕ
giver p n c s t i =
    find (λ v. p.contributes (before_of p n c s t i v)) (range_with_len (first_vertex n c i) (part_length n c i))

-- why a block can't be fed, if it can't: the first of these reasons that applies
abbrev pub block_refusal : {V S : Type 0} → ℕ → ℕ → State V S → ℕ → ℕ → ℕ → Option Illegal
block_refusal bound parts s t i j =
    first_of (reason_if (not (in_bounds bound parts t i j)) Bounds ∷ reason_if (is_final s t j) ColumnFinal
    ∷ reason_if (is_done s t i j) AlreadyDone ∷ reason_if (not (is_final s (prior t) i)) SourceNotFinal ∷ [])

-- why a chunk can't be made final, if it can't: the first of these reasons that applies
abbrev pub chunk_refusal : {V S : Type 0} → ℕ → ℕ → State V S → ℕ → ℕ → Option Illegal
chunk_refusal bound parts s t j =
    first_of (reason_if (not (in_bounds bound parts t 0 j)) Bounds ∷ reason_if (is_final s t j) ColumnFinal
    ∷ reason_if (not (is_final s (prior t) j)) OldNotFinal ∷ option_map ColumnOpen (open_row parts s t j) ∷ [])

module _ {V S : Type 0} (p : Program V S) (n c parts bound : ℕ) where
  -- why an event is refused, if it is; a block that could be fed can be skipped where nothing contributes
  abbrev pub refusal : State V S → Event → Option Illegal
  refusal s (Feed t i j) = block_refusal bound parts s t i j
  refusal s (Skip t i j) = option_or (block_refusal bound parts s t i j) (option_map NotSkippable (giver p n c s t i))
  refusal s (Finalise t j) = chunk_refusal bound parts s t j

-- each event is legal where it comes
abbrev pub AreLegal : {V S : Type 0} → Program V S → List Edge → ℕ → ℕ → ℕ → ℕ → State V S → List Event → Type 0
AreLegal p edges n c parts bound s [] = Unit {0}
AreLegal p edges n c parts bound s (e ∷ es) =
    (refusal p n c parts bound s e ≡ None) × AreLegal p edges n c parts bound (step p edges n c s e) es
