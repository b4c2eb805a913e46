-- A block that is read piece by piece.
use Rattle.std.proofs.Common.{◌≡◌, ◌≤◌, ◌⊎◌, inl, inr, ℕ, ◌+◌, ◌-◌, ◌*◌, Bool, true, false, List, [], ◌++◌, Option, None, Err, refl, sym, ap, ◌∙◌, subst, arith, append-nil}
use Rattle.std.specs.Prelude.{IfSome}
use Rattle.std.proofs.lemmas.List.{append_assoc}
use Rattle.lumos_base.specs.declared.records.Edge.{Edge}
use Rattle.lumos_depot.specs.declared.depot.FileKind.{FileKind}
use Rattle.lumos_depot.proofs.StepLemmas.{told_same, told_with}
use Rattle.value_files.specs.Records.{FaultIs}
use Rattle.value_files.specs.declared.fault.FileFault.{FileFault}
use Rattle.value_files.specs.declared.fault.FileFault.TheVariants.{Depot, Damaged}
use Rattle.column_stream.specs.Cursors.{CursorState, edges_next, fault_left, fault_next, moved_by, piece_of}
use Rattle.column_stream.specs.Records.{IsDamage, IsOutside}
use Rattle.column_stream.specs.declared.records.Ends.{Ends}
use Rattle.column_stream.proofs.CursorLemmas.{piece_low}
use Rattle.column_stream.proofs.EdgeLemmas.{edges-add}
use Rattle.column_stream.proofs.FaultLemmas.{fault_stands, none_more}
use Rattle.lumos_law.specs.Program.{Program}
use Rattle.windows.specs.Sums.{HasNext, HasSums, IsFirst, IsSecond}
use Rattle.windows.specs.Windows.{WindowState}
use Rattle.windows.proofs.FrameLemmas.{first_stays, has_next_stays, has_sums_stays, second_stays}
use Rattle.early_engine.specs.Steps.{fed_if}

-- the cursor behind k records and then n
pub moved_more : (k n : ℕ) (cursor : CursorState) → moved_by n (moved_by k cursor) ≡ moved_by (k + n) cursor
moved_more k n cursor =
    let place : cursor.place + 12 * k + 12 * n ≡ cursor.place + 12 * (k + n) = omega arith in
    let left : cursor.left - k - n ≡ cursor.left - (k + n) = omega arith in
    λ i. record cursor { place = place i; left = left i }

pub moved_none : (cursor : CursorState) → cursor ≡ moved_by 0 cursor
moved_none cursor =
    let place : cursor.place ≡ cursor.place + 12 * 0 = omega arith in
    let left : cursor.left ≡ cursor.left - 0 = omega arith in
    λ i. record cursor { place = place i; left = left i }

-- edges that were read, and the next ones
pub edges_then : (cursor : CursorState) (k n : ℕ) (bytes : List ℕ) (xs ys : List Edge) → xs ≡ edges_next k cursor bytes → ys ≡ edges_next n (moved_by k cursor) bytes → xs ++ ys ≡ edges_next (k + n) cursor bytes
edges_then cursor k n bytes xs ys first second = (λ i. first i ++ second i) ∙ sym (edges-add cursor.place k n bytes)

-- what was fed, and what is fed next
fed_then : (is : Bool) (before xs ys : List Edge) → before ++ fed_if is xs ++ fed_if is ys ≡ before ++ fed_if is (xs ++ ys)
fed_then true before xs ys = append_assoc before xs ys
fed_then false before xs ys = append-nil (before ++ [])

-- nothing is fed of no edges
pub fed_nothing : (is : Bool) (before : List Edge) → before ≡ before ++ fed_if is []
fed_nothing true before = sym (append-nil before)
fed_nothing false before = sym (append-nil before)

pub fed_empty : (is : Bool) (before edges : List Edge) → edges ≡ [] → before ≡ before ++ fed_if is edges
fed_empty is before edges none = fed_nothing is before ∙ ap (λ (es : List Edge). before ++ fed_if is es) (sym none)

-- nor where it isn't fed
pub fed_off : (is : Bool) (before edges : List Edge) → is ≡ false → before ≡ before ++ fed_if is edges
fed_off true before edges off = absurd (cc)
fed_off false before edges off = sym (append-nil before)

-- a piece is fed behind the records before it
pub piece_fed : (is : Bool) (before : List Edge) (cursor : CursorState) (k n : ℕ) (bytes : List ℕ) (ys : List Edge) → ys ≡ edges_next n (moved_by k cursor) bytes
    → before ++ fed_if is (edges_next k cursor bytes) ++ fed_if is ys ≡ before ++ fed_if is (edges_next (k + n) cursor bytes)
piece_fed is before cursor k n bytes ys same = fed_then is before (edges_next k cursor bytes) ys ∙ ap (λ (es : List Edge). before ++ fed_if is es) (edges_then cursor k n bytes (edges_next k cursor bytes) ys refl same)

-- nothing is wrong with them, nor with the next ones
pub sound_then : (cursor : CursorState) (k n : ℕ) (bytes : List ℕ) → fault_next k cursor bytes ≡ None → fault_next n (moved_by k cursor) bytes ≡ None → fault_next (k + n) cursor bytes ≡ None
sound_then cursor k n bytes first second = none_more cursor.file cursor.ends cursor.place cursor.place k n bytes first second

-- A fault that is found behind them stands.
pub fault_behind : (T U : Type 0) (cursor : CursorState) (k n : ℕ) (bytes : List ℕ) (fault : FileFault) → k + n ≤ cursor.left → fault_next k cursor bytes ≡ None → FaultIs {T = T} (Err fault) (fault_next n (moved_by k cursor) bytes)
    → FaultIs {T = U} (Err fault) (fault_left cursor bytes)
fault_behind T U cursor k n bytes Depot room first second = tt
fault_behind T U cursor k n bytes (Damaged file place found) room first second = fault_stands cursor.file cursor.ends cursor.place cursor.place k n cursor.left bytes (Damaged file place found) room first second

-- a word of the next records is one of all
pub damage_behind : (file : FileKind) (ends : Ends) (place left k n : ℕ) (fault : FileFault) → k + n ≤ left → IsDamage file ends (place + 12 * k) n fault → IsDamage file ends place left fault
damage_behind file ends place left k n Depot room damage = tt
damage_behind file ends place left k n (Damaged other at found) room (same, stray) = (
  same,
  record {
    index = k + stray.index;
    low = let below = stray.low in omega arith;
    word = by stray.word;
  },
)
  where
    by : ((at ≡ place + 12 * k + 12 * stray.index) × IsOutside ends.sources found) ⊎ ((at ≡ place + 12 * k + 12 * stray.index + 4) × IsOutside ends.targets found)
        → ((at ≡ place + 12 * (k + stray.index)) × IsOutside ends.sources found) ⊎ ((at ≡ place + 12 * (k + stray.index) + 4) × IsOutside ends.targets found)
    by (inl (is, outside)) = inl (omega (arith, is), outside)
    by (inr (is, outside)) = inr (omega (arith, is), outside)

module _ (begin cursor : CursorState) (k room : ℕ) (at : cursor ≡ moved_by k begin) (low : k ≤ begin.left) (fault : FileFault) where
  inside : k + piece_of cursor room ≤ begin.left
  inside = let left = ap (λ (q : CursorState). q.left) at in let few = piece_low cursor room in omega (arith, left, few, low)

  -- a piece's word is one of all records
  pub damage_of_piece : IsDamage cursor.file cursor.ends cursor.place (piece_of cursor room) fault → IsDamage begin.file begin.ends begin.place begin.left fault
  damage_of_piece damage =
      damage_behind begin.file begin.ends begin.place begin.left k (piece_of cursor room) fault inside (subst (λ (q : CursorState). IsDamage q.file q.ends q.place (piece_of cursor room) fault) at damage)

  -- a piece's fault is that of all records, where nothing is wrong with those before it
  pub fault_of_piece : (T U : Type 0) (h now : FileKind → Option (List ℕ)) → now begin.file ≡ h begin.file → IfSome (h begin.file) (λ bytes. fault_next k begin bytes ≡ None)
      → IfSome (now cursor.file) (λ bytes. FaultIs {T = T} (Err fault) (fault_next (piece_of cursor room) cursor bytes)) → IfSome (h begin.file) (λ bytes. FaultIs {T = U} (Err fault) (fault_left begin bytes))
  fault_of_piece T U h now same sound found =
      let here : IfSome (now begin.file) (λ bytes. FaultIs {T = T} (Err fault) (fault_next (piece_of cursor room) (moved_by k begin) bytes)) =
      subst (λ (q : CursorState). IfSome (now q.file) (λ bytes. FaultIs {T = T} (Err fault) (fault_next (piece_of cursor room) q bytes))) at found in
      told_with (h begin.file) (λ bytes. fault_next k begin bytes ≡ None) (λ bytes. FaultIs {T = T} (Err fault) (fault_next (piece_of cursor room) (moved_by k begin) bytes)) _
      (λ bytes first second. fault_behind T U begin k (piece_of cursor room) bytes fault inside first second)
      sound (told_same (now begin.file) (h begin.file) _ (sym same) here)

module _ {V S : Type 0} where
  -- nothing of windows changed but their sums
  abbrev pub IsFed : WindowState V S → WindowState V S → Type 0
  IsFed old new = new ≡ record old { sums = new.sums; next_sums = new.next_sums }

  pub fed_none : (w : WindowState V S) → IsFed w w
  fed_none w = refl

  -- the first sums alone
  pub now_alone : (old new : WindowState V S) → new ≡ record old { sums = new.sums } → IsFed old new
  now_alone old new alone = alone ∙ ap (λ xs. record old { sums = new.sums; next_sums = xs }) (sym (ap (λ (w : WindowState V S). w.next_sums) alone))

  -- the second ones
  pub ahead_alone : (old new : WindowState V S) → new ≡ record old { next_sums = new.next_sums } → IsFed old new
  ahead_alone old new alone = alone ∙ ap (λ xs. record old { sums = xs; next_sums = new.next_sums }) (sym (ap (λ (w : WindowState V S). w.sums) alone))

  pub fed_more : (one two three : WindowState V S) → IsFed one two → IsFed two three → IsFed one three
  fed_more one two three first second = second ∙ ap (λ (w : WindowState V S). record w { sums = three.sums; next_sums = three.next_sums }) first

  pub fed_cut : (old new : WindowState V S) → IsFed old new → new.cut ≡ old.cut
  fed_cut old new fed = ap (λ (w : WindowState V S). w.cut) fed

  -- the values that windows show stay
  pub fed_first : (old new : WindowState V S) (i : ℕ) (state : ℕ → V) → IsFed old new → IsFirst old i state → IsFirst new i state
  fed_first old new i state fed is = first_stays old new i state (fed_cut old new fed) (ap (λ (w : WindowState V S). w.first_part) fed) (ap (λ (w : WindowState V S). w.first) fed) is

  pub fed_second : (old new : WindowState V S) (i : ℕ) (state : ℕ → V) → IsFed old new → IsSecond old i state → IsSecond new i state
  fed_second old new i state fed is = second_stays old new i state (fed_cut old new fed) (ap (λ (w : WindowState V S). w.second_part) fed) (ap (λ (w : WindowState V S). w.second) fed) is

  -- edges were fed to the iteration, where they are
  abbrev pub SumsFed : Program V S → Bool → WindowState V S → WindowState V S → List Edge → Type 0
  SumsFed p is old new edges = (i j : ℕ) (state : ℕ → V) (before : List Edge) → (is ≡ true → IsFirst old i state) → HasSums p old j state before → HasSums p new j state (before ++ fed_if is edges)

  -- and ahead
  abbrev pub NextFed : Program V S → Bool → WindowState V S → WindowState V S → List Edge → Type 0
  NextFed p is old new edges = (i j : ℕ) (state : ℕ → V) (before : List Edge) → (is ≡ true → IsSecond old i state) → HasNext p old j state before → HasNext p new j state (before ++ fed_if is edges)

  module _ (p : Program V S) (is : Bool) where
    -- nothing was fed yet
    pub sums_begin : (w : WindowState V S) → SumsFed p is w w []
    sums_begin w i j state before first has = subst (HasSums p w j state) (fed_nothing is before) has

    pub next_begin : (w : WindowState V S) → NextFed p is w w []
    next_begin w i j state before second has = subst (HasNext p w j state) (fed_nothing is before) has

    module _ (begin : CursorState) (k n : ℕ) (bytes : List ℕ) (ys : List Edge) (piece : ys ≡ edges_next n (moved_by k begin) bytes) (old now mid new : WindowState V S) (alone : IsFed old now) where
      -- a piece is fed to the iteration, and then ahead
      pub sums_piece : new ≡ record mid { next_sums = new.next_sums } → SumsFed p is now mid ys → SumsFed p is old now (edges_next k begin bytes) → SumsFed p is old new (edges_next (k + n) begin bytes)
      sums_piece later feeds had i j state before first has =
          has_sums_stays p mid new j state (before ++ fed_if is (edges_next (k + n) begin bytes)) (ap (λ (w : WindowState V S). w.cut) later) (ap (λ (w : WindowState V S). w.sums_part) later) (ap (λ (w : WindowState V S). w.sums) later)
          (subst (HasSums p mid j state) (piece_fed is before begin k n bytes ys piece)
          (feeds i j state (before ++ fed_if is (edges_next k begin bytes)) (λ on. fed_first old now i state alone (first on)) (had i j state before first has)))

      pub next_piece : mid ≡ record now { sums = mid.sums } → NextFed p is mid new ys → NextFed p is old now (edges_next k begin bytes) → NextFed p is old new (edges_next (k + n) begin bytes)
      next_piece earlier feeds had i j state before second has =
          subst (HasNext p new j state) (piece_fed is before begin k n bytes ys piece)
          (feeds i j state (before ++ fed_if is (edges_next k begin bytes)) (λ on. fed_second old mid i state (fed_more old now mid alone (now_alone now mid earlier)) (second on))
          (has_next_stays p now mid j state (before ++ fed_if is (edges_next k begin bytes)) (ap (λ (w : WindowState V S). w.cut) earlier) (ap (λ (w : WindowState V S). w.sums_part) earlier) (ap (λ (w : WindowState V S). w.next_sums) earlier)
          (had i j state before second has)))
