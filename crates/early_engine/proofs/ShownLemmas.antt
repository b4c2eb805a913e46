-- Values that are kept, as lines of a report, written a chunk at a time.
use Rattle.std.proofs.Common.{◌≡◌, ◌⊎◌, inl, inr, ◌<◌, ◌≤◌, ℕ, zero, suc, ◌+◌, ◌-◌, ◌*◌, ◌%◌, nat_lt, cond, List, [], ◌∷◌, ◌++◌, Option, Some, None, Result, Ok, Err, IsOk, flat_map, get_or, length, sum_by, refl, sym, ap, ap₂, ◌∙◌, subst, arith, append-nil}
use Rattle.std.specs.List.{range_with_len}
use Rattle.std.proofs.Math.Nat.{add-mul, mul_comm, mul-suc}
use Rattle.std.proofs.lemmas.Bool.{cases_eq, cases_lt, le-ltb, lt-ltb}
use Rattle.std.proofs.lemmas.Grind.{flat_map-append}
use Rattle.std.proofs.lemmas.List.Sums.{sum_by-append, sum_by-cons}
use Rattle.lumos_depot.specs.Files.{range_at}
use Rattle.lumos_depot.specs.Streams.{AppendsFront, Writes, after_told}
use Rattle.lumos_depot.specs.declared.depot.FileKind.TheVariants.{Values}
use Rattle.lumos_depot.proofs.Written.{after_told-after, front_behind, front_longer, front_whole}
use Rattle.lumos_law.specs.Program.{Program}
use Rattle.lumos_law.specs.Sync.{IsChunk}
use Rattle.lumos_law.proofs.ChunkLemmas.{chunk_part, chunk_same}
use Rattle.lumos_report.specs.Report.{value_line}
use Rattle.partition.specs.Parts.{Cut, chunk_of, first_vertex}
use Rattle.partition.proofs.RangeLemmas.{parts_suffice}
use Rattle.flight_core.proofs.OverLemmas.{list_chunk, list_state}
use Rattle.value_files.specs.Kept.{value_place}
use Rattle.value_files.specs.Records.{AreRecords, AreTold, IsIntact}
use Rattle.value_files.specs.declared.fault.FileFault.{FileFault}
use Rattle.value_files.specs.declared.fault.FileFault.TheVariants.{Depot, Damaged}
use Rattle.windows.specs.Kept.{AreKept, Keeps, KeepsList, load_bytes}
use Rattle.windows.specs.Sums.{IsFirst}
use Rattle.windows.specs.Windows.{Coding, IsSameRoom, Told, WindowState, chunk_count, chunk_first, turn_list}
use Rattle.windows.proofs.PartLemmas.{first_later, part_ends}
use Rattle.early_engine.proofs.KeepLemmas.{load_same}
use Rattle.early_engine.specs.Report.{value_lines}
use Rattle.early_engine.specs.Shown.{Agrees, AgreesBelow, IsFront, IsShown, ShowsKept, WritesRun}
use Rattle.early_engine.specs.Starts.{IsFromOutside, fault_of_file}
use Rattle.early_engine.specs.declared.options.RunFault.{RunFault}

-- nothing was written
pub nothing_written : (told : Option (List ℕ)) → told ≡ after_told told []
nothing_written None = refl
nothing_written (Some held) = ap Some (sym (append-nil held))

-- a text behind a text
pub told_then : (old mid new : Option (List ℕ)) (a b : List ℕ) → mid ≡ after_told old a → new ≡ after_told mid b → new ≡ after_told old (a ++ b)
told_then old mid new a b first h = h ∙ ap (λ m. after_told m b) first ∙ after_told-after old a b

range_add : (a m n k next : ℕ) → next ≡ a + m → k ≡ m + n → range_with_len a k ≡ range_with_len a m ++ range_with_len next n
range_add a zero n k next is all =
    let first : a ≡ next = omega (arith, is) in
    let rest : k ≡ n = omega (arith, all) in
    λ i. range_with_len (first i) (rest i)
range_add a (suc m) n k next is all =
    let more : k ≡ suc (m + n) = omega (arith, all) in
    ap (range_with_len a) more ∙ ap (λ l. a ∷ l) (range_add (a + 1) m n (m + n) next (omega (arith, is)) refl)

-- the lines of n numbers from a on
abbrev pub lines_of : (ℕ → List ℕ) → ℕ → ℕ → List ℕ
lines_of f a n = flat_map f (range_with_len a n)

lines_same : (f h : ℕ → List ℕ) (a n : ℕ) → ((v : ℕ) → v < a + n → f v ≡ h v) → lines_of f a n ≡ lines_of h a n
lines_same f h a zero same = refl
lines_same f h a (suc n) same = ap₂ ◌++◌ (same a (omega arith)) (lines_same f h (a + 1) n (λ v below. same v (omega arith)))

module _ (f : ℕ → List ℕ) (a m : ℕ) where
  lines_add : (n k next : ℕ) → next ≡ a + m → k ≡ m + n → lines_of f a k ≡ lines_of f a m ++ lines_of f next n
  lines_add n k next is all = ap (flat_map f) (range_add a m n k next is all) ∙ flat_map-append f (range_with_len a m) (range_with_len next n)

  -- some lines more were written
  pub lines_written : (n k next : ℕ) (old mid new : Option (List ℕ)) → next ≡ a + m → k ≡ m + n → mid ≡ after_told old (lines_of f a m) → new ≡ after_told mid (lines_of f next n) → new ≡ after_told old (lines_of f a k)
  lines_written n k next old mid new is all before here =
      told_then old mid new (lines_of f a m) (lines_of f next n) before here ∙ ap (after_told old) (sym (lines_add n k next is all))

  -- a front of some lines more
  pub lines_cut : (n k next : ℕ) (old mid new : Option (List ℕ)) → next ≡ a + m → m + n ≤ k → mid ≡ after_told old (lines_of f a m) → AppendsFront mid new (lines_of f next n) → AppendsFront old new (lines_of f a k)
  lines_cut n k next old mid new is inside before here =
      let rest = k - (m + n) in
      subst (AppendsFront old new) (sym (lines_add (n + rest) k next is (omega (arith, inside))))
      (front_behind old mid new (lines_of f a m) (lines_of f next (n + rest)) before
      (subst (AppendsFront mid new) (sym (ap (flat_map f) (range_add next n rest (n + rest) (next + n) refl refl) ∙ flat_map-append f (range_with_len next n) (range_with_len (next + n) rest)))
      (front_longer mid new (lines_of f next n) (lines_of f (next + n) rest) here)))

  -- the first lines are a front of all
  pub lines_front : (k : ℕ) (old new : Option (List ℕ)) → m ≤ k → new ≡ after_told old (lines_of f a m) → AppendsFront old new (lines_of f a k)
  lines_front k old new inside is =
      subst (AppendsFront old new) (sym (lines_add (k - m) k (a + m) refl (omega arith))) (front_longer old new (lines_of f a m) (lines_of f (a + m) (k - m)) (front_whole old new (lines_of f a m) is))

pub whole_of : {E : Type 0} (old new : Option (List ℕ)) (r : Result (Unit {0}) E) (text : List ℕ) → IsOk r → Writes old new r text → new ≡ after_told old text
whole_of old new (Ok done) text ok h = h.whole
whole_of old new (Err e) text ok h = absurd (cc)

-- all lines were written
pub written_all : {E : Type 0} (old new : Option (List ℕ)) (text : ℕ → List ℕ) (m n : ℕ) → m ≡ n → new ≡ after_told old (text m) → Writes {E = E} old new (Ok tt) (text n)
written_all old new text m n all is =
    let whole = is ∙ ap (λ (k : ℕ). after_told old (text k)) all in
    record { front = front_whole old new (text n) whole; whole = whole }

module _ {V : Type 0} where
  -- a state that has the values of a list from a vertex on
  abbrev pub patched : (ℕ → V) → List V → ℕ → V → ℕ → V
  patched state shown first d v = cond (nat_lt v first) (state v) (list_state shown first d v)

  module _ (state : ℕ → V) (shown : List V) (first : ℕ) (d : V) where
    patched_low : (v : ℕ) → v < first → patched state shown first d v ≡ state v
    patched_low v low = ap (λ b. cond b (state v) (list_state shown first d v)) (lt-ltb v first low)

    pub patched_chunk : IsChunk (patched state shown first d) first shown
    patched_chunk = chunk_same (list_state shown first d) (patched state shown first d) first shown
        (λ k below. sym (ap (λ b. cond b (state (first + k)) (list_state shown first d (first + k))) (le-ltb (first + k) first (omega arith)))) (list_chunk shown first d)

    -- what is as it has that list's values
    patched_as : (xs : List V) → length xs ≡ length shown → IsChunk (list_state xs first d) first shown → IsChunk (patched state shown first d) first xs
    patched_as xs long is = chunk_same (list_state xs first d) (patched state shown first d) first xs
        (λ k below. sym (is.at d k (omega (arith, long, below))) ∙ patched_chunk.at d k (omega (arith, long, below))) (list_chunk xs first d)

module _ {V S : Type 0} (coding : Coding V S) (w : WindowState V S) (told : Told) (t : ℕ) where
  -- a state agrees with one chunk more once it has what is shown of it
  agrees_more : (m : ℕ) (state : ℕ → V) (shown : List V) (d : V) → length shown ≡ chunk_count w m → ((xs : List V) → KeepsList coding w told t m xs → IsChunk (list_state xs (chunk_first w m) d) (chunk_first w m) shown)
      → AgreesBelow coding w told t m state → AgreesBelow coding w told t (m + 1) (patched state shown (chunk_first w m) d)
  agrees_more m state shown d long step before j below xs kept = here (cases_eq j m)
    where
      here : (j ≡ m) ⊎ (j ≡ m → ⊥) → IsChunk (patched state shown (chunk_first w m) d) (chunk_first w j) xs
      here (inl same) =
          let last = subst (λ (k : ℕ). KeepsList coding w told t k xs) same kept in
          subst (λ (k : ℕ). IsChunk (patched state shown (chunk_first w m) d) (chunk_first w k) xs) (sym same)
          (patched_as state shown (chunk_first w m) d xs (last.long ∙ sym long) (step xs last))
      here (inr apart) =
          let n = w.cut.vertices in
          let c = chunk_of w.cut in
          let within : chunk_first w j + length xs ≤ chunk_first w m = omega (arith, kept.long, part_ends n c j, first_later n c (j + 1) m (omega (arith, below, apart))) in
          chunk_same state (patched state shown (chunk_first w m) d) (chunk_first w j) xs
          (λ k inside. sym (patched_low state shown (chunk_first w m) d (chunk_first w j + k) (omega (arith, within, inside)))) (before j (omega (arith, below, apart)) xs kept)

  -- two states that have what is kept of the first chunks have the same values there
  agreed : (m : ℕ) (state other : ℕ → V) → AgreesBelow coding w told t m state → ((j : ℕ) → j < m → Keeps coding w told t j other) → (v : ℕ) → v < chunk_first w m → state v ≡ other v
  agreed zero state other agrees keeps v below = absurd (omega arith)
  agreed (suc m) state other agrees keeps v below = here (agreed m state other (λ j under. agrees j (omega arith)) (λ j under. keeps j (omega arith)) v) (cases_lt v (chunk_first w m))
    where
      one : suc m ≡ m + 1
      one = omega arith

      ends : chunk_first w (suc m) ≡ chunk_first w m + chunk_count w m
      ends = ap (chunk_first w) one ∙ part_ends w.cut.vertices (chunk_of w.cut) m

      here : (v < chunk_first w m → state v ≡ other v) → (v < chunk_first w m) ⊎ (chunk_first w m ≤ v) → state v ≡ other v
      here before (inl low) = before low
      here before (inr high) =
          let has = keeps m (omega arith) in
          let k = v - chunk_first w m in
          let inside : k < length has.items = omega (arith, has.kept.long, ends, below, high) in
          let place : chunk_first w m + k ≡ v = omega (arith, high) in
          ap state (sym place) ∙ sym ((agrees m (omega arith) has.items has.kept).at (other v) k inside) ∙ has.chunk.at (other v) k inside ∙ ap other place

  module _ (p : Program V S) where
    abbrev lines : (ℕ → V) → ℕ → List ℕ
    lines state v = value_line v (p.show (state v))

    -- the lines of the chunks below m were written, by a state that agrees with what is kept of them
    pub record HasShown (m : ℕ) (old new : Option (List ℕ)) : Type 0 where
      pub state : ℕ → V
      pub agrees : AgreesBelow coding w told t m state
      pub written : new ≡ after_told old (value_lines p state 0 (chunk_first w m))

    pub shown_none : (d : V) (old : Option (List ℕ)) → HasShown 0 old old
    shown_none d old = record {
      state = λ v. d;
      agrees = λ j below. absurd (omega arith);
      written = let none : chunk_first w 0 ≡ 0 = omega arith in nothing_written old ∙ ap (λ (n : ℕ). after_told old (value_lines p (λ v. d) 0 n)) (sym none);
    }

    -- the lines below are those of each state whose values are kept
    pub shown_told : (m : ℕ) (old mid : Option (List ℕ)) (other : ℕ → V) → ((j : ℕ) → j < m → Keeps coding w told t j other) → HasShown m old mid → mid ≡ after_told old (value_lines p other 0 (chunk_first w m))
    shown_told m old mid other keeps has =
        has.written ∙ ap (after_told old) (lines_same (lines has.state) (lines other) 0 (chunk_first w m)
        (λ v below. ap (λ x. value_line v (p.show x)) (agreed m has.state other has.agrees keeps v (omega (arith, below)))))

    pub told_front : (m n : ℕ) (old mid : Option (List ℕ)) (other : ℕ → V) → chunk_first w m ≤ n → ((j : ℕ) → j < m → Keeps coding w told t j other) → HasShown m old mid → AppendsFront old mid (value_lines p other 0 n)
    told_front m n old mid other inside keeps has = lines_front (lines other) 0 (chunk_first w m) n old mid inside (shown_told m old mid other keeps has)

    pub shown_front : (m n : ℕ) (old mid : Option (List ℕ)) → chunk_first w m ≤ n → HasShown m old mid → IsFront (λ state. value_lines p state 0 n) old mid
    shown_front m n old mid inside has = record { state = has.state; front = lines_front (lines has.state) 0 (chunk_first w m) n old mid inside has.written }

    module _ {E : Type 0} (m : ℕ) (shown : List V) (d : V) (old mid new : Option (List ℕ)) (r : Result (Unit {0}) E) (first : ℕ) (at : first ≡ chunk_first w m) (long : length shown ≡ chunk_count w m)
        (wrote : (state : ℕ → V) → IsChunk state first shown → Writes mid new r (value_lines p state first (length shown))) where
      wrote_at : (state : ℕ → V) → IsChunk state (chunk_first w m) shown → Writes mid new r (value_lines p state (chunk_first w m) (chunk_count w m))
      wrote_at state chunk =
          subst (λ (n : ℕ). Writes mid new r (value_lines p state (chunk_first w m) n)) long
          (subst (λ (f : ℕ). Writes mid new r (value_lines p state f (length shown))) at (wrote state (subst (λ (f : ℕ). IsChunk state f shown) (sym at) chunk)))

      -- what stands before a chunk, by a state that has the chunk's values too
      before_patched : (has : HasShown m old mid) → mid ≡ after_told old (value_lines p (patched has.state shown (chunk_first w m) d) 0 (chunk_first w m))
      before_patched has = has.written ∙ ap (after_told old) (lines_same (lines has.state) (lines (patched has.state shown (chunk_first w m) d)) 0 (chunk_first w m)
          (λ v below. ap (λ x. value_line v (p.show x)) (sym (patched_low has.state shown (chunk_first w m) d v (omega (arith, below))))))

      -- one chunk more was written
      pub shown_more : IsOk r → ((xs : List V) → KeepsList coding w told t m xs → IsChunk (list_state xs (chunk_first w m) d) (chunk_first w m) shown) → HasShown m old mid → HasShown (m + 1) old new
      shown_more ok step has =
          let state = patched has.state shown (chunk_first w m) d in
          record {
            state = state;
            agrees = agrees_more m has.state shown d long step has.agrees;
            written = lines_written (lines state) 0 (chunk_first w m) (chunk_count w m) (chunk_first w (m + 1)) (chunk_first w m) old mid new (omega arith) (part_ends w.cut.vertices (chunk_of w.cut) m) (before_patched has)
                (whole_of mid new r (value_lines p state (chunk_first w m) (chunk_count w m)) ok (wrote_at state (patched_chunk has.state shown (chunk_first w m) d)));
          }

      -- it was cut
      pub shown_cut : (n : ℕ) → chunk_first w m + chunk_count w m ≤ n → HasShown m old mid → IsFront (λ state. value_lines p state 0 n) old new
      shown_cut n inside has =
          let state = patched has.state shown (chunk_first w m) d in
          record {
            state = state;
            front = lines_cut (lines state) 0 (chunk_first w m) (chunk_count w m) n (chunk_first w m) old mid new (omega arith) inside (before_patched has) (wrote_at state (patched_chunk has.state shown (chunk_first w m) d)).front;
          }

      pub told_cut : (n : ℕ) (other : ℕ → V) → chunk_first w m + chunk_count w m ≤ n → ((j : ℕ) → j < m → Keeps coding w told t j other) → IsChunk other (chunk_first w m) shown → HasShown m old mid → AppendsFront old new (value_lines p other 0 n)
      told_cut n other inside keeps chunk has =
          lines_cut (lines other) 0 (chunk_first w m) (chunk_count w m) n (chunk_first w m) old mid new (omega arith) inside (shown_told m old mid other keeps has) (wrote_at other chunk).front

-- What is kept is as it was where the values in memory and Values are.
pub agrees_moved : {V S : Type 0} (coding : Coding V S) (old new : WindowState V S) (before after : Told) (t : ℕ) (state : ℕ → V) → new.cut ≡ old.cut → new.pinned ≡ old.pinned → new.even ≡ old.even → new.odd ≡ old.odd → after Values ≡ before Values
    → Agrees coding old before t state → Agrees coding new after t state
agrees_moved coding old new before after t state cut pinned even odd values agrees =
    subst (λ (o : Option (List ℕ)). (j : ℕ) → j < new.cut.parts → (xs : List _) → AreKept coding.value_of coding.value_width new.cut new.pinned t j new.even new.odd o xs → IsChunk state (first_vertex new.cut.vertices (chunk_of new.cut) j) xs) (sym values)
    (subst (λ (e : List _). (j : ℕ) → j < new.cut.parts → (xs : List _) → AreKept coding.value_of coding.value_width new.cut new.pinned t j e new.odd (before Values) xs → IsChunk state (first_vertex new.cut.vertices (chunk_of new.cut) j) xs) (sym even)
    (subst (λ (o : List _). (j : ℕ) → j < new.cut.parts → (xs : List _) → AreKept coding.value_of coding.value_width new.cut new.pinned t j old.even o (before Values) xs → IsChunk state (first_vertex new.cut.vertices (chunk_of new.cut) j) xs) (sym odd)
    (subst (λ (k : ℕ). (j : ℕ) → j < new.cut.parts → (xs : List _) → AreKept coding.value_of coding.value_width new.cut k t j old.even old.odd (before Values) xs → IsChunk state (first_vertex new.cut.vertices (chunk_of new.cut) j) xs) (sym pinned)
    (subst (λ (c : Cut). (j : ℕ) → j < c.parts → (xs : List _) → AreKept coding.value_of coding.value_width c old.pinned t j old.even old.odd (before Values) xs → IsChunk state (first_vertex c.vertices (chunk_of c) j) xs) (sym cut) agrees))))

-- the lines of all chunks were written
pub shown_all : {V S : Type 0} (coding : Coding V S) (p : Program V S) (t m n : ℕ) (w now : WindowState V S) (told after : Told) (old new : Option (List ℕ)) → m ≡ w.cut.parts → chunk_first w m ≡ n
    → now.cut ≡ w.cut → now.pinned ≡ w.pinned → now.even ≡ w.even → now.odd ≡ w.odd → after Values ≡ told Values → HasShown coding w told t p m old new → IsShown coding now after t (λ state. value_lines p state 0 n) old new
shown_all coding p t m n w now told after old new all reach cut pinned even odd values has = record {
  state = has.state;
  agrees = agrees_moved coding w now told after t has.state cut pinned even odd values (subst (λ (k : ℕ). AgreesBelow coding w told t k has.state) all has.agrees);
  written = has.written ∙ ap (λ (k : ℕ). after_told old (value_lines p has.state 0 k)) reach;
}

-- the chunks of a cut have all vertices
pub all_vertices : (cut : Cut) (m : ℕ) → 0 < cut.parts → m ≡ cut.parts → first_vertex cut.vertices (chunk_of cut) m ≡ cut.vertices
all_vertices cut m some all =
    let room = parts_suffice cut.vertices cut.parts some in
    ap (first_vertex cut.vertices (chunk_of cut)) all ∙ (let whole : first_vertex cut.vertices (chunk_of cut) cut.parts ≡ cut.vertices = omega (arith, room) in whole)

-- the sum of one number more
sum_more : (f : ℕ → ℕ) (n : ℕ) → sum_by f (range_with_len 0 (n + 1)) ≡ sum_by f (range_with_len 0 n) + f n
sum_more f n =
    let nothing : f n + 0 ≡ f n = omega arith in
    ap (sum_by f) (range_add 0 n 1 (n + 1) n (omega arith) refl) ∙ sum_by-append f (range_with_len 0 n) (n ∷ []) ∙ ap (λ (k : ℕ). sum_by f (range_with_len 0 n) + k) (sum_by-cons f n [] ∙ nothing)

-- what the first chunks load, with one more
pub loads_more : {V S : Type 0} (code : Coding V S) (w mid : WindowState V S) (j : ℕ) → IsSameRoom w mid → sum_by (load_bytes code w) (range_with_len 0 (j + 1)) ≡ sum_by (load_bytes code w) (range_with_len 0 j) + load_bytes code mid j
loads_more code w mid j room = sum_more (load_bytes code w) j ∙ ap (λ (n : ℕ). sum_by (load_bytes code w) (range_with_len 0 j) + n) (sym (load_same code w mid j room))

-- what the first window shows, in windows that are cut alike
pub first_chunk : {V S : Type 0} (w now : WindowState V S) (j : ℕ) (state : ℕ → V) (shown : List V) → now.cut ≡ w.cut → shown ≡ now.first → IsFirst now j state → IsChunk state (chunk_first w j) shown
first_chunk w now j state shown cut is first =
    subst (λ (c : Cut). IsChunk state (first_vertex c.vertices (chunk_of c) j) shown) cut (subst (IsChunk state (chunk_first now j)) (sym is) first.chunk)

-- a list that is kept is that of a state
pub keeps_list : {V S : Type 0} (coding : Coding V S) (w : WindowState V S) (told : Told) (t j : ℕ) (xs : List V) (d : V) → KeepsList coding w told t j xs → Keeps coding w told t j (list_state xs (chunk_first w j) d)
keeps_list coding w told t j xs d kept = record { items = xs; kept = kept; chunk = list_chunk xs (chunk_first w j) d }

module _ {V S : Type 0} (coding : Coding V S) (w : WindowState V S) (told : Told) (t : ℕ) (d : V) where
  abbrev value_or : Option V → V
  value_or None = d
  value_or (Some x) = x

  abbrev filed : Option (List ℕ) → ℕ → V
  filed None v = d
  filed (Some file) v = value_or (coding.value_of (range_at (value_place coding.value_width w.cut.vertices t v) coding.value_width file))

  -- the value that a record stands for
  record_at : (place : ℕ) (xs : List V) (file : List ℕ) (e : V) (k : ℕ) → AreRecords coding.value_of coding.value_width place xs file → k < length xs → coding.value_of (range_at (place + coding.value_width * k) coding.value_width file) ≡ Some (get_or xs k e)
  record_at place [] file e k are inside = absurd (omega arith)
  record_at place (x ∷ xs) file e zero are inside =
      let here : place + coding.value_width * zero ≡ place = omega arith in
      ap (λ (q : ℕ). coding.value_of (range_at q coding.value_width file)) here ∙ (cc)
  record_at place (x ∷ xs) file e (suc k) are inside =
      let more = mul-suc coding.value_width k in
      let here : place + coding.value_width * suc k ≡ place + coding.value_width + coding.value_width * k = omega (arith, more) in
      ap (λ (q : ℕ). coding.value_of (range_at q coding.value_width file)) here ∙ record_at (place + coding.value_width) xs file e k (cc) (omega arith)

  filed_at : (first : ℕ) (xs : List V) (o : Option (List ℕ)) (e : V) (k : ℕ) → AreTold coding.value_of coding.value_width (value_place coding.value_width w.cut.vertices t first) xs o → k < length xs → get_or xs k e ≡ filed o (first + k)
  filed_at first xs None e k are inside = absurd are
  filed_at first xs (Some file) e k are inside =
      let n = t % 2 * w.cut.vertices in
      let place : value_place coding.value_width w.cut.vertices t first + coding.value_width * k ≡ value_place coding.value_width w.cut.vertices t (first + k) =
      (let all : n + first + k ≡ n + (first + k) = omega arith in
      ap (λ (m : ℕ). (n + first) * coding.value_width + m) (mul_comm coding.value_width k) ∙ sym (add-mul (n + first) k coding.value_width) ∙ ap (λ (m : ℕ). m * coding.value_width) all) in
      sym (ap value_or (ap (λ (q : ℕ). coding.value_of (range_at q coding.value_width file)) (sym place) ∙ record_at (value_place coding.value_width w.cut.vertices t first) xs file e k are inside))

  abbrev held : List V
  held = turn_list t w.even w.odd

  -- a state that has the values that are kept
  abbrev pub kept_state : ℕ → V
  kept_state v = cond (nat_lt v (chunk_first w w.pinned)) (list_state held 0 d v) (filed (told Values) v)

  pub kept_agrees : Agrees coding w told t kept_state
  kept_agrees j below xs kept = here (cases_lt j w.pinned)
    where
      here : (j < w.pinned) ⊎ (w.pinned ≤ j) → IsChunk kept_state (chunk_first w j) xs
      here (inl low) =
          let n = w.cut.vertices in
          let c = chunk_of w.cut in
          let start : chunk_first w j ≡ 0 + chunk_first w j = omega arith in
          let within : chunk_first w j + length xs ≤ chunk_first w w.pinned = omega (arith, kept.long, part_ends n c j, first_later n c (j + 1) w.pinned (omega (arith, low))) in
          chunk_same (list_state held 0 d) kept_state (chunk_first w j) xs
          (λ k inside. sym (ap (λ b. cond b (list_state held 0 d (chunk_first w j + k)) (filed (told Values) (chunk_first w j + k))) (lt-ltb (chunk_first w j + k) (chunk_first w w.pinned) (omega (arith, within, inside)))))
          (subst (IsChunk (list_state held 0 d) (chunk_first w j)) (sym (kept.in_memory low)) (chunk_part (list_state held 0 d) 0 held (chunk_first w j) (chunk_count w j) (chunk_first w j) start (list_chunk held 0 d)))
      here (inr high) =
          let after = first_later w.cut.vertices (chunk_of w.cut) w.pinned j high in
          record {
            at = λ e k inside. filed_at (chunk_first w j) xs (told Values) e k (kept.in_file high) inside
                ∙ sym (ap (λ b. cond b (list_state held 0 d (chunk_first w j + k)) (filed (told Values) (chunk_first w j + k))) (le-ltb (chunk_first w j + k) (chunk_first w w.pinned) (omega (arith, after))));
          }

-- a fault that shows no damage comes from outside
pub outside_of : (fault : FileFault) → IsIntact fault → IsFromOutside (fault_of_file fault)
outside_of Depot is = tt
outside_of (Damaged file place found) is = absurd is

-- a front of a text is one of a longer text
pub front_cut : (old new : Option (List ℕ)) (a b whole : List ℕ) → a ++ b ≡ whole → AppendsFront old new a → AppendsFront old new whole
front_cut old new a b whole is h = subst (AppendsFront old new) is (front_longer old new a b h)

module _ {T : Type 0} (old mid new : Option (List ℕ)) (a : List ℕ) (before : mid ≡ after_told old a) where
  -- a text behind one that was written
  pub run_behind : (r : Result T RunFault) (b whole : List ℕ) → a ++ b ≡ whole → WritesRun mid new b r → WritesRun old new whole r
  run_behind (Ok x) b whole is h = told_then old mid new a b before h ∙ ap (after_told old) is
  run_behind (Err fault) b whole is h = subst (AppendsFront old new) is (front_behind old mid new a b before h)

  pub shown_behind : {V S : Type 0} (coding : Coding V S) (w : WindowState V S) (told : Told) (t : ℕ) (text whole : (ℕ → V) → List ℕ) (r : Result T RunFault) → ((state : ℕ → V) → a ++ text state ≡ whole state) → ShowsKept coding w told t text mid new r → ShowsKept coding w told t whole old new r
  shown_behind coding w told t text whole (Ok x) is h = record { state = h.state; agrees = h.agrees; written = run_behind (Ok x) (text h.state) (whole h.state) (is h.state) h.written }
  shown_behind coding w told t text whole (Err fault) is h = record { state = h.state; front = run_behind (Err fault) (text h.state) (whole h.state) (is h.state) h.front }
