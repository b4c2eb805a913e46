-- How what windows show, keep and store goes from one step to the next: for layers that take many steps.
use Rattle.std.proofs.Common.{◌≡◌, ◌≢◌, ℕ, ◌<◌, ◌≤◌, List, length, take, Option, refl, sym, ap, subst, ◌∙◌, arith}
use Rattle.lumos_base.specs.declared.records.Edge.{Edge}
use Rattle.lumos_depot.specs.Files.{Same}
use Rattle.lumos_depot.specs.declared.depot.FileKind.TheVariants.{Values, Sums}
use Rattle.lumos_law.specs.Program.{Program}
use Rattle.lumos_law.specs.Sync.{sum_at, IsChunk}
use Rattle.partition.specs.Parts.{Cut, chunk_of, first_vertex, part_length}
use Rattle.windows.specs.Kept.{AreKept, AreStored, IsOther, Keeps, KeepsList, StoresList, Stays, StaysBut, StaysButSums}
use Rattle.windows.specs.Sums.{HasNext, HasSums, IsFirst, IsSecond, StoresEarly}
use Rattle.windows.specs.Windows.{Coding, IsSameRoom, IsSized, Told, WindowState, chunk_count, chunk_first, chunk_in, turn_list}

-- sums in a list, where the windows are cut alike
pub record HoldsSums {V S : Type 0} (p : Program V S) (cut : Cut) (j : ℕ) (state : ℕ → V) (edges : List Edge) (xs : List S) : Type 0 where
  pub long : part_length cut.vertices (chunk_of cut) j ≤ length xs
  pub chunk : IsChunk (sum_at p edges state) (first_vertex cut.vertices (chunk_of cut) j) (take (part_length cut.vertices (chunk_of cut) j) xs)

holds_same : {V S : Type 0} (p : Program V S) (cut cut' : Cut) (j : ℕ) (state : ℕ → V) (edges : List Edge) (xs ys : List S) → cut' ≡ cut → ys ≡ xs → HoldsSums p cut j state edges xs → HoldsSums p cut' j state edges ys
holds_same p cut cut' j state edges xs ys same items held =
    subst (λ (c : Cut). HoldsSums p c j state edges ys) (sym same) (subst (HoldsSums p cut j state edges) (sym items) held)

module _ {V S : Type 0} where
  -- the same windows as before
  pub room_none : (w : WindowState V S) → IsSameRoom w w
  room_none w = record { cut = refl; budget = refl; pinned = refl; value_room = refl; sum_room = refl }

  pub room_then : (one two three : WindowState V S) → IsSameRoom one two → IsSameRoom two three → IsSameRoom one three
  room_then one two three a b = record {
    cut = b.cut ∙ a.cut;
    budget = b.budget ∙ a.budget;
    pinned = b.pinned ∙ a.pinned;
    value_room = b.value_room ∙ a.value_room;
    sum_room = b.sum_room ∙ a.sum_room;
  }

  -- a chunk of theirs begins at the same vertex, and has as many
  pub first_same : (old new : WindowState V S) (j : ℕ) → IsSameRoom old new → chunk_first new j ≡ chunk_first old j
  first_same old new j room = ap (λ (c : Cut). first_vertex c.vertices (chunk_of c) j) room.cut

  pub count_same : (old new : WindowState V S) (j : ℕ) → IsSameRoom old new → chunk_count new j ≡ chunk_count old j
  count_same old new j room = ap (λ (c : Cut). part_length c.vertices (chunk_of c) j) room.cut

  -- What windows show stays where a step leaves the windows that show it: the equations are fields of its clause `alone`.
  pub first_stays : (old new : WindowState V S) (i : ℕ) (state : ℕ → V) → new.cut ≡ old.cut → new.first_part ≡ old.first_part → new.first ≡ old.first → IsFirst old i state → IsFirst new i state
  first_stays old new i state cut part items is = record {
    part = part ∙ is.part;
    long = ap length items ∙ is.long ∙ (λ k. part_length (sym cut k).vertices (chunk_of (sym cut k)) i);
    chunk = subst (λ (c : Cut). IsChunk state (first_vertex c.vertices (chunk_of c) i) new.first) (sym cut) (subst (IsChunk state (chunk_first old i)) (sym items) is.chunk);
  }

  pub second_stays : (old new : WindowState V S) (i : ℕ) (state : ℕ → V) → new.cut ≡ old.cut → new.second_part ≡ old.second_part → new.second ≡ old.second → IsSecond old i state → IsSecond new i state
  second_stays old new i state cut part items is = record {
    part = part ∙ is.part;
    long = ap length items ∙ is.long ∙ (λ k. part_length (sym cut k).vertices (chunk_of (sym cut k)) i);
    chunk = subst (λ (c : Cut). IsChunk state (first_vertex c.vertices (chunk_of c) i) new.second) (sym cut) (subst (IsChunk state (chunk_first old i)) (sym items) is.chunk);
  }

  pub has_sums_stays : (p : Program V S) (old new : WindowState V S) (j : ℕ) (state : ℕ → V) (edges : List Edge) → new.cut ≡ old.cut → new.sums_part ≡ old.sums_part → new.sums ≡ old.sums → HasSums p old j state edges → HasSums p new j state edges
  has_sums_stays p old new j state edges cut part items has =
      let came = holds_same p old.cut new.cut j state edges old.sums new.sums cut items (record { long = has.long; chunk = has.chunk }) in
      record { part = part ∙ has.part; long = came.long; chunk = came.chunk }

  pub has_next_stays : (p : Program V S) (old new : WindowState V S) (j : ℕ) (state : ℕ → V) (edges : List Edge) → new.cut ≡ old.cut → new.sums_part ≡ old.sums_part → new.next_sums ≡ old.next_sums → HasNext p old j state edges → HasNext p new j state edges
  has_next_stays p old new j state edges cut part items has =
      let came = holds_same p old.cut new.cut j state edges old.next_sums new.next_sums cut items (record { long = has.long; chunk = has.chunk }) in
      record { part = part ∙ has.part; long = came.long; chunk = came.chunk }

module _ {V S : Type 0} (coding : Coding V S) where
  module _ (old new : WindowState V S) (before after : Told) (room : IsSameRoom old new) where
    -- values in windows that are cut alike
    pub keeps_moved : (t j : ℕ) (xs : List V) → AreKept coding.value_of coding.value_width old.cut old.pinned t j new.even new.odd (after Values) xs → KeepsList coding new after t j xs
    keeps_moved t j xs kept =
        subst (λ (k : ℕ). AreKept coding.value_of coding.value_width new.cut k t j new.even new.odd (after Values) xs) (sym room.pinned)
        (subst (λ (c : Cut). AreKept coding.value_of coding.value_width c old.pinned t j new.even new.odd (after Values) xs) (sym room.cut) kept)

    pub stored_moved : (j : ℕ) (xs : List S) → AreStored coding.sum_of coding.sum_width old.cut j (after Sums) xs → StoresList coding new after j xs
    stored_moved j xs stored = subst (λ (c : Cut). AreStored coding.sum_of coding.sum_width c j (after Sums) xs) (sym room.cut) stored

    pub values_same : new.even ≡ old.even → new.odd ≡ old.odd → after Values ≡ before Values → (t j : ℕ) (xs : List V) → KeepsList coding old before t j xs → KeepsList coding new after t j xs
    values_same even odd told t j xs kept = keeps_moved t j xs (record {
      long = kept.long;
      in_memory = λ low. kept.in_memory low ∙ (λ i. chunk_in old.cut j (turn_list t (sym even i) (sym odd i)));
      in_file = λ high. rw told (kept.in_file high);
    })

    pub sums_same : after Sums ≡ before Sums → (j : ℕ) (xs : List S) → StoresList coding old before j xs → StoresList coding new after j xs
    sums_same told j xs stored = stored_moved j xs (subst (λ (o : Option (List ℕ)). AreStored coding.sum_of coding.sum_width old.cut j o xs) (sym told) stored)

    -- nothing changed that is kept or stored
    pub stays_same : new.even ≡ old.even → new.odd ≡ old.odd → Same before after → Stays coding old before new after
    stays_same even odd same = record { room = room; values = values_same even odd (same Values); sums = sums_same (same Sums) }

  -- nothing was done yet
  pub stays_none : (w : WindowState V S) (told : Told) → Stays coding w told w told
  stays_none w told = record { room = room_none w; values = λ t j xs kept. kept; sums = λ j xs stored. stored }

  -- one step after another
  pub stays_then : (one two three : WindowState V S) (a b c : Told) → Stays coding one a two b → Stays coding two b three c → Stays coding one a three c
  stays_then one two three a b c first second = record {
    room = room_then one two three first.room second.room;
    values = λ t j xs kept. second.values t j xs (first.values t j xs kept);
    sums = λ j xs stored. second.sums j xs (first.sums j xs stored);
  }

  pub but_then : (t j : ℕ) (one two three : WindowState V S) (a b c : Told) → StaysBut coding t j one a two b → Stays coding two b three c → StaysBut coding t j one a three c
  but_then t j one two three a b c first second = record {
    room = room_then one two three first.room second.room;
    values = λ u k xs other kept. second.values u k xs (first.values u k xs other kept);
    sums = λ k xs stored. second.sums k xs (first.sums k xs stored);
  }

  -- what stays, stays also but for something
  pub stays_but : (t j : ℕ) (old new : WindowState V S) (before after : Told) → Stays coding old before new after → StaysBut coding t j old before new after
  stays_but t j old new before after stays = record { room = stays.room; values = λ u k xs other kept. stays.values u k xs kept; sums = stays.sums }

  -- the kept values of a state, over a step
  keeps_by : (old new : WindowState V S) (before after : Told) (t j : ℕ) (state : ℕ → V) → IsSameRoom old new → ((xs : List V) → KeepsList coding old before t j xs → KeepsList coding new after t j xs) → Keeps coding old before t j state → Keeps coding new after t j state
  keeps_by old new before after t j state room step keeps = record {
    items = keeps.items;
    kept = step keeps.items keeps.kept;
    chunk = subst (λ (f : ℕ). IsChunk state f keeps.items) (sym (first_same old new j room)) keeps.chunk;
  }

  pub stays_keeps : (old new : WindowState V S) (before after : Told) (t j : ℕ) (state : ℕ → V) → Stays coding old before new after → Keeps coding old before t j state → Keeps coding new after t j state
  stays_keeps old new before after t j state stays keeps = keeps_by old new before after t j state stays.room (stays.values t j) keeps

  pub but_keeps : (t j : ℕ) (old new : WindowState V S) (before after : Told) (u k : ℕ) (state : ℕ → V) → StaysBut coding t j old before new after → IsOther t j u k → Keeps coding old before u k state → Keeps coding new after u k state
  but_keeps t j old new before after u k state stays other keeps = keeps_by old new before after u k state stays.room (λ xs. stays.values u k xs other) keeps

  pub sums_keeps : (j : ℕ) (old new : WindowState V S) (before after : Told) (u k : ℕ) (state : ℕ → V) → StaysButSums coding j old before new after → Keeps coding old before u k state → Keeps coding new after u k state
  sums_keeps j old new before after u k state stays keeps = keeps_by old new before after u k state stays.room (stays.values u k) keeps

  -- the stored sums of edges, over a step
  early_by : (p : Program V S) (old new : WindowState V S) (before after : Told) (j : ℕ) (state : ℕ → V) (edges : List Edge) → IsSameRoom old new → ((xs : List S) → StoresList coding old before j xs → StoresList coding new after j xs)
      → StoresEarly coding p old before j state edges → StoresEarly coding p new after j state edges
  early_by p old new before after j state edges room step early = record {
    items = early.items;
    stored = step early.items early.stored;
    chunk = subst (λ (f : ℕ). IsChunk (sum_at p edges state) f early.items) (sym (first_same old new j room)) early.chunk;
  }

  pub stays_early : (p : Program V S) (old new : WindowState V S) (before after : Told) (j : ℕ) (state : ℕ → V) (edges : List Edge) → Stays coding old before new after → StoresEarly coding p old before j state edges → StoresEarly coding p new after j state edges
  stays_early p old new before after j state edges stays early = early_by p old new before after j state edges stays.room (stays.sums j) early

  pub but_early : (p : Program V S) (t j : ℕ) (old new : WindowState V S) (before after : Told) (k : ℕ) (state : ℕ → V) (edges : List Edge) → StaysBut coding t j old before new after → StoresEarly coding p old before k state edges → StoresEarly coding p new after k state edges
  but_early p t j old new before after k state edges stays early = early_by p old new before after k state edges stays.room (stays.sums k) early

  pub sums_early : (p : Program V S) (j : ℕ) (old new : WindowState V S) (before after : Told) (k : ℕ) (state : ℕ → V) (edges : List Edge) → StaysButSums coding j old before new after → k ≢ j → StoresEarly coding p old before k state edges → StoresEarly coding p new after k state edges
  sums_early p j old new before after k state edges stays apart early = early_by p old new before after k state edges stays.room (λ xs. stays.sums k xs apart) early

  -- What is kept of a chunk in memory doesn't depend on what is told.
  pub pinned_keeps : (w : WindowState V S) (before after : Told) (t j : ℕ) (state : ℕ → V) → j < w.pinned → Keeps coding w before t j state → Keeps coding w after t j state
  pinned_keeps w before after t j state low keeps = record {
    items = keeps.items;
    kept = record { long = keeps.kept.long; in_memory = keeps.kept.in_memory; in_file = λ high. absurd (omega arith) };
    chunk = keeps.chunk;
  }

  -- The sizes of files that are told stay where the files do.
  pub sized_same : (old new : WindowState V S) (before after : Told) → IsSameRoom old new → after Values ≡ before Values → after Sums ≡ before Sums → IsSized coding old before → IsSized coding new after
  sized_same old new before after room values sums sized = record {
    values_size = rw (values, ap (λ (c : Cut). c.vertices) room.cut) sized.values_size;
    sums_size = rw (sums, ap (λ (c : Cut). c.vertices) room.cut) sized.sums_size;
  }
