-- What stays of the values that are kept and of the sums that are stored, and what windows show, where the windows before are
-- seen by their fields.
use Rattle.std.proofs.Common.{◌≡◌, ◌≢◌, ◌⊎◌, ℕ, ◌+◌, ◌*◌, ◌%◌, ◌==◌, ◌≤◌, cond, List, length, take, Option, Result, refl, sym, ap, subst, ◌∙◌}
use Rattle.std.specs.Prelude.{OnOk}
use Rattle.lumos_base.specs.declared.records.Edge.{Edge}
use Rattle.lumos_depot.specs.Files.{Same, SameOutsideTold}
use Rattle.lumos_depot.proofs.OutsideLemmas.{told_outside_long}
use Rattle.lumos_depot.proofs.StepLemmas.{told_same}
use Rattle.lumos_depot.specs.declared.depot.FileKind.TheVariants.{Values, Sums}
use Rattle.lumos_law.specs.Program.{Program}
use Rattle.lumos_law.specs.Sync.{sum_at, IsChunk}
use Rattle.partition.specs.Parts.{Cut, chunk_of, first_vertex, part_length}
use Rattle.value_files.specs.Kept.{sum_place, value_place}
use Rattle.value_files.proofs.OutsideLemmas.{told_are_outside}
use Rattle.value_files.proofs.PlaceLemmas.{sums_apart}
use Rattle.windows.specs.Kept.{AreKept, AreStored, IsOther, Keeps, KeepsList, KeepsPart, Stays, StaysBut, StaysButSums, StoresList}
use Rattle.windows.specs.Sums.{HasSums, IsFirst, IsSecond, StoresEarly}
use Rattle.windows.specs.Windows.{Coding, IsSameRoom, IsSized, Told, WindowState, chunk_count, chunk_first, put_in, turn_list}
use Rattle.windows.proofs.FrameLemmas.{keeps_moved, sized_same, stays_same, stored_moved, sums_same, values_same}
use Rattle.windows.proofs.KeptLemmas.{kept_beside, kept_outside, kept_same}
use Rattle.windows.proofs.PartLemmas.{parts_apart}
use Rattle.windows.proofs.ResultLemmas.{on_ok_more}

module _ {V S : Type 0} (value_of : List ℕ → Option V) (w : ℕ) (sum_of : List ℕ → Option S) (s : ℕ) where
  abbrev pub coding : Coding V S
  coding = record { value_of = value_of; value_width = w; sum_of = sum_of; sum_width = s }

  module _ (view now new : WindowState V S) (before after : Told) (seen : view ≡ now) (room : IsSameRoom view new) where
    -- nothing changed that is kept or stored
    pub view_stays : new.even ≡ view.even → new.odd ≡ view.odd → Same before after → Stays coding now before new after
    view_stays even odd same = subst (λ (x : WindowState V S). Stays coding x before new after) seen (stays_same coding view new before after room even odd same)

    view_but : (t j : ℕ) → ((u k : ℕ) (xs : List V) → IsOther t j u k → KeepsList coding view before u k xs → AreKept value_of w view.cut view.pinned u k new.even new.odd (after Values) xs) → after Sums ≡ before Sums → StaysBut coding t j now before new after
    view_but t j stay is = subst (λ (x : WindowState V S). StaysBut coding t j x before new after) seen (record {
      room = room;
      values = λ u k xs other kept. keeps_moved coding view new before after room u k xs (stay u k xs other kept);
      sums = sums_same coding view new before after room is;
    })

    -- the values of chunk j after iteration t were written into Values
    pub view_filed : (t j : ℕ) → new.even ≡ view.even → new.odd ≡ view.odd → after Sums ≡ before Sums
        → SameOutsideTold (value_place w view.cut.vertices t (chunk_first view j)) (w * chunk_count view j) (before Values) (after Values) → StaysBut coding t j now before new after
    view_filed t j even odd is same = view_but t j
        (λ u k xs other kept. kept_outside value_of w view.cut view.pinned t j u k new.even new.odd (before Values) (after Values) xs other same
        (kept_same value_of w view.cut view.pinned u k view.even view.odd new.even new.odd (before Values) (before Values) xs even odd refl kept)) is

    -- they were written where they lie in memory
    pub view_written : (t j : ℕ) (values : List V) → length values ≡ chunk_count view j → chunk_first view j + chunk_count view j ≤ length (turn_list t view.even view.odd)
        → new.even ≡ cond (t % 2 == 1) view.even (put_in (chunk_first view j) values view.even) → new.odd ≡ cond (t % 2 == 1) (put_in (chunk_first view j) values view.odd) view.odd
        → after Values ≡ before Values → after Sums ≡ before Sums → StaysBut coding t j now before new after
    view_written t j values long room even odd same is = view_but t j
        (λ u k xs other kept. kept_same value_of w view.cut view.pinned u k new.even new.odd new.even new.odd (before Values) (after Values) xs refl refl same
        (kept_beside value_of w view.cut view.pinned t j u k view.even view.odd new.even new.odd values (before Values) xs other long room even odd kept)) is

    -- the files that are told have their sizes
    pub view_sized : after Values ≡ before Values → after Sums ≡ before Sums → IsSized coding now before → IsSized coding new after
    view_sized values sums sized = sized_same coding view new before after room values sums (subst (λ (x : WindowState V S). IsSized coding x before) (sym seen) sized)

    pub view_sized_filed : (place n : ℕ) → SameOutsideTold place n (before Values) (after Values) → after Sums ≡ before Sums → IsSized coding now before → IsSized coding new after
    view_sized_filed place n same sums sized =
        let here = subst (λ (x : WindowState V S). IsSized coding x before) (sym seen) sized in
        sized_same coding view new after after room refl refl (record {
          values_size = told_outside_long place n (before Values) (after Values) (λ (m : ℕ). m ≡ 2 * view.cut.vertices * w) same here.values_size;
          sums_size = told_same (before Sums) (after Sums) (λ file. length file ≡ view.cut.vertices * s) sums here.sums_size;
        })

    stored_outside : (j k : ℕ) (xs : List S) → k ≢ j → SameOutsideTold (sum_place s (chunk_first view j)) (s * chunk_count view j) (before Sums) (after Sums) → StoresList coding view before k xs → AreStored sum_of s view.cut k (after Sums) xs
    stored_outside j k xs apart same stored =
        let n = view.cut.vertices in
        let c = chunk_of view.cut in
        record {
          long = stored.long;
          in_file = told_are_outside sum_of s (sum_place s (first_vertex n c j)) (s * part_length n c j) (sum_place s (first_vertex n c k)) xs (before Sums) (after Sums) same
              (subst (λ (m : ℕ). (sum_place s (first_vertex n c k) + s * m ≤ sum_place s (first_vertex n c j)) ⊎ (sum_place s (first_vertex n c j) + s * part_length n c j ≤ sum_place s (first_vertex n c k))) (sym stored.long)
              (sums_apart s (first_vertex n c k) (part_length n c k) (first_vertex n c j) (part_length n c j) (parts_apart n c j k apart))) stored.in_file;
        }

    -- the sums of chunk j were written into Sums
    pub view_stored : (j : ℕ) → new.even ≡ view.even → new.odd ≡ view.odd → after Values ≡ before Values
        → SameOutsideTold (sum_place s (chunk_first view j)) (s * chunk_count view j) (before Sums) (after Sums) → StaysButSums coding j now before new after
    view_stored j even odd is same = subst (λ (x : WindowState V S). StaysButSums coding j x before new after) seen (record {
      room = room;
      values = values_same coding view new before after room even odd is;
      sums = λ k xs apart stored. stored_moved coding view new before after room k xs (stored_outside j k xs apart same stored);
    })

  module _ {T E : Type 0} (view now : WindowState V S) (before : Told) (seen : view ≡ now) (result : Result T E) (t j : ℕ) (state : ℕ → V) where
    abbrev pub seen_by : Keeps coding now before t j state → Keeps coding view before t j state
    seen_by keeps = subst (λ (x : WindowState V S). Keeps coding x before t j state) (sym seen) keeps

    -- the first window over values shows what was kept of a state
    pub first_shown : (new : WindowState V S) → new.cut ≡ view.cut → new.first_part ≡ j → ((xs : List V) → KeepsList coding view before t j xs → OnOk result (new.first ≡ xs)) → Keeps coding now before t j state → OnOk result (IsFirst new j state)
    first_shown new cut part step keeps =
        let here = seen_by keeps in
        on_ok_more result (new.first ≡ here.items) (IsFirst new j state)
        (λ is. record {
          part = part;
          long = ap length is ∙ here.kept.long ∙ (λ i. part_length (sym cut i).vertices (chunk_of (sym cut i)) j);
          chunk = subst (λ (c : Cut). IsChunk state (first_vertex c.vertices (chunk_of c) j) new.first) (sym cut) (subst (IsChunk state (chunk_first view j)) (sym is) here.chunk);
        })
        (step here.items here.kept)

    -- the second one does
    pub second_shown : (new : WindowState V S) → new.cut ≡ view.cut → new.second_part ≡ j → ((xs : List V) → KeepsList coding view before t j xs → OnOk result (new.second ≡ xs)) → Keeps coding now before t j state → OnOk result (IsSecond new j state)
    second_shown new cut part step keeps =
        let here = seen_by keeps in
        on_ok_more result (new.second ≡ here.items) (IsSecond new j state)
        (λ is. record {
          part = part;
          long = ap length is ∙ here.kept.long ∙ (λ i. part_length (sym cut i).vertices (chunk_of (sym cut i)) j);
          chunk = subst (λ (c : Cut). IsChunk state (first_vertex c.vertices (chunk_of c) j) new.second) (sym cut) (subst (IsChunk state (chunk_first view j)) (sym is) here.chunk);
        })
        (step here.items here.kept)

  -- the stored sums of edges, where the windows are seen by their fields
  abbrev pub early_seen : (p : Program V S) (view now : WindowState V S) (before : Told) (seen : view ≡ now) (j : ℕ) (state : ℕ → V) (edges : List Edge) → StoresEarly coding p now before j state edges → StoresEarly coding p view before j state edges
  early_seen p view now before seen j state edges early = subst (λ (x : WindowState V S). StoresEarly coding p x before j state edges) (sym seen) early

  -- the kept values of a state, in lists that are those in memory
  pub keeps_seen : (view now : WindowState V S) (before : Told) (seen : view ≡ now) (t j : ℕ) (state : ℕ → V) (even odd : List V) → even ≡ view.even → odd ≡ view.odd → Keeps coding now before t j state
      → KeepsPart value_of w view.cut view.pinned t j even odd (before Values) state
  keeps_seen view now before seen t j state even odd e o keeps =
      subst (λ (xs : List V). KeepsPart value_of w view.cut view.pinned t j xs odd (before Values) state) (sym e)
      (subst (λ (xs : List V). KeepsPart value_of w view.cut view.pinned t j view.even xs (before Values) state) (sym o)
      (subst (λ (x : WindowState V S). Keeps coding x before t j state) (sym seen) keeps))

-- the sums of edges, in a list that is that of the first window over sums
pub sums_seen : {V S : Type 0} (p : Program V S) (view now : WindowState V S) (seen : view ≡ now) (j : ℕ) (state : ℕ → V) (edges : List Edge) (xs : List S) → xs ≡ view.sums → HasSums p now j state edges
    → IsChunk (sum_at p edges state) (chunk_first view j) (take (chunk_count view j) xs)
sums_seen p view now seen j state edges xs is has =
    let here = subst (λ (x : WindowState _ _). HasSums p x j state edges) (sym seen) has in
    subst (λ (l : List _). IsChunk (sum_at p edges state) (chunk_first view j) (take (chunk_count view j) l)) (sym is) here.chunk
