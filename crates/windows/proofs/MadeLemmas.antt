-- What windows keep and show of a chunk whose values were made, in memory or in Values.
use Rattle.std.proofs.Common.{◌≡◌, ◌≢◌, inl, inr, ℕ, ◌+◌, ◌-◌, ◌*◌, ◌%◌, ◌==◌, ◌<◌, ◌≤◌, nat_lt, cond, List, length, take, drop, Option, Some, None, Result, Ok, Err, sym, ap, subst, ◌∙◌, arith}
use Rattle.std.specs.Prelude.{IfOk, IfSome, OnOk}
use Rattle.std.proofs.lemmas.Bool.{le-ltb, lt-ltb}
use Rattle.std.proofs.lemmas.List.{length-take-le}
use Rattle.lumos_depot.specs.Steps.{RoseBy}
use Rattle.lumos_law.specs.Program.{Program}
use Rattle.lumos_law.specs.Sync.{IsChunk}
use Rattle.partition.specs.Parts.{Cut, chunk_of, first_vertex, part_length, part_range}
use Rattle.partition.specs.declared.records.VertexRange.{VertexRange}
use Rattle.flight_core.specs.Finish.{applied, finish_of}
use Rattle.flight_core.specs.declared.steps.Finish.{Finish}
use Rattle.value_files.specs.Kept.{value_place}
use Rattle.value_files.specs.Records.{AreTold}
use Rattle.windows.specs.Kept.{AreFiled, KeepsPart, load_of}
use Rattle.windows.specs.Sums.{IsFirst}
use Rattle.windows.specs.Windows.{WindowState, chunk_count, chunk_first, chunk_in, put_in, shown_of, turn_list}
use Rattle.windows.proofs.KeptLemmas.{beside, chunk_long, filed_kept, kept_beside, memory_kept, shown_high, shown_low}

module _ {V S : Type 0} (new : WindowState V S) (t j : ℕ) (state : ℕ → V) where
  -- in memory
  pub memory_first : (items even odd : List V) → new.first_part ≡ j → new.first ≡ shown_of new.cut new.pinned j t items even odd → j < new.pinned → first_vertex new.cut.vertices (chunk_of new.cut) (j + 1) ≤ length (turn_list t even odd)
      → IsChunk state (chunk_first new j) (chunk_in new.cut j (turn_list t even odd)) → IsFirst new j state
  memory_first items even odd part shows low reach chunk =
      let is = shows ∙ shown_low new.cut new.pinned j t items even odd low in
      record { part = part; long = ap length is ∙ chunk_long new.cut j (turn_list t even odd) reach; chunk = subst (IsChunk state (chunk_first new j)) (sym is) chunk }

  -- in memory, by what is kept
  pub kept_first : (value_of : List ℕ → Option V) (w : ℕ) (told : Option (List ℕ)) (items even odd : List V) → new.first_part ≡ j → new.first ≡ shown_of new.cut new.pinned j t items even odd → j < new.pinned
      → KeepsPart value_of w new.cut new.pinned t j even odd told state → IsFirst new j state
  kept_first value_of w told items even odd part shows low keeps =
      let is = shows ∙ shown_low new.cut new.pinned j t items even odd low ∙ sym (keeps.kept.in_memory low) in
      record { part = part; long = ap length is ∙ keeps.kept.long; chunk = subst (IsChunk state (chunk_first new j)) (sym is) keeps.chunk }

  -- in the window
  pub window_first : (items even odd : List V) → new.first_part ≡ j → new.first ≡ shown_of new.cut new.pinned j t items even odd → new.pinned ≤ j → chunk_count new j ≤ length items
      → IsChunk state (chunk_first new j) (take (chunk_count new j) items) → IsFirst new j state
  window_first items even odd part shows high room chunk =
      let is = shows ∙ shown_high new.cut new.pinned j t items even odd high in
      record { part = part; long = ap length is ∙ length-take-le (chunk_count new j) items room; chunk = subst (IsChunk state (chunk_first new j)) (sym is) chunk }

-- the values of a state are kept
module _ {V : Type 0} (value_of : List ℕ → Option V) (w : ℕ) (cut : Cut) (pinned t j : ℕ) (state : ℕ → V) (told : Option (List ℕ)) (now_even now_odd : List V) where
  pub memory_keeps : (even odd : List V) → now_even ≡ even → now_odd ≡ odd → j < pinned → first_vertex cut.vertices (chunk_of cut) (j + 1) ≤ length (turn_list t even odd)
      → IsChunk state (first_vertex cut.vertices (chunk_of cut) j) (chunk_in cut j (turn_list t even odd)) → KeepsPart value_of w cut pinned t j now_even now_odd told state
  memory_keeps even odd e o low reach chunk = record {
    items = chunk_in cut j (turn_list t now_even now_odd);
    kept = memory_kept value_of w cut pinned t j now_even now_odd told low
        (subst (λ (xs : List V). first_vertex cut.vertices (chunk_of cut) (j + 1) ≤ length xs) (λ i. turn_list t (sym e i) (sym o i)) reach);
    chunk = subst (λ (xs : List V). IsChunk state (first_vertex cut.vertices (chunk_of cut) j) (chunk_in cut j xs)) (λ i. turn_list t (sym e i) (sym o i)) chunk;
  }

  pub file_keeps : (xs : List V) → pinned ≤ j → AreFiled value_of w cut t j told xs → IsChunk state (first_vertex cut.vertices (chunk_of cut) j) xs → KeepsPart value_of w cut pinned t j now_even now_odd told state
  file_keeps xs high filed chunk = record { items = xs; kept = filed_kept value_of w cut pinned t j now_even now_odd told xs high filed; chunk = chunk }

-- an iteration is even where the next one is odd
pub turns_differ : (t u : ℕ) → t ≡ u + 1 → u % 2 ≢ t % 2
turns_differ t u next same = omega (arith, next, same)

-- the values before stay where those of the next iteration are put
pub before_stays : {V : Type 0} (value_of : List ℕ → Option V) (w : ℕ) (cut : Cut) (pinned t u j : ℕ) (even odd even' odd' values : List V) (told : Option (List ℕ)) (state : ℕ → V) → t ≡ u + 1 → length values ≡ part_length cut.vertices (chunk_of cut) j
    → first_vertex cut.vertices (chunk_of cut) j + part_length cut.vertices (chunk_of cut) j ≤ length (turn_list t even odd)
    → even' ≡ cond (t % 2 == 1) even (put_in (first_vertex cut.vertices (chunk_of cut) j) values even) → odd' ≡ cond (t % 2 == 1) (put_in (first_vertex cut.vertices (chunk_of cut) j) values odd) odd
    → KeepsPart value_of w cut pinned u j even odd told state → KeepsPart value_of w cut pinned u j even' odd' told state
before_stays value_of w cut pinned t u j even odd even' odd' values told state next long room e o keeps = record {
  items = keeps.items;
  kept = kept_beside value_of w cut pinned t j u j even odd even' odd' values told keeps.items (inl (turns_differ t u next)) long room e o keeps.kept;
  chunk = keeps.chunk;
}

-- a window shows what it did, where values are put beside that
pub shown_beside : {X : Type 0} (cut : Cut) (pinned t j u k : ℕ) (items even odd even' odd' values : List X) → k ≢ j → length values ≡ part_length cut.vertices (chunk_of cut) j
    → first_vertex cut.vertices (chunk_of cut) j + part_length cut.vertices (chunk_of cut) j ≤ length (turn_list t even odd)
    → even' ≡ cond (t % 2 == 1) even (put_in (first_vertex cut.vertices (chunk_of cut) j) values even) → odd' ≡ cond (t % 2 == 1) (put_in (first_vertex cut.vertices (chunk_of cut) j) values odd) odd
    → shown_of cut pinned k u items even' odd' ≡ shown_of cut pinned k u items even odd
shown_beside cut pinned t j u k items even odd even' odd' values apart long room e o =
    ap (λ l. cond (nat_lt k pinned) l (take (part_length cut.vertices (chunk_of cut) k) items)) (beside cut t j u k even odd even' odd' values (inr apart) long room e o)

-- what a chunk in memory loads is nothing, and another one all
pub load_none : (cut : Cut) (w pinned j : ℕ) → j < pinned → load_of cut w pinned j ≡ 0
load_none cut w pinned j low = ap (λ b. cond b 0 (w * part_length cut.vertices (chunk_of cut) j)) (lt-ltb j pinned low)

pub load_all : (cut : Cut) (w pinned j : ℕ) → pinned ≤ j → load_of cut w pinned j ≡ w * part_length cut.vertices (chunk_of cut) j
load_all cut w pinned j high = ap (λ b. cond b 0 (w * part_length cut.vertices (chunk_of cut) j)) (le-ltb j pinned high)

-- a counter that stands rose by nothing
pub rose_none : (x y n : ℕ) → y ≡ x → n ≡ 0 → RoseBy x y n
rose_none x y n same none low = omega arith

-- what follows of an answer, and of a file that is told
pub told_on_ok : {T E : Type 0} (result : Result T E) (told : Option (List ℕ)) (P : List ℕ → Type 0) → OnOk result (IfSome told P) → IfSome told (λ file. OnOk result (P file))
told_on_ok (Ok x) told P h = h
told_on_ok (Err e) None P h = tt
told_on_ok (Err e) (Some file) P h = tt

pub on_ok_always : {T E : Type 0} (result : Result T E) (P : Type 0) → P → OnOk result P
on_ok_always (Ok x) P h = h
on_ok_always (Err e) P h = tt

pub on_ok_both : {T E : Type 0} (result : Result T E) (P Q R : Type 0) → (P → Q → R) → OnOk result P → OnOk result Q → OnOk result R
on_ok_both (Ok x) P Q R step first second = step first second
on_ok_both (Err e) P Q R step first second = tt

pub if_ok_both : {T E : Type 0} (result : Result T E) (P Q R : T → Type 0) → ((x : T) → P x → Q x → R x) → IfOk result P → IfOk result Q → IfOk result R
if_ok_both (Ok x) P Q R step first second = step x first second
if_ok_both (Err e) P Q R step first second = tt

-- what was read of an answer that is good
pub on_ok_then : {T E : Type 0} (result : Result T E) (Q : Type 0) (P : T → Type 0) → OnOk result Q → (Q → IfOk result P) → IfOk result P
on_ok_then (Ok x) Q P h step = step h
on_ok_then (Err e) Q P h step = tt

-- what the values of a chunk come out as, in its range
pub closed_range : {V S : Type 0} (p : Program V S) (cut : Cut) (j : ℕ) (r : VertexRange) (before after : List V) (sums : List S) (end : Finish) (state : ℕ → V) (sum : ℕ → S) → r ≡ part_range cut.vertices (chunk_of cut) j
    → ((state : ℕ → V) (sum : ℕ → S) → IsChunk state r.first (take (r.past - r.first) (drop r.first before)) → IsChunk sum r.first (take (r.past - r.first) sums)
    → IsChunk (applied p state sum) r.first (take (r.past - r.first) (drop r.first after)) × (end ≡ finish_of p state sum r.first (r.past - r.first)))
    → IsChunk state (first_vertex cut.vertices (chunk_of cut) j) (chunk_in cut j before) → IsChunk sum (first_vertex cut.vertices (chunk_of cut) j) (take (part_length cut.vertices (chunk_of cut) j) sums)
    → IsChunk (applied p state sum) (first_vertex cut.vertices (chunk_of cut) j) (chunk_in cut j after) × (end ≡ finish_of p state sum (first_vertex cut.vertices (chunk_of cut) j) (part_length cut.vertices (chunk_of cut) j))
closed_range p cut j r before after sums end state sum is step chunk total =
    subst (λ (x : VertexRange). IsChunk (applied p state sum) x.first (take (x.past - x.first) (drop x.first after)) × (end ≡ finish_of p state sum x.first (x.past - x.first))) is
    (step state sum
    (subst (λ (x : VertexRange). IsChunk state x.first (take (x.past - x.first) (drop x.first before))) (sym is) chunk)
    (subst (λ (x : VertexRange). IsChunk sum x.first (take (x.past - x.first) sums)) (sym is) total))

module _ {V S : Type 0} (p : Program V S) (value_of : List ℕ → Option V) (w : ℕ) (cut : Cut) (pinned t u j : ℕ) (next : t ≡ u + 1) (even odd : List V) (told : Option (List ℕ)) (state : ℕ → V) (sum : ℕ → S) (sums : List S)
    (keeps : KeepsPart value_of w cut pinned u j even odd told state) (total : IsChunk sum (first_vertex cut.vertices (chunk_of cut) j) (take (part_length cut.vertices (chunk_of cut) j) sums)) where
  -- what the values of a chunk in memory come out as
  pub closed_in_memory : (r : VertexRange) (after : List V) (end : Finish) → r ≡ part_range cut.vertices (chunk_of cut) j → j < pinned
      → ((state : ℕ → V) (sum : ℕ → S) → IsChunk state r.first (take (r.past - r.first) (drop r.first (turn_list (t - 1) even odd))) → IsChunk sum r.first (take (r.past - r.first) sums)
      → IsChunk (applied p state sum) r.first (take (r.past - r.first) (drop r.first after)) × (end ≡ finish_of p state sum r.first (r.past - r.first)))
      → IsChunk (applied p state sum) (first_vertex cut.vertices (chunk_of cut) j) (chunk_in cut j after) × (end ≡ finish_of p state sum (first_vertex cut.vertices (chunk_of cut) j) (part_length cut.vertices (chunk_of cut) j))
  closed_in_memory r after end is low step =
      let prior : u ≡ t - 1 = omega arith in
      let items : keeps.items ≡ chunk_in cut j (turn_list (t - 1) even odd) = keeps.kept.in_memory low ∙ ap (λ (k : ℕ). chunk_in cut j (turn_list k even odd)) prior in
      closed_range p cut j r (turn_list (t - 1) even odd) after sums end state sum is step (subst (IsChunk state (first_vertex cut.vertices (chunk_of cut) j)) items keeps.chunk) total

  -- the values before, which stand in the file
  pub before_filed : pinned ≤ j → AreFiled value_of w cut (t - 1) j told keeps.items
  before_filed high =
      let prior : u ≡ t - 1 = omega arith in
      record { long = keeps.kept.long; in_file = subst (λ (k : ℕ). AreTold value_of w (value_place w cut.vertices k (first_vertex cut.vertices (chunk_of cut) j)) keeps.items told) prior (keeps.kept.in_file high) }
