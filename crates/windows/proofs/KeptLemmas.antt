-- Values that are kept, and that stay where others are kept.
use Rattle.std.proofs.Common.{◌≡◌, ◌≢◌, ◌⊎◌, inl, inr, ℕ, zero, suc, ◌+◌, ◌*◌, ◌%◌, ◌==◌, ◌<◌, ◌≤◌, Bool, true, false, cond, List, length, take, drop, Option, Some, None, refl, sym, ap, subst, ◌∙◌, arith, length-drop}
use Rattle.std.specs.Prelude.{IfSome, IsSome, is_some}
use Rattle.std.proofs.Math.Nat.{mod-lt}
use Rattle.std.proofs.lemmas.Bool.{cases_eq, le-ltb, lt-ltb}
use Rattle.std.proofs.lemmas.List.{length-take-le}
use Rattle.lumos_depot.specs.Files.{SameOutsideTold}
use Rattle.partition.specs.Parts.{Cut, chunk_of, first_vertex, part_length}
use Rattle.value_files.specs.Kept.{value_place}
use Rattle.value_files.specs.Records.{AreRecords, AreTold}
use Rattle.value_files.proofs.OutsideLemmas.{told_are_outside}
use Rattle.value_files.proofs.PlaceLemmas.{turns_are_apart, values_apart}
use Rattle.value_files.proofs.RecordLemmas.{are_same}
use Rattle.windows.specs.Kept.{AreFiled, AreKept, IsOther}
use Rattle.windows.specs.Windows.{chunk_in, put_in, shown_of, turn_list}
use Rattle.windows.proofs.ListLemmas.{put_apart}
use Rattle.windows.proofs.PartLemmas.{part_ends, part_inside, parts_apart}

-- what is told is told
pub told_is_some : {V : Type 0} (value_of : List ℕ → Option V) (w place : ℕ) (xs : List V) (told : Option (List ℕ)) → AreTold value_of w place xs told → is_some told ≡ true
told_is_some value_of w place xs None are = absurd are
told_is_some value_of w place xs (Some file) are = refl

-- what a window shows of a chunk in memory, and of another
pub shown_low : {X : Type 0} (cut : Cut) (pinned j t : ℕ) (items even odd : List X) → j < pinned → shown_of cut pinned j t items even odd ≡ chunk_in cut j (turn_list t even odd)
shown_low cut pinned j t items even odd low = ap (λ (b : Bool). cond b (chunk_in cut j (turn_list t even odd)) (take (part_length cut.vertices (chunk_of cut) j) items)) (lt-ltb j pinned low)

pub shown_high : {X : Type 0} (cut : Cut) (pinned j t : ℕ) (items even odd : List X) → pinned ≤ j → shown_of cut pinned j t items even odd ≡ take (part_length cut.vertices (chunk_of cut) j) items
shown_high cut pinned j t items even odd high = ap (λ (b : Bool). cond b (chunk_in cut j (turn_list t even odd)) (take (part_length cut.vertices (chunk_of cut) j) items)) (le-ltb j pinned high)

-- of two lists that are both long enough the one of a turn is
pub turn_long : {X : Type 0} (n t : ℕ) (even odd : List X) → n ≤ length even → n ≤ length odd → n ≤ length (turn_list t even odd)
turn_long n t even odd e o = by_turn (t % 2 == 1)
  where
    by_turn : (b : Bool) → n ≤ length (cond b odd even)
    by_turn true = o
    by_turn false = e

-- a chunk of a list that reaches to its end
pub chunk_long : {X : Type 0} (cut : Cut) (j : ℕ) (xs : List X) → first_vertex cut.vertices (chunk_of cut) (j + 1) ≤ length xs → length (chunk_in cut j xs) ≡ part_length cut.vertices (chunk_of cut) j
chunk_long cut j xs reach =
    let first = first_vertex cut.vertices (chunk_of cut) j in
    let ends = part_ends cut.vertices (chunk_of cut) j in
    length-take-le (part_length cut.vertices (chunk_of cut) j) (drop first xs) (omega (arith, ends, length-drop first xs))

-- values that are put where those of chunk j after iteration t stand leave what stands of other chunks, or after other iterations
module _ {X : Type 0} (cut : Cut) (t j u k : ℕ) (even odd even' odd' values : List X) where
  pub beside : IsOther t j u k → length values ≡ part_length cut.vertices (chunk_of cut) j → first_vertex cut.vertices (chunk_of cut) j + part_length cut.vertices (chunk_of cut) j ≤ length (turn_list t even odd)
      → even' ≡ cond (t % 2 == 1) even (put_in (first_vertex cut.vertices (chunk_of cut) j) values even) → odd' ≡ cond (t % 2 == 1) (put_in (first_vertex cut.vertices (chunk_of cut) j) values odd) odd
      → chunk_in cut k (turn_list u even' odd') ≡ chunk_in cut k (turn_list u even odd)
  beside other long room e o = by_other other
    where
      place : ℕ → ℕ
      place i = first_vertex cut.vertices (chunk_of cut) i

      count : ℕ → ℕ
      count i = part_length cut.vertices (chunk_of cut) i

      reach : k ≢ j → (place k + count k ≤ place j) ⊎ (place j + length values ≤ place k)
      reach apart = subst (λ (m : ℕ). (place k + count k ≤ place j) ⊎ (place j + m ≤ place k)) (sym long) (parts_apart cut.vertices (chunk_of cut) j k apart)

      room_at : {a : ℕ} → a ≡ t % 2 → place j + count j ≤ length (cond (a == 1) odd even)
      room_at {a = a} ta = subst (λ (m : ℕ). place j + count j ≤ length (cond (m == 1) odd even)) (sym ta) room

      bits : (a b : ℕ) → a ≡ t % 2 → b ≡ u % 2 → a < 2 → b < 2 → (a ≢ b) ⊎ (k ≢ j) → chunk_in cut k (turn_list u even' odd') ≡ chunk_in cut k (turn_list u even odd)
      bits zero zero ta ub la lb (inl apart) = absurd (apart refl)
      bits (suc zero) (suc zero) ta ub la lb (inl apart) = absurd (apart refl)
      bits zero zero ta ub la lb (inr apart) = (λ i. chunk_in cut k (cond (sym ub i == 1) odd' even')) ∙ ap (chunk_in cut k) (e ∙ (λ i. cond (sym ta i == 1) even (put_in (place j) values even)))
          ∙ put_apart (place j) values even (omega (arith, long, room_at ta)) (place k) (count k) (reach apart) ∙ (λ i. chunk_in cut k (cond (ub i == 1) odd even))
      bits (suc zero) (suc zero) ta ub la lb (inr apart) = (λ i. chunk_in cut k (cond (sym ub i == 1) odd' even')) ∙ ap (chunk_in cut k) (o ∙ (λ i. cond (sym ta i == 1) (put_in (place j) values odd) odd))
          ∙ put_apart (place j) values odd (omega (arith, long, room_at ta)) (place k) (count k) (reach apart) ∙ (λ i. chunk_in cut k (cond (ub i == 1) odd even))
      bits zero (suc zero) ta ub la lb apart = (λ i. chunk_in cut k (cond (sym ub i == 1) odd' even')) ∙ ap (chunk_in cut k) (o ∙ (λ i. cond (sym ta i == 1) (put_in (place j) values odd) odd)) ∙ (λ i. chunk_in cut k (cond (ub i == 1) odd even))
      bits (suc zero) zero ta ub la lb apart = (λ i. chunk_in cut k (cond (sym ub i == 1) odd' even')) ∙ ap (chunk_in cut k) (e ∙ (λ i. cond (sym ta i == 1) even (put_in (place j) values even))) ∙ (λ i. chunk_in cut k (cond (ub i == 1) odd even))
      bits (suc (suc a)) b ta ub la lb apart = absurd (omega arith)
      bits a (suc (suc b)) ta ub la lb apart = absurd (omega arith)

      by_other : IsOther t j u k → chunk_in cut k (turn_list u even' odd') ≡ chunk_in cut k (turn_list u even odd)
      by_other (inl turn) = bits (t % 2) (u % 2) refl refl (mod-lt t (omega arith)) (mod-lt u (omega arith)) (inl (λ same. turn (sym same)))
      by_other (inr apart) = bits (t % 2) (u % 2) refl refl (mod-lt t (omega arith)) (mod-lt u (omega arith)) (inr apart)

module _ {V : Type 0} (value_of : List ℕ → Option V) (w : ℕ) where
  -- told values are one list
  pub told_same_list : (place : ℕ) (xs ys : List V) (told : Option (List ℕ)) → length xs ≡ length ys → AreTold value_of w place xs told → IfSome told (AreRecords value_of w place ys) → ys ≡ xs
  told_same_list place xs ys None long first second = absurd first
  told_same_list place xs ys (Some file) long first second = sym (are_same value_of w place xs ys file long first second)

  pub told_now : (place : ℕ) (xs : List V) (told : Option (List ℕ)) → IsSome told → IfSome told (AreRecords value_of w place xs) → AreTold value_of w place xs told
  told_now place xs None some is = absurd (let e : false ≡ true = some in cc)
  told_now place xs (Some file) some is = is

  module _ (cut : Cut) (pinned : ℕ) where
    abbrev first : ℕ → ℕ
    first j = first_vertex cut.vertices (chunk_of cut) j

    abbrev len : ℕ → ℕ
    len j = part_length cut.vertices (chunk_of cut) j

    -- values of a chunk that isn't in memory stand in the file
    pub kept_filed : (t j : ℕ) (even odd : List V) (told : Option (List ℕ)) (xs : List V) → pinned ≤ j → AreKept value_of w cut pinned t j even odd told xs → AreFiled value_of w cut t j told xs
    kept_filed t j even odd told xs high kept = record { long = kept.long; in_file = kept.in_file high }

    pub filed_kept : (t j : ℕ) (even odd : List V) (told : Option (List ℕ)) (xs : List V) → pinned ≤ j → AreFiled value_of w cut t j told xs → AreKept value_of w cut pinned t j even odd told xs
    filed_kept t j even odd told xs high filed = record { long = filed.long; in_memory = λ low. absurd (omega arith); in_file = λ _. filed.in_file }

    -- values in memory
    pub memory_kept : (t j : ℕ) (even odd : List V) (told : Option (List ℕ)) → j < pinned → first (j + 1) ≤ length (turn_list t even odd) → AreKept value_of w cut pinned t j even odd told (chunk_in cut j (turn_list t even odd))
    memory_kept t j even odd told low reach = record { long = chunk_long cut j (turn_list t even odd) reach; in_memory = λ _. refl; in_file = λ high. absurd (omega arith) }

    -- nothing changed
    pub kept_same : (t j : ℕ) (even odd even' odd' : List V) (old new : Option (List ℕ)) (xs : List V) → even' ≡ even → odd' ≡ odd → new ≡ old → AreKept value_of w cut pinned t j even odd old xs → AreKept value_of w cut pinned t j even' odd' new xs
    kept_same t j even odd even' odd' old new xs e o told kept = record {
      long = kept.long;
      in_memory = λ low. kept.in_memory low ∙ (λ i. chunk_in cut j (turn_list t (sym e i) (sym o i)));
      in_file = λ high. subst (AreTold value_of w (value_place w cut.vertices t (first j)) xs) (sym told) (kept.in_file high);
    }

    -- a write of the values of a part into Values leaves the others
    pub kept_outside : (t j u k : ℕ) (even odd : List V) (old new : Option (List ℕ)) (xs : List V) → IsOther t j u k → SameOutsideTold (value_place w cut.vertices t (first j)) (w * len j) old new → AreKept value_of w cut pinned u k even odd old xs → AreKept value_of w cut pinned u k even odd new xs
    kept_outside t j u k even odd old new xs other same kept = record {
      long = kept.long;
      in_memory = kept.in_memory;
      in_file = λ high. told_are_outside value_of w (value_place w cut.vertices t (first j)) (w * len j) (value_place w cut.vertices u (first k)) xs old new same (apart_by other) (kept.in_file high);
    }
      where
        long : length xs ≡ len k
        long = kept.long

        grow : (value_place w cut.vertices u (first k) + w * len k ≤ value_place w cut.vertices t (first j)) ⊎ (value_place w cut.vertices t (first j) + w * len j ≤ value_place w cut.vertices u (first k))
            → (value_place w cut.vertices u (first k) + w * length xs ≤ value_place w cut.vertices t (first j)) ⊎ (value_place w cut.vertices t (first j) + w * len j ≤ value_place w cut.vertices u (first k))
        grow h = subst (λ (m : ℕ). (value_place w cut.vertices u (first k) + w * m ≤ value_place w cut.vertices t (first j)) ⊎ (value_place w cut.vertices t (first j) + w * len j ≤ value_place w cut.vertices u (first k))) (sym long) h

        turn_cases : (u % 2 ≡ t % 2) ⊎ (u % 2 ≢ t % 2) → k ≢ j → (value_place w cut.vertices u (first k) + w * len k ≤ value_place w cut.vertices t (first j)) ⊎ (value_place w cut.vertices t (first j) + w * len j ≤ value_place w cut.vertices u (first k))
        turn_cases (inl same_turn) apart =
            let ends = values_apart w cut.vertices t (first k) (len k) (first j) (len j) (parts_apart cut.vertices (chunk_of cut) j k apart) in
            subst (λ (b : ℕ). ((b * cut.vertices + first k) * w + w * len k ≤ value_place w cut.vertices t (first j)) ⊎ (value_place w cut.vertices t (first j) + w * len j ≤ (b * cut.vertices + first k) * w)) (sym same_turn) ends
        turn_cases (inr turn) apart =
            turns_are_apart w cut.vertices u t (first k) (len k) (first j) (len j) turn (part_inside cut.vertices (chunk_of cut) k) (part_inside cut.vertices (chunk_of cut) j)

        apart_by : IsOther t j u k → (value_place w cut.vertices u (first k) + w * length xs ≤ value_place w cut.vertices t (first j)) ⊎ (value_place w cut.vertices t (first j) + w * len j ≤ value_place w cut.vertices u (first k))
        apart_by (inl turn) =
            grow (turns_are_apart w cut.vertices u t (first k) (len k) (first j) (len j) turn (part_inside cut.vertices (chunk_of cut) k) (part_inside cut.vertices (chunk_of cut) j))
        apart_by (inr apart) = grow (turn_cases (cases_eq (u % 2) (t % 2)) apart)

    -- values that are put into those in memory leave the others there
    pub kept_beside : (t j u k : ℕ) (even odd even' odd' values : List V) (told : Option (List ℕ)) (xs : List V) → IsOther t j u k → length values ≡ len j → first j + len j ≤ length (turn_list t even odd)
        → even' ≡ cond (t % 2 == 1) even (put_in (first j) values even) → odd' ≡ cond (t % 2 == 1) (put_in (first j) values odd) odd
        → AreKept value_of w cut pinned u k even odd told xs → AreKept value_of w cut pinned u k even' odd' told xs
    kept_beside t j u k even odd even' odd' values told xs other long room e o kept = record {
      long = kept.long;
      in_memory = λ low. kept.in_memory low ∙ sym (beside cut t j u k even odd even' odd' values other long room e o);
      in_file = kept.in_file;
    }
