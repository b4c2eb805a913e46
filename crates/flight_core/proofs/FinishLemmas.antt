-- Ranges of vertices, one after the other, in what `finalise` says and sets.
use Rattle.std.proofs.Common.{◌≡◌, ◌⊎◌, ℕ, zero, suc, ◌+◌, ◌<◌, ◌≤◌, Bool, true, false, cond, ◌||◌, List, ◌∷◌, ◌++◌, length, get_or, set, take, Option, Some, None, count_by, find, option_map, refl, sym, ap, ◌∙◌, inl, inr, arith}
use Rattle.std.specs.List.{range_with_len, list_any}
use Rattle.std.specs.Option.{option_or}
use Rattle.std.proofs.lemmas.Bool.{cases_eq}
use Rattle.std.proofs.lemmas.List.{length-set, length-take, get_or-take, get_or-set_same, get_or-set_other}
use Rattle.std.proofs.lemmas.List.Folds.{find-append, list_any-append}
use Rattle.std.proofs.lemmas.List.Sums.{sum_by-append}
use Rattle.flight_core.specs.Finish.{applied, finish_of, joined_end, vertex_end, noted_end}
use Rattle.flight_core.specs.declared.steps.Finish.{Finish}
use Rattle.lumos_base.specs.Records.{vertex_of}
use Rattle.lumos_base.specs.declared.records.Vertex.{Vertex}
use Rattle.lumos_law.specs.Program.{Program}
use Rattle.lumos_law.specs.Sync.{IsChunk}

range_cut : (a n m : ℕ) → range_with_len a (n + m) ≡ range_with_len a n ++ range_with_len (a + n) m
range_cut a zero m =
    let length : 0 + m ≡ m = omega arith in
    let first : a ≡ a + 0 = omega arith in
    ap (λ (k : ℕ). range_with_len a k) length ∙ ap (λ (b : ℕ). range_with_len b m) first
range_cut a (suc n) m =
    let length : suc n + m ≡ suc (n + m) = omega arith in
    let place : a + 1 + n ≡ a + suc n = omega arith in
    ap (λ (k : ℕ). range_with_len a k) length
    ∙ ap (λ l. a ∷ l) (range_cut (a + 1) n m ∙ ap (λ (b : ℕ). range_with_len (a + 1) n ++ range_with_len b m) place)

mapped_two : (l m : Option ℕ) → option_map vertex_of (option_or l m) ≡ option_or (option_map vertex_of l) (option_map vertex_of m)
mapped_two (Some x) m = refl
mapped_two None m = refl

mapped_one : (b : Bool) (v : ℕ) → option_map vertex_of (cond b (Some v) None) ≡ cond b (Some (vertex_of v)) None
mapped_one true v = refl
mapped_one false v = refl

or_false : (b : Bool) → (b || false) ≡ b
or_false true = refl
or_false false = refl

abbrev finish_parts : ℕ → Bool → Option Vertex → Finish
finish_parts moved hot over = record { moved = moved; hot = hot; over = over }

module _ {V S : Type 0} (p : Program V S) (state : ℕ → V) (sum : ℕ → S) where
  abbrev moves : ℕ → Bool
  moves v = p.moved (state v) (applied p state sum v)

  abbrev gives : ℕ → Bool
  gives v = p.contributes (applied p state sum v)

  abbrev ends : ℕ → Bool
  ends v = p.over v (state v) (sum v)

  -- one range of vertices, and the next
  pub finish_join : (first n m : ℕ) → finish_of p state sum first (n + m) ≡ joined_end (finish_of p state sum first n) (finish_of p state sum (first + n) m)
  finish_join first n m =
      let cut = range_cut first n m in
      let low = range_with_len first n in
      let high = range_with_len (first + n) m in
      let moved = ap (count_by moves) cut ∙ sum_by-append (λ u. cond (moves u) 1 0) low high in
      let hot = ap (list_any gives) cut ∙ list_any-append gives low high in
      let over = ap (λ l. option_map vertex_of (find ends l)) cut ∙ ap (option_map vertex_of) (find-append ends low high) ∙ mapped_two (find ends low) (find ends high) in
      λ i. finish_parts (moved i) (hot i) (over i)

  -- one vertex alone
  finish_one : (v : ℕ) → finish_of p state sum v 1 ≡ vertex_end (vertex_of v) (moves v) (gives v) (ends v)
  finish_one v =
      let moved : 0 + cond (moves v) 1 0 ≡ cond (moves v) 1 0 = omega arith in
      let hot = or_false (gives v) in
      let over = mapped_one (ends v) v in
      λ i. finish_parts (moved i) (hot i) (over i)

  -- one vertex more
  pub finish_more : (first n : ℕ) → finish_of p state sum first (n + 1) ≡ noted_end (finish_of p state sum first n) (vertex_of (first + n)) (moves (first + n)) (gives (first + n)) (ends (first + n))
  finish_more first n = finish_join first n 1 ∙ ap (joined_end (finish_of p state sum first n)) (finish_one (first + n))

-- one value more of a chunk
pub chunk_more : {V : Type 0} (state : ℕ → V) (first : ℕ) (xs : List V) (i : ℕ) (new : V) → i < length xs → IsChunk state first (take i xs) → new ≡ state (first + i) → IsChunk state first (take (i + 1) (set xs i new))
chunk_more {V} state first xs i new within chunk is = record { at = λ d k below. here d k (omega (arith, length-take (i + 1) (set xs i new), length-set xs i new)) (cases_eq k i) }
  where
    here : (d : V) (k : ℕ) → k < i + 1 → (k ≡ i) ⊎ (k ≡ i → ⊥) → get_or (take (i + 1) (set xs i new)) k d ≡ state (first + k)
    here d k below (inl same) =
        get_or-take (i + 1) (set xs i new) k d below ∙ ap (λ j. get_or (set xs i new) j d) same ∙ get_or-set_same xs i new d within ∙ is ∙ ap (λ j. state (first + j)) (sym same)
    here d k below (inr apart) =
        let lower : k < i = omega arith in
        get_or-take (i + 1) (set xs i new) k d below ∙ get_or-set_other xs i k new d apart ∙ sym (get_or-take i xs k d lower) ∙ chunk.at d k (omega (arith, length-take i xs))

-- one vertex more is at most one move more
pub noted_few : (end : Finish) (v : Vertex) (m h o : Bool) (i : ℕ) → end.moved ≤ i → (noted_end end v m h o).moved ≤ i + 1
noted_few end v true h o i few = omega arith
noted_few end v false h o i few = omega arith

-- one vertex more, by equal parts
pub noted_same : (end end' : Finish) (v : Vertex) (m h o m' h' o' : Bool) → end ≡ end' → m ≡ m' → h ≡ h' → o ≡ o' → noted_end end v m h o ≡ noted_end end' v m' h' o'
noted_same end end' v m h o m' h' o' e em eh eo = λ i. noted_end (e i) v (em i) (eh i) (eo i)
