-- A vertex that is over, by a value and a sum that are at hand.
use Rattle.std.proofs.Common.{◌≡◌, ℕ, zero, suc, ◌+◌, ◌-◌, Bool, true, false, cond, List, length, get_or, Option, Some, None, find, option_map, refl, sym, ap, ap₂, ◌∙◌, arith}
use Rattle.std.specs.Prelude.{IfSome}
use Rattle.std.specs.List.{range_with_len}
use Rattle.std.proofs.lemmas.List.{get_or_default}
use Rattle.lumos_base.specs.Leaving.{no_info}
use Rattle.lumos_base.specs.Records.{vertex_of}
use Rattle.lumos_base.specs.declared.records.Vertex.{Vertex}
use Rattle.lumos_law.specs.Program.{Program}
use Rattle.lumos_law.specs.Sync.{IsChunk}
use Rattle.partition.specs.Parts.{IsWithin}
use Rattle.flight_core.specs.Finish.{finish_of}
use Rattle.flight_core.specs.declared.steps.Finish.{Finish}

passes_by : (q : ℕ → Bool) (a n v : ℕ) (b : Bool) → q a ≡ b → (find q (range_with_len (a + 1) n) ≡ Some v → IsWithin (a + 1) n v × (q v ≡ true)) → cond b (Some a) (find q (range_with_len (a + 1) n)) ≡ Some v → IsWithin a (suc n) v × (q v ≡ true)
passes_by q a n v true is rest found =
    let same : a ≡ v = cc in (record { low = omega arith; high = omega arith }, ap q (sym same) ∙ is)
passes_by q a n v false is rest found =
    let later = rest found in
    let low = later.0.low in
    let high = later.0.high in (record { low = omega arith; high = omega arith }, later.1)

-- the number that is found is one of the range, and passes
found_passes : (q : ℕ → Bool) (a n v : ℕ) → find q (range_with_len a n) ≡ Some v → IsWithin a n v × (q v ≡ true)
found_passes q a zero v found = absurd (cc)
found_passes q a (suc n) v found = passes_by q a n v (q a) refl (found_passes q (a + 1) n v) found

-- two facts of one vertex
pub over_both : (o : Option Vertex) (P Q : Vertex → Type 0) → IfSome o P → IfSome o Q → IfSome o (λ v. P v × Q v)
over_both None P Q first second = tt
over_both (Some v) P Q first second = (first, second)

-- what a list has for the vertices from `first` on
abbrev pub list_state : {X : Type 0} → List X → ℕ → X → ℕ → X
list_state xs first x u = get_or xs (u - first) x

pub list_chunk : {X : Type 0} (xs : List X) (first : ℕ) (x : X) → IsChunk (list_state xs first x) first xs
list_chunk xs first x = record {
  at = λ d k below.
      let place : k ≡ first + k - first = omega arith in
      get_or_default xs k d x below ∙ ap (λ (i : ℕ). get_or xs i x) place;
}

over_some : (o : Option ℕ) (u : Vertex) → option_map vertex_of o ≡ Some u → o ≡ Some u.0
over_some None u h = absurd (cc)
over_some (Some k) u h = ap (λ (w : Option Vertex). option_map (λ (x : Vertex). x.0) w) h

module _ {V S : Type 0} (p : Program V S) (first : ℕ) (before : List V) (sums : List S) (long : length sums ≡ length before) (end : Finish) (n : ℕ) (all : n ≡ length before)
    (step : (state : ℕ → V) (sum : ℕ → S) → IsChunk state first before → IsChunk sum first sums → end ≡ finish_of p state sum first n) where
  abbrev state : ℕ → V
  state = list_state before first (p.init 0 no_info)

  abbrev sum : ℕ → S
  sum = list_state sums first p.unit

  passes : (v : Vertex) → end.over ≡ Some v → IsWithin first (length before) v.0 × (p.over v.0 (state v.0) (sum v.0) ≡ true)
  passes v over =
      let came = step state sum (list_chunk before first (p.init 0 no_info)) (list_chunk sums first p.unit) ∙ ap (finish_of p state sum first) all in
      found_passes (λ u. p.over u (state u) (sum u)) first (length before) v.0 (over_some _ v (sym (ap (λ (f : Finish). f.over) came) ∙ over))

  -- it is one of the vertices
  pub over_within : (o : Option Vertex) → end.over ≡ o → IfSome o (λ v. IsWithin first (length before) v.0)
  over_within None is = tt
  over_within (Some v) is = (passes v is).0

  -- it is over by the value and the sum that stand at its place
  pub over_at : (o : Option Vertex) → end.over ≡ o → IfSome o (λ v. (x : V) (s : S) → x ≡ get_or before (v.0 - first) x → s ≡ get_or sums (v.0 - first) s → p.over v.0 x s ≡ true)
  over_at None is = tt
  over_at (Some v) is = λ x s is_x is_s.
      let low = (passes v is).0.low in
      let high = (passes v is).0.high in
      let value : x ≡ state v.0 = is_x ∙ get_or_default before (v.0 - first) x (p.init 0 no_info) (omega arith) in
      let total : s ≡ sum v.0 = is_s ∙ get_or_default sums (v.0 - first) s p.unit (omega arith) in
      ap₂ (λ (a : V) (b : S). p.over v.0 a b) value total ∙ (passes v is).1
