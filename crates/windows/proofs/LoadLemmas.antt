-- How many bytes the loads of all chunks take.
use Rattle.std.proofs.Common.{◌≡◌, ◌⊎◌, inl, inr, ℕ, zero, suc, ◌+◌, ◌-◌, ◌*◌, ◌<◌, ◌≤◌, cond, [], ◌∷◌, ◌++◌, sum_by, sym, ap, ◌∙◌, arith}
use Rattle.std.specs.List.{range_with_len}
use Rattle.std.proofs.Math.Nat.{mul_comm}
use Rattle.std.proofs.lemmas.Bool.{cases_lt, le-ltb, lt-ltb}
use Rattle.std.proofs.lemmas.List.Sums.{sum_by-append, sum_by-cons}
use Rattle.partition.specs.Parts.{Cut, chunk_of, first_vertex, part_length}
use Rattle.partition.proofs.BucketLemmas.{range_more}
use Rattle.partition.proofs.RangeLemmas.{parts_suffice}
use Rattle.value_files.proofs.RecordLemmas.{times_add}
use Rattle.windows.specs.Kept.{held_out, load_bytes, load_of}
use Rattle.windows.specs.Windows.{Coding, WindowState}
use Rattle.windows.proofs.PartLemmas.{first_later, part_ends}

module _ (cut : Cut) (w pinned : ℕ) where
  abbrev first : ℕ → ℕ
  first j = first_vertex cut.vertices (chunk_of cut) j

  -- those of the first m chunks, of which the pinned ones take none
  below : (m : ℕ) → sum_by (load_of cut w pinned) (range_with_len 0 m) ≡ w * (first m - first pinned)
  below zero = let none : first 0 - first pinned ≡ 0 = omega arith in let nothing : 0 ≡ w * 0 = omega arith in nothing ∙ ap (λ (k : ℕ). w * k) (sym none)
  below (suc m) =
      ap (sum_by (load_of cut w pinned)) (range_more 0 m ∙ ap (λ (k : ℕ). range_with_len 0 m ++ k ∷ []) (let start : 0 + m ≡ m = omega arith in start))
      ∙ sum_by-append (load_of cut w pinned) (range_with_len 0 m) (m ∷ [])
      ∙ ap (λ (k : ℕ). sum_by (load_of cut w pinned) (range_with_len 0 m) + k) (sum_by-cons (load_of cut w pinned) m [])
      ∙ step (below m) (cases_lt m pinned)
    where
      one : suc m ≡ m + 1
      one = omega arith

      step : sum_by (load_of cut w pinned) (range_with_len 0 m) ≡ w * (first m - first pinned) → (m < pinned) ⊎ (pinned ≤ m) → sum_by (load_of cut w pinned) (range_with_len 0 m) + (load_of cut w pinned m + 0) ≡ w * (first (suc m) - first pinned)
      step prior (inl low) =
          let here : load_of cut w pinned m ≡ 0 = ap (λ b. cond b 0 (w * part_length cut.vertices (chunk_of cut) m)) (lt-ltb m pinned low) in
          let before : first m - first pinned ≡ 0 = omega (arith, first_later cut.vertices (chunk_of cut) m pinned (omega arith)) in
          let after : first (suc m) - first pinned ≡ 0 = omega (arith, first_later cut.vertices (chunk_of cut) (suc m) pinned (omega arith)) in
          let had : sum_by (load_of cut w pinned) (range_with_len 0 m) ≡ w * 0 = prior ∙ ap (λ (k : ℕ). w * k) before in
          let want : w * (first (suc m) - first pinned) ≡ w * 0 = ap (λ (k : ℕ). w * k) after in
          omega (arith, here, had, want)
      step prior (inr high) =
          let here : load_of cut w pinned m ≡ w * part_length cut.vertices (chunk_of cut) m = ap (λ b. cond b 0 (w * part_length cut.vertices (chunk_of cut) m)) (le-ltb m pinned high) in
          let ends : first (suc m) ≡ first m + part_length cut.vertices (chunk_of cut) m = ap first one ∙ part_ends cut.vertices (chunk_of cut) m in
          let cutting : first (suc m) - first pinned ≡ (first m - first pinned) + part_length cut.vertices (chunk_of cut) m = omega (arith, ends, first_later cut.vertices (chunk_of cut) pinned m high) in
          let add = times_add w (first m - first pinned) (part_length cut.vertices (chunk_of cut) m) in
          let want : w * (first (suc m) - first pinned) ≡ w * (first m - first pinned + part_length cut.vertices (chunk_of cut) m) = ap (λ (k : ℕ). w * k) cutting in
          omega (arith, here, prior, add, want)

-- those of all chunks
pub loads_add_up : {V S : Type 0} (coding : Coding V S) (w : WindowState V S) → 0 < w.cut.parts → sum_by (load_bytes coding w) (range_with_len 0 w.cut.parts) ≡ held_out w * coding.value_width
loads_add_up coding w some =
    let n = w.cut.vertices in
    let c = chunk_of w.cut in
    let enough = parts_suffice n w.cut.parts some in
    let whole : first_vertex n c w.cut.parts ≡ n = omega (arith, enough) in
    below w.cut coding.value_width w.pinned w.cut.parts ∙ ap (λ (k : ℕ). coding.value_width * (k - first_vertex n c w.pinned)) whole ∙ mul_comm coding.value_width (held_out w)
