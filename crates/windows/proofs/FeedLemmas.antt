-- Sums of a chunk that go on, and sums of nothing.
use Rattle.std.proofs.Common.{◌≡◌, ℕ, ◌+◌, ◌-◌, ◌<◌, List, [], ◌++◌, length, get_or, take, replicate, sym, ap, subst, ◌∙◌, arith}
use Rattle.std.proofs.lemmas.List.{get_or-replicate, get_or-take, length-replicate, length-take}
use Rattle.lumos_base.specs.declared.records.Edge.{Edge}
use Rattle.lumos_law.specs.Program.{Program}
use Rattle.lumos_law.specs.Sync.{fed_sum, sum_at, IsChunk}
use Rattle.lumos_law.proofs.ChunkLemmas.{chunk_same}
use Rattle.lumos_law.proofs.SumLemmas.{fed_sum-append}

module _ {V S : Type 0} (p : Program V S) where
  -- the sums of a chunk go on by edges, whatever the range is called
  pub fed_on : (first from into_first into_past begin count : ℕ) (state : ℕ → V) (before edges : List Edge) (values : List V) (old new : List S) → first ≡ from → into_first ≡ begin → into_past - into_first ≡ count
      → IsChunk state from values → IsChunk (sum_at p before state) begin (take count old)
      → ((state : ℕ → V) (first_sum : ℕ → S) → IsChunk state first values → IsChunk first_sum into_first (take (into_past - into_first) old) → IsChunk (λ v. fed_sum p edges state v (first_sum v)) into_first (take (into_past - into_first) new))
      → IsChunk (sum_at p (before ++ edges) state) begin (take count new)
  fed_on first from into_first into_past begin count state before edges values old new from_is begin_is count_is held sums fed =
      let here : IsChunk state first values = subst (λ (f : ℕ). IsChunk state f values) (sym from_is) held in
      let there : IsChunk (sum_at p before state) into_first (take (into_past - into_first) old) =
      subst (λ (f : ℕ). IsChunk (sum_at p before state) f (take (into_past - into_first) old)) (sym begin_is) (subst (λ (k : ℕ). IsChunk (sum_at p before state) begin (take k old)) (sym count_is) sums) in
      let came = fed state (sum_at p before state) here there in
      chunk_same _ _ begin (take count new) (λ m below. sym (fed_sum-append p state (begin + m) before edges p.unit))
      (subst (λ (f : ℕ). IsChunk (λ v. fed_sum p edges state v (sum_at p before state v)) f (take count new)) begin_is
      (subst (λ (k : ℕ). IsChunk (λ v. fed_sum p edges state v (sum_at p before state v)) into_first (take k new)) count_is came))

  -- sums of nothing
  pub cleared : (first n m : ℕ) (state : ℕ → V) (unit : S) (xs : List S) → p.unit ≡ unit → xs ≡ replicate m unit → IsChunk (sum_at p [] state) first (take n xs)
  cleared first n m state unit xs unit_is is = record {
    at = λ d k below.
        let short : k < n = omega (arith, length-take n xs, below) in
        let inside : k < m = omega (arith, length-take n xs, below, ap length is, length-replicate m unit) in
        get_or-take n xs k d short ∙ ap (λ l. get_or l k d) is ∙ get_or-replicate m k unit d inside ∙ sym unit_is;
  }
