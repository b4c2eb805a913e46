-- Parts of chunks, and chunks of equal states.
use Rattle.std.proofs.Common.{◌≡◌, ℕ, ◌⊎◌, ◌+◌, ◌-◌, ◌<◌, ◌≤◌, List, ◌++◌, length, get_or, take, drop, inl, inr, refl, ap, ◌∙◌, arith, length-append}
use Rattle.std.proofs.lemmas.Bool.{cases_lt}
use Rattle.std.proofs.lemmas.List.{length-take, length-drop, get_or-take, get_or-drop, get_or_append_left, get_or-append_right}
use Rattle.lumos_law.specs.Sync.{IsChunk}

module _ {V : Type 0} where
  -- two states that agree on the chunk
  pub chunk_same : (f h : ℕ → V) (first : ℕ) (xs : List V) → ((k : ℕ) → k < length xs → f (first + k) ≡ h (first + k)) → IsChunk f first xs → IsChunk h first xs
  chunk_same f h first xs same chunk = record { at = λ d k below. chunk.at d k below ∙ same k below }

  -- n values from place a on
  pub chunk_part : (state : ℕ → V) (first : ℕ) (xs : List V) (a n start : ℕ) → start ≡ first + a → IsChunk state first xs → IsChunk state start (take n (drop a xs))
  chunk_part state first xs a n start is chunk = record {
    at = λ d k below.
        let short = length-take n (drop a xs) in
        let rest = length-drop a xs in
        let place : first + (a + k) ≡ start + k = omega arith in
        get_or-take n (drop a xs) k d (omega arith) ∙ get_or-drop a xs k d ∙ chunk.at d (a + k) (omega arith) ∙ ap state place;
  }

  -- a chunk, and the one after it
  pub chunk_append : (state : ℕ → V) (first : ℕ) (xs ys : List V) (next : ℕ) → next ≡ first + length xs → IsChunk state first xs → IsChunk state next ys → IsChunk state first (xs ++ ys)
  chunk_append state first xs ys next is left right = record { at = λ d k below. here d k (omega (arith, length-append xs ys)) (cases_lt k (length xs)) }
    where
      here : (d : V) (k : ℕ) → k < length xs + length ys → (k < length xs) ⊎ (length xs ≤ k) → get_or (xs ++ ys) k d ≡ state (first + k)
      here d k below (inl low) = get_or_append_left xs ys d k low ∙ left.at d k low
      here d k below (inr high) =
          let place : next + (k - length xs) ≡ first + k = omega arith in
          get_or-append_right xs ys (length xs) k d refl high ∙ right.at d (k - length xs) (omega arith) ∙ ap state place
