-- A function at each place of a list.
use Rattle.std.proofs.Common.{◌≡◌, ℕ, zero, suc, ◌+◌, ◌<◌, List, [], ◌∷◌, map, length, get_or, replicate, refl, ap, ◌∙◌, arith, ◌++◌, add-one, sym, ◌-◌}
use Rattle.std.specs.List.{range_with_len}
use Rattle.std.proofs.lemmas.List.{ext_get_or, get_or_default, length-replicate, map-append}
use Rattle.partition.proofs.BucketLemmas.{range_more}
use Rattle.lumos_law.specs.Sync.{IsChunk, chunk}
use Rattle.flight_core.specs.Events.{each_from}

module _ {A B : Type 0} (f : ℕ → A → B) where
  pub each_length : (first : ℕ) (xs : List A) → length (each_from f first xs) ≡ length xs
  each_length first [] = refl
  each_length first (x ∷ xs) = ap suc (each_length (first + 1) xs)

  each_at : (first : ℕ) (xs : List A) (k : ℕ) (d : B) (e : A) → k < length xs → get_or (each_from f first xs) k d ≡ f (first + k) (get_or xs k e)
  each_at first [] k d e below = absurd (omega arith)
  each_at first (x ∷ xs) zero d e below = ap (λ v. f v x) (let same : first ≡ first + 0 = omega arith in same)
  each_at first (x ∷ xs) (suc k) d e below =
      each_at (first + 1) xs k d e (omega arith) ∙ ap (λ v. f v (get_or xs k e)) (let place : first + 1 + k ≡ first + suc k = omega arith in place)

  head_of : (xs : List A) (k : ℕ) → k < length xs → A
  head_of [] k below = absurd (omega arith)
  head_of (x ∷ xs) k below = x

  -- the function at each place of a chunk
  pub chunk_each : (state : ℕ → A) (first : ℕ) (xs : List A) → IsChunk state first xs → IsChunk (λ v. f v (state v)) first (each_from f first xs)
  chunk_each state first xs held = record {
    at = λ d k below.
        let inside : k < length xs = omega (arith, each_length first xs) in
        let e = head_of xs k inside in
        each_at first xs k d e inside ∙ ap (f (first + k)) (held.at e k inside);
  }

replicate_at : {S : Type 0} (x : S) (n k : ℕ) (d : S) → k < n → get_or (replicate n x) k d ≡ x
replicate_at x zero k d below = absurd (omega arith)
replicate_at x (suc n) zero d below = refl
replicate_at x (suc n) (suc k) d below = replicate_at x n k d (omega arith)

pub chunk_replicate : {S : Type 0} (x : S) (first n : ℕ) → IsChunk (λ v. x) first (replicate n x)
chunk_replicate x first n = record { at = λ d k below. replicate_at x n k d (omega (arith, length-replicate n x)) }

map_range : {V : Type 0} (state : ℕ → V) (first n k : ℕ) (d : V) → k < n → get_or (map state (range_with_len first n)) k d ≡ state (first + k)
map_range state first zero k d below = absurd (omega arith)
map_range state first (suc n) zero d below = ap state (let same : first ≡ first + 0 = omega arith in same)
map_range state first (suc n) (suc k) d below =
    map_range state (first + 1) n k d (omega arith) ∙ ap state (let place : first + 1 + k ≡ first + suc k = omega arith in place)

pub length_chunk : {V : Type 0} (state : ℕ → V) (first n : ℕ) → length (chunk state first n) ≡ n
length_chunk state first zero = refl
length_chunk state first (suc n) = ap suc (length_chunk state (first + 1) n)

pub chunk_is : {V : Type 0} (state : ℕ → V) (first n : ℕ) → IsChunk state first (chunk state first n)
chunk_is state first n = record { at = λ d k below. map_range state first n k d (omega (arith, length_chunk state first n)) }

-- one item more of a chunk
pub chunk_one_more : {V : Type 0} (state : ℕ → V) (first n : ℕ) → chunk state first (n + 1) ≡ chunk state first n ++ state (first + n) ∷ []
chunk_one_more state first n =
    ap (chunk state first) (add-one n) ∙ ap (map state) (range_more first n) ∙ map-append state (range_with_len first n) ((first + n) ∷ [])

module _ {V : Type 0} where
  -- two lists of one state, of one length, are one list
  pub chunk_unique : (state : ℕ → V) (first : ℕ) (xs ys : List V) → length xs ≡ length ys → IsChunk state first xs → IsChunk state first ys → xs ≡ ys
  chunk_unique state first [] [] long left right = refl
  chunk_unique state first [] (y ∷ ys) long left right = absurd (omega arith)
  chunk_unique state first (x ∷ xs) ys long left right =
      ext_get_or x (x ∷ xs) ys long (λ k below. left.at x k below ∙ sym (right.at x k (omega arith)))

  -- a list as a state, with any item where it has none
  pub chunk_own : (xs : List V) (first : ℕ) (d : V) → IsChunk (λ v. get_or xs (v - first) d) first xs
  chunk_own xs first d = record {
    at = λ e k below.
        let place : k ≡ first + k - first = omega arith in
        get_or_default xs k e d below ∙ ap (λ (j : ℕ). get_or xs j d) place;
  }

-- a list that holds the function at each place is the list of it
pub each_is : {A B : Type 0} (f : ℕ → A → B) (state : ℕ → A) (first : ℕ) (xs : List A) (ys : List B) → length ys ≡ length xs → IsChunk state first xs → IsChunk (λ v. f v (state v)) first ys → ys ≡ each_from f first xs
each_is f state first xs ys long from made =
    chunk_unique (λ v. f v (state v)) first ys (each_from f first xs) (long ∙ sym (each_length f first xs)) made (chunk_each f state first xs from)
