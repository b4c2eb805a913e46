-- What holds of the state after any legal events.
use Rattle.std.specs.Prelude.{◌≡◌, ℕ, suc, ◌<◌, ◌≤◌, Bool, true, false, List, filter, length, count_by, Option, Some, None, All}
use Rattle.flight_core.specs.Events.{State, is_mark, mark_of, kept_of, is_final, is_done, sums_of, prior}
use Rattle.lumos_base.specs.declared.records.Edge.{Edge}
use Rattle.lumos_law.specs.Program.{Program}
use Rattle.lumos_law.specs.Sync.{sum_at, values, IsChunk}
use Rattle.partition.specs.Blocks.{block, HoldOnce}
use Rattle.partition.specs.Parts.{first_vertex, part_at, part_length}

-- whether a triple was fed, by its mark
abbrev pub was_fed : Option Bool → Bool
was_fed None = false
was_fed (Some fed) = fed

-- the edges from the rows whose triple with column j was fed in iteration t, in list order
abbrev pub fed_edges : {V S : Type 0} → List Edge → ℕ → State V S → ℕ → ℕ → List Edge
fed_edges edges c s t j = filter (λ e. was_fed (mark_of s.done t (part_at c e.source.0) j)) edges

-- the list has an item for each vertex of chunk j, which is what `state` gives of the vertex
pub record IsOfChunk {X : Type 0} (n c j : ℕ) (state : ℕ → X) (xs : List X) : Type 0 where
  pub chunk : IsChunk state (first_vertex n c j) xs
  pub long : length xs ≡ part_length n c j

-- a done triple lies within the parts, and the chunk of its sources is final in the iteration before
pub record HasSource {V S : Type 0} (parts : ℕ) (s : State V S) (t i j : ℕ) : Type 0 where
  pub some_time : 0 < t
  pub row : i < parts
  pub column : j < parts
  pub source : is_final s (prior t) i ≡ true

-- chunk j is final in iteration t, and all blocks of its column are done in iteration t + 1
pub record HasColumn {V S : Type 0} (parts : ℕ) (s : State V S) (t j : ℕ) : Type 0 where
  pub before : is_final s t j ≡ true
  pub rows : (i : ℕ) → i < parts → is_done s (suc t) i j ≡ true

-- What holds after legal events, in any order, over n vertices in so many parts of c vertices.
pub record IsSound {V S : Type 0} (p : Program V S) (edges : List Edge) (n c parts : ℕ) (s : State V S) : Type 0 where
  -- the blocks hold each edge once, so that each edge lies in exactly one block
  pub blocks : HoldOnce edges n c parts
  -- final values are those of synchronous execution
  pub synchronous : (t j : ℕ) (xs : List V) → kept_of s.finals t j ≡ Some xs → IsOfChunk n c j (values p edges t) xs
  -- only the chunks are final
  pub within : (t j : ℕ) → is_final s t j ≡ true → j < parts
  -- a triple is done at most once
  pub once : (t i j : ℕ) → count_by (is_mark t i j) s.done ≤ 1
  -- the partial sums of a chunk that isn't final are the sums over the edges of exactly the blocks that were fed
  pub partial : (t j : ℕ) → j < parts → is_final s (suc t) j ≡ false
      → IsOfChunk n c j (sum_at p (fed_edges edges c s (suc t) j) (values p edges t)) (sums_of p n c s (suc t) j)
  -- a block that was skipped contributes only units
  pub silent : (t i j : ℕ) → mark_of s.done (suc t) i j ≡ Some false
      → All (λ e. p.contribution (values p edges t e.source.0) e.weight.0 ≡ p.unit) (block edges c i j)
  -- the sources of a done triple are final
  pub sources : (t i j : ℕ) → is_done s t i j ≡ true → HasSource parts s t i j
  -- iteration 0 is final
  pub starts : (j : ℕ) → j < parts → is_final s 0 j ≡ true
  -- a chunk that is final was final before, and all its rows are done
  pub whole : (t j : ℕ) → is_final s (suc t) j ≡ true → HasColumn parts s t j

-- iteration t is open: some triple of it is done, and some chunk isn't final in it
pub record IsOpen {V S : Type 0} (parts : ℕ) (s : State V S) (t : ℕ) : Type 0 where
  pub some_row : ℕ
  pub some_column : ℕ
  pub begun : is_done s t some_row some_column ≡ true
  pub left : ℕ
  pub left_below : left < parts
  pub unfinished : is_final s t left ≡ false
