-- Synchronous execution, by folds over the whole list of edges.
use Rattle.std.specs.Prelude.{◌≡◌, ◌==◌, ℕ, zero, suc, ◌+◌, Bool, List, map, filter, length, count_by, Option, Some, None, find, slice_index_or, ◌<◌}
use Rattle.std.specs.List.{range_with_len}
use Rattle.lumos_base.specs.Leaving.{out_info}
use Rattle.lumos_base.specs.declared.records.Edge.{Edge}
use Rattle.lumos_law.specs.Joins.{join_from}
use Rattle.lumos_law.specs.Program.{Program}

-- the edges whose target is v, in list order
abbrev pub edges_into : List Edge → ℕ → List Edge
edges_into edges v = filter (λ e. e.target.0 == v) edges

module _ {V S : Type 0} (p : Program V S) where
  -- what the edges into v contribute where each vertex u has the value `state u`, in list order
  abbrev pub contributions : List Edge → (ℕ → V) → ℕ → List S
  contributions edges state v = map (λ e. p.contribution (state e.source.0) e.weight.0) (edges_into edges v)

  -- a first sum, with what the edges into v contribute joined to it
  abbrev pub fed_sum : List Edge → (ℕ → V) → ℕ → S → S
  fed_sum edges state v first = join_from p.join first (contributions edges state v)

  -- the sum at v: the join, from the unit, of what the edges into v contribute
  abbrev pub sum_at : List Edge → (ℕ → V) → ℕ → S
  sum_at edges state v = fed_sum edges state v p.unit

  -- the values after the next iteration, each made of values before it alone
  abbrev pub next_values : List Edge → (ℕ → V) → ℕ → V
  next_values edges state v = p.apply v (state v) (sum_at edges state v)

  -- the values after t iterations, from the first values on
  abbrev pub values : List Edge → ℕ → ℕ → V
  values edges zero v = p.init v (out_info edges v)
  values edges (suc t) v = next_values edges (values edges t) v

  -- whether v is over in iteration t + 1
  abbrev pub is_over : List Edge → ℕ → ℕ → Bool
  is_over edges t v = p.over v (values edges t v) (sum_at edges (values edges t) v)

  -- how many of the first n vertices move in iteration t + 1
  abbrev pub moved_count : List Edge → ℕ → ℕ → ℕ
  moved_count edges n t = count_by (λ v. p.moved (values edges t v) (values edges (suc t) v)) (range_with_len 0 n)

-- how a run ends: some vertex was over in an iteration, nothing moved in one, or all that were asked for were done
pub data Ending : Type 0 where
  -- in this iteration this vertex was over, and none below it
  over_in : ℕ → ℕ → Ending
  -- in this iteration nothing moved
  still_in : ℕ → Ending
  -- this many iterations were done
  limit_at : ℕ → Ending

-- how a run ends from iteration t on, by the least vertex over in it, how many moved in it, and how it ends after it
abbrev pub ending_by : ℕ → Option ℕ → ℕ → Ending → Ending
ending_by t (Some v) moved later = over_in t v
ending_by t None zero later = still_in t
ending_by t None (suc k) later = later

module _ {V S : Type 0} (p : Program V S) where
  -- how the iterations after the first t end, over n vertices, where `left` more are asked for
  abbrev pub ending_from : List Edge → ℕ → ℕ → ℕ → Ending
  ending_from edges n zero t = limit_at t
  ending_from edges n (suc left) t =
      ending_by (suc t) (find (is_over p edges t) (range_with_len 0 n)) (moved_count p edges n t) (ending_from edges n left (suc t))

  -- how a run of at most `limit` iterations over n vertices ends
  abbrev pub ending : List Edge → ℕ → ℕ → Ending
  ending edges n limit = ending_from edges n limit 0

-- the values of the n vertices from `first` on, as a list
abbrev pub chunk : {V : Type 0} → (ℕ → V) → ℕ → ℕ → List V
chunk state first n = map state (range_with_len first n)

-- the list holds what `state` gives of the vertices from `first` on
pub record IsChunk {V : Type 0} (state : ℕ → V) (first : ℕ) (xs : List V) : Type 0 where
  pub at : (d : V) (k : ℕ) → k < length xs → slice_index_or xs k d ≡ state (first + k)
