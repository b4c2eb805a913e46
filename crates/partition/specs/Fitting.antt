-- The least number of parts whose chunks fit a budget.
use Rattle.std.specs.Prelude.{◌≤◌, ◌<◌, ℕ, ◌-◌, ◌*◌, Bool, not, nat_lt, Option}
use Rattle.std.specs.List.{find, range_with_len}
use Rattle.partition.specs.Parts.{chunk_size}

-- how many bytes a chunk needs where n vertices are cut into p parts, and each vertex needs w bytes
abbrev pub need_at : ℕ → ℕ → ℕ → ℕ
need_at n w p = chunk_size n p * w

-- whether a chunk of p parts needs no more than b bytes
abbrev pub fits : ℕ → ℕ → ℕ → ℕ → Bool
fits n w b p = not (nat_lt b (need_at n w p))

-- the first of the numbers of parts from `first` to 256 that fits
abbrev pub least_parts : ℕ → ℕ → ℕ → ℕ → Option ℕ
least_parts n w b first = find (fits n w b) (range_with_len first (257 - first))

-- Of the numbers of parts from `first` to 256, p is the least that fits.
pub record IsLeast (n w b first p : ℕ) : Type 0 where
  pub from : first ≤ p
  pub most : p ≤ 256
  pub within : need_at n w p ≤ b
  pub least : (q : ℕ) → first ≤ q → q < p → b < need_at n w q

-- no number of parts from `first` to 256 fits
abbrev pub NoneFits : ℕ → ℕ → ℕ → ℕ → Type 0
NoneFits n w b first = (q : ℕ) → first ≤ q → q ≤ 256 → b < need_at n w q
