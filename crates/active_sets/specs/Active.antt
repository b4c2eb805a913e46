-- Which chunks are hot: some vertex of a hot chunk contributes.
use Rattle.std.specs.Prelude.{ℕ, Bool, false, List, replicate, slice_index_or}

-- how many parts there are, and which of them were hot in the iteration before and are in the current one
pub record ActiveState : Type 0 where
  pub parts : ℕ
  pub was_hot : List Bool
  pub is_hot : List Bool

-- nothing is hot: one truth value for each of the most parts that there can be
abbrev pub none_hot : List Bool
none_hot = replicate 256 false

-- whether chunk i is hot by these values
abbrev pub hot_at : List Bool → ℕ → Bool
hot_at flags i = slice_index_or flags i false
