-- How many parts a grid gets by what was chosen.
use Rattle.std.specs.Prelude.{◌<◌, ◌≤◌, ℕ, Result, Ok}
use Rattle.std.specs.Option.{ok_or}
use Rattle.partition.specs.Fitting.{least_parts, need_at}
use Rattle.grid_build.specs.declared.options.BuildFault.{BuildFault}
use Rattle.grid_build.specs.declared.options.BuildFault.TheVariants.{BudgetTooSmall}
use Rattle.grid_build.specs.declared.options.PartsChoice.{PartsChoice}
use Rattle.grid_build.specs.declared.options.PartsChoice.TheVariants.{Stated, Fitted}

-- what may be chosen: 1 to 256 parts, or at most 256 bytes for each vertex
abbrev pub MayChoose : PartsChoice → Type 0
MayChoose (Stated parts) = (0 < parts) × (parts ≤ 256)
MayChoose (Fitted per_vertex budget) = per_vertex ≤ 256

-- The parts that n vertices get: those stated; or the least number from 16 to 256 that fits the budget, and where there
-- is none the refusal, with what 256 parts need.
abbrev pub parts_for : PartsChoice → ℕ → Result ℕ BuildFault
parts_for (Stated parts) n = Ok parts
parts_for (Fitted per_vertex budget) n = ok_or (least_parts n per_vertex budget 16) (BudgetTooSmall (need_at n per_vertex 256) budget)
