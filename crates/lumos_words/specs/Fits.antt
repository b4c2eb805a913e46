-- The numbers of a request lie in the ranges of their options.
use Rattle.std.specs.Prelude.{◌≡◌, ◌≤◌, ◌<◌, ⊤, ℕ, true, List, length, IfSome, unwrap_or}
use Rattle.std.specs.List.{All}
use Rattle.lumos_words.specs.Numbers.{are_distinct}
use Rattle.lumos_words.specs.declared.request.BuildWords.{BuildWords}
use Rattle.lumos_words.specs.declared.request.IterWords.{IterWords}
use Rattle.lumos_words.specs.declared.request.ProgramWords.{ProgramWords}
use Rattle.lumos_words.specs.declared.request.ProgramWords.TheVariants as words
use Rattle.lumos_words.specs.declared.request.Request.{Request}
use Rattle.lumos_words.specs.declared.request.Request.TheVariants as requested
use Rattle.lumos_words.specs.declared.request.SeedWord.{SeedWord}
use Rattle.lumos_words.specs.Settings.{least_vertices}
use Rattle.lumos_words.specs.declared.settings.Sizes.{Sizes}
use Rattle.lumos_words.specs.declared.settings.Ways.{Ways}
use Rattle.lumos_words.specs.declared.settings.Plan.{Plan}

-- a vertex and one of four classes
pub record SeedFits (seed : SeedWord) : Type 0 where
  pub vertex : seed.vertex ≤ 268435455
  pub class : seed.class ≤ 3

-- at most 64 seeds, no vertex twice
pub record SeedsFit (seeds : List SeedWord) : Type 0 where
  pub each : All SeedFits seeds
  pub few : length seeds ≤ 64
  pub distinct : are_distinct seeds ≡ true

abbrev pub UnitFits : ℕ → Type 0
UnitFits unit = (1 ≤ unit) × (unit ≤ 9223372036854775808)

abbrev pub ProgramFits : ProgramWords → Type 0
ProgramFits (words.PageRank unit share) = UnitFits unit × (share ≤ 1000)
ProgramFits (words.Spreading unit share seeds) = UnitFits unit × ((share ≤ 1000) × SeedsFit seeds)
ProgramFits (words.Paths start) = start ≤ 268435455
ProgramFits words.Components = ⊤
ProgramFits words.Tally = ⊤

abbrev pub BudgetFits : ℕ → Type 0
BudgetFits budget = (1 ≤ budget) × (budget ≤ 1099511627776)

-- a directory has a name
pub record GridFits (grid : BuildWords) : Type 0 where
  pub dir : 0 < length grid.dir
  pub parts : IfSome grid.parts (λ n. 1 ≤ n)
  pub budget : BudgetFits grid.budget
  pub max_edges : grid.max_edges ≤ 2147483648
  pub max_bytes : grid.max_bytes ≤ 1099511627776

pub record IterFits (iterate : IterWords) : Type 0 where
  pub iterations : (1 ≤ iterate.iterations) × (iterate.iterations ≤ 1000000)
  pub budget : BudgetFits iterate.budget

-- the number of a sample's vertices is known, and isn't 0
pub record SampleFits (grid : BuildWords) (drawn : ℕ) : Type 0 where
  pub vertices : 1 ≤ unwrap_or grid.vertices 0
  pub edges : drawn ≤ 2147483648

abbrev pub RequestFits : Request → Type 0
RequestFits (requested.Run program grid iterate) = ProgramFits program × (GridFits grid × IterFits iterate)
RequestFits (requested.Build grid) = GridFits grid
RequestFits (requested.Replay program parts vertices both) = ProgramFits program × (1 ≤ parts)
RequestFits (requested.Sample program grid iterate seed edges) = ProgramFits program × (GridFits grid × (IterFits iterate × SampleFits grid edges))

-- the same of what is read option by option
pub record SizesFit (sizes : Sizes) : Type 0 where
  pub parts : IfSome sizes.parts (λ n. 1 ≤ n)
  pub iterations : (1 ≤ sizes.iterations) × (sizes.iterations ≤ 1000000)
  pub budget : BudgetFits sizes.budget
  pub max_edges : sizes.max_edges ≤ 2147483648
  pub max_bytes : sizes.max_bytes ≤ 1099511627776

pub record WaysFit (ways : Ways) : Type 0 where
  pub unit : UnitFits ways.unit
  pub share : ways.share ≤ 1000
  pub from : ways.from ≤ 268435455
  pub seeds : SeedsFit ways.seeds

pub record PlanFits (plan : Plan) : Type 0 where
  pub sizes : SizesFit plan.sizes
  pub vertices : IfSome plan.sizes.vertices (λ n. least_vertices plan.task ≤ n)
  pub ways : WaysFit plan.ways
  pub edges : plan.draws.edges ≤ 2147483648
