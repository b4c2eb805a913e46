-- How a grid is built for a command.
use Rattle.std.specs.Prelude.{◌≡◌, ◌≤◌, ℕ, List, IfSome, All, IsSome, Option, Some, None}
use Rattle.edge_text.specs.Reading.{Listed}
use Rattle.edge_text.specs.declared.fault.TextFault.TheVariants as text
use Rattle.edge_text.specs.declared.fault.TextLimits.{TextLimits}
use Rattle.lumos_base.specs.Records.{IsEdge}
use Rattle.lumos_depot.specs.declared.depot.FileKind.{FileKind}
use Rattle.lumos_depot.specs.declared.depot.FileKind.TheVariants as file
use Rattle.grid_build.specs.declared.options.BuildFault.{BuildFault}
use Rattle.grid_build.specs.declared.options.BuildFault.TheVariants as fault
use Rattle.grid_build.specs.declared.options.PartsChoice.{PartsChoice}
use Rattle.grid_build.specs.declared.options.PartsChoice.TheVariants.{Stated, Fitted}
use Rattle.grid_format.specs.Grid.{HasGrid, grid, grid_head}
use Rattle.grid_format.specs.Outside.{Holds}
use Rattle.grid_format.specs.declared.head.GridInfo.{GridInfo}
use Rattle.lumos_top.specs.Answers.{window_bytes}
use Rattle.lumos_top.specs.declared.status.Outside.TheVariants as outside
use Rattle.lumos_top.specs.declared.status.Refusal.TheVariants as refuse
use Rattle.lumos_top.specs.declared.status.Stop.{Stop}
use Rattle.lumos_top.specs.declared.status.Stop.TheVariants as stop
use Rattle.lumos_words.specs.declared.request.BuildWords.{BuildWords}
use Rattle.lumos_words.specs.declared.request.IterWords.{IterWords}
use Rattle.lumos_words.specs.declared.request.ProgramWords.{ProgramWords}

-- The limits of a text are those of a reader.
pub record TextFits (limits : TextLimits) : Type 0 where
  pub vertex : limits.max_vertex ≤ 268435455
  pub vertices : IfSome limits.vertices (λ vertices. vertices ≤ 268435456)
  pub edges : limits.max_edges ≤ 2147483648
  pub bytes : limits.max_bytes ≤ 1099511627776

-- How the parts of a run's grid are chosen: as many as are stated, or as few as its windows let fit the budget.
abbrev pub stated_or : Option ℕ → PartsChoice → PartsChoice
stated_or (Some parts) other = Stated parts
stated_or None other = other

abbrev pub run_choice : ProgramWords → BuildWords → IterWords → PartsChoice
run_choice program words iterate = stated_or words.parts (Fitted (window_bytes program) iterate.budget)

-- Why a command stops where its grid isn't built.
abbrev pub BuildStops : BuildFault → Stop → Type 0
BuildStops (fault.Input faulty) why = why ≡ stop.Refused (refuse.Text (text.Input faulty))
BuildStops (fault.TooManyEdges limit) why = why ≡ stop.Refused (refuse.Text (text.TooManyEdges limit))
BuildStops (fault.InputTooLong limit) why = why ≡ stop.Refused (refuse.Text (text.InputTooLong limit))
BuildStops (fault.BudgetTooSmall need given) why = why ≡ stop.Refused (refuse.BudgetTooSmall need given)
BuildStops fault.Read why = why ≡ stop.Outside outside.Read
BuildStops fault.Depot why = why ≡ stop.Outside outside.Depot
BuildStops fault.NoMemory why = why ≡ stop.Outside outside.Memory

-- The head is that of the grid of a list over p parts, and where the files are told they are the grid's.
pub record IsGridOf (list : Listed) (p : ℕ) (info : GridInfo) (files : FileKind → Option (List ℕ)) : Type 0 where
  pub numbers : All IsEdge list.edges
  pub limits : HasGrid list.edges list.vertices p
  pub head : info ≡ grid_head list.edges list.vertices p
  pub holds : IsSome (files file.Meta) → Holds files (grid list.edges list.vertices p)
