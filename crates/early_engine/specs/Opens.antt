-- Why an engine isn't opened.
use Rattle.std.specs.Prelude.{◌≡◌, ◌≤◌, ◌<◌, ⊤, ℕ, List, Option, None}
use Rattle.lumos_depot.specs.declared.depot.FileKind.TheVariants.{Meta}
use Rattle.grid_format.specs.Tables.{IsWrongCount}
use Rattle.grid_format.specs.declared.head.GridInfo.{GridInfo}
use Rattle.grid_format.specs.declared.table.TableFault.{TableFault}
use Rattle.grid_format.specs.declared.table.TableFault.TheVariants as table
use Rattle.windows.specs.Budget.{need_of}
use Rattle.windows.specs.declared.fault.WindowFault.{WindowFault}
use Rattle.windows.specs.declared.fault.WindowFault.TheVariants as window
use Rattle.early_engine.specs.Engines.{cut_in}
use Rattle.early_engine.specs.declared.options.OpenFault.{OpenFault}
use Rattle.early_engine.specs.declared.options.OpenFault.TheVariants.{BudgetTooSmall, Damaged, Depot, NoMemory}

-- why an engine isn't opened, where the table of its grid isn't read
abbrev pub fault_opened : TableFault → OpenFault
fault_opened table.Depot = Depot
fault_opened (table.Damaged place found) = Damaged Meta place found
fault_opened table.NoMemory = NoMemory

-- why one isn't, where its windows aren't made
abbrev pub fault_made : WindowFault → OpenFault
fault_made (window.BudgetTooSmall need given) = BudgetTooSmall need given
fault_made window.NoMemory = NoMemory

-- where its files aren't made as long as they have to be
abbrev pub IsFromDepot : OpenFault → Type 0
IsFromDepot (BudgetTooSmall need given) = ⊥
IsFromDepot (Damaged file place found) = ⊥
IsFromDepot Depot = ⊤
IsFromDepot NoMemory = ⊤

-- A fault of the table shows a number that was read where the depot tells nothing, and with which the blocks' edges don't add
-- up to all.
abbrev pub TableShows : GridInfo → Option (List ℕ) → OpenFault → Type 0
TableShows info told (BudgetTooSmall need given) = ⊥
TableShows info told (Damaged file place found) = (file ≡ Meta) × IsWrongCount info place found × (told ≡ None)
TableShows info told Depot = ⊤
TableShows info told NoMemory = ⊤

-- An engine isn't opened exactly where its windows need more than the budget, with both numbers; else for a number that was
-- read where the depot tells nothing, and with which the blocks' edges don't add up to all, where a fault shows one.
abbrev pub OpenShows : GridInfo → ℕ → ℕ → ℕ → Option (List ℕ) → OpenFault → Type 0
OpenShows info v s budget told (BudgetTooSmall need given) = (budget < need_of (cut_in info) v s) × (need ≡ need_of (cut_in info) v s) × (given ≡ budget)
OpenShows info v s budget told (Damaged file place found) = (need_of (cut_in info) v s ≤ budget) × (file ≡ Meta) × IsWrongCount info place found × (told ≡ None)
OpenShows info v s budget told Depot = need_of (cut_in info) v s ≤ budget
OpenShows info v s budget told NoMemory = need_of (cut_in info) v s ≤ budget

-- the windows needed more than the budget
abbrev pub IsTooSmall : OpenFault → Type 0
IsTooSmall (BudgetTooSmall need given) = ⊤
IsTooSmall (Damaged file place found) = ⊥
IsTooSmall Depot = ⊥
IsTooSmall NoMemory = ⊥
