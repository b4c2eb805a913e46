-- What a call of the builder leaves.
use Rattle.std.specs.Prelude.{◌≡◌, ◌*◌, ℕ, List, [], flat_map, Option, Some, Result, Ok, Err}
use Rattle.std.specs.Option.{option_map}
use Rattle.lumos_base.specs.Records.{edge_bytes}
use Rattle.lumos_depot.specs.Files.{SameBut}
use Rattle.lumos_depot.specs.declared.depot.DepotFault.{DepotFault}
use Rattle.lumos_depot.specs.declared.depot.DepotFault.TheVariants.{Failed}
use Rattle.lumos_depot.specs.declared.depot.DepotFault.TheVariants as fault
use Rattle.lumos_depot.specs.declared.depot.FileKind.{FileKind}
use Rattle.lumos_depot.specs.declared.depot.FileKind.TheVariants as file
use Rattle.edge_text.specs.Reading.{Listed, reading}
use Rattle.edge_text.specs.declared.fault.TextFault.TheVariants as text
use Rattle.edge_text.specs.declared.fault.TextLimits.{TextLimits}
use Rattle.grid_format.specs.Checks.{GridFiles}
use Rattle.grid_format.specs.Grid.{HasGrid, grid, grid_head}
use Rattle.grid_format.specs.declared.head.GridInfo.{GridInfo}
use Rattle.lumos_depot.specs.Steps.{RoseBy}
use Rattle.grid_build.specs.Chosen.{parts_for}
use Rattle.grid_build.specs.declared.options.BuildFault.{BuildFault}
use Rattle.grid_build.specs.declared.options.BuildFault.TheVariants.{Input, TooManyEdges, InputTooLong, BudgetTooSmall, Read, Depot, NoMemory}
use Rattle.grid_build.specs.declared.options.PartsChoice.{PartsChoice}

-- a fault of the depot, as one of the builder
abbrev pub fault_of : DepotFault → BuildFault
fault_of Failed = Depot
fault_of fault.NoMemory = NoMemory

-- Where the depot tells, its four files are those of a grid, and Spool is empty.
pub record HasFiles (files : GridFiles) (before after : FileKind → Option (List ℕ)) : Type 0 where
  pub meta_file : after file.Meta ≡ option_map (λ _. files.meta) (before file.Meta)
  pub primary_file : after file.Primary ≡ option_map (λ _. files.primary) (before file.Primary)
  pub secondary_file : after file.Secondary ≡ option_map (λ _. files.secondary) (before file.Secondary)
  pub info_file : after file.Info ≡ option_map (λ _. files.info) (before file.Info)
  pub spool_file : after file.Spool ≡ option_map (λ _. []) (before file.Spool)

-- The bytes read as a list, which gets the parts of the head by the choice, and is within the limits of a grid; the head
-- is that of its grid over these parts, and so are the files.
pub record IsBuilt (limits : TextLimits) (choice : PartsChoice) (bytes : List ℕ) (before after : FileKind → Option (List ℕ)) (info : GridInfo) : Type 0 where
  pub list : Listed
  pub is : reading limits bytes ≡ Ok list
  pub chosen : parts_for choice list.vertices ≡ Ok info.parts
  pub within : HasGrid list.edges list.vertices info.parts
  pub head : info ≡ grid_head list.edges list.vertices info.parts
  pub files : HasFiles (grid list.edges list.vertices info.parts) before after

-- The bytes read as a list, which the choice refuses by this fault; its edges are in Spool, and the files of the grid
-- are as they were.
pub record IsUnfit (limits : TextLimits) (choice : PartsChoice) (bytes : List ℕ) (before after : FileKind → Option (List ℕ)) (fault : BuildFault) : Type 0 where
  pub list : Listed
  pub is : reading limits bytes ≡ Ok list
  pub refused : parts_for choice list.vertices ≡ Err fault
  pub grid_files : SameBut file.Spool before after
  pub spool_file : after file.Spool ≡ option_map (λ _. flat_map edge_bytes list.edges) (before file.Spool)

-- The answer is that of the bytes and of the choice, for which the bytes were read to their end, or the first fault of
-- the bytes; a fault of either leaves the files of the grid as they were. Else the outside stopped it.
abbrev pub BuildsAs : TextLimits → PartsChoice → List ℕ → Option (List ℕ) → Option (List ℕ) → (FileKind → Option (List ℕ)) → (FileKind → Option (List ℕ)) → Result GridInfo BuildFault → Type 0
BuildsAs limits choice bytes old new before after (Ok info) = IsBuilt limits choice bytes before after info × (old ≡ Some bytes → new ≡ Some [])
BuildsAs limits choice bytes old new before after (Err (Input fault)) = (reading limits bytes ≡ Err (text.Input fault)) × SameBut file.Spool before after
BuildsAs limits choice bytes old new before after (Err (TooManyEdges limit)) = (reading limits bytes ≡ Err (text.TooManyEdges limit)) × SameBut file.Spool before after
BuildsAs limits choice bytes old new before after (Err (InputTooLong limit)) = (reading limits bytes ≡ Err (text.InputTooLong limit)) × SameBut file.Spool before after
BuildsAs limits choice bytes old new before after (Err (BudgetTooSmall need given)) = IsUnfit limits choice bytes before after (BudgetTooSmall need given) × (old ≡ Some bytes → new ≡ Some [])
BuildsAs limits choice bytes old new before after (Err Read) = SameBut file.Spool before after
BuildsAs limits choice bytes old new before after (Err Depot) = Unit {0}
BuildsAs limits choice bytes old new before after (Err NoMemory) = Unit {0}

-- There are bytes, those that were left where the source tells them, of which the grid was built.
pub record HasBuilt (limits : TextLimits) (choice : PartsChoice) (old new : Option (List ℕ)) (before after : FileKind → Option (List ℕ)) (result : Result GridInfo BuildFault) : Type 0 where
  pub bytes : List ℕ
  pub told : (all : List ℕ) → old ≡ Some all → bytes ≡ all
  pub builds : BuildsAs limits choice bytes old new before after result

-- A grid of so many edges was built: 12 bytes for each were written into Spool and into Primary.
pub record StoresGrid (edges : ℕ) (before after : FileKind → ℕ) : Type 0 where
  pub spool_bytes : RoseBy (before file.Spool) (after file.Spool) (12 * edges)
  pub primary_bytes : RoseBy (before file.Primary) (after file.Primary) (12 * edges)
