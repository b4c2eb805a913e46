-- How the reading of a list into Spool goes on.
use Rattle.std.specs.Prelude.{◌≡◌, ◌≤◌, ◌*◌, ℕ, List, [], ◌++◌, Bool, false, flat_map, length, Option, Some, IfSome, Result, Ok, Err}
use Rattle.lumos_base.specs.Records.{edge_bytes}
use Rattle.lumos_base.specs.declared.records.Edge.{Edge}
use Rattle.lumos_depot.specs.Streams.{Takes}
use Rattle.lumos_depot.specs.declared.depot.DepotFault.{DepotFault}
use Rattle.lumos_depot.specs.declared.depot.DepotFault.TheVariants as depot
use Rattle.edge_text.specs.Reader.{HasRead, ReaderState}
use Rattle.edge_text.specs.Reading.{reading}
use Rattle.edge_text.specs.declared.fault.TextFault.TheVariants as text
use Rattle.edge_text.specs.declared.fault.TextLimits.{TextLimits}
use Rattle.lumos_depot.specs.Steps.{RoseBy}
use Rattle.grid_build.specs.Growing.{HasGrown}
use Rattle.grid_build.specs.Spooling.{IsSpooled}
use Rattle.grid_build.specs.declared.options.BuildFault.{BuildFault}
use Rattle.grid_build.specs.declared.options.BuildFault.TheVariants as fault
use Rattle.grid_build.specs.declared.spool.SpoolStop.{SpoolStop}
use Rattle.grid_build.specs.declared.spool.SpoolStop.TheVariants as stop
use Rattle.grid_build.specs.declared.spool.Spooled.{Spooled}

-- what a stop is called outside
abbrev pub spool_fault : SpoolStop → BuildFault
spool_fault stop.Memory = fault.NoMemory
spool_fault stop.Depot = fault.Depot
spool_fault stop.Read = fault.Read
spool_fault (stop.Text (text.Input why)) = fault.Input why
spool_fault (stop.Text (text.TooManyEdges limit)) = fault.TooManyEdges limit
spool_fault (stop.Text (text.InputTooLong limit)) = fault.InputTooLong limit

-- why edges weren't put into Spool
abbrev pub stop_of : DepotFault → SpoolStop
stop_of depot.Failed = stop.Depot
stop_of depot.NoMemory = stop.Memory

-- So much of a text was read. It made so many edges, which are in Spool where it is told; their bytes were counted from
-- a number on.
pub record IsSpooling (before : ℕ) (seen : List ℕ) (reader : ReaderState) (count : ℕ) (spool : Option (List ℕ)) (stored : ℕ) : Type 0 where
  pub edges : List Edge
  pub read : HasRead seen edges reader
  pub counted : count ≡ length edges
  pub kept : IfSome spool (λ file. file ≡ flat_map edge_bytes edges)
  pub rose : RoseBy before stored (12 * count)

-- A fault of the text stands whatever comes behind what was seen.
abbrev pub StopsAs : TextLimits → List ℕ → SpoolStop → Type 0
StopsAs limits seen (stop.Text why) = (more : List ℕ) → reading limits (seen ++ more) ≡ Err why
StopsAs limits seen stop.Memory = Unit {0}
StopsAs limits seen stop.Depot = Unit {0}
StopsAs limits seen stop.Read = Unit {0}

-- nothing is left, where that is told
abbrev pub IsAtEnd : Option (List ℕ) → Type 0
IsAtEnd left = (bytes : List ℕ) → left ≡ Some bytes → bytes ≡ []

-- what came of a piece, and whether there may be more behind it
abbrev pub PieceEnds : TextLimits → ℕ → List ℕ → ReaderState → ℕ → Option (List ℕ) → ℕ → Option (List ℕ) → Result Bool SpoolStop → Type 0
PieceEnds limits before seen reader count spool stored left (Ok more) = IsSpooling before seen reader count spool stored × (more ≡ false → IsAtEnd left)
PieceEnds limits before seen reader count spool stored left (Err why) = StopsAs limits seen why

-- A piece was taken from a source and read.
pub record HasPiece (limits : TextLimits) (before : ℕ) (seen : List ℕ) (reader : ReaderState) (count : ℕ) (spool : Option (List ℕ)) (stored : ℕ) (old new : Option (List ℕ)) (result : Result Bool SpoolStop) : Type 0 where
  pub piece : List ℕ
  pub takes : Takes old new piece
  pub ends : PieceEnds limits before (seen ++ piece) reader count spool stored new result

-- A piece of at most so many bytes was taken from a source, none where the source failed, and the reading stopped in it.
pub record HasStopped (limits : TextLimits) (most before : ℕ) (seen : List ℕ) (stored : ℕ) (old new : Option (List ℕ)) (why : SpoolStop) : Type 0 where
  pub piece : List ℕ
  pub takes : Takes old new piece
  pub few : length piece ≤ most
  pub unread : why ≡ stop.Read → piece ≡ []
  pub grown : HasGrown limits (seen ++ piece) before stored

-- the end of a text was read
abbrev pub EndsAs : TextLimits → ℕ → List ℕ → Option (List ℕ) → ℕ → Result Spooled SpoolStop → Type 0
EndsAs limits before seen spool stored (Ok spooled) = IsSpooled limits seen spool spooled × RoseBy before stored (12 * spooled.edges)
EndsAs limits before seen spool stored (Err (stop.Text why)) = reading limits seen ≡ Err why
EndsAs limits before seen spool stored (Err stop.Memory) = Unit {0}
EndsAs limits before seen spool stored (Err stop.Depot) = Unit {0}
EndsAs limits before seen spool stored (Err stop.Read) = ⊥
