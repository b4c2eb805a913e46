-- How the reading of a source ends.
use Rattle.std.specs.Prelude.{◌≡◌, ℕ, List, [], ◌++◌, Bool, false, Option, Some, Result, Ok, Err}
use Rattle.lumos_base.specs.declared.records.Edge.{Edge}
use Rattle.lumos_depot.specs.Streams.{Takes}
use Rattle.edge_text.specs.Reader.{HasRead, ReaderState}
use Rattle.edge_text.specs.Reading.{Listed, reading}
use Rattle.edge_text.specs.declared.fault.TextLimits.{TextLimits}
use Rattle.lumos_top.specs.declared.list.EdgeList.{EdgeList}
use Rattle.lumos_top.specs.declared.list.ListStop.{ListStop}
use Rattle.lumos_top.specs.declared.list.ListStop.TheVariants.{Memory, Read, Text}
use Rattle.lumos_top.specs.declared.list.PieceStop.{PieceStop}
use Rattle.lumos_top.specs.declared.list.PieceStop.TheVariants as stop

-- nothing is left, where that is told
abbrev pub IsAtEnd : Option (List ℕ) → Type 0
IsAtEnd left = (bytes : List ℕ) → left ≡ Some bytes → bytes ≡ []

-- A piece was read behind what was seen; a fault stands whatever comes behind it.
abbrev pub PieceReads : List ℕ → List ℕ → List Edge → ReaderState → Result (Unit {0}) PieceStop → Type 0
PieceReads seen piece edges reader (Ok done) = HasRead (seen ++ piece) edges reader
PieceReads seen piece edges reader (Err (stop.Text fault)) = (more : List ℕ) → reading reader.limits (seen ++ piece ++ more) ≡ Err fault
PieceReads seen piece edges reader (Err stop.Memory) = Unit {0}

-- What came of a piece, and whether there may be more behind it.
abbrev pub PieceEnds : List ℕ → List ℕ → List Edge → ReaderState → Option (List ℕ) → Result Bool ListStop → Type 0
PieceEnds seen piece edges reader left (Ok more) = HasRead (seen ++ piece) edges reader × (more ≡ false → IsAtEnd left)
PieceEnds seen piece edges reader left (Err (Text fault)) = (more : List ℕ) → reading reader.limits (seen ++ piece ++ more) ≡ Err fault
PieceEnds seen piece edges reader left (Err Memory) = Unit {0}
PieceEnds seen piece edges reader left (Err Read) = Unit {0}

-- A piece was taken from a source and read.
pub record HasPiece (seen : List ℕ) (edges : List Edge) (reader : ReaderState) (old new : Option (List ℕ)) (result : Result Bool ListStop) : Type 0 where
  pub piece : List ℕ
  pub takes : Takes old new piece
  pub ends : PieceEnds seen piece edges reader new result

-- a list, as it is defined
abbrev pub listed_of : EdgeList → Listed
listed_of list = record { edges = list.edges.items; vertices = list.vertices }

-- The answer is that of the bytes, where those that are told were read to their end, or a fault of theirs; else the
-- outside stopped it.
abbrev pub ReadsAs : TextLimits → List ℕ → Option (List ℕ) → Option (List ℕ) → Result EdgeList ListStop → Type 0
ReadsAs limits bytes old new (Ok list) = (reading limits bytes ≡ Ok (listed_of list)) × ((all : List ℕ) → old ≡ Some all → new ≡ Some [])
ReadsAs limits bytes old new (Err (Text fault)) = reading limits bytes ≡ Err fault
ReadsAs limits bytes old new (Err Memory) = Unit {0}
ReadsAs limits bytes old new (Err Read) = Unit {0}

-- There are bytes, these first and then those that were left where the source tells them, that were read as a list.
pub record HasListed (limits : TextLimits) (front : List ℕ) (old new : Option (List ℕ)) (result : Result EdgeList ListStop) : Type 0 where
  pub bytes : List ℕ
  pub told : (all : List ℕ) → old ≡ Some all → bytes ≡ front ++ all
  pub reads : ReadsAs limits bytes old new result

-- The end of a text was read.
abbrev pub EndReads : TextLimits → List ℕ → Result EdgeList ListStop → Type 0
EndReads limits seen (Ok list) = reading limits seen ≡ Ok (listed_of list)
EndReads limits seen (Err (Text fault)) = reading limits seen ≡ Err fault
EndReads limits seen (Err Memory) = Unit {0}
EndReads limits seen (Err Read) = ⊥
