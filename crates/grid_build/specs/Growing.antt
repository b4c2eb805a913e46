-- Where the reading of a list into Spool stopped, and how many bytes were stored for it.
use Rattle.std.specs.Prelude.{◌≡◌, ◌≤◌, ◌<◌, ◌⊎◌, ◌+◌, ◌-◌, ◌*◌, ◌^◌, ℕ, List, ◌++◌, length, Option, Ok}
use Rattle.lumos_base.specs.declared.records.Edge.{Edge}
use Rattle.lumos_depot.specs.Streams.{Takes}
use Rattle.edge_text.specs.Lines.{lines_of}
use Rattle.edge_text.specs.Reading.{Listed, read_lines, reading}
use Rattle.edge_text.specs.declared.fault.TextLimits.{TextLimits}
use Rattle.grid_build.specs.declared.options.BuildFault.{BuildFault}
use Rattle.grid_build.specs.declared.options.BuildFault.TheVariants.{Input, TooManyEdges, InputTooLong, BudgetTooSmall, Read, Depot, NoMemory}

-- the edges of the lines that end in these bytes, or of the whole text that they are
abbrev pub AreMade : TextLimits → List ℕ → List Edge → Type 0
AreMade limits bytes edges =
    (read_lines limits 0 0 (lines_of bytes) ≡ Ok edges)
    ⊎ ((list : Listed) × (reading limits bytes ≡ Ok list) × (list.edges ≡ edges))

-- A counter rose by at most twelve bytes for each edge of a front of these bytes, where it stands below the end of its
-- type.
pub record HasGrown (limits : TextLimits) (bytes : List ℕ) (before after : ℕ) : Type 0 where
  pub front : List ℕ
  pub rest : List ℕ
  pub whole : bytes ≡ front ++ rest
  pub edges : List Edge
  pub made : AreMade limits front edges
  pub most : after < 2 ^ 64 - 1 → after ≤ before + 12 * length edges

-- It rose so for what was taken from a source.
pub record GrowsBy (limits : TextLimits) (old new : Option (List ℕ)) (before after : ℕ) : Type 0 where
  pub taken : List ℕ
  pub takes : Takes old new taken
  pub grown : HasGrown limits taken before after

-- No line that ends in what was taken from a source is faulty, but for its last bytes, so many at most.
pub record StopsIn (limits : TextLimits) (most : ℕ) (old new : Option (List ℕ)) : Type 0 where
  pub seen : List ℕ
  pub last : List ℕ
  pub takes : Takes old new (seen ++ last)
  pub few : length last ≤ most
  pub short : length seen ≤ limits.max_bytes
  pub edges : List Edge
  pub good : read_lines limits 0 0 (lines_of seen) ≡ Ok edges

-- A fault of the text stops the reading in the piece that was taken last, a failing source where it failed.
abbrev pub StopsAt : TextLimits → Option (List ℕ) → Option (List ℕ) → BuildFault → Type 0
StopsAt limits old new (Input fault) = StopsIn limits 65536 old new
StopsAt limits old new (TooManyEdges limit) = StopsIn limits 65536 old new
StopsAt limits old new (InputTooLong limit) = StopsIn limits 65536 old new
StopsAt limits old new Read = StopsIn limits 0 old new
StopsAt limits old new (BudgetTooSmall need given) = Unit {0}
StopsAt limits old new Depot = Unit {0}
StopsAt limits old new NoMemory = Unit {0}
