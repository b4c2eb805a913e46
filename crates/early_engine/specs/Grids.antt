-- The grid whose blocks an iteration reads, and why it stops at a file.
use Rattle.std.specs.Prelude.{◌≡◌, ◌≤◌, ◌<◌, ◌⊎◌, ℕ, ◌*◌, List, length, sum, All, IfSome, Option}
use Rattle.lumos_base.specs.Records.{IsEdge}
use Rattle.lumos_base.specs.declared.records.Edge.{Edge}
use Rattle.lumos_depot.specs.declared.depot.FileKind.{FileKind}
use Rattle.partition.specs.Parts.{Cut, chunk_of, part_range}
use Rattle.grid_format.specs.Grid.{HasGrid, grid, grid_table}
use Rattle.grid_format.specs.Outside.{Holds}
use Rattle.grid_format.specs.Tables.{BlockCounts, count_at, low_edges, primary_place_of, secondary_place_of}
use Rattle.lumos_report.specs.declared.records.Kind.{Kind}
use Rattle.lumos_report.specs.declared.records.Kind.TheVariants.{Full, Fed}
use Rattle.value_files.specs.declared.fault.FileFault.{FileFault}
use Rattle.column_stream.specs.Cursors.{CursorState}
use Rattle.column_stream.specs.Records.{IsDamage}
use Rattle.column_stream.specs.declared.records.Ends.{Ends}
use Rattle.windows.specs.Kept.{BrokenSums, BrokenValues}
use Rattle.windows.specs.Windows.{Coding, IsSized, Told, WindowState}
use Rattle.early_engine.specs.Passes.{file_of}
use Rattle.early_engine.specs.Steps.{GoesThrough}

-- A depot tells the files of the grid of these edges, and the table is that of its blocks.
pub record IsOnGrid (edges : List Edge) (cut : Cut) (table : BlockCounts) (told : FileKind → Option (List ℕ)) : Type 0 where
  pub numbers : All IsEdge edges
  pub limits : HasGrid edges cut.vertices cut.parts
  pub files : Holds told (grid edges cut.vertices cut.parts)
  pub counts : table ≡ grid_table edges cut.vertices cut.parts

-- A table has a number of edges for each block of a cut.
pub record IsLaid (cut : Cut) (table : BlockCounts) : Type 0 where
  pub parts : table.parts ≡ cut.parts
  pub vertices : cut.vertices ≤ 268435456
  pub blocks : length table.counts ≡ cut.parts * cut.parts
  pub few : sum table.counts ≤ 2147483648

-- the ranges of the ends of a block's edges
abbrev pub ends_of : Cut → ℕ → ℕ → Ends
ends_of cut i j = record { sources = part_range cut.vertices (chunk_of cut) i; targets = part_range cut.vertices (chunk_of cut) j }

-- where block (i,j) begins in the file from which iterations of a kind read
abbrev pub place_in : Kind → BlockCounts → ℕ → ℕ → ℕ
place_in Full table i j = primary_place_of table i j
place_in Fed table i j = secondary_place_of table i j

-- the cursor at the beginning of block (i,j) in that file
abbrev pub cursor_at : Kind → Cut → BlockCounts → ℕ → ℕ → CursorState
cursor_at kind cut table i j = record { file = file_of kind; place = place_in kind table i j; left = count_at table i j; ends = ends_of cut i j }

-- how many bytes the blocks have in that file
abbrev pub bytes_in : Kind → BlockCounts → ℕ
bytes_in Full table = 12 * sum table.counts
bytes_in Fed table = 12 * low_edges table table.parts

-- Where they are told, Primary and Secondary are long enough for the blocks of a table.
abbrev pub HasBlocks : BlockCounts → (FileKind → Option (List ℕ)) → Type 0
HasBlocks table told = (kind : Kind) → IfSome (told (file_of kind)) (λ file. bytes_in kind table ≤ length file)

-- Windows, a grid's table and the files that are told fit one another: the vertices are cut alike, and the files have the
-- blocks of the table and the places of the values and sums.
pub record FitsFiles {V S : Type 0} (coding : Coding V S) (cut : Cut) (table : BlockCounts) (windows : WindowState V S) (told : Told) : Type 0 where
  pub cut_is : windows.cut ≡ cut
  pub laid : IsLaid cut table
  pub blocks : HasBlocks table told
  pub sized : IsSized coding windows told

-- A fault shows a word of the records of block (i,j), at its place in the file from which iterations of a kind read: it is
-- no vertex of the part in which it has to lie.
abbrev pub IsOfBlock : Kind → Cut → BlockCounts → ℕ → ℕ → FileFault → Type 0
IsOfBlock kind cut table i j fault = IsDamage (file_of kind) (ends_of cut i j) (place_in kind table i j) (count_at table i j) fault

-- It is a fault of a block that an iteration of a kind goes through.
pub record IsOfPass (kind : Kind) (cut : Cut) (table : BlockCounts) (fault : FileFault) : Type 0 where
  pub row : ℕ
  pub column : ℕ
  pub row_in : row < cut.parts
  pub column_in : column < cut.parts
  pub through : GoesThrough kind row column
  pub shown : IsOfBlock kind cut table row column fault

module _ {V S : Type 0} (coding : Coding V S) (windows : WindowState V S) where
  -- It is a fault of the values of some chunk in Values, of even iterations or of odd ones.
  pub record IsOfValues (fault : FileFault) : Type 0 where
    pub iteration : ℕ
    pub chunk : ℕ
    pub chunk_in : chunk < windows.cut.parts
    pub shown : BrokenValues coding windows iteration chunk fault

  -- It is a fault of the sums of some chunk in Sums, which a fed iteration goes on from.
  pub record IsOfSums (kind : Kind) (fault : FileFault) : Type 0 where
    pub fed : kind ≡ Fed
    pub chunk : ℕ
    pub chunk_in : chunk < windows.cut.parts
    pub shown : BrokenSums coding windows chunk fault

  -- A fault of an iteration of a kind shows a word of a block that it goes through, a record of Values or a record of Sums.
  abbrev pub IsOfIteration : Kind → BlockCounts → FileFault → Type 0
  IsOfIteration kind table fault = IsOfPass kind windows.cut table fault ⊎ (IsOfValues fault ⊎ IsOfSums kind fault)
