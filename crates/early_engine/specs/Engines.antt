-- An engine, and what it stands for.
use Rattle.std.specs.Prelude.{◌≡◌, ◌≤◌, ◌<◌, ◌-◌, ◌*◌, ℕ, Bool, List, length, sum, IfSome}
use Rattle.lumos_base.specs.declared.records.Edge.{Edge}
use Rattle.lumos_depot.specs.declared.depot.FileKind.TheVariants.{Info}
use Rattle.lumos_law.specs.Program.{Program}
use Rattle.lumos_law.specs.Sync.{ending, ending_from}
use Rattle.partition.specs.Parts.{Cut}
use Rattle.grid_format.specs.Grid.{grid_head}
use Rattle.grid_format.specs.Heads.{IsHead}
use Rattle.grid_format.specs.Tables.{BlockCounts}
use Rattle.grid_format.specs.declared.head.GridInfo.{GridInfo}
use Rattle.windows.specs.Windows.{Coding, IsSameRoom, IsSized, Told, WindowState}
use Rattle.early_engine.specs.Early.{IsKept}
use Rattle.early_engine.specs.Grids.{HasBlocks, IsLaid, IsOnGrid}
use Rattle.early_engine.specs.declared.options.Phase.{Phase}
use Rattle.early_engine.specs.declared.options.Phase.TheVariants.{Fresh, Going}
use Rattle.early_engine.specs.declared.options.RunOptions.{RunOptions}

-- a program with its options over a grid with this head and table, its windows, the hot chunks that are kept, how far it is,
-- and how many iterations were finished
pub record EngineState (G V S : Type 0) : Type 0 where
  pub program : G
  pub options : RunOptions
  pub info : GridInfo
  pub table : BlockCounts
  pub windows : WindowState V S
  pub active : List Bool
  pub phase : Phase
  pub finished : ℕ

-- how the vertices of a grid with this head are cut
abbrev pub cut_in : GridInfo → Cut
cut_in info = record { vertices = info.vertices; parts = info.parts }

-- The iterations that are finished are fewer than those that are asked for as long as the run goes on, and none at first.
pub record IsCounted (options : RunOptions) (phase : Phase) (finished : ℕ) : Type 0 where
  pub some : 1 ≤ options.iterations
  pub few : options.iterations ≤ 1000000
  pub left : phase ≡ Going → finished < options.iterations
  pub none : phase ≡ Fresh → finished ≡ 0

-- The parts of an engine fit one another.
pub record IsEngine {V S : Type 0} (info : GridInfo) (options : RunOptions) (cut : Cut) (table : BlockCounts) (windows : WindowState V S) (active : ℕ) (phase : Phase) (finished : ℕ) : Type 0 where
  pub head : IsHead info
  pub cut_fits : cut ≡ cut_in info
  pub whole : sum table.counts ≡ info.edges
  pub laid : IsLaid cut table
  pub windows_fit : windows.cut ≡ cut
  pub budget_fits : windows.budget ≡ options.budget
  pub active_fits : active ≡ cut.parts
  pub counted : IsCounted options phase finished

-- The run is the same: its program, its options, its grid and its windows.
pub record IsSameRun {G V S : Type 0} (old new : EngineState G V S) : Type 0 where
  pub program : new.program ≡ old.program
  pub options : new.options ≡ old.options
  pub info : new.info ≡ old.info
  pub table : new.table ≡ old.table
  pub room : IsSameRoom old.windows new.windows

-- Where they are told, the files of an engine have the places of what it takes and stores: Info a record for each vertex,
-- Primary and Secondary those of their blocks, Values two for each vertex and Sums one.
pub record HasFiles {G V S : Type 0} (coding : Coding V S) (told : Told) (engine : EngineState G V S) : Type 0 where
  pub infos : IfSome (told Info) (λ file. length file ≡ 12 * engine.info.vertices)
  pub blocks : HasBlocks engine.table told
  pub sized : IsSized coding engine.windows told

-- An engine was opened on the grid of these edges, which a depot tells, and nothing was done.
pub record IsOpened {G V S : Type 0} (edges : List Edge) (told : Told) (engine : EngineState G V S) : Type 0 where
  pub grid : IsOnGrid edges (cut_in engine.info) engine.table told
  pub head : engine.info ≡ grid_head edges engine.info.vertices engine.info.parts
  pub phase : engine.phase ≡ Fresh

-- An engine stands for the grid of these edges, which a depot tells: it keeps the values of synchronous execution after the
-- iterations that are finished, the early sums where the last of them fed ahead, and which chunks are hot, and the run ends
-- with none of them.
pub record IsStanding {G V S : Type 0} (coding : Coding V S) (p : Program V S) (edges : List Edge) (told : Told) (engine : EngineState G V S) : Type 0 where
  pub grid : IsOnGrid edges (cut_in engine.info) engine.table told
  pub kept : IsKept coding p edges (cut_in engine.info) engine.options.mode engine.options.iterations engine.finished engine.windows told engine.active
  pub phase : engine.phase ≡ Going
  pub left : engine.finished < engine.options.iterations
  pub goes_on : ending p edges engine.info.vertices engine.options.iterations
      ≡ ending_from p edges engine.info.vertices (engine.options.iterations - engine.finished) engine.finished
