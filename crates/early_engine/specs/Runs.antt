-- What comes of a run, and which bytes it moves.
use Rattle.std.specs.Prelude.{◌≡◌, ℕ, ◌+◌, ◌-◌, ◌*◌, cond, List, Option, Result, Ok, Err, sum_by}
use Rattle.std.specs.List.{range_with_len}
use Rattle.lumos_base.specs.declared.records.Edge.{Edge}
use Rattle.lumos_depot.specs.Steps.{RoseBy}
use Rattle.lumos_depot.specs.Streams.{AppendsFront, after_told}
use Rattle.lumos_depot.specs.declared.depot.FileKind.{FileKind}
use Rattle.lumos_depot.specs.declared.depot.FileKind.TheVariants.{Meta, Primary, Secondary, Info, Values, Sums, Spool}
use Rattle.lumos_law.specs.Program.{Program}
use Rattle.lumos_law.specs.Sync.{Ending as EndingOf, over_in}
use Rattle.lumos_report.specs.declared.records.Ending.{Ending}
use Rattle.partition.specs.Parts.{Cut, chunk_of, first_vertex}
use Rattle.flight_core.specs.Events.{prior}
use Rattle.grid_format.specs.Tables.{BlockCounts}
use Rattle.lumos_report.specs.declared.records.Kind.{Kind}
use Rattle.lumos_report.specs.declared.records.Kind.TheVariants.{Full, Fed}
use Rattle.windows.specs.Kept.{load_of}
use Rattle.early_engine.specs.Gone.{loads_by, loads_of}
use Rattle.early_engine.specs.Grids.{bytes_in}
use Rattle.early_engine.specs.Passes.{feeds_ahead, is_hot, kind_of, needs, of_primary, of_secondary, passes, primary_bytes, secondary_bytes, size_at}
use Rattle.early_engine.specs.Turns.{ending_told}
use Rattle.early_engine.specs.declared.options.Mode.{Mode}
use Rattle.early_engine.specs.declared.options.RunFault.{RunFault}
use Rattle.early_engine.specs.declared.options.RunFault.TheVariants.{Depot, Out, Range, Damaged}
use Rattle.early_engine.specs.declared.options.Show.{Show}
use Rattle.early_engine.specs.declared.options.Show.TheVariants.{All, Brief}

-- What comes of a run that ends so and has this text: the text was written and the ending answered, or the vertex that is
-- over; or the outside failed, and a front of the text was written.
abbrev pub RunComes : EndingOf → List ℕ → Option (List ℕ) → Option (List ℕ) → Result Ending RunFault → Type 0
RunComes end text old new (Ok ending) = (end ≡ ending_told ending) × (new ≡ after_told old text)
RunComes end text old new (Err (Range iteration vertex)) = (end ≡ over_in iteration vertex) × (new ≡ after_told old text)
RunComes end text old new (Err Out) = AppendsFront old new text
RunComes end text old new (Err Depot) = AppendsFront old new text
RunComes end text old new (Err (Damaged kind place found)) = ⊥

-- the most bytes that an iteration of a kind takes of the file from which those of another read
abbrev pub most_by : Kind → Kind → BlockCounts → ℕ
most_by Full read table = of_primary read (bytes_in Full table)
most_by Fed read table = of_secondary read (bytes_in Fed table)

-- the most that the first k iterations take of it: twelve bytes for each edge of its blocks, in each that reads from it
abbrev pub most_taken : Kind → Mode → BlockCounts → ℕ → ℕ
most_taken kind mode table k = sum_by (λ t. most_by kind (kind_of mode t) table) (range_with_len 1 k)

-- so many bytes where values are shown
abbrev pub shown_bytes : Show → ℕ → ℕ
shown_bytes All n = n
shown_bytes Brief n = 0

-- How many bytes a run moves of each file, over vertices that are cut so, where a value has v bytes and a sum s, and the
-- first `pinned` chunks are kept in memory.
module _ (cut : Cut) (v pinned : ℕ) where
  -- those of the values of all chunks that aren't kept in memory
  abbrev pub loose_bytes : ℕ
  loose_bytes = (cut.vertices - first_vertex cut.vertices (chunk_of cut) pinned) * v

  -- those that the beginning takes: what leads out of the vertices, and the values where they are shown
  abbrev pub taken_first : Show → FileKind → ℕ
  taken_first show Meta = 0
  taken_first show Primary = 0
  taken_first show Secondary = 0
  taken_first show Info = 12 * cut.vertices
  taken_first show Values = shown_bytes show loose_bytes
  taken_first show Sums = 0
  taken_first show Spool = 0

  -- and stores: the values at first
  abbrev pub stored_first : FileKind → ℕ
  stored_first Meta = 0
  stored_first Primary = 0
  stored_first Secondary = 0
  stored_first Info = 0
  stored_first Values = loose_bytes
  stored_first Sums = 0
  stored_first Spool = 0

module _ (cut : Cut) (v s pinned : ℕ) where
  -- those that iteration t stores: the values after it, and the early sums where it feeds ahead
  abbrev pub stored_in : Mode → ℕ → ℕ → FileKind → ℕ
  stored_in mode limit t Meta = 0
  stored_in mode limit t Primary = 0
  stored_in mode limit t Secondary = 0
  stored_in mode limit t Info = 0
  stored_in mode limit t Values = loose_bytes cut v pinned
  stored_in mode limit t Sums = cond (feeds_ahead mode limit t) (cut.vertices * s) 0
  stored_in mode limit t Spool = 0

  module _ {V S : Type 0} (p : Program V S) (edges : List Edge) (show : Show) (mode : Mode) (limit : ℕ) where
    -- the loads of the blocks that iteration t reads
    abbrev pub loads_in : ℕ → ℕ
    loads_in t =
        loads_of (size_at edges (chunk_of cut)) (needs p edges cut.vertices cut.parts mode limit t)
        (loads_by (load_of cut v pinned) (is_hot p edges cut.vertices cut.parts (prior t)) (is_hot p edges cut.vertices cut.parts t) (feeds_ahead mode limit t)) (passes (kind_of mode t) cut.parts)

    -- those that iteration t takes: the blocks that it reads, the values for them, the values before it at each close, the
    -- values after it where they are shown, and the early sums where it is fed
    abbrev pub taken_in : ℕ → FileKind → ℕ
    taken_in t Meta = 0
    taken_in t Primary = primary_bytes p edges cut.vertices cut.parts mode limit t
    taken_in t Secondary = secondary_bytes p edges cut.vertices cut.parts mode limit t
    taken_in t Info = 0
    taken_in t Values = loads_in t + loose_bytes cut v pinned + shown_bytes show (loose_bytes cut v pinned)
    taken_in t Sums = of_secondary (kind_of mode t) (cut.vertices * s)
    taken_in t Spool = 0

    -- those of the first k iterations, and with them those of the beginning
    abbrev pub taken_to : ℕ → FileKind → ℕ
    taken_to k kind = sum_by (λ t. taken_in t kind) (range_with_len 1 k)

    abbrev pub taken_by : ℕ → FileKind → ℕ
    taken_by k kind = taken_first cut v pinned show kind + taken_to k kind

  abbrev pub stored_to : Mode → ℕ → ℕ → FileKind → ℕ
  stored_to mode limit k kind = sum_by (λ t. stored_in mode limit t kind) (range_with_len 1 k)

  abbrev pub stored_by : Mode → ℕ → ℕ → FileKind → ℕ
  stored_by mode limit k kind = stored_first cut v pinned kind + stored_to mode limit k kind

-- Counters of the files rose by so many bytes.
abbrev pub RoseAll : (FileKind → ℕ) → (FileKind → ℕ) → (FileKind → ℕ) → Type 0
RoseAll before after bytes = (kind : FileKind) → RoseBy (before kind) (after kind) (bytes kind)
