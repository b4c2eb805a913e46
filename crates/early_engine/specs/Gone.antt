-- What an iteration counts, and which bytes it moves, behind the blocks that it went through.
use Rattle.std.specs.Prelude.{◌≡◌, ℕ, ◌+◌, ◌*◌, ◌&&◌, Bool, nat_lt, cond, List, sum_by}
use Rattle.std.specs.List.{range_with_len}
use Rattle.active_sets.specs.Active.{hot_at}
use Rattle.lumos_depot.specs.Steps.{RoseBy}
use Rattle.lumos_depot.specs.declared.depot.FileKind.{FileKind}
use Rattle.lumos_depot.specs.declared.depot.FileKind.TheVariants.{Values, Sums}
use Rattle.partition.specs.Parts.{Cut, chunk_of, part_length}
use Rattle.windows.specs.Kept.{load_of}
use Rattle.grid_format.specs.Tables.{BlockCounts, count_at}
use Rattle.io_account.specs.declared.Counts.{Counts}
use Rattle.lumos_report.specs.declared.records.Kind.{Kind}
use Rattle.early_engine.specs.Passes.{Place, bytes_of, feeds_ahead, file_of, kind_of, need_by, of_secondary, passes, place_at, reads, tally_of}
use Rattle.early_engine.specs.declared.options.Mode.{Mode}

-- how many edges a block has by a table
abbrev pub size_in : BlockCounts → Place → ℕ
size_in table b = count_at table b.row b.column

-- The bytes of Values that a block takes where it is read, where the values of chunk i take `load i`: those of its source
-- chunk where that was hot in the iteration before, and again where the iteration feeds ahead, the block lies above the
-- diagonal, and the source chunk is hot in it.
abbrev pub loads_by : (ℕ → ℕ) → (ℕ → Bool) → (ℕ → Bool) → Bool → Place → ℕ
loads_by load was is ahead b = cond (was b.row) (load b.row) 0 + cond (ahead && nat_lt b.row b.column && is b.row) (load b.row) 0

-- those of the blocks that are read
abbrev pub loads_of : (Place → ℕ) → (Place → Bool) → (Place → ℕ) → List Place → ℕ
loads_of size need loads bs = sum_by loads (reads size need bs)

-- the bytes that are moved beside the blocks and the values of their source chunks: taken and stored of Values and of Sums
pub record Beside : Type 0 where
  pub values_in : ℕ
  pub values_out : ℕ
  pub sums_in : ℕ
  pub sums_out : ℕ

-- what all of them take is nothing
abbrev pub none_beside : Beside
none_beside = record { values_in = 0; values_out = 0; sums_in = 0; sums_out = 0 }

-- A step, or many: how many bytes it took of the file from which iterations of a kind read, and took and stored of Values
-- and of Sums.
pub record HasMoved (kind : Kind) (read : ℕ) (beside : Beside) (taken stored taken_now stored_now : FileKind → ℕ) : Type 0 where
  pub blocks : RoseBy (taken (file_of kind)) (taken_now (file_of kind)) read
  pub values_in : RoseBy (taken Values) (taken_now Values) beside.values_in
  pub values_out : RoseBy (stored Values) (stored_now Values) beside.values_out
  pub sums_in : RoseBy (taken Sums) (taken_now Sums) beside.sums_in
  pub sums_out : RoseBy (stored Sums) (stored_now Sums) beside.sums_out

-- the same with the loads of some blocks
abbrev pub and_loads : ℕ → Beside → Beside
and_loads loads beside = record beside { values_in = loads + beside.values_in }

-- with what a close takes and stores of Values
abbrev pub and_closed : ℕ → Beside → Beside
and_closed load beside = record beside { values_in = beside.values_in + load; values_out = beside.values_out + load }

-- with the values that are shown
abbrev pub and_shown : ℕ → Beside → Beside
and_shown shown beside = record beside { values_in = beside.values_in + shown }

-- with what is taken and stored of Sums
abbrev pub and_sums : ℕ → ℕ → Beside → Beside
and_sums taken stored beside = record beside { sums_in = beside.sums_in + taken; sums_out = beside.sums_out + stored }

-- with what a column takes and stores beside its blocks, where the values of its chunk take `load` bytes and the sums `sums`
abbrev pub and_column : Kind → Bool → ℕ → ℕ → Beside → Beside
and_column kind ahead load sums beside = and_sums (of_secondary kind sums) (cond ahead sums 0) (and_closed load beside)

-- An iteration of a kind went through these blocks, where block b has `size b` edges, is needed where `need b` says so, and
-- its source chunks' values take `loads b` bytes: it counted each as read, skipped or empty, took twelve bytes for each edge
-- of those that it read, and the values for them, and moved some bytes beside.
pub record HasGone (kind : Kind) (size : Place → ℕ) (need : Place → Bool) (loads : Place → ℕ) (bs : List Place) (beside : Beside) (taken stored taken_now stored_now : FileKind → ℕ) (counts : Counts) : Type 0 where
  pub counted : counts ≡ tally_of kind size need bs counts.moved
  pub moved : HasMoved kind (bytes_of size need bs) (and_loads (loads_of size need loads bs) beside) taken stored taken_now stored_now

-- the bytes of the sums of chunk j, s for each vertex
abbrev pub sums_of_chunk : Cut → ℕ → ℕ → ℕ
sums_of_chunk cut s j = s * part_length cut.vertices (chunk_of cut) j

module _ (cut : Cut) (v s pinned : ℕ) where
  -- The bytes that an iteration of a kind moves beside the blocks in its first n columns, where a value has v bytes and a
  -- sum s, and the first `pinned` chunks are kept in memory: at each close the values before it are taken and those after it
  -- are stored; a fed iteration takes the early sums; and one that feeds ahead stores some.
  abbrev pub beside_of : Kind → Bool → ℕ → Beside
  beside_of kind ahead n = record {
    values_in = sum_by (load_of cut v pinned) (range_with_len 0 n);
    values_out = sum_by (load_of cut v pinned) (range_with_len 0 n);
    sums_in = of_secondary kind (sum_by (sums_of_chunk cut s) (range_with_len 0 n));
    sums_out = cond ahead (sum_by (sums_of_chunk cut s) (range_with_len 0 n)) 0;
  }

-- Iteration t of a run of at most `limit` went through all its blocks, by the table and by the chunks that were hot before
-- it and are hot in it.
abbrev pub HasPassed : Mode → ℕ → BlockCounts → (ℕ → ℕ) → List Bool → List Bool → ℕ → Beside → (FileKind → ℕ) → (FileKind → ℕ) → (FileKind → ℕ) → (FileKind → ℕ) → Counts → Type 0
HasPassed mode limit table load were are t beside taken stored taken_now stored_now counts =
    HasGone (kind_of mode t) (size_in table) (need_by (hot_at were) (hot_at are) (feeds_ahead mode limit t)) (loads_by load (hot_at were) (hot_at are) (feeds_ahead mode limit t))
    (passes (kind_of mode t) table.parts) beside taken stored taken_now stored_now counts

-- It counted each of its blocks, which it needs or not.
pub record IsTallied (mode : Mode) (table : BlockCounts) (t : ℕ) (counts : Counts) : Type 0 where
  pub need : Place → Bool
  pub counted : counts ≡ tally_of (kind_of mode t) (size_in table) need (passes (kind_of mode t) table.parts) counts.moved

-- Block (i,j) has so many edges by the table, is needed by which chunks were hot and are, and so are its loads, where chunk
-- i's values take `load i` bytes.
pub record AreOf (table : BlockCounts) (load : ℕ → ℕ) (were are : List Bool) (ahead : Bool) (size : Place → ℕ) (need : Place → Bool) (loads : Place → ℕ) (i j : ℕ) : Type 0 where
  pub size_is : size (place_at i j) ≡ count_at table i j
  pub need_is : need_by (hot_at were) (hot_at are) ahead (place_at i j) ≡ need (place_at i j)
  pub loads_is : loads_by load (hot_at were) (hot_at are) ahead (place_at i j) ≡ loads (place_at i j)
