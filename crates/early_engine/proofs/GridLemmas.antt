-- The grid that a depot holds, and its table.
use Rattle.std.proofs.Common.{◌≡◌, ◌<◌, ◌≤◌, ◌+◌, ◌*◌, ℕ, true, List, length, Option, Some, None, Result, Err, refl, sym, ap, ◌∙◌, subst, arith}
use Rattle.std.specs.Prelude.{All, IfSome}
use Rattle.lumos_base.specs.declared.records.Edge.{Edge}
use Rattle.lumos_depot.specs.Files.{Same}
use Rattle.lumos_depot.specs.declared.depot.FileKind.{FileKind}
use Rattle.lumos_depot.specs.declared.depot.FileKind.TheVariants.{Meta, Primary, Secondary, Info, Values, Sums}
use Rattle.partition.specs.Blocks.{block}
use Rattle.partition.specs.Parts.{Cut, chunk_of, part_range, IsInPart}
use Rattle.partition.specs.declared.records.VertexRange.{VertexRange}
use Rattle.flight_core.specs.EdgeList.{IsEdgeList}
use Rattle.grid_format.specs.Grid.{HasGrid, grid, grid_table}
use Rattle.grid_format.specs.Tables.{BlockCounts, count_at}
use Rattle.grid_format.proofs.GridBlocks.{count_is}
use Rattle.grid_format.proofs.TableLemmas.{low_few, low_inside, primary_inside}
use Rattle.value_files.specs.declared.fault.FileFault.{FileFault}
use Rattle.value_files.specs.declared.fault.FileFault.TheVariants.{Depot, Damaged}
use Rattle.column_stream.specs.Cursors.{CursorState, IsInside, edges_left, fault_left}
use Rattle.value_files.specs.Records.{FaultIs}
use Rattle.column_stream.specs.Records.{Fits, IsDamage}
use Rattle.column_stream.specs.declared.records.Ends.{Ends}
use Rattle.column_stream.proofs.BlockLemmas.{block_streamed, low_streamed}
use Rattle.column_stream.specs.Blocks.{IsStreamed}
use Rattle.lumos_depot.proofs.StepLemmas.{told_more, told_same, told_some}
use Rattle.value_files.specs.Records.{IsIntact}
use Rattle.windows.specs.Kept.{Stays}
use Rattle.windows.specs.Windows.{Coding, IsSameRoom, Told, WindowState}
use Rattle.windows.proofs.FrameLemmas.{room_none, sized_same, stays_same}
use Rattle.early_engine.specs.Files.{takes_of}
use Rattle.early_engine.specs.Grids.{FitsFiles, HasBlocks, IsLaid, IsOfBlock, IsOnGrid, bytes_in, cursor_at, ends_of, place_in}
use Rattle.early_engine.specs.Passes.{file_of}
use Rattle.early_engine.specs.Steps.{GoesThrough}
use Rattle.lumos_base.specs.Records.{IsEdge}
use Rattle.lumos_report.specs.declared.records.Kind.{Kind}
use Rattle.lumos_report.specs.declared.records.Kind.TheVariants.{Full, Fed}
use Rattle.grid_format.specs.Checks.{GridFiles}
use Rattle.grid_format.specs.Outside.{Holds}

-- the same grid in the same files
pub on_grid_same : (edges : List Edge) (cut : Cut) (table : BlockCounts) (old new : FileKind → Option (List ℕ)) → Same old new → IsOnGrid edges cut table old → IsOnGrid edges cut table new
on_grid_same edges cut table old new same grid = record {
  numbers = grid.numbers;
  limits = grid.limits;
  files = record {
    meta_file = same Meta ∙ grid.files.meta_file;
    primary_file = same Primary ∙ grid.files.primary_file;
    secondary_file = same Secondary ∙ grid.files.secondary_file;
    info_file = same Info ∙ grid.files.info_file;
  };
  counts = grid.counts;
}

-- the edges of a grid
pub grid_list : (edges : List Edge) (cut : Cut) (table : BlockCounts) (told : FileKind → Option (List ℕ)) → IsOnGrid edges cut table told → IsEdgeList cut.vertices edges
grid_list edges cut table told grid = record { few = grid.limits.few; numbers = grid.numbers; ends = grid.limits.ends }

-- the table's numbers are those of the blocks
pub size_is : (edges : List Edge) (cut : Cut) (table : BlockCounts) (told : FileKind → Option (List ℕ)) (i j : ℕ) → i < cut.parts → j < cut.parts → IsOnGrid edges cut table told → count_at table i j ≡ length (block edges (chunk_of cut) i j)
size_is edges cut table told i j row column grid =
    ap (λ (t : BlockCounts). count_at t i j) grid.counts ∙ count_is edges (chunk_of cut) cut.parts i j row column

abbrev cursor_of : FileKind → ℕ → ℕ → VertexRange → VertexRange → CursorState
cursor_of file place count sources targets = record { file = file; place = place; left = count; ends = record { sources = sources; targets = targets } }

-- the cursor at the beginning of a block in the file from which iterations of a kind read
pub begins_at : (kind : Kind) (cut : Cut) (table : BlockCounts) (i j : ℕ) (cursor : CursorState) (file : FileKind) (place count : ℕ) (sources targets : VertexRange) → cursor ≡ record { file = file; place = place; left = count; ends = record { sources = sources; targets = targets } } →
    file ≡ file_of kind → place ≡ place_in kind table i j → count ≡ count_at table i j → sources ≡ part_range cut.vertices (chunk_of cut) i → targets ≡ part_range cut.vertices (chunk_of cut) j → cursor ≡ cursor_at kind cut table i j
begins_at kind cut table i j cursor file place count sources targets is read at counted from into = is ∙ (λ t. cursor_of (read t) (at t) (counted t) (from t) (into t))

-- edges whose ends lie in the ranges of a block's cursor lie in its parts
pub fits_part : (cut : Cut) (i j : ℕ) (ends : Ends) (out : List Edge) → ends ≡ ends_of cut i j → All (Fits ends) out
    → All (λ e. IsInPart cut.vertices (chunk_of cut) i e.source.0) out × All (λ e. IsInPart cut.vertices (chunk_of cut) j e.target.0) out
fits_part cut i j ends out is fits =
    let here : All (Fits (ends_of cut i j)) out = subst (λ (e : Ends). All (Fits e) out) is fits in
    (λ k d low. (here k d low).source, λ k d low. (here k d low).target)

-- that file of a grid
abbrev file_in : Kind → GridFiles → List ℕ
file_in Full files = files.primary
file_in Fed files = files.secondary

streams : (kind : Kind) (edges : List Edge) (cut : Cut) (i j : ℕ) → HasGrid edges cut.vertices cut.parts → All IsEdge edges → i < cut.parts → j < cut.parts → GoesThrough kind i j
    → IsStreamed (cursor_at kind cut (grid_table edges cut.vertices cut.parts) i j) (file_in kind (grid edges cut.vertices cut.parts)) (block edges (chunk_of cut) i j)
streams Full edges cut i j limits numbers row column low = block_streamed edges cut.vertices cut.parts i j limits numbers row column
streams Fed edges cut i j limits numbers row column low = low_streamed edges cut.vertices cut.parts i j limits numbers row low

told_in : (kind : Kind) (told : FileKind → Option (List ℕ)) (files : GridFiles) → Holds told files → told (file_of kind) ≡ Some (file_in kind files)
told_in Full told files holds = holds.primary_file
told_in Fed told files holds = holds.secondary_file

module _ (kind : Kind) (edges : List Edge) (cut : Cut) (table : BlockCounts) (told : FileKind → Option (List ℕ)) (i j : ℕ) (row : i < cut.parts) (column : j < cut.parts) (low : GoesThrough kind i j) (is : IsOnGrid edges cut table told) (cursor : CursorState) (begins : cursor ≡ cursor_at kind cut table i j) where
  abbrev bytes_are : List ℕ
  bytes_are = file_in kind (grid edges cut.vertices cut.parts)

  same_cursor : cursor_at kind cut (grid_table edges cut.vertices cut.parts) i j ≡ cursor
  same_cursor = ap (λ (t : BlockCounts). cursor_at kind cut t i j) (sym is.counts) ∙ sym begins

  given : IsStreamed cursor bytes_are (block edges (chunk_of cut) i j)
  given = subst (λ (k : CursorState). IsStreamed k bytes_are (block edges (chunk_of cut) i j)) same_cursor (streams kind edges cut i j is.limits is.numbers row column low)

  file_told : told cursor.file ≡ Some bytes_are
  file_told = ap (λ (k : CursorState). told k.file) begins ∙ told_in kind told (grid edges cut.vertices cut.parts) is.files

  -- what is known of the edges that it gives, is known of the block
  pub streamed : (P : List Edge → Type 0) → IfSome (told cursor.file) (λ bytes. P (edges_left cursor bytes)) → P (block edges (chunk_of cut) i j)
  streamed P had = subst P given.is_block (told_some (told cursor.file) (λ bytes. P (edges_left cursor bytes)) bytes_are file_told had)

  -- and finds no word outside its range
  pub never_damaged : {T : Type 0} (fault : FileFault) (result : Result T FileFault) → result ≡ Err fault → IfSome (told cursor.file) (λ bytes. FaultIs result (fault_left cursor bytes)) → IsIntact fault
  never_damaged {T} fault result failed had =
      let answer = told_some (told cursor.file) (λ bytes. FaultIs result (fault_left cursor bytes)) bytes_are file_told had in
      by_fault fault (subst (λ (r : Result T FileFault). FaultIs r (fault_left cursor bytes_are)) failed answer) given.sound
    where
      by_fault : (f : FileFault) → FaultIs {T = T} (Err f) (fault_left cursor bytes_are) → fault_left cursor bytes_are ≡ None → IsIntact f
      by_fault Depot h none = tt
      by_fault (Damaged file place found) h none = absurd (let e : Some (Damaged file place found) ≡ None = sym h ∙ none in cc)

-- a block's records lie inside that file, and it isn't long
pub block_inside : (kind : Kind) (cut : Cut) (table : BlockCounts) (i j : ℕ) → IsLaid cut table → i < cut.parts → j < cut.parts → GoesThrough kind i j → place_in kind table i j + 12 * count_at table i j ≤ bytes_in kind table
block_inside Full cut table i j laid row column low = primary_inside table i j
block_inside Fed cut table i j laid row column low = low_inside table i j low (omega (arith, laid.parts))

pub bytes_few : (kind : Kind) (cut : Cut) (table : BlockCounts) → IsLaid cut table → bytes_in kind table ≤ 25769803776
bytes_few Full cut table laid = omega (arith, laid.few)
bytes_few Fed cut table laid = omega (arith, laid.few, low_few table)

-- a cursor at a block stays inside that file
pub cursor_inside : (kind : Kind) (cut : Cut) (table : BlockCounts) (i j : ℕ) (told : FileKind → Option (List ℕ)) (cursor : CursorState) → IsLaid cut table → i < cut.parts → j < cut.parts → GoesThrough kind i j
    → HasBlocks table told → cursor ≡ cursor_at kind cut table i j → IfSome (told cursor.file) (IsInside cursor)
cursor_inside kind cut table i j told cursor laid row column low has begins =
    let fits = block_inside kind cut table i j laid row column low in
    subst (λ (k : CursorState). IfSome (told k.file) (IsInside k)) (sym begins)
    (told_more (told (file_of kind)) (λ file. bytes_in kind table ≤ length file) (IsInside (cursor_at kind cut table i j)) (λ file long. omega (arith, fits, long)) (has kind))

-- the same blocks in the same files
pub blocks_same : (table : BlockCounts) (old new : FileKind → Option (List ℕ)) → Same old new → HasBlocks table old → HasBlocks table new
blocks_same table old new same has kind = told_same (old (file_of kind)) (new (file_of kind)) (λ file. bytes_in kind table ≤ length file) (same (file_of kind)) (has kind)

-- a damaged record is one of the block
pub of_block : (kind : Kind) (cut : Cut) (table : BlockCounts) (i j : ℕ) (cursor : CursorState) (fault : FileFault) → cursor ≡ cursor_at kind cut table i j → IsDamage cursor.file cursor.ends cursor.place cursor.left fault → IsOfBlock kind cut table i j fault
of_block kind cut table i j cursor fault begins damage = subst (λ (k : CursorState). IsDamage k.file k.ends k.place k.left fault) begins damage

-- an iteration of a kind takes the blocks of its file
pub takes_blocks : (kind : Kind) → takes_of kind (file_of kind) ≡ true
takes_blocks Full = refl
takes_blocks Fed = refl

module _ {V S : Type 0} (coding : Coding V S) where
  -- nothing changed but the files, which are the same
  pub stays_told : (w : WindowState V S) (before after : Told) → Same before after → Stays coding w before w after
  stays_told w before after same = stays_same coding w w before after (room_none w) refl refl same

  -- the windows that a step leaves fit the same files
  pub fits_stays : (cut : Cut) (table : BlockCounts) (old new : WindowState V S) (before after : Told) → IsSameRoom old new → Same before after → FitsFiles coding cut table old before → FitsFiles coding cut table new after
  fits_stays cut table old new before after room same fits = record {
    cut_is = room.cut ∙ fits.cut_is;
    laid = fits.laid;
    blocks = blocks_same table before after same fits.blocks;
    sized = sized_same coding old new before after room (same Values) (same Sums) fits.sized;
  }
