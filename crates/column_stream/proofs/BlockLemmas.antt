-- The blocks of a grid, read from Primary and from Secondary.
use Rattle.std.proofs.Common.{◌≡◌, ◌≤◌, ◌<◌, ℕ, zero, suc, ◌+◌, ◌*◌, List, [], ◌∷◌, ◌++◌, All, length, drop, flat_map, sum, refl, sym, ap, ap₂, ◌∙◌, arith}
use Rattle.std.proofs.lemmas.List.{drop-drop, drop_at, take_at}
use Rattle.std.proofs.lemmas.List.Elements.{All-filter, All-head, All-tail}
use Rattle.lumos_base.specs.Records.{IsEdge, edge_bytes, edge_from}
use Rattle.lumos_base.specs.RecordLaws.{edge_reads_back}
use Rattle.lumos_base.specs.declared.records.Edge.{Edge}
use Rattle.lumos_depot.specs.Files.{range_at}
use Rattle.lumos_depot.specs.declared.depot.FileKind.{FileKind}
use Rattle.lumos_depot.specs.declared.depot.FileKind.TheVariants.{Primary, Secondary}
use Rattle.partition.specs.Blocks.{block, columns}
use Rattle.partition.specs.Parts.{chunk_size}
use Rattle.partition.proofs.BlockLemmas.{hold_once}
use Rattle.grid_format.specs.Grid.{HasGrid, grid, grid_table}
use Rattle.grid_format.specs.Tables.{count_at, primary_place_of, secondary_place_of}
use Rattle.grid_format.proofs.BlockPlaces.{length-each}
use Rattle.grid_format.proofs.GridBlocks.{count_is, place_is, sum-counts}
use Rattle.grid_format.proofs.LowBlocks.{length-low, low_place_is}
use Rattle.grid_format.proofs.TableLemmas.{low_inside, primary_inside}
use Rattle.column_stream.specs.Blocks.{IsStreamed, block_cursor, cursor_from, low_cursor}
use Rattle.column_stream.specs.Cursors.{edges_left}
use Rattle.column_stream.specs.Records.{Fits, edges_at, first_fault}
use Rattle.column_stream.proofs.EdgeLemmas.{edge_front, edges_of_range}
use Rattle.column_stream.proofs.FaultLemmas.{none_fits}

-- the edges from a place on are those of what stands there
edges-drop : (n k place : ℕ) (bytes : List ℕ) → edges_at (place + k) n bytes ≡ edges_at k n (drop place bytes)
edges-drop zero k place bytes = refl
edges-drop (suc n) k place bytes =
    let next : place + k + 12 ≡ place + (k + 12) = omega arith in
    ap₂ ◌∷◌ (ap edge_from (sym (drop-drop k place bytes))) (ap (λ (p : ℕ). edges_at p n bytes) next ∙ edges-drop n (k + 12) place bytes)

-- an edge is read back from bytes that begin with its own
edge_of_front : (e : Edge) (rest : List ℕ) → IsEdge e → edge_from (edge_bytes e ++ rest) ≡ e
edge_of_front e rest h =
    sym (edge_front 12 (edge_bytes e ++ rest) (omega arith)) ∙ ap edge_from (take_at (edge_bytes e) rest 12 refl) ∙ edge_reads_back e h

-- edges are read back from their bytes
pub edges_read_back : (edges : List Edge) → All IsEdge edges → edges_at 0 (length edges) (flat_map edge_bytes edges) ≡ edges
edges_read_back [] h = refl
edges_read_back (e ∷ es) h =
    let bytes = edge_bytes e ++ flat_map edge_bytes es in
    let next : 0 + 12 ≡ 12 + 0 = omega arith in
    ap₂ ◌∷◌ (edge_of_front e (flat_map edge_bytes es) (All-head IsEdge e es h))
    (ap (λ (p : ℕ). edges_at p (length es) bytes) next
    ∙ edges-drop (length es) 0 12 bytes
    ∙ ap (edges_at 0 (length es)) (drop_at (edge_bytes e) (flat_map edge_bytes es) 12 refl)
    ∙ edges_read_back es (All-tail IsEdge e es h))

-- A cursor over a block's bytes, wherever they stand, gives its edges.
streamed : (file : FileKind) (place : ℕ) (edges : List Edge) (n p i j : ℕ) (bytes : List ℕ) → HasGrid edges n p → All IsEdge edges → i < p → j < p → place + 12 * count_at (grid_table edges n p) i j ≤ length bytes → range_at place (12 * count_at (grid_table edges n p) i j) bytes ≡ flat_map edge_bytes (block edges (chunk_size n p) i j)
    → IsStreamed (cursor_from file place edges n p i j) bytes (block edges (chunk_size n p) i j)
streamed file place edges n p i j bytes is numbers row column inside at =
    let c = chunk_size n p in
    let here = block edges c i j in
    let cursor = cursor_from file place edges n p i j in
    let held = hold_once edges n p is.some_parts is.ends in
    let fits : All (Fits cursor.ends) here = λ k d low. record { source = held.sources i j k d low; target = held.targets i j k d low } in
    let read : edges_left cursor bytes ≡ here =
    sym (edges_of_range cursor.left place (12 * cursor.left) bytes (flat_map edge_bytes here) (sym at) refl)
    ∙ ap (λ (m : ℕ). edges_at 0 m (flat_map edge_bytes here)) (count_is edges c p i j row column)
    ∙ edges_read_back here (All-filter _ IsEdge edges numbers) in
    record {
      inside = inside;
      is_block = read;
      sound = ap (first_fault file cursor.ends place) read ∙ none_fits file cursor.ends place here fits;
    }

-- each block in Primary
pub block_streamed : (edges : List Edge) (n p i j : ℕ) → HasGrid edges n p → All IsEdge edges → i < p → j < p → IsStreamed (block_cursor edges n p i j) (grid edges n p).primary (block edges (chunk_size n p) i j)
block_streamed edges n p i j is numbers row column =
    let c = chunk_size n p in
    let table = grid_table edges n p in
    let long : length (grid edges n p).primary ≡ 12 * sum table.counts = length-each edge_bytes 12 (columns edges c p) (λ e. refl) ∙ ap (λ (k : ℕ). 12 * k) (sym (sum-counts edges c p)) in
    streamed Primary (primary_place_of table i j) edges n p i j (grid edges n p).primary is numbers row column
    (omega (arith, primary_inside table i j, long)) (place_is edges c p i j row column)

-- and each on the diagonal or below it in Secondary
pub low_streamed : (edges : List Edge) (n p i j : ℕ) → HasGrid edges n p → All IsEdge edges → i < p → j ≤ i → IsStreamed (low_cursor edges n p i j) (grid edges n p).secondary (block edges (chunk_size n p) i j)
low_streamed edges n p i j is numbers row low =
    let c = chunk_size n p in
    let table = grid_table edges n p in
    streamed Secondary (secondary_place_of table i j) edges n p i j (grid edges n p).secondary is numbers row (omega arith)
    (omega (arith, low_inside table i j low row, length-low edges c p)) (low_place_is edges c p i j row low)
