use Rattle.std.proofs.Common.{◌≡◌, ℕ, ◌*◌, List, length, sum, refl, sym, ap, ◌+◌, ◌∙◌, arith}
use Rattle.std.specs.List.{range_with_len}
use Rattle.std.proofs.lemmas.List.Sorted.{length_permutation}
use Rattle.lumos_base.specs.Leaving.{out_info}
use Rattle.lumos_base.specs.Records.{edge_bytes, info_bytes}
use Rattle.lumos_base.specs.declared.records.Edge.{Edge}
use Rattle.partition.specs.Blocks.{columns}
use Rattle.partition.specs.Parts.{chunk_size}
use Rattle.partition.proofs.BlockLemmas.{hold_once}
use Rattle.grid_format.specs.Checks.{counted}
use Rattle.grid_format.specs.Grid.{HasGrid, IsRead, block_counts, grid, grid_head}
use Rattle.grid_format.proofs.BlockPlaces.{length-each, length-range}
use Rattle.grid_format.proofs.GridBlocks.{count_is, length-counts, place_is, sum-counts}
use Rattle.grid_format.specs.Tables.{low_edges}
use Rattle.grid_format.proofs.LowBlocks.{length-low, low_place_is}
use Rattle.grid_format.proofs.MetaLemmas.{counted_all, counts_read, fields_read, head_whole, length-meta}
use Rattle.grid_format.proofs.laws.grids_are_read.Goals as goal

is_read : (edges : List Edge) (n p : ℕ) → HasGrid edges n p → IsRead edges n p
is_read edges n p h =
    let c = chunk_size n p in
    let info = grid_head edges n p in
    let all = block_counts edges c p in
    let whole : length (columns edges c p) ≡ length edges = length_permutation edges (columns edges c p) (hold_once edges n p h.some_parts h.ends).whole in
    let sums : sum all ≡ length edges = sum-counts edges c p ∙ whole in
    let read = counts_read info all p (length-counts edges c p) (omega (arith, sums, h.few)) in
    record {
      head = head_whole (grid edges n p) info
          (fields_read info all refl (record { some_parts = h.some_parts; few_parts = h.few_parts; vertices = h.vertices; edges = h.few }))
          (length-meta info all ∙ ap (λ (k : ℕ). 32 + 8 * k) (length-counts edges c p))
          (ap (counted (length edges)) read ∙ counted_all (length edges) all sums)
          (length-each edge_bytes 12 (columns edges c p) (λ e. refl) ∙ ap (λ (k : ℕ). 12 * k) whole)
          (length-low edges c p ∙ ap (λ (counts : List ℕ). 12 * low_edges (record { parts = p; counts = counts }) p) (sym read))
          (length-each (λ v. info_bytes (out_info edges v)) 12 (range_with_len 0 n) (λ v. refl) ∙ ap (λ (k : ℕ). 12 * k) (length-range 0 n));
      counts = read;
      count = count_is edges c p;
      place = place_is edges c p;
      low_place = low_place_is edges c p;
    }

pub returns : goal.returns
returns c = is_read
