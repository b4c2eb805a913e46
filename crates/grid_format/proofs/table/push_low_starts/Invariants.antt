use Rattle.std.proofs.Common.{◌≡◌, ◌<◌, ◌≤◌, ◌*◌, ℕ, length, slice_index, vec_len, vec_capacity}
use Rattle.grid_format.specs.Tables.{low_edges}
use Rattle.grid_format.proofs.table.push_low_starts.Given as goal

-- the columns so far are in the total, and have their places
abbrev pub invariant-loop-j : goal.invariant-loop-j
invariant-loop-j l = record {
  total : l.total ≡ low_edges (record { parts = l.parts; counts = l.counts }) l.j;
  same : vec_len l.starts ≡ l.j;
  room : l.parts ≤ vec_capacity l.starts;
  each : (k : ℕ) → k < length l.starts.items → slice_index l.starts.items k ≡ 12 * low_edges (record { parts = l.parts; counts = l.counts }) k;
}
