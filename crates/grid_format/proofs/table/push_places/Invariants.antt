use Rattle.std.proofs.Common.{◌≡◌, ◌<◌, ◌≤◌, ℕ, length, sum, take, slice_index, vec_len, vec_capacity}
use Rattle.grid_format.specs.Tables.{place_behind}
use Rattle.grid_format.proofs.table.push_places.Given as goal

-- the counts so far are in the total, and their blocks have places
abbrev pub invariant-loop-count : goal.invariant-loop-count
invariant-loop-count l = record {
  total : l.total ≡ sum (take l.count-index l.counts);
  same : vec_len l.places ≡ l.count-index;
  room : length l.counts ≤ vec_capacity l.places;
  each : (k : ℕ) → k < length l.places.items → slice_index l.places.items k ≡ place_behind l.counts k;
}
