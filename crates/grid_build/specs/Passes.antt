-- Passes over Spool, which holds the edges of the list in the order of the input.
use Rattle.std.specs.Prelude.{◌≡◌, ◌≤◌, ◌-◌, ℕ, List, flat_map, length, min, take, All, Option, Some}
use Rattle.lumos_base.specs.Records.{IsEdge, edge_bytes}
use Rattle.lumos_base.specs.declared.records.Edge.{Edge}
use Rattle.partition.specs.Blocks.{IsBelow}

-- A depot that tells its files has the edges of a list over n vertices in Spool.
pub record IsSpool (n : ℕ) (spool : Option (List ℕ)) (list : List Edge) : Type 0 where
  pub numbers : All IsEdge list
  pub ends : All (IsBelow n) list
  pub bytes : spool ≡ Some (flat_map edge_bytes list)

-- an edge that was read, where there are n vertices: an end that is none of them counts as the last
abbrev pub capped : ℕ → Edge → Edge
capped n edge = record {
  source = record { 0 = min edge.source.0 (n - 1) };
  target = record { 0 = min edge.target.0 (n - 1) };
  weight = edge.weight;
}

-- A pass over Spool has given these edges, so many: ends below n and, where Spool is told, the first of its edges.
pub record IsPass (n : ℕ) (spool : Option (List ℕ)) (count : ℕ) (given : List Edge) : Type 0 where
  pub whole : length given ≡ count
  pub below : All (IsBelow n) given
  pub told : (list : List Edge) → IsSpool n spool list → count ≤ length list → given ≡ take count list
