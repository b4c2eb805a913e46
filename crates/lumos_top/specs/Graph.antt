-- A graph by its list of edges.
use Rattle.std.specs.Prelude.{ℕ, ◌≤◌, List, length, All}
use Rattle.lumos_base.specs.declared.records.Edge.{Edge}
use Rattle.lumos_base.specs.Records.{IsEdge}
use Rattle.partition.specs.Blocks.{IsBelow}

-- a list of edges between n vertices, within the limits on both
pub record IsGraph (n : ℕ) (edges : List Edge) : Type 0 where
  pub few : length edges ≤ 2147483648
  pub few_vertices : n ≤ 268435456
  pub numbers : All IsEdge edges
  pub ends : All (IsBelow n) edges
