-- Lists of edges between the vertices below a number.
use Rattle.std.specs.Prelude.{ℕ, ◌≤◌, List, length, All}
use Rattle.lumos_base.specs.Records.{IsEdge}
use Rattle.lumos_base.specs.declared.records.Edge.{Edge}
use Rattle.partition.specs.Blocks.{IsBelow}

-- a list of edges between the vertices below n, within the limit on its length
pub record IsEdgeList (n : ℕ) (edges : List Edge) : Type 0 where
  pub few : length edges ≤ 2147483648
  pub numbers : All IsEdge edges
  pub ends : All (IsBelow n) edges
