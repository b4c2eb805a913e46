-- A vertex program as mathematics: its functions on vertices, values and sums, and the laws that they keep.
use Rattle.std.specs.Prelude.{◌≡◌, ◌≢◌, ◌↔◌, ℕ, ◌<◌, ◌≤◌, ◌^◌, Bool, false, IsTrue, List, length}
use Rattle.lumos_base.specs.declared.records.OutInfo.{OutInfo}
use Rattle.lumos_base.specs.Records.{IsOutInfo}
use Rattle.lumos_law.specs.Joins.{JoinLaws}

-- the functions of a program with values V and sums S
pub record Program (V S : Type 0) : Type 0 where
  -- the first value of a vertex, by its number and what leads out of it
  pub init : ℕ → OutInfo → V
  -- whether a vertex with this value gives its neighbours anything
  pub contributes : V → Bool
  -- what an edge gives its target, by its source's value and its weight
  pub contribution : V → ℕ → S
  -- whether a vertex's next value is beyond the numbers that a value holds
  pub over : ℕ → V → S → Bool
  -- the next value of a vertex, by its value and its sum
  pub apply : ℕ → V → S → V
  -- whether a change of value is seen
  pub moved : V → V → Bool
  -- the text of a value
  pub show : V → List ℕ
  -- the sum of nothing
  pub unit : S
  -- two sums as one
  pub join : S → S → S

-- the laws of a program, on values and sums in range, and on vertices and weights below 2 ^ 32
pub record Lawful {V S : Type 0} (ValueIn : V → Type 0) (SumIn : S → Type 0) (p : Program V S) : Type 0 where
  -- sums may be joined in any order
  pub joins : JoinLaws SumIn p.unit p.join
  -- the functions stay in range
  pub init_in : (v : ℕ) (info : OutInfo) → v < 2 ^ 32 → IsOutInfo info → ValueIn (p.init v info)
  pub contribution_in : (x : V) (w : ℕ) → ValueIn x → w < 2 ^ 32 → SumIn (p.contribution x w)
  pub apply_in : (v : ℕ) (x : V) (s : S) → v < 2 ^ 32 → ValueIn x → SumIn s → ValueIn (p.apply v x s)
  -- a value that does not contribute gives the unit over every edge
  pub silent : (x : V) (w : ℕ) → ValueIn x → w < 2 ^ 32 → p.contributes x ≡ false → p.contribution x w ≡ p.unit
  -- a change is seen exactly where the shown texts differ
  pub moves : (x y : V) → ValueIn x → ValueIn y → IsTrue (p.moved x y) ↔ (p.show x ≢ p.show y)
  -- a shown text has at most 96 bytes
  pub short : (x : V) → ValueIn x → length (p.show x) ≤ 96
