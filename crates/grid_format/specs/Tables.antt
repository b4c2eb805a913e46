-- The blocks of a grid, by their numbers of edges in column order.
use Rattle.std.specs.Prelude.{◌≡◌, ◌<◌, ◌≤◌, ◌⊎◌, ⊤, ℕ, ◌+◌, ◌-◌, ◌*◌, List, length, sum, sum_by, take, slice_index}
use Rattle.std.specs.List.{range_with_len}
use Rattle.grid_format.specs.declared.head.GridInfo.{GridInfo}
use Rattle.grid_format.specs.declared.table.TableFault.{TableFault}
use Rattle.grid_format.specs.declared.table.TableFault.TheVariants.{Depot, Damaged, NoMemory}

-- how many parts there are, and how many edges each block has, in column order
pub record BlockCounts : Type 0 where
  pub parts : ℕ
  pub counts : List ℕ

-- how many blocks stand before block (i,j) in column order
abbrev pub block_place : ℕ → ℕ → ℕ → ℕ
block_place p i j = j * p + i

-- how many edges block (i,j) has
abbrev pub count_at : BlockCounts → ℕ → ℕ → ℕ
count_at table i j = slice_index table.counts (block_place table.parts i j)

-- where the block behind k others begins in Primary: twelve bytes for each of their edges
abbrev pub place_behind : List ℕ → ℕ → ℕ
place_behind counts k = 12 * sum (take k counts)

-- where block (i,j) begins in Primary
abbrev pub primary_place_of : BlockCounts → ℕ → ℕ → ℕ
primary_place_of table i j = place_behind table.counts (block_place table.parts i j)

-- how many edges column j has in the n rows from a on
abbrev pub edges_in_rows : BlockCounts → ℕ → ℕ → ℕ → ℕ
edges_in_rows table j a n = sum_by (λ i. count_at table i j) (range_with_len a n)

-- how many edges the first n columns have on the diagonal and below it
abbrev pub low_edges : BlockCounts → ℕ → ℕ
low_edges table n = sum_by (λ j. edges_in_rows table j j (table.parts - j)) (range_with_len 0 n)

-- where block (i,j), on the diagonal or below it, begins in Secondary
abbrev pub secondary_place_of : BlockCounts → ℕ → ℕ → ℕ
secondary_place_of table i j = 12 * (low_edges table j + edges_in_rows table j j (i - j))

-- these are the places in Primary of blocks with these numbers of edges
pub record ArePlaces (counts places : List ℕ) : Type 0 where
  pub same : length places ≡ length counts
  pub each : (k : ℕ) → k < length places → slice_index places k ≡ place_behind counts k

-- These are the places in Secondary where columns begin, on the diagonal and below it.
pub record AreStarts (table : BlockCounts) (starts : List ℕ) : Type 0 where
  pub same : length starts ≡ table.parts
  pub each : (j : ℕ) → j < length starts → slice_index starts j ≡ 12 * low_edges table j

-- The table has a number and a place for each block, and for each column the place where it begins in Secondary.
pub record IsTable (parts : ℕ) (counts places starts : List ℕ) : Type 0 where
  pub blocks : length counts ≡ parts * parts
  pub few : sum counts ≤ 2147483648
  pub begin : ArePlaces counts places
  pub low_begin : AreStarts (record { parts = parts; counts = counts }) starts

-- a fact that is owed where the depot failed
abbrev pub OnDepotFault : TableFault → Type 0 → Type 0
OnDepotFault Depot fact = fact
OnDepotFault (Damaged place found) fact = ⊤
OnDepotFault NoMemory fact = ⊤

-- a fact that is owed where a number at a place of Meta doesn't fit
abbrev pub IfDamaged : TableFault → (ℕ → ℕ → Type 0) → Type 0
IfDamaged Depot fact = ⊤
IfDamaged (Damaged place found) fact = fact place found
IfDamaged NoMemory fact = ⊤

-- the place in Meta of one of so many counts
abbrev pub IsCountPlace : ℕ → ℕ → Type 0
IsCountPlace blocks place = (k : ℕ) × (k < blocks) × (place ≡ 32 + 8 * k)

-- A count that takes the total past the edges isn't 0, and is that of a block; nor is a number of edges that the total
-- doesn't reach.
abbrev pub IsWrongCount : GridInfo → ℕ → ℕ → Type 0
IsWrongCount info place found =
    (0 < found) × (((place ≡ 24) × (found ≡ info.edges)) ⊎ IsCountPlace (info.parts * info.parts) place)
