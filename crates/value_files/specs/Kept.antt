-- Where the values and the sums of vertices stand in their files.
use Rattle.std.specs.Prelude.{◌≡◌, ◌≤◌, ◌⊎◌, ℕ, ◌+◌, ◌*◌, ◌%◌, List}
use Rattle.value_files.specs.Records.{records_at}

-- Where the value of vertex v after iteration t stands, of n vertices and w bytes a value: the values of odd iterations
-- stand behind those of even ones.
abbrev pub value_place : ℕ → ℕ → ℕ → ℕ → ℕ
value_place w n t v = (t % 2 * n + v) * w

-- where the sum of vertex v stands
abbrev pub sum_place : ℕ → ℕ → ℕ
sum_place w v = v * w

-- of two ranges of vertices, given by their first vertices and their lengths, one ends before the other begins
abbrev pub AreApart : ℕ → ℕ → ℕ → ℕ → Type 0
AreApart a m b n = (a + m ≤ b) ⊎ (b + n ≤ a)

-- the n records of w bytes each from a place on are those that stood there
abbrev pub SameRecords : ℕ → ℕ → ℕ → List ℕ → List ℕ → Type 0
SameRecords w place n old new = records_at w place n new ≡ records_at w place n old
