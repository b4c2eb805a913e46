-- The vertices below a number, cut into parts of equal size: GridGraph's chunks.
use Rattle.std.specs.Prelude.{◌≡◌, ◌==◌, ℕ, ◌+◌, ◌-◌, ◌*◌, ◌/◌, ◌<◌, ◌≤◌, min, max, nat_lt, if◌then◌else◌, Result, Ok, Err}
use Rattle.std.specs.Int.{div_ceil}
use Rattle.partition.specs.declared.records.PartFault.{PartFault}
use Rattle.partition.specs.declared.records.PartFault.TheVariants.{ZeroParts, TooManyParts, TooManyVertices}
use Rattle.partition.specs.declared.records.VertexRange.{VertexRange}

-- so many vertices, cut into so many parts
pub record Cut : Type 0 where
  pub vertices : ℕ
  pub parts : ℕ

-- how many vertices a part has where n of them are cut into p parts: n / p rounded up, and at least one
abbrev pub chunk_size : ℕ → ℕ → ℕ
chunk_size n p = max 1 (div_ceil n p)

-- the same of a cut
abbrev pub chunk_of : Cut → ℕ
chunk_of cut = chunk_size cut.vertices cut.parts

-- the part of vertex v, where a part has c vertices
abbrev pub part_at : ℕ → ℕ → ℕ
part_at c v = v / c

-- of n vertices the first of part i, or n where the parts before it hold them all
abbrev pub first_vertex : ℕ → ℕ → ℕ → ℕ
first_vertex n c i = min n (i * c)

-- how many of n vertices part i has
abbrev pub part_length : ℕ → ℕ → ℕ → ℕ
part_length n c i = first_vertex n c (i + 1) - first_vertex n c i

-- the range of part i, which ends where the next one begins
abbrev pub part_range : ℕ → ℕ → ℕ → VertexRange
part_range n c i = record { first = first_vertex n c i; past = first_vertex n c (i + 1) }

-- v is one of the `count` vertices from `first` on
pub record IsWithin (first count v : ℕ) : Type 0 where
  pub low : first ≤ v
  pub high : v < first + count

-- v lies in the range of part i
abbrev pub IsInPart : ℕ → ℕ → ℕ → ℕ → Type 0
IsInPart n c i v = IsWithin (first_vertex n c i) (part_length n c i) v

-- the cut of n vertices into p parts, or the first of its faults
abbrev pub cut_of : ℕ → ℕ → Result Cut PartFault
cut_of n p =
    if p == 0 then Err ZeroParts
    else if nat_lt 256 p then Err (TooManyParts p)
    else if nat_lt 268435456 n then Err (TooManyVertices n)
    else Ok (record { vertices = n; parts = p })

-- Where each of p parts has c vertices, as few as p parts can have and still hold n vertices, and at least one: the
-- ranges follow one another from 0 to n, and each vertex lies in the range of its own part and in no other.
pub record CoverOnce (n c p : ℕ) : Type 0 where
  pub suffice : n ≤ p * c
  pub least : (more : ℕ) → 0 < more → n ≤ p * more → c ≤ more
  pub begins : (part_range n c 0).first ≡ 0
  pub touches : (i : ℕ) → (part_range n c i).past ≡ (part_range n c (i + 1)).first
  pub ends : (i : ℕ) → i + 1 ≡ p → (part_range n c i).past ≡ n
  pub below : (v : ℕ) → v < n → part_at c v < p
  pub within : (v : ℕ) → v < n → IsInPart n c (part_at c v) v
  pub alone : (i v : ℕ) → IsInPart n c i v → (v < n) × (part_at c v ≡ i)
