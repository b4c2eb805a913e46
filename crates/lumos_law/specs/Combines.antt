-- The four combines: their values and ranges, their bytes, and their joins.
use Rattle.std.specs.Prelude.{◌==◌, ◌&&◌, ◌||◌, ℕ, ◌+◌, ◌^◌, ◌<◌, Bool, if◌then◌else◌, nat_lt, min, List, ◌++◌, drop}
use Rattle.byteorder.specs.Endian.{little_bytes, little_number}
use Rattle.lumos_law.specs.declared.combines.Least.{Least}
use Rattle.lumos_law.specs.declared.combines.Total.{Total}
use Rattle.lumos_law.specs.declared.combines.Total4.{Total4}
use Rattle.lumos_law.specs.declared.combines.LeastTriple.{LeastTriple}

-- the `Least` of this number
abbrev pub least : ℕ → Least
least n = record { 0 = n }

-- the number of a `Least` lies within its type
abbrev pub IsLeast : Least → Type 0
IsLeast s = s.0 < 2 ^ 64

-- the join of two is the smaller one
abbrev pub least_of : Least → Least → Least
least_of a b = least (min a.0 b.0)

-- the `Total` of this number
abbrev pub total : ℕ → Total
total n = record { 0 = n }

-- the number of a `Total` lies within its type
abbrev pub IsTotal : Total → Type 0
IsTotal s = s.0 < 2 ^ 64

-- the sum of two numbers, or the greatest number where the sum is above it
abbrev pub saturating : ℕ → ℕ → ℕ
saturating m n = min (m + n) 18446744073709551615

-- the join of two is their sum, or the greatest number where the sum is above it
abbrev pub total_of : Total → Total → Total
total_of a b = total (saturating a.0 b.0)

-- the `Total4` of these four numbers
abbrev pub total4 : ℕ → ℕ → ℕ → ℕ → Total4
total4 a b c d = record { a = a; b = b; c = c; d = d }

-- the four numbers of a `Total4` lie within their types
pub record IsTotal4 (s : Total4) : Type 0 where
  pub a : s.a < 2 ^ 64
  pub b : s.b < 2 ^ 64
  pub c : s.c < 2 ^ 64
  pub d : s.d < 2 ^ 64

-- a `Total4`'s bytes are its four numbers, eight bytes each
abbrev pub total4_bytes : Total4 → List ℕ
total4_bytes s = little_bytes 8 s.a ++ little_bytes 8 s.b ++ little_bytes 8 s.c ++ little_bytes 8 s.d

-- the `Total4` that 32 bytes stand for
abbrev pub total4_from : List ℕ → Total4
total4_from bytes =
    total4 (little_number 8 bytes) (little_number 8 (drop 8 bytes)) (little_number 8 (drop 16 bytes)) (little_number 8 (drop 24 bytes))

-- the join of two has in each field the total of the two fields
abbrev pub total4_of : Total4 → Total4 → Total4
total4_of x y = total4 (saturating x.a y.a) (saturating x.b y.b) (saturating x.c y.c) (saturating x.d y.d)

-- the triple of these three numbers
abbrev pub triple : ℕ → ℕ → ℕ → LeastTriple
triple c h l = record { cost = c; hops = h; last = l }

-- the three numbers of a triple lie within their types
pub record IsTriple (s : LeastTriple) : Type 0 where
  pub cost : s.cost < 2 ^ 64
  pub hops : s.hops < 2 ^ 32
  pub last : s.last < 2 ^ 32

-- a triple's bytes are the cost in eight, the hops in four and the last vertex in four
abbrev pub triple_bytes : LeastTriple → List ℕ
triple_bytes s = little_bytes 8 s.cost ++ little_bytes 4 s.hops ++ little_bytes 4 s.last

-- the triple that 16 bytes stand for
abbrev pub triple_from : List ℕ → LeastTriple
triple_from bytes = triple (little_number 8 bytes) (little_number 4 (drop 8 bytes)) (little_number 4 (drop 12 bytes))

-- the triple whose three numbers are the greatest ones
abbrev pub most_triple : LeastTriple
most_triple = triple 18446744073709551615 4294967295 4294967295

-- b comes before a: by the cost, then by the hops, then by the last vertex
abbrev pub comes_before : LeastTriple → LeastTriple → Bool
comes_before b a =
    nat_lt b.cost a.cost || ((b.cost == a.cost) && (nat_lt b.hops a.hops || ((b.hops == a.hops) && nat_lt b.last a.last)))

-- the join of two is the one that comes first
abbrev pub triple_of : LeastTriple → LeastTriple → LeastTriple
triple_of a b = if comes_before b a then b else a
