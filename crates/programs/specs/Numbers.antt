-- How two programs mix what a vertex has of its own with what it is given, in whole numbers.
use Rattle.std.specs.Prelude.{◌==◌, ◌||◌, ℕ, ◌+◌, ◌-◌, ◌*◌, ◌/◌, Bool, if◌then◌else◌, min, nat_lt}

-- `share` thousandths of what is given, and what is left of a thousand of one's own, each rounded down
abbrev pub mixed : ℕ → ℕ → ℕ → ℕ
mixed share own given = (1000 - share) * own / 1000 + share * given / 1000

-- a number, or the greatest one where it is above that
abbrev pub cut : ℕ → ℕ
cut n = min n 18446744073709551615

-- a sum stands at the greatest number, or what is made of it is above that
abbrev pub is_beyond : ℕ → ℕ → Bool
is_beyond sum next = (sum == 18446744073709551615) || nat_lt 18446744073709551615 next

-- an edge's part of a score, by its weight and that of all edges out of the vertex
abbrev pub part_by_weight : ℕ → ℕ → ℕ → ℕ
part_by_weight score weight out = if out == 0 then 0 else cut (score * weight / out)
