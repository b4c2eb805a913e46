-- Tests of ranges of vertices.
use Rattle.std.specs.Prelude.{ℕ, Bool, ◌&&◌, not, nat_lt}
use Rattle.lumos_base.specs.declared.records.Edge.{Edge}
use Rattle.partition.specs.declared.records.VertexRange.{VertexRange}

-- whether a vertex lies in a range
abbrev pub is_in : VertexRange → ℕ → Bool
is_in range v = not (nat_lt v range.first) && nat_lt v range.past

-- whether an edge leads from the first range into the second
abbrev pub is_between : VertexRange → VertexRange → Edge → Bool
is_between from into e = is_in from e.source.0 && is_in into e.target.0
