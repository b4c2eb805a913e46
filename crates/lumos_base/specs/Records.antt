-- The bytes of an edge and of an `OutInfo`, each number with its least byte first.
use Rattle.std.specs.Prelude.{ℕ, ◌<◌, ◌^◌, List, ◌++◌, drop}
use Rattle.byteorder.specs.Endian.{little_bytes, little_number}
use Rattle.lumos_base.specs.declared.records.Edge.{Edge}
use Rattle.lumos_base.specs.declared.records.OutInfo.{OutInfo}
use Rattle.lumos_base.specs.declared.records.Vertex.{Vertex}
use Rattle.lumos_base.specs.declared.records.Weight.{Weight}

-- the vertex with this number
abbrev pub vertex_of : ℕ → Vertex
vertex_of n = record { 0 = n }

-- the weight of this size
abbrev pub weight_of : ℕ → Weight
weight_of n = record { 0 = n }

-- the numbers of an edge lie within their types
pub record IsEdge (e : Edge) : Type 0 where
  pub source : e.source.0 < 2 ^ 32
  pub target : e.target.0 < 2 ^ 32
  pub weight : e.weight.0 < 2 ^ 32

-- an edge's bytes are the source, the target and the weight, four bytes each
abbrev pub edge_bytes : Edge → List ℕ
edge_bytes e = little_bytes 4 e.source.0 ++ little_bytes 4 e.target.0 ++ little_bytes 4 e.weight.0

-- the edge that twelve bytes stand for
abbrev pub edge_from : List ℕ → Edge
edge_from bytes = record {
  source = vertex_of (little_number 4 bytes);
  target = vertex_of (little_number 4 (drop 4 bytes));
  weight = weight_of (little_number 4 (drop 8 bytes));
}

-- the numbers of an `OutInfo` lie within their types
pub record IsOutInfo (info : OutInfo) : Type 0 where
  pub degree : info.degree < 2 ^ 32
  pub weight : info.weight < 2 ^ 64

-- an `OutInfo`'s bytes are the degree in four bytes and the weight in eight
abbrev pub info_bytes : OutInfo → List ℕ
info_bytes info = little_bytes 4 info.degree ++ little_bytes 8 info.weight

-- the `OutInfo` that twelve bytes stand for
abbrev pub info_from : List ℕ → OutInfo
info_from bytes = record { degree = little_number 4 bytes; weight = little_number 8 (drop 4 bytes) }
