-- Edges and `OutInfo`s written as bytes, and read again.
use Rattle.std.proofs.Common.{◌≡◌, ℕ, List, ◌++◌, drop}
use Rattle.byteorder.specs.Numbers.{little_number-reads_back}
use Rattle.byteorder.specs.Endian.{little_bytes}
use Rattle.lumos_base.specs.Bytes.{IsBytes}
use Rattle.lumos_base.specs.ByteLaws.{IsBytes-append, IsBytes-drop, number_reads_back, number_in_range, number_bytes}
use Rattle.lumos_base.specs.Records.{vertex_of, weight_of, IsEdge, edge_bytes, edge_from, IsOutInfo, info_bytes, info_from}
use Rattle.lumos_base.specs.declared.records.Edge.{Edge}
use Rattle.lumos_base.specs.declared.records.OutInfo.{OutInfo}

-- an edge in range is read back from its bytes
pub edge_reads_back : (e : Edge) → IsEdge e → edge_from (edge_bytes e) ≡ e
edge_reads_back e h =
    let t = e.target.0 in
    let w = e.weight.0 in
    let source = little_number-reads_back 4 e.source.0 (little_bytes 4 t ++ little_bytes 4 w) h.source in
    let target = little_number-reads_back 4 t (little_bytes 4 w) h.target in
    let weight = number_reads_back 4 w h.weight in
    λ i. record { source = vertex_of (source i); target = vertex_of (target i); weight = weight_of (weight i) }

-- bytes stand for an edge in range
pub edge_in_range : (bytes : List ℕ) → IsBytes bytes → IsEdge (edge_from bytes)
edge_in_range bytes h = record {
  source = number_in_range 4 bytes h;
  target = number_in_range 4 (drop 4 bytes) (IsBytes-drop 4 bytes h);
  weight = number_in_range 4 (drop 8 bytes) (IsBytes-drop 8 bytes h);
}

pub edge_are_bytes : (e : Edge) → IsBytes (edge_bytes e)
edge_are_bytes e =
    IsBytes-append (little_bytes 4 e.source.0 ++ little_bytes 4 e.target.0) (little_bytes 4 e.weight.0)
    (IsBytes-append (little_bytes 4 e.source.0) (little_bytes 4 e.target.0) (number_bytes 4 e.source.0) (number_bytes 4 e.target.0))
    (number_bytes 4 e.weight.0)

-- an `OutInfo` in range is read back from its bytes
pub info_reads_back : (info : OutInfo) → IsOutInfo info → info_from (info_bytes info) ≡ info
info_reads_back info h =
    let degree = little_number-reads_back 4 info.degree (little_bytes 8 info.weight) h.degree in
    let weight = number_reads_back 8 info.weight h.weight in
    λ i. record { degree = degree i; weight = weight i }

-- bytes stand for an `OutInfo` in range
pub info_in_range : (bytes : List ℕ) → IsBytes bytes → IsOutInfo (info_from bytes)
info_in_range bytes h = record {
  degree = number_in_range 4 bytes h;
  weight = number_in_range 8 (drop 4 bytes) (IsBytes-drop 4 bytes h);
}

pub info_are_bytes : (info : OutInfo) → IsBytes (info_bytes info)
info_are_bytes info =
    IsBytes-append (little_bytes 4 info.degree) (little_bytes 8 info.weight) (number_bytes 4 info.degree) (number_bytes 8 info.weight)
