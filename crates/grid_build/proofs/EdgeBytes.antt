-- The bytes of a list of edges, and edge after edge of them.
use Rattle.std.proofs.Common.{◌≡◌, ◌<◌, ◌*◌, ◌+◌, ℕ, List, ◌∷◌, [], ◌++◌, length, get_or, set, take, drop, refl, sym, ap, ap₂, ◌∙◌, arith}
use Rattle.std.specs.Prelude.{All, flat_map}
use Rattle.std.proofs.Math.Seq.{take-add}
use Rattle.std.proofs.lemmas.List.{drop_more, flat_map_more, take_more, take_more_set}
use Rattle.std.proofs.lemmas.List.Elements.{All-get_or}
use Rattle.lumos_base.specs.Records.{IsEdge, edge_bytes, edge_from}
use Rattle.lumos_base.specs.RecordLaws.{edge_reads_back}
use Rattle.lumos_base.specs.declared.records.Edge.{Edge}
use Rattle.grid_format.proofs.BlockPlaces.{drop-each, length-each}

pub length-edges : (list : List Edge) → length (flat_map edge_bytes list) ≡ 12 * length list
length-edges list = length-each edge_bytes 12 list (λ e. refl)

-- the edge that the bytes at a place stand for
pub edge_at : (bytes : List ℕ) (list : List Edge) (i : ℕ) (e : Edge) → All IsEdge list → bytes ≡ flat_map edge_bytes list → i < length list → edge_from (take 12 (drop (12 * i) bytes)) ≡ get_or list i e
edge_at bytes list i e numbers is low =
    ap (λ (b : List ℕ). edge_from (take 12 (drop (12 * i) b))) is
    ∙ ap (λ (b : List ℕ). edge_from (take 12 b)) (drop-each edge_bytes 12 i list (λ x. refl))
    ∙ ap (λ (es : List Edge). edge_from (take 12 (flat_map edge_bytes es))) (drop_more list i e low)
    ∙ edge_reads_back (get_or list i e) (All-get_or IsEdge list i e low numbers)

-- one edge more was read
pub read_more : (bytes : List ℕ) (edges list : List Edge) (i : ℕ) (e : Edge) → All IsEdge list → bytes ≡ flat_map edge_bytes list → i < length edges → length edges ≡ length list →
    e ≡ edge_from (take 12 (drop (12 * i) bytes)) → take i edges ≡ take i list → take (i + 1) (set edges i e) ≡ take (i + 1) list
read_more bytes edges list i e numbers is low same read had =
    let inside : i < length list = omega arith in
    take_more_set edges i e low
    ∙ ap (λ es. es ++ e ∷ []) had
    ∙ ap (λ x. take i list ++ x ∷ []) (read ∙ edge_at bytes list i e numbers is inside)
    ∙ sym (take_more list i e inside)

-- its bytes
pub bytes_more : (bytes : List ℕ) (edges : List Edge) (i : ℕ) (e : Edge) (n : ℕ) → n ≡ 12 → i < length edges → edge_bytes e ≡ take n (drop (12 * i) bytes) → flat_map edge_bytes (take i edges) ≡ take (12 * i) bytes →
    flat_map edge_bytes (take (i + 1) (set edges i e)) ≡ take (12 * (i + 1)) bytes
bytes_more bytes edges i e n width low is had =
    let next : 12 * i + n ≡ 12 * (i + 1) = omega (arith, width) in
    ap (flat_map edge_bytes) (take_more_set edges i e low)
    ∙ sym (flat_map_more edge_bytes [] (take i edges) e)
    ∙ ap₂ ◌++◌ had is
    ∙ sym (take-add (12 * i) n bytes)
    ∙ ap (λ (k : ℕ). take k bytes) next

-- one edge more was written
pub written_more : (edges : List Edge) (i : ℕ) (d : Edge) (bytes : List ℕ) → i < length edges → bytes ≡ flat_map edge_bytes (take i edges) → bytes ++ edge_bytes (get_or edges i d) ≡ flat_map edge_bytes (take (i + 1) edges)
written_more edges i d bytes low had =
    ap (λ b. b ++ edge_bytes (get_or edges i d)) had
    ∙ flat_map_more edge_bytes [] (take i edges) (get_or edges i d)
    ∙ ap (flat_map edge_bytes) (sym (take_more edges i d low))
