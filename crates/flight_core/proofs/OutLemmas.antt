-- What leads out of the vertices, edge by edge.
use Rattle.std.proofs.Common.{◌≡◌, ◌⊎◌, inl, inr, ◌==◌, ◌<◌, ◌≤◌, ◌^◌, ℕ, ◌+◌, take, true, false, cond, List, [], ◌∷◌, ◌++◌, length, get_or, set, sum_by, sym, ap, ◌∙◌, arith}
use Rattle.std.proofs.lemmas.Bool.{cases_eq, eq-eqb, ne_eqb}
use Rattle.std.specs.List.{AllByRecursion}
use Rattle.std.proofs.lemmas.List.{append-nil, get_or-set_other, get_or-set_same, length-append, length-set, length-take, take_more}
use Rattle.std.proofs.lemmas.List.Elements.{All-take, recursion_from_All}
use Rattle.lumos_base.specs.Leaving.{edges_from, no_info, out_info}
use Rattle.lumos_base.specs.Records.{IsEdge}
use Rattle.lumos_law.proofs.ValueLemmas.{out_info_in}
use Rattle.flight_core.specs.EdgeList.{IsEdgeList}
use Rattle.std.proofs.lemmas.List.Sums.{sum_by-append}
use Rattle.lumos_base.specs.declared.records.Edge.{Edge}
use Rattle.lumos_base.specs.declared.records.OutInfo.{OutInfo}
use Rattle.lumos_law.specs.Sync.{IsChunk}
use Rattle.lumos_law.proofs.SumLemmas.{filter-append}

-- one edge more out of a vertex
abbrev pub info_with : Edge → OutInfo → OutInfo
info_with e info = record { degree = info.degree + 1; weight = info.weight + e.weight.0 }

abbrev info_of : ℕ → ℕ → OutInfo
info_of degree weight = record { degree = degree; weight = weight }

-- an edge out of v
out_hit : (es : List Edge) (e : Edge) (v : ℕ) → (e.source.0 == v) ≡ true → out_info (es ++ e ∷ []) v ≡ info_with e (out_info es v)
out_hit es e v hit =
    let more : edges_from (es ++ e ∷ []) v ≡ edges_from es v ++ e ∷ [] = filter-append (λ (f : Edge). f.source.0 == v) es (e ∷ []) ∙ ap (λ b. edges_from es v ++ cond b (e ∷ []) []) hit in
    let degree : length (edges_from (es ++ e ∷ []) v) ≡ length (edges_from es v) + 1 = ap length more ∙ length-append (edges_from es v) (e ∷ []) in
    let last : sum_by (λ (f : Edge). f.weight.0) (e ∷ []) ≡ e.weight.0 = omega arith in
    let weight = ap (sum_by (λ (f : Edge). f.weight.0)) more ∙ sum_by-append (λ (f : Edge). f.weight.0) (edges_from es v) (e ∷ []) ∙ ap (λ (w : ℕ). sum_by (λ (f : Edge). f.weight.0) (edges_from es v) + w) last in
    λ i. info_of (degree i) (weight i)

-- an edge out of another vertex
out_miss : (es : List Edge) (e : Edge) (v : ℕ) → (e.source.0 == v) ≡ false → out_info (es ++ e ∷ []) v ≡ out_info es v
out_miss es e v miss =
    let same : edges_from (es ++ e ∷ []) v ≡ edges_from es v = filter-append (λ (f : Edge). f.source.0 == v) es (e ∷ []) ∙ ap (λ b. edges_from es v ++ cond b (e ∷ []) []) miss ∙ append-nil (edges_from es v) in
    ap (λ (out : List Edge). info_of (length out) (sum_by (λ (f : Edge). f.weight.0) out)) same

-- one edge more, in the list of all vertices
pub infos_more : (es : List Edge) (e : Edge) (infos : List OutInfo) (new : OutInfo) → e.source.0 < length infos → IsChunk (out_info es) 0 infos → new ≡ info_with e (get_or infos e.source.0 new) → IsChunk (out_info (es ++ e ∷ [])) 0 (set infos e.source.0 new)
infos_more es e infos new within chunk is = record { at = λ d k below. here d k (omega (arith, length-set infos e.source.0 new)) (cases_eq k e.source.0) }
  where
    here : (d : OutInfo) (k : ℕ) → k < length infos → (k ≡ e.source.0) ⊎ (k ≡ e.source.0 → ⊥) → get_or (set infos e.source.0 new) k d ≡ out_info (es ++ e ∷ []) (0 + k)
    here d k below (inl same) =
        let place : 0 + k ≡ k = omega arith in
        ap (λ (j : ℕ). get_or (set infos e.source.0 new) j d) same ∙ get_or-set_same infos e.source.0 new d within ∙ is
        ∙ ap (info_with e) (ap (λ (j : ℕ). get_or infos j new) (sym same) ∙ chunk.at new k below)
        ∙ sym (out_hit es e (0 + k) (eq-eqb e.source.0 (0 + k) (sym same ∙ sym place)))
    here d k below (inr apart) =
        get_or-set_other infos e.source.0 k new d apart ∙ chunk.at d k below
        ∙ sym (out_miss es e (0 + k) (ne_eqb e.source.0 (0 + k) (λ same. apart (omega arith))))

-- the sums of one edge more stay within their types
pub record FitsNext (info : OutInfo) (e : Edge) : Type 0 where
  pub degree : info.degree + 1 < 2 ^ 32
  pub weight : info.weight + e.weight.0 < 2 ^ 64

pub next_fits : (edges : List Edge) (i : ℕ) (d : Edge) (infos : List OutInfo) → i < length edges → IsEdgeList (length infos) edges → IsChunk (out_info (take i edges)) 0 infos → FitsNext (get_or infos (get_or edges i d).source.0 no_info) (get_or edges i d)
next_fits edges i d infos inside graph chunk =
    let e = get_or edges i d in
    let within = (graph.ends i d inside).source in
    let first : List Edge = take i edges in
    let more : take (i + 1) edges ≡ first ++ e ∷ [] = take_more edges i d inside in
    let some : length (first ++ e ∷ []) ≤ 2147483648 = rw (← more) (omega (arith, length-take (i + 1) edges, graph.few)) in
    let numbers : AllByRecursion IsEdge (first ++ e ∷ []) = rw (← more) (recursion_from_All IsEdge (take (i + 1) edges) (All-take IsEdge (i + 1) edges graph.numbers)) in
    let all = out_info_in (first ++ e ∷ []) (0 + e.source.0) some numbers in
    let place : 0 + e.source.0 ≡ e.source.0 = omega arith in
    let hit = out_hit first e (0 + e.source.0) (eq-eqb e.source.0 (0 + e.source.0) (sym place)) in
    let read = chunk.at no_info e.source.0 within in
    let degree = ap (λ (o : OutInfo). o.degree) hit in
    let weight = ap (λ (o : OutInfo). o.weight) hit in
    let here_degree = ap (λ (o : OutInfo). o.degree) read in
    let here_weight = ap (λ (o : OutInfo). o.weight) read in
    record { degree = let fits = all.degree in omega arith; weight = let fits = all.weight in omega arith }
