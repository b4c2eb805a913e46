-- What leads out of each vertex, edge after edge.
use Rattle.std.proofs.Common.{◌≡◌, ◌==◌, ◌≤◌, ◌<◌, ◌+◌, ℕ, Bool, true, false, cond, List, [], ◌∷◌, ◌++◌, All, Option, length, get_or, take, map, replicate, sym, ap, ap₂, ◌∙◌, subst, arith, length-append, append-nil, append_assoc}
use Rattle.std.specs.List.{range_with_len, sum_by}
use Rattle.std.proofs.lemmas.List.{get_or_default, get_or-map, get_or-replicate, length-map, length-replicate, same_lists, take_more}
use Rattle.std.proofs.lemmas.List.Elements.{All-filter, All-nil, All-push, filter-append}
use Rattle.std.proofs.lemmas.List.Sums.{count_by-le-length, length-filter, sum_by_push, sum_by-le}
use Rattle.lumos_base.specs.Leaving.{edges_from, no_info, out_info}
use Rattle.lumos_base.specs.declared.records.Edge.{Edge}
use Rattle.lumos_base.specs.declared.records.OutInfo.{OutInfo}
use Rattle.grid_format.proofs.BlockPlaces.{get_or-range, length-range}
use Rattle.grid_build.specs.Passes.{IsSpool}
use Rattle.grid_build.specs.Tallied.{AreTallies, HasSpace, HasTallied, IsLight, with_edge}
use Rattle.grid_build.proofs.PassLemmas.{pass_none, pass_whole}

abbrev info_of : ℕ → ℕ → OutInfo
info_of d w = record { degree = d; weight = w }

-- the number of edges, and the sum of their weights
abbrev tally_of : List Edge → OutInfo
tally_of outs = record { degree = length outs; weight = sum_by (λ e. e.weight.0) outs }

-- the same with one edge more, or without
tally_one : (e : Edge) (b : Bool) (outs : List Edge) → tally_of (outs ++ cond b (e ∷ []) []) ≡ cond b (info_of (length outs + 1) (sum_by (λ x. x.weight.0) outs + e.weight.0)) (tally_of outs)
tally_one e true outs = ap₂ info_of (length-append outs (e ∷ [])) (sum_by_push (λ x. x.weight.0) outs e)
tally_one e false outs = ap tally_of (append-nil outs)

leaving_more : (edges : List Edge) (e : Edge) (v : ℕ) → out_info (edges ++ e ∷ []) v ≡ with_edge v e (out_info edges v)
leaving_more edges e v =
    ap tally_of (filter-append (λ x. x.source.0 == v) edges (e ∷ [])) ∙ tally_one e (e.source.0 == v) (edges_from edges v)

-- one edge more is tallied
pub tallies_more : (first : ℕ) (edges : List Edge) (e : Edge) (old new : List OutInfo) → AreTallies first edges old → IsLight e → length new ≡ length old →
    ((k : ℕ) → k < length old → get_or new k no_info ≡ with_edge (first + k) e (get_or old k no_info)) → AreTallies first (edges ++ e ∷ []) new
tallies_more first edges e old new had light long each = record {
  light = All-push IsLight edges e had.light light;
  each = λ k inside.
      let within : k < length old = omega arith in
      each k within ∙ ap (with_edge (first + k) e) (had.each k within) ∙ sym (leaving_more edges e (first + k));
}

-- few edges leave room for one more
pub tallies_room : (first : ℕ) (edges : List Edge) (infos : List OutInfo) → AreTallies first edges infos → length edges < 2147483648 → (k : ℕ) → k < length infos → HasSpace (get_or infos k no_info)
tallies_room first edges infos had few k inside =
    let outs = edges_from edges (first + k) in
    let fewer : length outs ≤ length edges = rw (length-filter (λ e. e.source.0 == first + k) edges) (count_by-le-length (λ e. e.source.0 == first + k) edges) in
    let light : All (λ (e : Edge). e.weight.0 ≤ 4294967295) edges = λ j d low. (let h = had.light j d low in omega arith) in
    let total = sum_by-le (λ (e : Edge). e.weight.0) 4294967295 outs (All-filter (λ e. e.source.0 == first + k) (λ (e : Edge). e.weight.0 ≤ 4294967295) edges light) in
    rw (had.each k inside) (record { degree = omega arith; weight = omega arith })

-- edges tallied one by one, behind those before
pub tallies_next : (first i : ℕ) (before edges : List Edge) (d : Edge) (old new : List OutInfo) → i < length edges → AreTallies first (before ++ take i edges) old → IsLight (get_or edges i d) → length new ≡ length old →
    ((k : ℕ) → k < length old → get_or new k no_info ≡ with_edge (first + k) (get_or edges i d) (get_or old k no_info)) → AreTallies first (before ++ take (i + 1) edges) new
tallies_next first i before edges d old new inside had light long each =
    let one = ap (λ es. before ++ es) (take_more edges i d inside) ∙ sym (append_assoc before (take i edges) (get_or edges i d ∷ [])) in
    subst (λ es. AreTallies first es new) (sym one) (tallies_more first (before ++ take i edges) (get_or edges i d) old new had light long each)

-- no edges are tallied
pub tallied_none : (n : ℕ) (spool : Option (List ℕ)) (first many : ℕ) → HasTallied n spool 0 first (replicate many no_info)
tallied_none n spool first many = record {
  given = [];
  passed = pass_none n spool;
  tallies = record {
    light = All-nil IsLight;
    each = λ k inside. get_or-replicate many k no_info no_info (omega (arith, inside, length-replicate many no_info));
  };
}

pub tallied_as : (n : ℕ) (spool told : Option (List ℕ)) (count many first : ℕ) (infos : List OutInfo) → told ≡ spool → count ≡ many → HasTallied n spool count first infos → HasTallied n told many first infos
tallied_as n spool told count many first infos same size had = rw (same, ← size) had

-- where Spool is told the edges of its list are tallied
pub tallied_list : (n : ℕ) (spool : Option (List ℕ)) (count first : ℕ) (infos : List OutInfo) (list : List Edge) → HasTallied n spool count first infos → IsSpool n spool list → length list ≡ count →
    infos ≡ map (out_info list) (range_with_len first (length infos))
tallied_list n spool count first infos list had told many =
    same_lists infos (map (out_info list) (range_with_len first (length infos)))
    (sym (length-map (range_with_len first (length infos)) (out_info list) ∙ length-range first (length infos)))
    (λ k d inside.
    let given = pass_whole n spool count had.given list had.passed told many in
    get_or_default infos k d no_info inside
    ∙ had.tallies.each k inside
    ∙ ap (λ es. out_info es (first + k)) given
    ∙ ap (out_info list) (sym (get_or-range first (length infos) k 0 inside))
    ∙ sym (get_or-map (out_info list) (range_with_len first (length infos)) k 0 d (omega (arith, inside, length-range first (length infos)))))
