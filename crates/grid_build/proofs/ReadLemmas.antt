-- What is read back from Spool.
use Rattle.std.proofs.Common.{◌≡◌, ◌<◌, ◌*◌, ◌+◌, ◌-◌, ℕ, List, [], ◌∷◌, ◌++◌, length, get_or, map, set, take, drop, Option, refl, sym, ap, ap₂, ◌∙◌, subst, arith}
use Rattle.std.specs.Prelude.{All, IfSome, flat_map, min}
use Rattle.std.proofs.Math.Seq.{take-add}
use Rattle.std.proofs.lemmas.Grind.{drop_more_same}
use Rattle.std.proofs.lemmas.List.{drop-set-lt, drop_more, length-append, map-append, take_more, take_more_set}
use Rattle.std.proofs.lemmas.List.Elements.{All-append, All-cons, All-drop, All-tail, All-take}
use Rattle.lumos_base.specs.Records.{IsEdge, edge_bytes}
use Rattle.lumos_base.specs.declared.records.Edge.{Edge}
use Rattle.lumos_depot.specs.Files.{range_at}
use Rattle.partition.specs.Blocks.{IsBelow}
use Rattle.grid_format.proofs.BlockPlaces.{drop-each, take-each}
use Rattle.grid_build.specs.Passes.{IsPass, capped}
use Rattle.lumos_depot.proofs.StepLemmas.{told_some}

-- edges with their ends capped have them among the vertices,
pub capped_below : (n : ℕ) (edges : List Edge) → 0 < n → All (IsBelow n) (map (capped n) edges)
capped_below n [] some = λ i d low. absurd (omega arith)
capped_below n (e ∷ edges) some = All-cons (IsBelow n) (capped n e) (map (capped n) edges) (record { source = omega arith; target = omega arith }) (capped_below n edges some)

-- and stay where they had
capped_one : (n : ℕ) (e : Edge) → IsBelow n e → capped n e ≡ e
capped_one n e below =
    let source : min e.source.0 (n - 1) ≡ e.source.0 = omega (arith, below.source) in
    let target : min e.target.0 (n - 1) ≡ e.target.0 = omega (arith, below.target) in
    λ i. record { source = record { 0 = source i }; target = record { 0 = target i }; weight = e.weight }

pub capped_same : (n : ℕ) (edges : List Edge) → All (IsBelow n) edges → map (capped n) edges ≡ edges
capped_same n [] all = refl
capped_same n (e ∷ edges) all = ap₂ ◌∷◌ (capped_one n e (all 0 e (omega arith))) (capped_same n edges (All-tail (IsBelow n) e edges all))

-- one edge more was capped
pub capped_more : (n : ℕ) (edges was : List Edge) (i : ℕ) (d : Edge) → i < length edges → length edges ≡ length was → take i edges ≡ map (capped n) (take i was) → drop i edges ≡ drop i was → take (i + 1) (set edges i (capped n (get_or edges i d))) ≡ map (capped n) (take (i + 1) was)
capped_more n edges was i d low long front rest =
    let here : get_or edges i d ≡ get_or was i d = ap (λ l. get_or l 0 d) (sym (drop_more edges i d low) ∙ rest ∙ drop_more was i d (omega (arith, low, long))) in
    take_more_set edges i (capped n (get_or edges i d)) low
    ∙ ap₂ (λ l e. l ++ capped n e ∷ []) front here
    ∙ sym (map-append (capped n) (take i was) (get_or was i d ∷ []))
    ∙ ap (map (capped n)) (sym (take_more was i d (omega (arith, low, long))))

pub rest_more : (edges was : List Edge) (i : ℕ) (e : Edge) → drop i edges ≡ drop i was → drop (i + 1) (set edges i e) ≡ drop (i + 1) was
rest_more edges was i e rest = drop-set-lt (i + 1) edges i e (omega arith) ∙ drop_more_same edges was i rest

-- the bytes of a range of edges
pub range_edges : (list : List Edge) (first count : ℕ) → range_at (12 * first) (12 * count) (flat_map edge_bytes list) ≡ flat_map edge_bytes (take count (drop first list))
range_edges list first count =
    ap (take (12 * count)) (drop-each edge_bytes 12 first list (λ e. refl)) ∙ take-each edge_bytes 12 count (drop first list) (λ e. refl)

-- A pass goes on by what was read: the bytes, the edges that they stand for, and those with their ends capped.
pub pass_more : (n : ℕ) (spool : Option (List ℕ)) (first count : ℕ) (given read edges : List Edge) (bytes : List ℕ) → IsPass n spool first given → length edges ≡ count →
    IfSome spool (λ file. bytes ≡ range_at (12 * first) (12 * count) file) → ((list : List Edge) → All IsEdge list → bytes ≡ flat_map edge_bytes list → read ≡ list) →
    0 < n → edges ≡ map (capped n) read → IsPass n spool (first + count) (given ++ edges)
pass_more n spool first count given read edges bytes pass long range reads some is_capped = record {
  whole = let had = pass.whole in omega (arith, length-append given edges);
  below = All-append (IsBelow n) given edges pass.below (subst (All (IsBelow n)) (sym is_capped) (capped_below n read some));
  told = λ list is room.
      let part = take count (drop first list) in
      let had = pass.told list is (omega arith) in
      let bytes_are = told_some spool (λ file. bytes ≡ range_at (12 * first) (12 * count) file) (flat_map edge_bytes list) is.bytes range ∙ range_edges list first count in
      let numbers = All-take IsEdge count (drop first list) (All-drop IsEdge first list is.numbers) in
      let ends = All-take (IsBelow n) count (drop first list) (All-drop (IsBelow n) first list is.ends) in
      let got : read ≡ part = reads part numbers bytes_are in
      let kept : edges ≡ read = is_capped ∙ capped_same n read (subst (All (IsBelow n)) (sym got) ends) in
      ap (λ es. es ++ edges) had ∙ ap (λ es. take first list ++ es) (kept ∙ got) ∙ sym (take-add first count list);
}
