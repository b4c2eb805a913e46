-- There are no more edges than bytes.
use Rattle.std.proofs.Common.{◌≡◌, ℕ, ◌+◌, ◌-◌, ◌≤◌, ◌<◌, Bool, true, false, eqb, List, [], ◌∷◌, ◌++◌, length, take, Option, Some, None, Result, Ok, Err, refl, sym, ◌∙◌, ap, subst, inl, inr, ◌⊎◌, arith, ltb}
use Rattle.std.specs.Prelude.{if◌then◌else◌}
use Rattle.std.proofs.Math.Seq.{take-append-add}
use Rattle.std.proofs.lemmas.Bool.{cases_Bool, cond-false, cond-true}
use Rattle.std.proofs.lemmas.List.{length-append, length-take-le, take-append-le}
use Rattle.lumos_base.specs.declared.records.Edge.{Edge}
use Rattle.edge_text.specs.Fields.{begins_blank, fields_of, is_blank, is_comment}
use Rattle.edge_text.specs.Lines.{lines_of, onto_first, without_return}
use Rattle.edge_text.specs.Reader.{HasRead, ReaderState}
use Rattle.edge_text.specs.Reading.{behind_source, edge_in, edges_of, if_good, line_edge, line_of, number_in, read_lines, vertex_at}
use Rattle.edge_text.specs.declared.fault.InputWhat.{InputWhat}
use Rattle.edge_text.specs.declared.fault.TextFault.TheVariants.{TooManyEdges}
use Rattle.edge_text.specs.declared.fault.TextLimits.{TextLimits}
use Rattle.edge_text.proofs.Lists.{have_read}

abbrev lengths : List (List ℕ) → ℕ
lengths [] = 0
lengths (run ∷ runs) = length run + lengths runs

-- runs are no longer than the bytes that they are cut from
onto_sum : (x : ℕ) (runs : List (List ℕ)) → lengths (onto_first x runs) ≤ lengths runs + 1
onto_sum x [] = omega arith
onto_sum x (run ∷ runs) = omega arith

onto_count : (x : ℕ) (runs : List (List ℕ)) → length (onto_first x runs) ≡ length runs
onto_count x [] = refl
onto_count x (run ∷ runs) = refl

lines_at : (x : ℕ) (s : List ℕ) → lengths (lines_of s) ≤ length s → (eqb x 10 ≡ true) ⊎ (eqb x 10 ≡ false) → lengths (lines_of (x ∷ s)) ≤ length s + 1
lines_at x s h (inl e) = subst (λ ls. lengths ls ≤ length s + 1) (sym (cond-true (eqb x 10) _ _ e)) (omega arith)
lines_at x s h (inr e) = let more = onto_sum x (lines_of s) in subst (λ ls. lengths ls ≤ length s + 1) (sym (cond-false (eqb x 10) _ _ e)) (omega arith)

lines_short : (s : List ℕ) → lengths (lines_of s) ≤ length s
lines_short [] = omega arith
lines_short (x ∷ s) = let h = lines_at x s (lines_short s) (cases_Bool (eqb x 10)) in omega arith

fields_at : (x : ℕ) (s : List ℕ) → length (fields_of s) ≤ length s → (is_blank x ≡ true) ⊎ (is_blank x ≡ false) → (begins_blank s ≡ true) ⊎ (begins_blank s ≡ false) → length (fields_of (x ∷ s)) ≤ length s + 1
fields_at x s h (inl e) next = subst (λ fs. length fs ≤ length s + 1) (sym (cond-true (is_blank x) _ _ e)) (omega arith)
fields_at x s h (inr e) (inl b) = subst (λ fs. length fs ≤ length s + 1) (sym (cond-false (is_blank x) _ _ e ∙ cond-true (begins_blank s) _ _ b)) (omega arith)
fields_at x s h (inr e) (inr b) = let same = onto_count x (fields_of s) in subst (λ fs. length fs ≤ length s + 1) (sym (cond-false (is_blank x) _ _ e ∙ cond-false (begins_blank s) _ _ b)) (omega arith)

fields_short : (s : List ℕ) → length (fields_of s) ≤ length s
fields_short [] = omega arith
fields_short (x ∷ s) = let h = fields_at x s (fields_short s) (cases_Bool (is_blank x)) (cases_Bool (begins_blank s)) in omega arith

return_last : (x : ℕ) → (eqb x 13 ≡ true) ⊎ (eqb x 13 ≡ false) → length (without_return (x ∷ [])) ≤ 1
return_last x (inl e) = subst (λ l. length l ≤ 1) (sym (cond-true (eqb x 13) _ _ e)) (omega arith)
return_last x (inr e) = subst (λ l. length l ≤ 1) (sym (cond-false (eqb x 13) _ _ e)) (omega arith)

return_short : (s : List ℕ) → length (without_return s) ≤ length s
return_short [] = omega arith
return_short (x ∷ []) = let h = return_last x (cases_Bool (eqb x 13)) in omega arith
return_short (x ∷ y ∷ s) = let h = return_short (y ∷ s) in omega arith

-- an edge has two fields
good_none : (r : Result ℕ InputWhat) (limits : TextLimits) (edge : Edge) → if_good r (λ source. behind_source limits source []) ≡ Ok (Some edge) → ⊥
good_none (Err what) limits edge h = cc
good_none (Ok n) limits edge h = cc

lone_field : (limits : TextLimits) (field : List ℕ) (edge : Edge) → edge_in limits (field ∷ []) ≡ Ok (Some edge) → (is_comment field ≡ true) ⊎ (is_comment field ≡ false) → ⊥
lone_field limits field edge h (inl e) = let p : Ok None ≡ Ok (Some edge) = sym (cond-true (is_comment field) _ _ e) ∙ h in cc
lone_field limits field edge h (inr e) = good_none (number_in field (vertex_at limits)) limits edge (sym (cond-false (is_comment field) _ _ e) ∙ h)

edge_fields : (limits : TextLimits) (fields : List (List ℕ)) (edge : Edge) → edge_in limits fields ≡ Ok (Some edge) → 2 ≤ length fields
edge_fields limits [] edge h = absurd (cc)
edge_fields limits (field ∷ []) edge h = absurd (lone_field limits field edge h (cases_Bool (is_comment field)))
edge_fields limits (field ∷ next ∷ fields) edge h = omega arith

edges_turned : (edge : Edge) → (eqb edge.source.0 edge.target.0 ≡ true) ⊎ (eqb edge.source.0 edge.target.0 ≡ false) → length (edges_of true (Some edge)) ≤ 2
edges_turned edge (inl e) = subst (λ es. length es ≤ 2) (sym (cond-true (eqb edge.source.0 edge.target.0) _ _ e)) (omega arith)
edges_turned edge (inr e) = subst (λ es. length es ≤ 2) (sym (cond-false (eqb edge.source.0 edge.target.0) _ _ e)) (omega arith)

edges_few : (both : Bool) (edge : Edge) → length (edges_of both (Some edge)) ≤ 2
edges_few false edge = omega arith
edges_few true edge = edges_turned edge (cases_Bool (eqb edge.source.0 edge.target.0))

-- a line has no more edges than bytes
made_few : (limits : TextLimits) (bytes : List ℕ) (edge : Option Edge) → line_edge limits bytes ≡ Ok edge → length (edges_of limits.both edge) ≤ length bytes
made_few limits bytes None h = omega arith
made_few limits bytes (Some edge) h =
    let two = edges_few limits.both edge in
    let fields = edge_fields limits (fields_of (without_return bytes)) edge h in
    let few = fields_short (without_return bytes) in
    let short = return_short bytes in
    omega arith

line_kept : (limits : TextLimits) (made : ℕ) (bytes : List ℕ) (edge : Option Edge) (edges : List Edge) → line_edge limits bytes ≡ Ok edge →
    (if ltb limits.max_edges (made + length (edges_of limits.both edge)) then Err (TooManyEdges limits.max_edges) else Ok (edges_of limits.both edge)) ≡ Ok edges →
    (ltb limits.max_edges (made + length (edges_of limits.both edge)) ≡ true) ⊎ (ltb limits.max_edges (made + length (edges_of limits.both edge)) ≡ false) → length edges ≤ length bytes
line_kept limits made bytes edge edges is h (inl e) = absurd (let p : Err (TooManyEdges limits.max_edges) ≡ Ok edges = sym (cond-true (ltb limits.max_edges (made + length (edges_of limits.both edge))) _ _ e) ∙ h in cc)
line_kept limits made bytes edge edges is h (inr e) =
    let p : Ok (edges_of limits.both edge) ≡ Ok edges = sym (cond-false (ltb limits.max_edges (made + length (edges_of limits.both edge))) _ _ e) ∙ h in
    let q : edges_of limits.both edge ≡ edges = cc in
    subst (λ es. length es ≤ length bytes) q (made_few limits bytes edge is)

line_at : (limits : TextLimits) (line made : ℕ) (bytes : List ℕ) (r : Result (Option Edge) InputWhat) (edges : List Edge) → line_edge limits bytes ≡ r → line_of limits line made r ≡ Ok edges → length edges ≤ length bytes
line_at limits line made bytes (Err what) edges is h = absurd (cc)
line_at limits line made bytes (Ok edge) edges is h = line_kept limits made bytes edge edges is h (cases_Bool (ltb limits.max_edges (made + length (edges_of limits.both edge))))

-- and lines have none
lines_few : (limits : TextLimits) (line made : ℕ) (lines : List (List ℕ)) (edges : List Edge) → read_lines limits line made lines ≡ Ok edges → length edges ≤ lengths lines
lines_few limits line made [] edges h = let none : edges ≡ [] = cc in let e = ap length none in omega arith
lines_few limits line made (x ∷ xs) edges h =
    let r = have_read (line_of limits line made (line_edge limits x)) (λ es. read_lines limits (line + 1) (made + length es) xs) edges h in
    let first = line_at limits line made x (line_edge limits x) r.made refl r.line in
    let others = lines_few limits (line + 1) (made + length r.made) xs r.rest r.lines in
    let count : length edges ≡ length r.made + length r.rest = ap length r.all ∙ length-append r.made r.rest in
    omega arith

pub read_few : (seen : List ℕ) (edges : List Edge) (reader : ReaderState) → HasRead seen edges reader → length edges ≤ length seen
read_few seen edges reader read =
    let few = lines_few reader.limits 0 0 (lines_of seen) edges read.made in
    let short = lines_short seen in
    omega arith

-- with places enough a piece is fed whole
pub whole_fed : (seen piece : List ℕ) (had outs : List Edge) (used made fed places : ℕ) (old now : ReaderState) → HasRead seen had old → HasRead (seen ++ take used piece) (had ++ take fed outs) now →
    length had ≡ made → used ≤ length piece → fed ≤ length outs → length outs ≡ places - made → old.bytes + length piece + 2 ≤ places → (used ≡ length piece) ⊎ (length outs < fed + 2) → used ≡ length piece
whole_fed seen piece had outs used made fed places old now before after count within few left room (inl e) = e
whole_fed seen piece had outs used made fed places old now before after count within few left room (inr full) =
    absurd (let less = read_few (seen ++ take used piece) (had ++ take fed outs) now after in
    let edges = length-append had (take fed outs) in
    let bytes = length-append seen (take used piece) in
    let made_now = length-take-le fed outs few in
    let taken = length-take-le used piece within in
    let was = before.bytes in
    omega arith)

-- edges behind others
pub places_taken : (xs ys zs : List Edge) (made n : ℕ) → length xs ≡ made → n ≤ length ys → take (made + n) (xs ++ (ys ++ zs)) ≡ xs ++ take n ys
places_taken xs ys zs made n is within =
    ap (λ m. take (m + n) (xs ++ (ys ++ zs))) (sym is) ∙ take-append-add xs (ys ++ zs) n ∙ ap (λ t. xs ++ t) (take-append-le n ys zs within)
