-- The edges of a text lie within its limits.
use Rattle.std.proofs.Common.{◌≡◌, ◌≤◌, ◌<◌, ℕ, ◌+◌, Bool, true, false, List, [], ◌∷◌, ◌++◌, length, nat_lt, nat_le, max, fold, Option, Some, None, Result, Ok, Err, refl, sym, ap, ◌∙◌, subst, arith}
use Rattle.std.specs.Prelude.{if◌then◌else◌, unwrap_or}
use Rattle.std.specs.List.{AllByRecursion, list_all}
use Rattle.std.proofs.lemmas.Bool.{ltb-false, leb-false}
use Rattle.std.proofs.lemmas.List.{length-append}
use Rattle.lumos_base.specs.declared.records.Edge.{Edge}
use Rattle.edge_text.specs.Fields.{fields_of, is_comment, is_digit, value_of}
use Rattle.edge_text.specs.Lines.{without_return}
use Rattle.edge_text.specs.Reading.{behind_source, behind_target, behind_weight, counted_lines, edge_between, edge_in, edges_of, greatest_end, if_good, is_beyond, line_edge, line_of, Listed, listed, number_in, one_past, read_lines, reading, reading_with, vertex_at, vertices_of, weight_at}
use Rattle.edge_text.specs.declared.fault.InputWhat.{InputWhat}
use Rattle.edge_text.specs.declared.fault.InputWhat.TheVariants.{NotANumber, NumberTooLarge, VertexTooLarge, WeightTooLarge, VertexBeyond}
use Rattle.edge_text.specs.declared.fault.TextFault.{TextFault}
use Rattle.edge_text.specs.declared.fault.TextFault.TheVariants.{TooManyEdges}
use Rattle.edge_text.specs.declared.fault.TextLimits.{TextLimits}
use Rattle.edge_text.proofs.Lists.{have_read}

-- a vertex within the limits
pub record IsVertexWithin (limits : TextLimits) (n : ℕ) : Type 0 where
  pub low : n ≤ limits.max_vertex
  pub known : is_beyond limits.vertices n ≡ false

-- an edge within the limits
pub record IsEdgeWithin (limits : TextLimits) (e : Edge) : Type 0 where
  pub source : IsVertexWithin limits e.source.0
  pub target : IsVertexWithin limits e.target.0
  pub weight : e.weight.0 ≤ 4294967295

judged_vertex : (a b c : Bool) (n m : ℕ) → (if a then Err NumberTooLarge else (if b then Err VertexTooLarge else (if c then Err VertexBeyond else Ok n))) ≡ Ok m → (n ≡ m) × (b ≡ false) × (c ≡ false)
judged_vertex true b c n m h = absurd (cc)
judged_vertex false true c n m h = absurd (cc)
judged_vertex false false true n m h = absurd (cc)
judged_vertex false false false n m h = (cc, refl, refl)

good_vertex : (limits : TextLimits) (n m : ℕ) → vertex_at limits n ≡ Ok m → IsVertexWithin limits m
good_vertex limits n m h =
    let good = judged_vertex (nat_lt 18446744073709551615 n) (nat_lt limits.max_vertex n) (is_beyond limits.vertices n) n m h in
    subst (IsVertexWithin limits) good.0 (record { low = ltb-false limits.max_vertex n good.1; known = good.2 })

judged_weight : (a b : Bool) (n m : ℕ) → (if a then Err NumberTooLarge else (if b then Err WeightTooLarge else Ok n)) ≡ Ok m → (n ≡ m) × (b ≡ false)
judged_weight true b n m h = absurd (cc)
judged_weight false true n m h = absurd (cc)
judged_weight false false n m h = (cc, refl)

good_weight : (n m : ℕ) → weight_at n ≡ Ok m → m ≤ 4294967295
good_weight n m h =
    let good = judged_weight (nat_lt 18446744073709551615 n) (nat_lt 4294967295 n) n m h in
    subst (λ k. k ≤ 4294967295) good.0 (ltb-false 4294967295 n good.1)

number_by : (b : Bool) (r : Result ℕ InputWhat) (m : ℕ) → (if b then r else Err NotANumber) ≡ Ok m → r ≡ Ok m
number_by true r m h = h
number_by false r m h = absurd (cc)

good_number : (field : List ℕ) (judge : ℕ → Result ℕ InputWhat) (m : ℕ) → number_in field judge ≡ Ok m → judge (value_of field) ≡ Ok m
good_number field judge m h = number_by (list_all is_digit field) (judge (value_of field)) m h

-- a good number that was handed on
record HandsOn {A : Type 0} (r : Result ℕ InputWhat) (next : ℕ → Result A InputWhat) (x : A) : Type 0 where
  n : ℕ
  good : r ≡ Ok n
  then_ : next n ≡ Ok x

hands_on : {A : Type 0} (r : Result ℕ InputWhat) (next : ℕ → Result A InputWhat) (x : A) → if_good r next ≡ Ok x → HandsOn r next x
hands_on (Err what) next x h = absurd (cc)
hands_on (Ok n) next x h = record { n = n; good = refl; then_ = h }

weight_edge : (edge e : Edge) (fields : List (List ℕ)) → behind_weight edge fields ≡ Ok (Some e) → edge ≡ e
weight_edge edge e [] h = cc
weight_edge edge e (field ∷ fields) h = absurd (cc)

-- a source and a target that are good, and a weight
edge_by : (limits : TextLimits) (source target weight : ℕ) (e : Edge) → IsVertexWithin limits source → IsVertexWithin limits target → weight ≤ 4294967295 → edge_between source target weight ≡ e → IsEdgeWithin limits e
edge_by limits source target weight e s t w is = subst (IsEdgeWithin limits) is (record { source = s; target = t; weight = w })

target_edge : (limits : TextLimits) (source target : ℕ) (e : Edge) (fields : List (List ℕ)) → IsVertexWithin limits source → IsVertexWithin limits target → behind_target source target fields ≡ Ok (Some e) → IsEdgeWithin limits e
target_edge limits source target e [] s t h = edge_by limits source target 1 e s t (omega arith) (cc)
target_edge limits source target e (field ∷ fields) s t h =
    let good = hands_on (number_in field weight_at) (λ weight. behind_weight (edge_between source target weight) fields) (Some e) h in
    edge_by limits source target good.n e s t (good_weight (value_of field) good.n (good_number field weight_at good.n good.good)) (weight_edge (edge_between source target good.n) e fields good.then_)

source_edge : (limits : TextLimits) (source : ℕ) (e : Edge) (fields : List (List ℕ)) → IsVertexWithin limits source → behind_source limits source fields ≡ Ok (Some e) → IsEdgeWithin limits e
source_edge limits source e [] s h = absurd (cc)
source_edge limits source e (field ∷ fields) s h =
    let good = hands_on (number_in field (vertex_at limits)) (λ target. behind_target source target fields) (Some e) h in
    target_edge limits source good.n e fields s (good_vertex limits (value_of field) good.n (good_number field (vertex_at limits) good.n good.good)) good.then_

no_comment : (b : Bool) (r : Result (Option Edge) InputWhat) (e : Edge) → (if b then Ok None else r) ≡ Ok (Some e) → r ≡ Ok (Some e)
no_comment true r e h = absurd (cc)
no_comment false r e h = h

line_within : (limits : TextLimits) (e : Edge) (fields : List (List ℕ)) → edge_in limits fields ≡ Ok (Some e) → IsEdgeWithin limits e
line_within limits e [] h = absurd (cc)
line_within limits e (field ∷ fields) h =
    let good = hands_on (number_in field (vertex_at limits)) (λ source. behind_source limits source fields) (Some e) (no_comment (is_comment field) _ e h) in
    source_edge limits good.n e fields (good_vertex limits (value_of field) good.n (good_number field (vertex_at limits) good.n good.good)) good.then_

both_by : (limits : TextLimits) (b : Bool) (e : Edge) → IsEdgeWithin limits e → AllByRecursion (IsEdgeWithin limits) (if b then e ∷ [] else e ∷ record { source = e.target; target = e.source; weight = e.weight } ∷ [])
both_by limits true e h = (h, tt)
both_by limits false e h = (h, (record { source = h.target; target = h.source; weight = h.weight }, tt))

edges_within : (limits : TextLimits) (both : Bool) (edge : Option Edge) → ((e : Edge) → edge ≡ Some e → IsEdgeWithin limits e) → AllByRecursion (IsEdgeWithin limits) (edges_of both edge)
edges_within limits both None h = tt
edges_within limits false (Some e) h = (h e refl, tt)
edges_within limits true (Some e) h = both_by limits _ e (h e refl)

few_by : (b : Bool) (most : ℕ) (made es : List Edge) → (if b then Err (TooManyEdges most) else Ok made) ≡ Ok es → (b ≡ false) × (made ≡ es)
few_by true most made es h = absurd (cc)
few_by false most made es h = (refl, cc)

-- what a line that isn't faulty makes
record MakesFew (limits : TextLimits) (made : ℕ) (es : List Edge) : Type 0 where
  within : AllByRecursion (IsEdgeWithin limits) es
  few : made + length es ≤ limits.max_edges

line_makes : (limits : TextLimits) (line made : ℕ) (r : Result (Option Edge) InputWhat) (es : List Edge) → ((e : Edge) → r ≡ Ok (Some e) → IsEdgeWithin limits e) → line_of limits line made r ≡ Ok es → MakesFew limits made es
line_makes limits line made (Err what) es h is = absurd (cc)
line_makes limits line made (Ok edge) es h is =
    let good = few_by (nat_lt limits.max_edges (made + length (edges_of limits.both edge))) limits.max_edges (edges_of limits.both edge) es is in
    subst (MakesFew limits made) good.1 (record { within = edges_within limits limits.both edge (λ e same. h e (ap Ok same)); few = ltb-false _ _ good.0 })

all-append : {X : Type 0} (P : X → Type 0) (xs ys : List X) → AllByRecursion P xs → AllByRecursion P ys → AllByRecursion P (xs ++ ys)
all-append P [] ys h k = k
all-append P (x ∷ xs) ys h k = (h.0, all-append P xs ys h.1 k)

lines_make : (limits : TextLimits) (line made : ℕ) (lines : List (List ℕ)) (es : List Edge) → made ≤ limits.max_edges → read_lines limits line made lines ≡ Ok es → MakesFew limits made es
lines_make limits line made [] es room h =
    let none : [] ≡ es = cc in
    subst (MakesFew limits made) none (record { within = tt; few = omega arith })
lines_make limits line made (first ∷ lines) es room h =
    let r = have_read (line_of limits line made (line_edge limits first)) (λ made_now. read_lines limits (line + 1) (made + length made_now) lines) es h in
    let one = line_makes limits line made (line_edge limits first) r.made (λ e is. line_within limits e (fields_of (without_return first)) is) r.line in
    let others = lines_make limits (line + 1) (made + length r.made) lines r.rest one.few r.lines in
    subst (MakesFew limits made) (sym r.all) (record { within = all-append (IsEdgeWithin limits) r.made r.rest one.within others.within; few = omega (arith, length-append r.made r.rest, one.few, others.few) })

-- the greatest end so far, and one edge more
abbrev greater : Option ℕ → Edge → Option ℕ
greater greatest edge = Some (max (unwrap_or greatest 0) (max edge.source.0 edge.target.0))

past_kept : (edges : List Edge) (m : ℕ) → m < one_past (fold greater (Some m) edges)
past_kept [] m = omega arith
past_kept (e ∷ edges) m = let more = past_kept edges (max m (max e.source.0 e.target.0)) in omega arith

-- both ends of an edge are below a number
abbrev EndsBelow : ℕ → Edge → Type 0
EndsBelow n e = (e.source.0 < n) × (e.target.0 < n)

past_ends : (edges : List Edge) (g : Option ℕ) → AllByRecursion (EndsBelow (one_past (fold greater g edges))) edges
past_ends [] g = tt
past_ends (e ∷ edges) g =
    let first = past_kept edges (max (unwrap_or g 0) (max e.source.0 e.target.0)) in
    ((omega arith, omega arith), past_ends edges (greater g e))

past_low : (most : ℕ) (limits : TextLimits) (edges : List Edge) (m : ℕ) → m < most → limits.max_vertex < most → AllByRecursion (IsEdgeWithin limits) edges → one_past (fold greater (Some m) edges) ≤ most
past_low most limits [] m low max all = omega arith
past_low most limits (e ∷ edges) m low above all =
    let source = all.0.source.low in
    let target = all.0.target.low in
    past_low most limits edges (max m (max e.source.0 e.target.0)) (omega arith) above all.1

pub past_few : (most : ℕ) (limits : TextLimits) (edges : List Edge) → limits.max_vertex < most → AllByRecursion (IsEdgeWithin limits) edges → one_past (greatest_end edges) ≤ most
past_few most limits [] above all = omega arith
past_few most limits (e ∷ edges) above all =
    let source = all.0.source.low in
    let target = all.0.target.low in
    past_low most limits edges (max 0 (max e.source.0 e.target.0)) (omega arith) above all.1

-- no stated number of vertices is above
abbrev pub StatesFew : ℕ → Option ℕ → Type 0
StatesFew most None = Unit {0}
StatesFew most (Some vertices) = vertices ≤ most

known_ends : (limits : TextLimits) (vertices : ℕ) (edges : List Edge) → limits.vertices ≡ Some vertices → AllByRecursion (IsEdgeWithin limits) edges → AllByRecursion (EndsBelow vertices) edges
known_ends limits vertices [] is all = tt
known_ends limits vertices (e ∷ edges) is all =
    let source : nat_le vertices e.source.0 ≡ false = ap (λ v. is_beyond v e.source.0) (sym is) ∙ all.0.source.known in
    let target : nat_le vertices e.target.0 ≡ false = ap (λ v. is_beyond v e.target.0) (sym is) ∙ all.0.target.known in
    ((leb-false vertices e.source.0 source, leb-false vertices e.target.0 target), known_ends limits vertices edges is all.1)

ends_by : (limits : TextLimits) (stated : Option ℕ) (edges : List Edge) → limits.vertices ≡ stated → AllByRecursion (IsEdgeWithin limits) edges → AllByRecursion (EndsBelow (vertices_of stated edges)) edges
ends_by limits None edges is all = past_ends edges None
ends_by limits (Some vertices) edges is all = known_ends limits vertices edges is all

vertices_by : (most : ℕ) (limits : TextLimits) (stated : Option ℕ) (edges : List Edge) → StatesFew most stated → limits.max_vertex < most → AllByRecursion (IsEdgeWithin limits) edges → vertices_of stated edges ≤ most
vertices_by most limits None edges few above all = past_few most limits edges above all
vertices_by most limits (Some vertices) edges few above all = few

-- A list lies within the limits: there are no more edges, their numbers fit, and their ends are among the vertices.
pub record IsListWithin (limits : TextLimits) (l : Listed) : Type 0 where
  pub few : length l.edges ≤ limits.max_edges
  pub within : AllByRecursion (IsEdgeWithin limits) l.edges
  pub ends : AllByRecursion (EndsBelow l.vertices) l.edges
  pub few_vertices : (most : ℕ) → StatesFew most limits.vertices → limits.max_vertex < most → l.vertices ≤ most

list_within : (limits : TextLimits) (edges : List Edge) → MakesFew limits 0 edges → IsListWithin limits (listed limits edges)
list_within limits edges makes =
    let count = makes.few in
    record {
      few = omega arith;
      within = makes.within;
      ends = ends_by limits limits.vertices edges refl makes.within;
      few_vertices = λ most stated above. vertices_by most limits limits.vertices edges stated above makes.within;
    }

within_by : (limits : TextLimits) (long : Bool) (r : Result (List Edge) TextFault) (l : Listed) → ((edges : List Edge) → r ≡ Ok edges → MakesFew limits 0 edges) → reading_with limits long r ≡ Ok l → IsListWithin limits l
within_by limits long (Err fault) l makes h = absurd (cc)
within_by limits true (Ok edges) l makes h = absurd (cc)
within_by limits false (Ok edges) l makes h =
    let same : listed limits edges ≡ l = cc in
    subst (IsListWithin limits) same (list_within limits edges (makes edges refl))

-- what a text without a fault reads as lies within the limits
pub reading_within : (limits : TextLimits) (text : List ℕ) (l : Listed) → reading limits text ≡ Ok l → IsListWithin limits l
reading_within limits text l h =
    within_by limits (nat_lt limits.max_bytes (length text)) (read_lines limits 0 0 (counted_lines limits text)) l
    (λ edges is. lines_make limits 0 0 (counted_lines limits text) edges (omega arith) is) h
