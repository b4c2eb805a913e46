-- What a text reads as: its edges and their number of vertices, or its first fault.
use Rattle.std.specs.Prelude.{ℕ, ◌+◌, Bool, true, false, List, [], ◌∷◌, ◌++◌, length, take, max, nat_lt, nat_le, ◌==◌, Option, Some, None, Result, Ok, Err, fold, unwrap_or, if◌then◌else◌}
use Rattle.std.specs.List.{list_all}
use Rattle.lumos_base.specs.declared.records.Edge.{Edge}
use Rattle.edge_text.specs.Fields.{fields_of, is_comment, is_digit, value_of}
use Rattle.edge_text.specs.Lines.{last_line, lines_of, rest_of, without_return}
use Rattle.edge_text.specs.declared.fault.InputWhat.{InputWhat}
use Rattle.edge_text.specs.declared.fault.InputWhat.TheVariants.{NotANumber, MissingTarget, TooManyFields, NumberTooLarge, VertexTooLarge, WeightTooLarge, VertexBeyond}
use Rattle.edge_text.specs.declared.fault.TextFault.{TextFault}
use Rattle.edge_text.specs.declared.fault.TextFault.TheVariants.{Input, TooManyEdges, InputTooLong}
use Rattle.edge_text.specs.declared.fault.TextLimits.{TextLimits}

abbrev pub is_beyond : Option ℕ → ℕ → Bool
is_beyond None n = false
is_beyond (Some vertices) n = nat_le vertices n

-- a vertex of this number, or what is wrong with it
abbrev pub vertex_at : TextLimits → ℕ → Result ℕ InputWhat
vertex_at limits n = if nat_lt 18446744073709551615 n then Err NumberTooLarge
    else (if nat_lt limits.max_vertex n then Err VertexTooLarge
    else (if is_beyond limits.vertices n then Err VertexBeyond else Ok n))

abbrev pub weight_at : ℕ → Result ℕ InputWhat
weight_at n = if nat_lt 18446744073709551615 n then Err NumberTooLarge
    else (if nat_lt 4294967295 n then Err WeightTooLarge else Ok n)

-- a field is digits, and its number is judged
abbrev pub number_in : List ℕ → (ℕ → Result ℕ InputWhat) → Result ℕ InputWhat
number_in field judge = if list_all is_digit field then judge (value_of field) else Err NotANumber

-- a fault stands; a good number is handed on
abbrev pub if_good : {A : Type 0} → Result ℕ InputWhat → (ℕ → Result A InputWhat) → Result A InputWhat
if_good (Err what) next = Err what
if_good (Ok n) next = next n

abbrev pub edge_between : ℕ → ℕ → ℕ → Edge
edge_between source target weight = record { source = record { 0 = source }; target = record { 0 = target }; weight = record { 0 = weight } }

-- From left to right: the fields behind a weight,
abbrev pub behind_weight : Edge → List (List ℕ) → Result (Option Edge) InputWhat
behind_weight edge [] = Ok (Some edge)
behind_weight edge (field ∷ fields) = Err TooManyFields

-- those behind a target,
abbrev pub behind_target : ℕ → ℕ → List (List ℕ) → Result (Option Edge) InputWhat
behind_target source target [] = Ok (Some (edge_between source target 1))
behind_target source target (field ∷ fields) = if_good (number_in field weight_at) (λ weight. behind_weight (edge_between source target weight) fields)

-- those behind a source,
abbrev pub behind_source : TextLimits → ℕ → List (List ℕ) → Result (Option Edge) InputWhat
behind_source limits source [] = Err MissingTarget
behind_source limits source (field ∷ fields) = if_good (number_in field (vertex_at limits)) (λ target. behind_target source target fields)

-- and all fields of a line. Blank lines and comments have no edge.
abbrev pub edge_in : TextLimits → List (List ℕ) → Result (Option Edge) InputWhat
edge_in limits [] = Ok None
edge_in limits (field ∷ fields) = if is_comment field then Ok None
    else if_good (number_in field (vertex_at limits)) (λ source. behind_source limits source fields)

-- the edge of a line, if it has one, or its fault
abbrev pub line_edge : TextLimits → List ℕ → Result (Option Edge) InputWhat
line_edge limits line = edge_in limits (fields_of (without_return line))

-- the edges that are made of it; in both directions a self loop is one still
abbrev pub edges_of : Bool → Option Edge → List Edge
edges_of both None = []
edges_of false (Some edge) = edge ∷ []
edges_of true (Some edge) = if edge.source.0 == edge.target.0 then edge ∷ [] else edge ∷ record { source = edge.target; target = edge.source; weight = edge.weight } ∷ []

-- a line's edges, or its fault; so many lines and edges stand before it
abbrev pub line_of : TextLimits → ℕ → ℕ → Result (Option Edge) InputWhat → Result (List Edge) TextFault
line_of limits line made (Err what) = Err (Input (record { line = line + 1; what = what }))
line_of limits line made (Ok edge) = if nat_lt limits.max_edges (made + length (edges_of limits.both edge)) then Err (TooManyEdges limits.max_edges) else Ok (edges_of limits.both edge)

-- edges in front of what other lines give
abbrev pub all_before : List Edge → Result (List Edge) TextFault → Result (List Edge) TextFault
all_before edges (Err fault) = Err fault
all_before edges (Ok others) = Ok (edges ++ others)

abbrev pub line_before : Result (List Edge) TextFault → (List Edge → Result (List Edge) TextFault) → Result (List Edge) TextFault
line_before (Err fault) others = Err fault
line_before (Ok edges) others = all_before edges (others edges)

-- the edges of lines, or the fault of the first that is faulty or makes too many edges
abbrev pub read_lines : TextLimits → ℕ → ℕ → List (List ℕ) → Result (List Edge) TextFault
read_lines limits line made [] = Ok []
read_lines limits line made (first ∷ lines) = line_before (line_of limits line made (line_edge limits first)) (λ edges. read_lines limits (line + 1) (made + length edges) lines)

-- the lines that count: of a text that is too long only those that end within the limit
abbrev pub counted_lines : TextLimits → List ℕ → List (List ℕ)
counted_lines limits text = if nat_lt limits.max_bytes (length text) then lines_of (take limits.max_bytes text) else lines_of text ++ last_line (rest_of text)

-- the greatest end of an edge
abbrev pub greatest_end : List Edge → Option ℕ
greatest_end edges = fold (λ greatest edge. Some (max (unwrap_or greatest 0) (max edge.source.0 edge.target.0))) None edges

abbrev pub one_past : Option ℕ → ℕ
one_past None = 0
one_past (Some n) = n + 1

abbrev pub vertices_of : Option ℕ → List Edge → ℕ
vertices_of (Some vertices) edges = vertices
vertices_of None edges = one_past (greatest_end edges)

-- A list of edges, and the number of their vertices: the stated one, or one above each end.
pub record Listed : Type 0 where
  pub edges : List Edge
  pub vertices : ℕ

abbrev pub listed : TextLimits → List Edge → Listed
listed limits edges = record { edges = edges; vertices = vertices_of limits.vertices edges }

abbrev pub reading_with : TextLimits → Bool → Result (List Edge) TextFault → Result Listed TextFault
reading_with limits long (Err fault) = Err fault
reading_with limits true (Ok edges) = Err (InputTooLong limits.max_bytes)
reading_with limits false (Ok edges) = Ok (listed limits edges)

-- The edges of a text with their number of vertices, or its first fault. A text that is too long is a fault where no line before the limit has one.
abbrev pub reading : TextLimits → List ℕ → Result Listed TextFault
reading limits text = reading_with limits (nat_lt limits.max_bytes (length text)) (read_lines limits 0 0 (counted_lines limits text))
