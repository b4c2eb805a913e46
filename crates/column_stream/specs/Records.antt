-- The records of a block, twelve bytes each, and the words in them that name vertices.
use Rattle.std.specs.Prelude.{◌≡◌, ◌<◌, ◌≤◌, ◌⊎◌, ⊤, ℕ, zero, suc, ◌+◌, ◌-◌, ◌*◌, Bool, not, nat_lt, ◌||◌, List, [], ◌∷◌, drop, filter, Option, None, Some}
use Rattle.lumos_base.specs.Records.{edge_from}
use Rattle.lumos_base.specs.declared.records.Edge.{Edge}
use Rattle.lumos_depot.specs.declared.depot.FileKind.{FileKind}
use Rattle.partition.specs.Parts.{IsWithin}
use Rattle.partition.specs.declared.records.VertexRange.{VertexRange}
use Rattle.value_files.specs.declared.fault.FileFault.{FileFault}
use Rattle.value_files.specs.declared.fault.FileFault.TheVariants.{Depot, Damaged}
use Rattle.column_stream.specs.declared.records.Ends.{Ends}

-- the edges of the n records from a place on
abbrev pub edges_at : ℕ → ℕ → List ℕ → List Edge
edges_at place zero bytes = []
edges_at place (suc n) bytes = edge_from (drop place bytes) ∷ edges_at (place + 12) n bytes

-- a word that names a vertex: its place, the number found there, and the range in which that has to lie
pub record Word : Type 0 where
  pub place : ℕ
  pub found : ℕ
  pub range : VertexRange

-- the words of records from a place on, in the order of the file: of each record the source and then the target
abbrev pub words_at : Ends → ℕ → List Edge → List Word
words_at ends place [] = []
words_at ends place (e ∷ edges) =
    record { place = place; found = e.source.0; range = ends.sources }
    ∷ record { place = place + 4; found = e.target.0; range = ends.targets }
    ∷ words_at ends (place + 12) edges

-- the vertex isn't one of the range
abbrev pub lies_outside : VertexRange → ℕ → Bool
lies_outside range vertex = nat_lt vertex range.first || not (nat_lt vertex range.past)

-- the words that lie outside their ranges
abbrev pub strays : List Word → List Word
strays words = filter (λ word. lies_outside word.range word.found) words

-- the fault that the first word of a list is
abbrev pub fault_of : FileKind → List Word → Option FileFault
fault_of file [] = None
fault_of file (word ∷ words) = Some (Damaged file word.place word.found)

-- what is wrong with the records of these edges from a place on: their first word that lies outside its range
abbrev pub first_fault : FileKind → Ends → ℕ → List Edge → Option FileFault
first_fault file ends place edges = fault_of file (strays (words_at ends place edges))

-- the vertex is one of the range
abbrev pub IsIn : VertexRange → ℕ → Type 0
IsIn range vertex = IsWithin range.first (range.past - range.first) vertex

-- both ends of an edge lie in their ranges
pub record Fits (ends : Ends) (e : Edge) : Type 0 where
  pub source : IsIn ends.sources e.source.0
  pub target : IsIn ends.targets e.target.0

-- the vertex stands before the range or behind it
abbrev pub IsOutside : VertexRange → ℕ → Type 0
IsOutside range vertex = (vertex < range.first) ⊎ (range.past ≤ vertex)

-- A word of one of n records from a start on, at its place in the file, lies outside its range.
pub record IsStray (ends : Ends) (start n place found : ℕ) : Type 0 where
  pub index : ℕ
  pub low : index < n
  pub word : ((place ≡ start + 12 * index) × IsOutside ends.sources found) ⊎ ((place ≡ start + 12 * index + 4) × IsOutside ends.targets found)

-- a fault that shows such a word
abbrev pub IsDamage : FileKind → Ends → ℕ → ℕ → FileFault → Type 0
IsDamage file ends start n Depot = ⊤
IsDamage file ends start n (Damaged other place found) = (other ≡ file) × IsStray ends start n place found
