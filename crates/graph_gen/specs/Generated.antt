-- The text of a made-up graph.
use Rattle.std.specs.Prelude.{ℕ, zero, suc, ◌+◌, ◌*◌, ◌/◌, ◌%◌, ◌^◌, List, [], ◌∷◌, ◌++◌, flat_map}
use Rattle.std.specs.Fmt.{decimal}
use Rattle.std.specs.List.{range_with_len}
use Rattle.lumos_base.specs.Records.{vertex_of, weight_of}
use Rattle.lumos_base.specs.declared.records.Edge.{Edge}

-- the numbers that follow from a seed, which is number 0
unfoldable pub number_at : ℕ → ℕ → ℕ
number_at seed zero = seed
number_at seed (suc k) = (number_at seed k * 6364136223846793005 + 1442695040888963407) % 2 ^ 64

-- the draws, from 1 on: all but the lowest 33 bits of the number
abbrev pub draw_at : ℕ → ℕ → ℕ
draw_at seed k = number_at seed k / 2 ^ 33

-- edge e, from 0 on, has three draws: for its source, for its target, and for its weight, which is 1 to 16
abbrev pub generated_edge : ℕ → ℕ → ℕ → Edge
generated_edge seed vertices e = record {
  source = vertex_of (draw_at seed (3 * e + 1) % vertices);
  target = vertex_of (draw_at seed (3 * e + 2) % vertices);
  weight = weight_of (1 + draw_at seed (3 * e + 3) % 16);
}

-- the line of an edge: its source, its target and its weight, with a space between
abbrev pub edge_line : Edge → List ℕ
edge_line edge = decimal edge.source.0 ++ 32 ∷ decimal edge.target.0 ++ 32 ∷ decimal edge.weight.0 ++ 10 ∷ []

-- the text: a line for each of the edges
unfoldable pub generated : ℕ → ℕ → ℕ → List ℕ
generated seed vertices edges = flat_map (λ e. edge_line (generated_edge seed vertices e)) (range_with_len 0 edges)
