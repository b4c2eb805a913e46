-- What `Spreading` does: its values, their bytes, and its functions.
use Rattle.std.specs.Prelude.{◌==◌, ◌&&◌, ◌||◌, ℕ, ◌^◌, ◌<◌, Bool, not, if◌then◌else◌, nat_lt, List, ◌++◌, drop, Option, Some, None, decimal, codes}
use Rattle.byteorder.specs.Endian.{little_bytes, little_number}
use Rattle.lumos_law.specs.Combines.{total4, total4_of}
use Rattle.lumos_law.specs.Program.{Program}
use Rattle.lumos_law.specs.declared.combines.Total4.{Total4}
use Rattle.programs.specs.Numbers.{mixed, cut, is_beyond, part_by_weight}
use Rattle.programs.specs.Seeds.{class_of}
use Rattle.programs.specs.declared.seeds.Seed.{Seed}
use Rattle.programs.specs.declared.spreading.Scores.{Scores}

-- a score in each of the four classes, and the weight of all edges out of the vertex
abbrev pub scores_with : ℕ → ℕ → ℕ → ℕ → ℕ → Scores
scores_with a b c d w = record { a = a; b = b; c = c; d = d; weight = w }

-- the numbers of a value lie within their types
pub record IsScores (x : Scores) : Type 0 where
  pub a : x.a < 2 ^ 64
  pub b : x.b < 2 ^ 64
  pub c : x.c < 2 ^ 64
  pub d : x.d < 2 ^ 64
  pub weight : x.weight < 2 ^ 64

-- a value's bytes are its five numbers, eight bytes each
abbrev pub scores_bytes : Scores → List ℕ
scores_bytes x = little_bytes 8 x.a ++ little_bytes 8 x.b ++ little_bytes 8 x.c ++ little_bytes 8 x.d ++ little_bytes 8 x.weight

-- the value that forty bytes stand for
abbrev pub scores_from : List ℕ → Scores
scores_from bytes =
    scores_with (little_number 8 bytes) (little_number 8 (drop 8 bytes)) (little_number 8 (drop 16 bytes))
    (little_number 8 (drop 24 bytes)) (little_number 8 (drop 32 bytes))

-- what a vertex has of its own in a class: the unit where it is a seed of this class
abbrev pub start_by : ℕ → Option ℕ → ℕ → ℕ
start_by unit None class = 0
start_by unit (Some own) class = if own == class then unit else 0

-- the same by the list of seeds
abbrev pub start : ℕ → List Seed → ℕ → ℕ → ℕ
start unit seeds v class = start_by unit (class_of seeds v) class

-- some score of a vertex is above 0
abbrev pub has_score : Scores → Bool
has_score x = nat_lt 0 x.a || nat_lt 0 x.b || nat_lt 0 x.c || nat_lt 0 x.d

-- the texts of four numbers with a space between two
abbrev pub four_texts : ℕ → ℕ → ℕ → ℕ → List ℕ
four_texts a b c d = decimal a ++ (codes " " ++ (decimal b ++ (codes " " ++ (decimal c ++ (codes " " ++ decimal d)))))

-- a vertex hands each score on along its edges, by their weights, and takes of what it is given so many thousandths
abbrev pub spreading_program : ℕ → ℕ → List Seed → Program Scores Total4
spreading_program unit share seeds = record {
  init = λ v info.
      scores_with (start unit seeds v 0) (start unit seeds v 1) (start unit seeds v 2) (start unit seeds v 3) info.weight;
  contributes = λ x. nat_lt 0 x.weight && has_score x;
  contribution = λ x w.
      total4 (part_by_weight x.a w x.weight) (part_by_weight x.b w x.weight)
      (part_by_weight x.c w x.weight) (part_by_weight x.d w x.weight);
  over = λ v x s.
      is_beyond s.a (mixed share (start unit seeds v 0) s.a) || is_beyond s.b (mixed share (start unit seeds v 1) s.b)
      || is_beyond s.c (mixed share (start unit seeds v 2) s.c) || is_beyond s.d (mixed share (start unit seeds v 3) s.d);
  apply = λ v x s.
      scores_with (cut (mixed share (start unit seeds v 0) s.a)) (cut (mixed share (start unit seeds v 1) s.b))
      (cut (mixed share (start unit seeds v 2) s.c)) (cut (mixed share (start unit seeds v 3) s.d)) x.weight;
  moved = λ x y. not ((x.a == y.a) && (x.b == y.b) && (x.c == y.c) && (x.d == y.d));
  show = λ x. four_texts x.a x.b x.c x.d;
  unit = total4 0 0 0 0;
  join = total4_of;
}
