-- What `PageRank` does: its values, their bytes, and its functions.
use Rattle.std.specs.Prelude.{◌==◌, ℕ, ◌/◌, ◌^◌, ◌<◌, not, if◌then◌else◌, nat_lt, List, ◌++◌, drop, decimal}
use Rattle.byteorder.specs.Endian.{little_bytes, little_number}
use Rattle.lumos_law.specs.Combines.{total, total_of}
use Rattle.lumos_law.specs.Program.{Program}
use Rattle.lumos_law.specs.declared.combines.Total.{Total}
use Rattle.programs.specs.Numbers.{mixed, cut, is_beyond}
use Rattle.programs.specs.declared.pagerank.Rank.{Rank}

-- a rank, and how many edges lead out
abbrev pub rank_with : ℕ → ℕ → Rank
rank_with r d = record { rank = r; degree = d }

-- the numbers of a rank lie within their types
pub record IsRank (x : Rank) : Type 0 where
  pub rank : x.rank < 2 ^ 64
  pub degree : x.degree < 2 ^ 32

-- a rank's bytes are its number in eight and its degree in four
abbrev pub rank_bytes : Rank → List ℕ
rank_bytes x = little_bytes 8 x.rank ++ little_bytes 4 x.degree

-- the rank that twelve bytes stand for
abbrev pub rank_from : List ℕ → Rank
rank_from bytes = rank_with (little_number 8 bytes) (little_number 4 (drop 8 bytes))

-- a vertex hands its rank on in equal parts along its edges, and takes of what it is given so many thousandths
abbrev pub pagerank_program : ℕ → ℕ → Program Rank Total
pagerank_program unit share = record {
  init = λ v info. rank_with unit info.degree;
  contributes = λ x. nat_lt 0 x.degree;
  contribution = λ x w. total (if x.degree == 0 then 0 else x.rank / x.degree);
  over = λ v x s. is_beyond s.0 (mixed share unit s.0);
  apply = λ v x s. rank_with (cut (mixed share unit s.0)) x.degree;
  moved = λ x y. not (x.rank == y.rank);
  show = λ x. decimal x.rank;
  unit = total 0;
  join = total_of;
}
