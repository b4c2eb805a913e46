-- The laws of `PageRank`, and of the bytes of its values.
use Rattle.std.proofs.Common.{◌≡◌, ◌==◌, ℕ, ◌/◌, ◌^◌, ◌<◌, Bool, true, false, cond, nat_lt, List, drop, refl, ap, ap₂, arith}
use Rattle.std.proofs.Math.Nat.{div-le_self}
use Rattle.std.proofs.lemmas.Bool.Decides.{nat_tests}
use Rattle.byteorder.specs.Endian.{little_bytes}
use Rattle.byteorder.specs.Numbers.{little_number-reads_back}
use Rattle.lumos_base.specs.ByteLaws.{IsBytes-append, IsBytes-drop, number_bytes, number_in_range, number_reads_back}
use Rattle.lumos_base.specs.Bytes.{IsBytes}
use Rattle.lumos_law.specs.CombineLaws.{total_laws}
use Rattle.lumos_law.specs.Combines.{IsTotal, total}
use Rattle.lumos_law.specs.Program.{Lawful}
use Rattle.programs.specs.PageRank.{rank_with, IsRank, rank_bytes, rank_from, pagerank_program}
use Rattle.programs.specs.ShownLaws.{shown_apart, shown_short}
use Rattle.programs.specs.declared.pagerank.Rank.{Rank}

-- a rank in range is read back from its bytes
pub rank_reads_back : (x : Rank) → IsRank x → rank_from (rank_bytes x) ≡ x
rank_reads_back x h =
    ap₂ rank_with (little_number-reads_back 8 x.rank (little_bytes 4 x.degree) h.rank) (number_reads_back 4 x.degree h.degree)

-- bytes stand for a rank in range
pub rank_in_range : (bytes : List ℕ) → IsBytes bytes → IsRank (rank_from bytes)
rank_in_range bytes h = record {
  rank = number_in_range 8 bytes h;
  degree = number_in_range 4 (drop 8 bytes) (IsBytes-drop 8 bytes h);
}

pub rank_are_bytes : (x : Rank) → IsBytes (rank_bytes x)
rank_are_bytes x = IsBytes-append (little_bytes 8 x.rank) (little_bytes 4 x.degree) (number_bytes 8 x.rank) (number_bytes 4 x.degree)

given_in : (b : Bool) (n d : ℕ) → n < 2 ^ 64 → cond b 0 (n / d) < 2 ^ 64
given_in true n d h = omega arith
given_in false n d h = let less = div-le_self n d in omega arith

silent_by : (b : Bool) (n d : ℕ) → (d == 0) ≡ b → nat_lt 0 d ≡ false → cond b 0 (n / d) ≡ 0
silent_by true n d is none = refl
silent_by false n d is none = absurd (grind (arith, nat_tests))

pub pagerank_lawful : (unit share : ℕ) → unit < 2 ^ 64 → Lawful IsRank IsTotal (pagerank_program unit share)
pagerank_lawful unit share fits = record {
  joins = total_laws;
  init_in = λ v info h k. record { rank = fits; degree = k.degree };
  contribution_in = λ x w h k. given_in (x.degree == 0) x.rank x.degree h.rank;
  apply_in = λ v x s h k l. record { rank = omega arith; degree = k.degree };
  silent = λ x w h k none. ap total (silent_by (x.degree == 0) x.rank x.degree refl none);
  moves = λ x y h k. shown_apart x.rank y.rank h.rank k.rank;
  short = λ x h. shown_short x.rank h.rank;
}
