use Rattle.std.proofs.Common.{◌≡◌, ◌≤◌, ◌-◌, ◌+◌, ℕ, List, ◌++◌, length, take}
use Rattle.edge_text.specs.Reader.{HasRead}
use Rattle.lumos_top.proofs.list.take_piece.Given as goal

abbrev pub invariant-loop-used : goal.invariant-loop-used
invariant-loop-used l = record {
  used : l.used ≤ length l.piece;
  places : length l.places ≡ 256;
  limits : l.reader.limits ≡ l.fn.reader.limits;
  bytes : l.reader.bytes ≡ l.fn.reader.bytes + l.used;
  reads : (seen : List ℕ) → HasRead seen l.fn.edges.items l.fn.reader → HasRead (seen ++ take l.used l.piece) l.edges.items l.reader;
}

abbrev pub decreases-loop-used : goal.decreases-loop-used
decreases-loop-used l = length l.piece - l.used
