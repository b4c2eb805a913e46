use Rattle.std.proofs.Common.{◌≡◌, ◌≤◌, ◌-◌, ◌+◌, ℕ, List, ◌++◌, length, take}
use Rattle.lumos_base.specs.declared.records.Edge.{Edge}
use Rattle.edge_text.specs.Places.{HasPlaces}
use Rattle.edge_text.specs.Reader.{HasRead}
use Rattle.edge_text.proofs.reader.EdgeReader.take_lines.Given as goal

abbrev pub invariant-loop-used : goal.invariant-loop-used
invariant-loop-used l = record {
  used : l.used ≤ length l.text;
  room : l.made ≤ length l.edges_out;
  start : l.used ≡ 0 → l.made ≡ 0;
  bytes : l.self.bytes ≡ l.fn.self.bytes + l.used;
  limits : l.self.limits ≡ l.fn.self.limits;
  reads : (seen : List ℕ) (edges : List Edge) → HasRead seen edges l.fn.self → HasRead (seen ++ take l.used l.text) (edges ++ take l.made l.edges_out) l.self;
  free : (seen : List ℕ) (edges : List Edge) → HasRead seen edges l.fn.self → HasPlaces l.fn.self.limits seen l.text l.used (length edges + length l.fn.edges_out);
}

abbrev pub decreases-loop-used : goal.decreases-loop-used
decreases-loop-used l = length l.text - l.used
