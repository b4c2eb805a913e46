use Rattle.std.proofs.Common.{◌≡◌, ◌≤◌, ◌-◌, ◌+◌, ℕ, List, ◌++◌, length, take}
use Rattle.lumos_base.specs.declared.records.Edge.{Edge}
use Rattle.edge_text.specs.Places.{HasPlaces}
use Rattle.edge_text.specs.Reader.{HasRead, run_state}
use Rattle.edge_text.proofs.plain.plain_lines.Given as goal

abbrev pub invariant-loop-run : goal.invariant-loop-run
invariant-loop-run l = record {
  used : l.run.used ≤ length l.text;
  made : l.run.made ≤ length l.edges_out;
  lines : l.run.lines + l.fn.run.used ≤ l.fn.run.lines + l.run.used;
  edges : l.run.edges ≤ l.limits.max_edges;
  ahead : l.fn.run.used ≤ l.run.used;
  idle : l.run.used ≡ l.fn.run.used → l.run.made ≡ l.fn.run.made;
  reads : (seen : List ℕ) (edges : List Edge) (bytes : ℕ) → bytes + length l.text ≤ l.limits.max_bytes
      → HasRead (seen ++ take l.fn.run.used l.text) (edges ++ take l.fn.run.made l.fn.edges_out) (run_state l.limits bytes l.fn.run)
      → HasRead (seen ++ take l.run.used l.text) (edges ++ take l.run.made l.edges_out) (run_state l.limits bytes l.run);
  free : (seen : List ℕ) (edges : List Edge) (bytes : ℕ) → bytes + length l.text ≤ l.limits.max_bytes
      → HasRead (seen ++ take l.fn.run.used l.text) (edges ++ take l.fn.run.made l.fn.edges_out) (run_state l.limits bytes l.fn.run)
      → HasPlaces l.limits seen l.text l.fn.run.used (length edges + length l.fn.edges_out)
      → HasPlaces l.limits seen l.text l.run.used (length edges + length l.fn.edges_out);
}

abbrev pub decreases-loop-run : goal.decreases-loop-run
decreases-loop-run l = length l.text - l.run.used
