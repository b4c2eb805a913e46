use Rattle.std.proofs.Common.{◌≡◌, ◌≤◌, ◌-◌, ℕ, List, [], ◌++◌, length, take}
use Rattle.edge_text.specs.Lines.{lines_of}
use Rattle.edge_text.specs.Parts.{IsOpen}
use Rattle.edge_text.proofs.part.run_of.Given as goal

abbrev pub invariant-loop-used : goal.invariant-loop-used
invariant-loop-used l = record {
  used : l.used ≤ length l.text;
  open_before : lines_of (take l.used l.text) ≡ [];
  reads : (bytes : List ℕ) → IsOpen l.limits l.fn.line bytes → IsOpen l.limits l.line (bytes ++ take l.used l.text);
}

abbrev pub decreases-loop-used : goal.decreases-loop-used
decreases-loop-used l = length l.text - l.used
