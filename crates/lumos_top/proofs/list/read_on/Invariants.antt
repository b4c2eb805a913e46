use Rattle.std.proofs.Common.{◌≡◌, ◌≤◌, ◌+◌, ◌-◌, ℕ, List, ◌++◌, false, cond}
use Rattle.lumos_depot.specs.Streams.{Takes}
use Rattle.edge_text.specs.Reader.{HasRead}
use Rattle.lumos_top.specs.Listing.{IsAtEnd}
use Rattle.lumos_top.proofs.list.read_on.Given as goal

abbrev pub invariant-loop-more : goal.invariant-loop-more
invariant-loop-more g l = record {
  limits : l.reader.limits ≡ l.limits;
  later : g.I.Source.faults l.fn.input ≤ g.I.Source.faults l.input;
  reads : (front : List ℕ) → HasRead front l.fn.edges.items l.fn.reader → (seen : List ℕ) × Takes (g.I.Source.left l.fn.input) (g.I.Source.left l.input) seen × HasRead (front ++ seen) l.edges.items l.reader;
  ended : l.more ≡ false → IsAtEnd (g.I.Source.left l.input);
}

abbrev pub decreases-loop-more : goal.decreases-loop-more
decreases-loop-more g l = cond l.more 1 0 + (l.limits.max_bytes - l.reader.bytes)
