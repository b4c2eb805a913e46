use Rattle.std.proofs.Common.{◌≡◌, take}
use Rattle.partition.specs.Blocks.{block}
use Rattle.partition.specs.Parts.{chunk_of}
use Rattle.flight_core.proofs.made.block_edges.Given as goal

abbrev pub invariant-loop-edge : goal.invariant-loop-edge
invariant-loop-edge l = l.made.items ≡ block (take l.edge-index l.edges) (chunk_of l.parts) l.row l.column
