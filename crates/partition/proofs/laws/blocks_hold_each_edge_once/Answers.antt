use Rattle.partition.proofs.BlockLemmas.{hold_once}
use Rattle.partition.proofs.laws.blocks_hold_each_edge_once.Goals as goal

pub returns : goal.returns
returns c = hold_once
