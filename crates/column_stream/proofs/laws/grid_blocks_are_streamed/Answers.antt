use Rattle.column_stream.proofs.BlockLemmas.{block_streamed, low_streamed}
use Rattle.column_stream.proofs.laws.grid_blocks_are_streamed.Goals as goal

pub returns-clause-primary : goal.returns-clause-primary
returns-clause-primary c = block_streamed

pub returns-clause-secondary : goal.returns-clause-secondary
returns-clause-secondary c = low_streamed
