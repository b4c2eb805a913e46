use Rattle.column_stream.proofs.CursorLemmas.{gives_all}
use Rattle.column_stream.proofs.laws.pieces_are_the_block.Goals as goal

pub returns : goal.returns
returns c = gives_all
