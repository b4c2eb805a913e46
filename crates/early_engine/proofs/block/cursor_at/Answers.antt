use Rattle.std.proofs.Common.{arith}
use Rattle.early_engine.proofs.GridLemmas.{block_inside, bytes_few}
use Rattle.early_engine.proofs.block.cursor_at.Goals as goal

pub new-requires : goal.new-requires
new-requires c =
    let cut = c.args.layout.now.parts in
    let table = c.args.layout.now.table in
    let inside = block_inside c.args.kind cut table c.args.i c.args.j c.requires.laid c.requires.row c.requires.column c.requires.low in
    omega (arith, inside, bytes_few c.args.kind cut table c.requires.laid, c.place_in-place.ensures, c.count-count.ensures)
