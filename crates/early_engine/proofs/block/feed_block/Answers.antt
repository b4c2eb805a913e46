use Rattle.early_engine.proofs.GridLemmas.{cursor_inside, never_damaged, streamed}
use Rattle.early_engine.proofs.PieceLemmas.{NextFed, SumsFed}
use Rattle.early_engine.proofs.block.feed_block.Goals as goal

pub feed_left-requires-clause-inside : goal.feed_left-requires-clause-inside
feed_left-requires-clause-inside g c =
    cursor_inside c.args.kind c.args.layout.now.parts c.args.layout.now.table c.args.visit.row c.args.visit.column (g.D.Depot.holds c.args.depot.now) c.cursor_at-cursor.result c.requires.laid c.requires.row c.requires.column c.requires.low c.requires.inside c.cursor_at-cursor.ensures

pub returns-in-Ok-clause-fed : goal.returns-in-Ok-clause-fed
returns-in-Ok-clause-fed g c edges state before grid first has =
    let i = c.args.visit.row in
    let j = c.args.visit.column in
    let p = g.G.VertexProgram.model c.args.program.now in
    streamed c.args.kind edges c.args.layout.now.parts c.args.layout.now.table (g.D.Depot.holds c.args.depot.now) i j c.requires.row c.requires.column c.requires.low grid c.cursor_at-cursor.result c.cursor_at-cursor.ensures
    (SumsFed p c.args.visit.now c.args.windows.now c.feed_left.new.windows) c.in-Ok.ensures.fed i j state before first has

pub returns-in-Ok-clause-ahead : goal.returns-in-Ok-clause-ahead
returns-in-Ok-clause-ahead g c edges state before grid second has =
    let i = c.args.visit.row in
    let j = c.args.visit.column in
    let p = g.G.VertexProgram.model c.args.program.now in
    streamed c.args.kind edges c.args.layout.now.parts c.args.layout.now.table (g.D.Depot.holds c.args.depot.now) i j c.requires.row c.requires.column c.requires.low grid c.cursor_at-cursor.result c.cursor_at-cursor.ensures
    (NextFed p c.args.visit.ahead c.args.windows.now c.feed_left.new.windows) c.in-Ok.ensures.ahead i j state before second has

pub returns-in-Err-clause-intact : goal.returns-in-Err-clause-intact
returns-in-Err-clause-intact g c edges grid =
    never_damaged c.args.kind edges c.args.layout.now.parts c.args.layout.now.table (g.D.Depot.holds c.args.depot.now) c.args.visit.row c.args.visit.column c.requires.row c.requires.column c.requires.low grid c.cursor_at-cursor.result c.cursor_at-cursor.ensures
    c.in-Err.fault c.feed_left.result c.in-Err.is c.feed_left.ensures.fault
