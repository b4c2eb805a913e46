use Rattle.std.proofs.Common.{sum, ap, arith}
use Rattle.grid_format.specs.Tables.{BlockCounts}
use Rattle.grid_format.proofs.TableLemmas.{low_few, low_inside, place_below, start_read}
use Rattle.grid_format.proofs.table.BlockTable.secondary_place.Goals as goal

pub overflow_sub-below : goal.overflow_sub-below
overflow_sub-below c =
    omega (arith, c.primary_place-first.ensures, c.primary_place.ensures, place_below c.args.self.now c.args.i c.args.j c.requires.low)

pub overflow_add-result : goal.overflow_add-result
overflow_add-result c =
    let table = c.args.self.now in
    let i = c.args.i in
    let j = c.args.j in
    let start = start_read _ table c.self.inside.low_starts.items j c.index.result.now c.self.view_is c.self.invariant.low_begin (omega (arith, c.requires.low, c.requires.row)) c.index.ensures in
    let few = ap (λ (t : BlockCounts). sum t.counts) c.self.view_is in
    omega (arith, start, few, c.self.invariant.few, c.primary_place-first.ensures, c.primary_place.ensures, place_below table i j c.requires.low, low_few table, low_inside table i j c.requires.low c.requires.row)

pub returns : goal.returns
returns c =
    let table = c.args.self.now in
    let i = c.args.i in
    let j = c.args.j in
    let start = start_read _ table c.self.inside.low_starts.items j c.index.result.now c.self.view_is c.self.invariant.low_begin (omega (arith, c.requires.low, c.requires.row)) c.index.ensures in
    omega (arith, start, c.primary_place-first.ensures, c.primary_place.ensures, place_below table i j c.requires.low)
