use Rattle.std.proofs.Common.{arith}
use Rattle.partition.specs.Parts.{chunk_of}
use Rattle.windows.proofs.PartLemmas.{part_below}
use Rattle.windows.proofs.windows.Windows.before.Goals as goal

pub shown-requires-clause-even_fits : goal.shown-requires-clause-even_fits
shown-requires-clause-even_fits g c low =
    let cut = c.self.inside.parts in
    omega (arith, part_below cut.vertices (chunk_of cut) c.self.inside.first_part c.self.inside.pinned low, c.deref-2.ensures.len, c.self.invariant.even_fits)

pub shown-requires-clause-odd_fits : goal.shown-requires-clause-odd_fits
shown-requires-clause-odd_fits g c low =
    let cut = c.self.inside.parts in
    omega (arith, part_below cut.vertices (chunk_of cut) c.self.inside.first_part c.self.inside.pinned low, c.deref-3.ensures.len, c.self.invariant.odd_fits)
