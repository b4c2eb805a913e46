use Rattle.std.proofs.Common.{◌≡◌, take}
use Rattle.lumos_law.specs.Joins.{join_from}
use Rattle.lumos_law.proofs.combine.join_all.Given as goal

abbrev pub invariant-loop-item : goal.invariant-loop-item
invariant-loop-item g l =
    let c = g.C.Combine in l.all ≡ join_from c.joined c.unit (take l.item-index l.items)
