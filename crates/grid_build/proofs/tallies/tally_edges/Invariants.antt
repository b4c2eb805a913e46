use Rattle.std.proofs.Common.{◌++◌, List, take}
use Rattle.lumos_base.specs.declared.records.Edge.{Edge}
use Rattle.grid_build.specs.Tallied.{AreTallies}
use Rattle.grid_build.proofs.tallies.tally_edges.Given as goal

abbrev pub invariant-loop-i : goal.invariant-loop-i
invariant-loop-i l =
    (before : List Edge) → AreTallies l.first before l.initial.infos → AreTallies l.first (before ++ take l.i l.edges) l.infos
