use Rattle.std.proofs.Common.{subst, sym, arith}
use Rattle.lumos_base.specs.declared.records.Edge.{Edge}
use Rattle.flight_core.specs.EdgeList.{IsEdgeList}
use Rattle.flight_core.proofs.OutLemmas.{next_fits}
use Rattle.flight_core.proofs.start.tally_out.Goals as goal

abbrev no_edge : Edge
no_edge = record { source = record { 0 = 0 }; target = record { 0 = 0 }; weight = record { 0 = 0 } }

pub overflow_add-infos : goal.overflow_add-infos
overflow_add-infos c =
    let graph = subst (λ n. IsEdgeList n c.args.edges.now) (sym c.loop-edge.auto.infos) c.requires.list in
    let fits = (next_fits c.args.edges.now c.loop-edge.edge-index no_edge c.loop-edge.infos c.loop-edge-test.true graph c.loop-edge.invariant).degree in
    omega arith

pub overflow_add-infos-in-loop-edge : goal.overflow_add-infos-in-loop-edge
overflow_add-infos-in-loop-edge c =
    let graph = subst (λ n. IsEdgeList n c.args.edges.now) (sym c.loop-edge.auto.infos) c.requires.list in
    let fits = (next_fits c.args.edges.now c.loop-edge.edge-index no_edge c.loop-edge.infos c.loop-edge-test.true graph c.loop-edge.invariant).weight in
    omega (arith, fits, c.from.ensures)
