use Rattle.std.proofs.Common.{refl, ◌∙◌}
use Rattle.lumos_top.proofs.Endings.{list_end, list_stop}
use Rattle.lumos_top.proofs.ListLemmas.{end_graph}
use Rattle.lumos_top.proofs.list.read_on.Goals as goal

pub returns-in-Err-clause-list : goal.returns-in-Err-clause-list
returns-in-Err-clause-list g c front read =
    let reads = c.loop-more.invariant.reads front read in
    list_stop c.args.limits.now front reads.0 _ _ _ c.in-Err.stop c.read_piece.new.edges.items c.read_piece.new.reader reads.1 (c.in-Err.ensures.limits ∙ c.loop-more.invariant.limits) (c.in-Err.ensures.reads _ reads.2)

pub returns-clause-graph : goal.returns-clause-graph
returns-clause-graph g c =
    let reads = c.loop-more.invariant.reads c.requires.read.0 c.requires.read.1 in
    end_graph c.args.limits.now _ c.take_end.result c.requires.vertex c.requires.vertices c.requires.edges (c.take_end.ensures _ reads.2)

pub returns-clause-list : goal.returns-clause-list
returns-clause-list g c front read =
    let reads = c.loop-more.invariant.reads front read in
    list_end c.args.limits.now _ front reads.0 _ _ c.take_end.result refl reads.1 (c.loop-more.invariant.ended c.loop-more-test.false) (c.take_end.ensures _ reads.2)
