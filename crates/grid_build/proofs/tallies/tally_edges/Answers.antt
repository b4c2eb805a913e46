use Rattle.std.proofs.Common.{◌<◌, ◌++◌, length, take, subst, sym, append-nil, arith}
use Rattle.std.proofs.lemmas.List.{length-append, length-take-le, take_all}
use Rattle.grid_build.specs.Tallied.{AreTallies}
use Rattle.grid_build.proofs.TallyLemmas.{tallies_next, tallies_room}
use Rattle.grid_build.proofs.tallies.tally_edges.Goals as goal

pub loop-i-init : goal.loop-i-init
loop-i-init c = λ before had. subst (λ es. AreTallies c.args.first es c.args.infos.now) (sym (append-nil before)) had

pub add_edge-requires : goal.add_edge-requires
add_edge-requires c =
    let before = c.requires.before in
    let edges = c.args.edges.now in
    let taken = length-take-le c.loop-i.i edges (omega arith) in
    let few : length (before ++ take c.loop-i.i edges) < 2147483648 = omega (arith, length-append before (take c.loop-i.i edges), taken, c.requires.few) in
    record {
      room = λ k inside. tallies_room c.args.first (before ++ take c.loop-i.i edges) c.loop-i.infos (c.loop-i.invariant before c.requires.tallies) few k inside;
    }

pub loop-i-preserved : goal.loop-i-preserved
loop-i-preserved c = λ before had.
    tallies_next c.args.first c.loop-i.i before c.args.edges.now _ c.loop-i.infos c.add_edge.new.infos c.loop-i-test.true (c.loop-i.invariant before had) c.add_edge.ensures.light c.add_edge.auto.infos c.add_edge.ensures.each

pub returns : goal.returns
returns c = λ before had.
    let all = take_all c.loop-i.i c.args.edges.now (omega arith) in
    subst (λ es. AreTallies c.args.first (before ++ es) c.loop-i.infos) all (c.loop-i.invariant before had)
