use Rattle.std.proofs.Common.{◌≤◌, ℕ, Option, take, sym, ap, subst, arith}
use Rattle.std.specs.Prelude.{IfSome}
use Rattle.std.proofs.lemmas.List.{length-append}
use Rattle.grid_build.proofs.Growing.{grown_end, grown_seen}
use Rattle.grid_build.proofs.SpoolEnds.{greatest_low, spooled_end}
use Rattle.grid_build.proofs.SpoolLemmas.{spooling_length}
use Rattle.grid_build.proofs.spool.take_end.Goals as goal

pub append_edges-requires-clause-few : goal.append_edges-requires-clause-few
append_edges-requires-clause-few g c =
    let had = c.requires.spooling in
    let edges = had.2.edges in
    let end = c.in-Ok.ensures.reads had.1 edges had.2.read in
    let all = end.1 in
    let counted = had.2.counted in
    let most = c.in-Ok.ensures.within.1 in
    let same = ap (λ l. l.max_edges) c.requires.limits in
    omega (arith, length-append edges (take c.in-Ok.end.made c.finish.new.edges_out))

pub append_edges-requires-clause-spool : goal.append_edges-requires-clause-spool
append_edges-requires-clause-spool g c =
    let had = c.requires.spooling in
    spooling_length had.0 had.1 _ _ _ _ had.2

pub vertices_of-requires : goal.vertices_of-requires
vertices_of-requires g c =
    let had = c.requires.spooling in
    let end = c.in-Ok.ensures.reads had.1 had.2.edges had.2.read in
    let low = subst (λ l. l.max_vertex ≤ 268435455) (sym c.requires.limits) c.requires.vertex in
    subst (λ (o : Option ℕ). IfSome o (λ vertex. vertex ≤ 268435455)) (sym end.2) (greatest_low c.args.reader.limits had.1 _ low end.0)

pub returns-in-Ok-append_edges-clause-ends : goal.returns-in-Ok-append_edges-clause-ends
returns-in-Ok-append_edges-clause-ends g c = λ before seen had.
    let end = c.in-Ok.ensures.reads seen had.edges had.read in
    spooled_end c.args.limits.now c.args.reader.limits before seen c.args.reader c.args.count (take c.in-Ok.end.made c.finish.new.edges_out) _ _ _ _ _
    c.requires.limits had end.0 end.1 (c.vertices_of.ensures _ end.2) c.in-Ok-append_edges.ensures.value c.in-Ok-append_edges.ensures.stored

pub returns-in-Ok-append_edges-clause-grown : goal.returns-in-Ok-append_edges-clause-grown
returns-in-Ok-append_edges-clause-grown g c = λ before seen had.
    let end = c.in-Ok.ensures.reads seen had.edges had.read in
    grown_end c.args.limits.now c.args.reader.limits before seen c.args.reader c.args.count (take c.in-Ok.end.made c.finish.new.edges_out) _ _ _ c.requires.limits had end.0
    (λ low. let rose = c.in-Ok-append_edges.ensures.stored low in (omega (arith, rose), omega (arith, rose)))

pub returns-in-Err-append_edges-clause-grown : goal.returns-in-Err-append_edges-clause-grown
returns-in-Err-append_edges-clause-grown g c = λ before seen had.
    let end = c.in-Ok.ensures.reads seen had.edges had.read in
    grown_end c.args.limits.now c.args.reader.limits before seen c.args.reader c.args.count (take c.in-Ok.end.made c.finish.new.edges_out) _ _ _ c.requires.limits had end.0
    (λ low. c.in-Err-append_edges.ensures.refused)

pub returns-in-Err-clause-grown : goal.returns-in-Err-clause-grown
returns-in-Err-clause-grown g c = λ before seen had.
    grown_seen c.args.limits.now before seen c.args.reader c.args.count _ _ c.requires.limits had
