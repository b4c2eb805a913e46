use Rattle.std.proofs.Common.{arith, refl, take}
use Rattle.std.proofs.lemmas.List.{length-take-le}
use Rattle.grid_build.proofs.Growing.{grown_more, grown_spooling}
use Rattle.grid_build.proofs.SpoolLemmas.{few_made, spooling_length, spooling_more}
use Rattle.grid_build.proofs.spool.take_some.Goals as goal

pub append_edges-requires-clause-few : goal.append_edges-requires-clause-few
append_edges-requires-clause-few g c =
    let had = c.requires.spooling in
    few_made _ had.2.edges c.feed.new.edges_out c.in-Ok.fed.made c.args.reader.now.limits c.feed.new.self c.args.count.now 1099511627776
    (c.in-Ok.ensures.reads had.1 had.2.edges had.2.read) had.2.counted c.in-Ok.ensures.limits c.requires.short

pub append_edges-requires-clause-spool : goal.append_edges-requires-clause-spool
append_edges-requires-clause-spool g c =
    let had = c.requires.spooling in
    spooling_length had.0 had.1 _ _ _ _ had.2

pub overflow_add-count : goal.overflow_add-count
overflow_add-count g c =
    let had = c.requires.spooling in
    let few = few_made _ had.2.edges c.feed.new.edges_out c.in-Ok.fed.made c.args.reader.now.limits c.feed.new.self c.args.count.now 1099511627776
    (c.in-Ok.ensures.reads had.1 had.2.edges had.2.read) had.2.counted c.in-Ok.ensures.limits c.requires.short in
    omega (arith, few, length-take-le c.in-Ok.fed.made c.feed.new.edges_out c.in-Ok.ensures.within.1)

pub returns-in-Ok-append_edges-clause-reads : goal.returns-in-Ok-append_edges-clause-reads
returns-in-Ok-append_edges-clause-reads g c = λ before seen had.
    spooling_more before seen _ c.args.reader.now c.feed.new.self c.args.count.now c.in-Ok.fed.made c.feed.new.edges_out _ _ _ _ had
    (c.in-Ok.ensures.reads seen had.edges had.read) c.in-Ok.ensures.within.1 c.in-Ok-append_edges.ensures.value c.in-Ok-append_edges.ensures.stored

pub returns-in-Err-clause-grown : goal.returns-in-Err-clause-grown
returns-in-Err-clause-grown g c = λ before seen had.
    grown_spooling c.args.reader.now.limits before seen c.args.text.now c.args.reader.now c.args.count.now _ _ refl had

pub returns-in-Err-append_edges-clause-grown : goal.returns-in-Err-append_edges-clause-grown
returns-in-Err-append_edges-clause-grown g c = λ before seen had.
    grown_more c.args.reader.now.limits before seen c.args.text.now c.in-Ok.fed.used c.args.reader.now c.feed.new.self c.args.count.now (take c.in-Ok.fed.made c.feed.new.edges_out) _ _ _ had
    (c.in-Ok.ensures.reads seen had.edges had.read) c.in-Ok.ensures.limits c.in-Err-append_edges.ensures.refused
