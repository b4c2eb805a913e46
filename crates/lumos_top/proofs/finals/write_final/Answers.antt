use Rattle.std.proofs.Common.{refl, ap, subst, ◌∙◌, arith}
use Rattle.lumos_depot.specs.Streams.{Writes}
use Rattle.partition.specs.Parts.{Cut, chunk_of}
use Rattle.partition.specs.declared.records.VertexRange.{VertexRange}
use Rattle.lumos_top.proofs.FinalLemmas.{chunk_written, final_cut, final_written, part_few}
use Rattle.lumos_top.proofs.finals.write_final.Goals as goal

pub write_chunk-requires-clause-low : goal.write_chunk-requires-clause-low
write_chunk-requires-clause-low g c =
    let range = c.range_of-first.ensures in
    let all = c.vertices-few.ensures in
    omega (arith, range.ordered, range.inside, all.value, all.few)

pub write_chunk-requires-clause-few : goal.write_chunk-requires-clause-few
write_chunk-requires-clause-few g c =
    let held = c.in-Some.ensures.synchronous in
    let all = c.vertices-few.ensures in
    let same = ap (λ (k : Cut). k.vertices) c.requires.parts in
    let few = part_few c.args.replay.now.cut.vertices (chunk_of c.args.replay.now.cut) c.args.column in
    omega (arith, held.long, few, same, all.value, all.few)

pub returns-in-Ok-clause-bytes : goal.returns-in-Ok-clause-bytes
returns-in-Ok-clause-bytes g c =
    let line = subst (Writes _ _ c.write_all.result) (c.bytes.ensures.text ∙ c.final_text.ensures) c.write_all.ensures.bytes in
    let first = ap (λ (r : VertexRange). r.first) c.range_of-first.ensures.value in
    let values = chunk_written g.G.VertexProgram.model c.args.replay.now c.args.program.now c.args.parts.now c.args.time c.args.column _ c.in-Some.values.now _ _ c.write_chunk.result
    c.requires.program c.requires.parts first c.in-Some.ensures.synchronous c.write_chunk.ensures.bytes in
    final_written (g.G.VertexProgram.model c.args.program.now) c.args.replay.now.edges c.args.parts.now.vertices (chunk_of c.args.parts.now) c.args.replay.now.state c.args.time c.args.column _ _ _ c.write_all.result c.write_chunk.result c.in-Some.ensures.only_final (rw c.in-Ok.is refl) line values

pub returns-in-Err-clause-bytes : goal.returns-in-Err-clause-bytes
returns-in-Err-clause-bytes g c =
    let line = subst (Writes _ _ c.write_all.result) (c.bytes.ensures.text ∙ c.final_text.ensures) c.write_all.ensures.bytes in
    final_cut (g.G.VertexProgram.model c.args.program.now) c.args.replay.now.edges c.args.parts.now.vertices (chunk_of c.args.parts.now) c.args.replay.now.state c.args.time c.args.column _ _ c.write_all.result _ c.in-Some.ensures.only_final line
