use Rattle.std.proofs.Common.{◌≡◌, ◌<◌, refl, arith}
use Rattle.partition.specs.Parts.{chunk_of}
use Rattle.lumos_top.specs.Replays.{chunk_lines}
use Rattle.lumos_top.proofs.TextLemmas.{text_cut, text_written, texts_whole}
use Rattle.lumos_top.proofs.finals.write_parts.Goals as goal

pub returns-in-Err-clause-bytes : goal.returns-in-Err-clause-bytes
returns-in-Err-clause-bytes g c =
    let r = c.args.replay.now in
    let cut = c.args.parts.now in
    let inside : c.loop-column.column < cut.parts = omega (arith, c.loop-column-test.true, c.parts-column-end.ensures.value) in
    text_cut (chunk_lines (g.G.VertexProgram.model c.args.program.now) r.edges cut.vertices (chunk_of cut) r.state c.args.time) _ _ _ c.write_final.result _ c.loop-column.column cut.parts inside
    c.loop-column.invariant.written c.write_final.ensures.bytes

pub loop-column-preserved : goal.loop-column-preserved
loop-column-preserved g c =
    let r = c.args.replay.now in
    let cut = c.args.parts.now in
    record {
      later = let step = c.write_final.ensures.cause.later in let before = c.loop-column.invariant.later in omega arith;
      written = text_written (chunk_lines (g.G.VertexProgram.model c.args.program.now) r.edges cut.vertices (chunk_of cut) r.state c.args.time) _ _ _ c.write_final.result c.loop-column.column (rw c.in-Ok.is refl)
          c.loop-column.invariant.written c.write_final.ensures.bytes;
    }

pub returns-clause-bytes : goal.returns-clause-bytes
returns-clause-bytes g c =
    let r = c.args.replay.now in
    let cut = c.args.parts.now in
    let all : c.loop-column.column ≡ cut.parts = omega (arith, c.loop-column.auto.column-end, c.loop-column-test.false, c.parts-column-end.ensures.value) in
    texts_whole (chunk_lines (g.G.VertexProgram.model c.args.program.now) r.edges cut.vertices (chunk_of cut) r.state c.args.time) _ _ _ _ all c.loop-column.invariant.written
