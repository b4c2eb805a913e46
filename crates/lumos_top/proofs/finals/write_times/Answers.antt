use Rattle.std.proofs.Common.{◌≡◌, refl, arith}
use Rattle.partition.specs.Parts.{chunk_of}
use Rattle.lumos_top.specs.Replays.{parts_lines}
use Rattle.lumos_top.proofs.TextLemmas.{text_cut, text_written, texts_whole}
use Rattle.lumos_top.proofs.finals.write_times.Goals as goal

pub returns-in-Err-clause-bytes : goal.returns-in-Err-clause-bytes
returns-in-Err-clause-bytes g c =
    let r = c.args.replay.now in
    let cut = c.args.parts.now in
    text_cut (parts_lines (g.G.VertexProgram.model c.args.program.now) r.edges cut.vertices (chunk_of cut) r.state cut.parts) _ _ _ c.write_parts.result _ c.loop-time.time c.args.shown c.loop-time-test.true
    c.loop-time.invariant.written c.write_parts.ensures.bytes

pub loop-time-preserved : goal.loop-time-preserved
loop-time-preserved g c =
    let r = c.args.replay.now in
    let cut = c.args.parts.now in
    record {
      later = let step = c.write_parts.ensures.cause.later in let before = c.loop-time.invariant.later in omega arith;
      written = text_written (parts_lines (g.G.VertexProgram.model c.args.program.now) r.edges cut.vertices (chunk_of cut) r.state cut.parts) _ _ _ c.write_parts.result c.loop-time.time (rw c.in-Ok.is refl)
          c.loop-time.invariant.written c.write_parts.ensures.bytes;
    }

pub returns-clause-bytes : goal.returns-clause-bytes
returns-clause-bytes g c =
    let r = c.args.replay.now in
    let cut = c.args.parts.now in
    let all : c.loop-time.time ≡ c.args.shown = omega (arith, c.loop-time.auto.time-end, c.loop-time-test.false) in
    texts_whole (parts_lines (g.G.VertexProgram.model c.args.program.now) r.edges cut.vertices (chunk_of cut) r.state cut.parts) _ _ _ _ all c.loop-time.invariant.written
