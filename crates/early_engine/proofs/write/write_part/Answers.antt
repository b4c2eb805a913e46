use Rattle.std.proofs.Common.{◌≡◌, ◌+◌, ◌++◌, length, refl, sym, ap, ◌∙◌, subst, arith, append-nil}
use Rattle.lumos_depot.specs.Streams.{Writes}
use Rattle.lumos_report.specs.Report.{value_line}
use Rattle.early_engine.proofs.ShownLemmas.{lines_cut, lines_of, lines_written, whole_of, written_all}
use Rattle.early_engine.proofs.write.write_part.Goals as goal

pub returns-in-Err-clause-bytes : goal.returns-in-Err-clause-bytes
returns-in-Err-clause-bytes g c = λ state chunk.
    let p = g.G.VertexProgram.model c.args.program.now in
    let i = c.loop-i.i in
    let first = c.args.first in
    let value = c.index-values-i.is ∙ chunk.at _ i c.loop-i-test.true in
    let line = ap (value_line (first + i)) (c.show.ensures.text ∙ ap (λ l. l ++ p.show c.index-values-i.result) c.new-shown.ensures ∙ ap p.show value) in
    let wrote = subst (Writes _ _ c.write_value.result) (line ∙ sym (append-nil (value_line (first + i) (p.show (state (first + i)))))) c.write_value.ensures.bytes in
    record {
      front = lines_cut (λ v. value_line v (p.show (state v))) first i 1 (length c.args.values.now) (first + i) _ _ _ refl (omega (arith, c.loop-i-test.true)) (c.loop-i.invariant.written state chunk) wrote.front;
      whole = tt;
    }

pub loop-i-preserved : goal.loop-i-preserved
loop-i-preserved g c = record {
  later = let step = c.write_value.ensures.cause.later in omega arith;
  written = λ state chunk.
      let p = g.G.VertexProgram.model c.args.program.now in
      let i = c.loop-i.i in
      let first = c.args.first in
      let value = c.index-values-i.is ∙ chunk.at _ i c.loop-i-test.true in
      let line = ap (value_line (first + i)) (c.show.ensures.text ∙ ap (λ l. l ++ p.show c.index-values-i.result) c.new-shown.ensures ∙ ap p.show value) in
      let wrote = subst (Writes _ _ c.write_value.result) (line ∙ sym (append-nil (value_line (first + i) (p.show (state (first + i)))))) c.write_value.ensures.bytes in
      lines_written (λ v. value_line v (p.show (state v))) first i 1 (i + 1) (first + i) _ _ _ refl refl (c.loop-i.invariant.written state chunk) (whole_of _ _ c.write_value.result _ (rw c.in-Ok.is refl) wrote);
}

pub returns-clause-bytes : goal.returns-clause-bytes
returns-clause-bytes g c = λ state chunk.
    let p = g.G.VertexProgram.model c.args.program.now in
    let first = c.args.first in
    let all : c.loop-i.i ≡ length c.args.values.now = omega (arith, c.loop-i.auto.i-end) in
    written_all _ _ (lines_of (λ v. value_line v (p.show (state v))) first) c.loop-i.i (length c.args.values.now) all (c.loop-i.invariant.written state chunk)
