use Rattle.std.proofs.Common.{◌≡◌, ℕ, ◌+◌, ◌++◌, length, refl, ap, ◌∙◌, subst, arith}
use Rattle.lumos_depot.specs.Streams.{Writes}
use Rattle.lumos_report.specs.Report.{value_line}
use Rattle.lumos_top.proofs.TextLemmas.{text_cut, text_written, texts_whole}
use Rattle.lumos_top.proofs.finals.write_chunk.Goals as goal

pub returns-in-Err-clause-bytes : goal.returns-in-Err-clause-bytes
returns-in-Err-clause-bytes g c = λ state chunk.
    let p = g.G.VertexProgram.model c.args.program.now in
    let k = c.loop-k.k in
    let first = c.args.first in
    let value = c.index-values-k.is ∙ chunk.at _ k c.loop-k-test.true in
    let line = ap (value_line (first + k)) (c.show.ensures.text ∙ ap (λ l. l ++ p.show c.index-values-k.result) c.new-shown.ensures ∙ ap p.show value) in
    text_cut (λ (k : ℕ). value_line (first + k) (p.show (state (first + k)))) _ _ _ c.write_value.result _ k (length c.args.values.now) c.loop-k-test.true (c.loop-k.invariant.written state chunk)
    (subst (Writes _ _ c.write_value.result) line c.write_value.ensures.bytes)

pub loop-k-preserved : goal.loop-k-preserved
loop-k-preserved g c = record {
  later = let step = c.write_value.ensures.cause.later in omega arith;
  written = λ state chunk.
      let p = g.G.VertexProgram.model c.args.program.now in
      let k = c.loop-k.k in
      let first = c.args.first in
      let value = c.index-values-k.is ∙ chunk.at _ k c.loop-k-test.true in
      let line = ap (value_line (first + k)) (c.show.ensures.text ∙ ap (λ l. l ++ p.show c.index-values-k.result) c.new-shown.ensures ∙ ap p.show value) in
      text_written (λ (k : ℕ). value_line (first + k) (p.show (state (first + k)))) _ _ _ c.write_value.result k (rw c.in-Ok.is refl) (c.loop-k.invariant.written state chunk)
      (subst (Writes _ _ c.write_value.result) line c.write_value.ensures.bytes);
}

pub returns-clause-bytes : goal.returns-clause-bytes
returns-clause-bytes g c = λ state chunk.
    let p = g.G.VertexProgram.model c.args.program.now in
    let first = c.args.first in
    let all : c.loop-k.k ≡ length c.args.values.now = omega (arith, c.loop-k.auto.k-end) in
    texts_whole (λ (k : ℕ). value_line (first + k) (p.show (state (first + k)))) _ _ _ _ all (c.loop-k.invariant.written state chunk)
