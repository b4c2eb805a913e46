use Rattle.std.proofs.Common.{◌++◌, refl, ap, ◌∙◌, subst}
use Rattle.lumos_depot.specs.Streams.{Writes}
use Rattle.lumos_depot.proofs.Written.{writes_cut, writes_then}
use Rattle.lumos_report.specs.Report.{head_line}
use Rattle.early_engine.proofs.write.write_opening.Goals as goal

pub returns-in-Ok-clause-bytes : goal.returns-in-Ok-clause-bytes
returns-in-Ok-clause-bytes g c =
    let word = g.G.VertexProgram.name_text c.args.program.now in
    let is = ap (λ l. head_line l c.args.info) (c.name.ensures.text ∙ ap (λ l. l ++ word) c.new-name.ensures) in
    writes_then _ _ _ c.write_head.result _ _ _ (rw c.in-Ok.is refl) (subst (Writes _ _ c.write_head.result) is c.write_head.ensures.bytes) c.write_zero.ensures.bytes

pub returns-in-Err-clause-bytes : goal.returns-in-Err-clause-bytes
returns-in-Err-clause-bytes g c =
    let word = g.G.VertexProgram.name_text c.args.program.now in
    let is = ap (λ l. head_line l c.args.info) (c.name.ensures.text ∙ ap (λ l. l ++ word) c.new-name.ensures) in
    writes_cut _ _ c.write_head.result _ _ _ (subst (Writes _ _ c.write_head.result) is c.write_head.ensures.bytes)
