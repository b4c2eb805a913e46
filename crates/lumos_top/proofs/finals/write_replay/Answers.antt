use Rattle.std.proofs.Common.{ℕ, ◌++◌, refl, ap, ◌∙◌, subst}
use Rattle.lumos_depot.specs.Streams.{Writes}
use Rattle.lumos_depot.proofs.Written.{writes_cut, writes_then}
use Rattle.lumos_report.specs.Report.{head_line}
use Rattle.lumos_top.proofs.finals.write_replay.Goals as goal

pub returns-in-Ok-clause-bytes : goal.returns-in-Ok-clause-bytes
returns-in-Ok-clause-bytes g c =
    let word = g.G.VertexProgram.name_text c.args.program.now in
    let head = ap (λ l. head_line l (record { version = 1; parts = c.parts.result; vertices = c.vertices.result; edges = c.args.edges })) (c.name.ensures.text ∙ ap (λ l. l ++ word) c.new-name.ensures)
    ∙ ap (λ (n : ℕ). head_line word (record { version = 1; parts = c.parts.result; vertices = n; edges = c.args.edges })) c.vertices.ensures.value
    ∙ ap (λ (p : ℕ). head_line word (record { version = 1; parts = p; vertices = c.args.parts.now.vertices; edges = c.args.edges })) c.parts.ensures.value in
    writes_then _ _ _ c.write_head.result _ _ _ (rw c.in-Ok.is refl) (subst (Writes _ _ c.write_head.result) head c.write_head.ensures.bytes) c.write_body.ensures.bytes

pub returns-in-Err-clause-bytes : goal.returns-in-Err-clause-bytes
returns-in-Err-clause-bytes g c =
    let word = g.G.VertexProgram.name_text c.args.program.now in
    let head = ap (λ l. head_line l (record { version = 1; parts = c.parts.result; vertices = c.vertices.result; edges = c.args.edges })) (c.name.ensures.text ∙ ap (λ l. l ++ word) c.new-name.ensures)
    ∙ ap (λ (n : ℕ). head_line word (record { version = 1; parts = c.parts.result; vertices = n; edges = c.args.edges })) c.vertices.ensures.value
    ∙ ap (λ (p : ℕ). head_line word (record { version = 1; parts = p; vertices = c.args.parts.now.vertices; edges = c.args.edges })) c.parts.ensures.value in
    writes_cut _ _ c.write_head.result _ _ _ (subst (Writes _ _ c.write_head.result) head c.write_head.ensures.bytes)
