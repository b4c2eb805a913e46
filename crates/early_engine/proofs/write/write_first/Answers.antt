use Rattle.std.proofs.Common.{◌++◌, ℕ, refl, append_assoc}
use Rattle.lumos_base.specs.Leaving.{no_info}
use Rattle.lumos_report.specs.Report.{head_line, zero_line}
use Rattle.windows.proofs.StayLemmas.{coding}
use Rattle.early_engine.specs.Report.{shown_lines}
use Rattle.early_engine.proofs.ShownLemmas.{front_cut, run_behind, shown_behind, whole_of}
use Rattle.early_engine.proofs.write.write_first.Goals as goal

pub returns-in-Ok-clause-told : goal.returns-in-Ok-clause-told
returns-in-Ok-clause-told g c state keeps =
    let p = g.G.VertexProgram.model c.args.program.now in
    let first = head_line (g.G.VertexProgram.name_text c.args.program.now) c.args.info in
    let shown = shown_lines p c.args.show state c.args.layout.now.parts.vertices in
    run_behind _ _ _ (first ++ zero_line) (whole_of _ _ c.write_opening.result _ (rw c.in-Ok.is refl) c.write_opening.ensures.bytes) c.write_shown.result shown (first ++ (zero_line ++ shown)) (append_assoc first zero_line shown)
    (c.write_shown.ensures.told state keeps)

pub returns-in-Ok-clause-shown : goal.returns-in-Ok-clause-shown
returns-in-Ok-clause-shown g c =
    let p = g.G.VertexProgram.model c.args.program.now in
    let first = head_line (g.G.VertexProgram.name_text c.args.program.now) c.args.info in
    let n = c.args.layout.now.parts.vertices in
    shown_behind _ _ _ (first ++ zero_line) (whole_of _ _ c.write_opening.result _ (rw c.in-Ok.is refl) c.write_opening.ensures.bytes)
    (coding g.G.Value.Fixed.value_of g.G.Value.Fixed.WIDTH g.G.Sum.Fixed.value_of g.G.Sum.Fixed.WIDTH) c.write_shown.new.windows (g.D.Depot.holds c.write_shown.new.depot) 0
    (λ state. shown_lines p c.args.show state n) (λ state. first ++ (zero_line ++ shown_lines p c.args.show state n)) c.write_shown.result (λ state. append_assoc first zero_line (shown_lines p c.args.show state n)) c.write_shown.ensures.shown

pub returns-in-Err-clause-told : goal.returns-in-Err-clause-told
returns-in-Err-clause-told g c state keeps =
    let first = head_line (g.G.VertexProgram.name_text c.args.program.now) c.args.info in
    let shown = shown_lines (g.G.VertexProgram.model c.args.program.now) c.args.show state c.args.layout.now.parts.vertices in
    front_cut _ _ (first ++ zero_line) shown (first ++ (zero_line ++ shown)) (append_assoc first zero_line shown) c.write_opening.ensures.bytes.front

pub returns-in-Err-clause-shown : goal.returns-in-Err-clause-shown
returns-in-Err-clause-shown g c =
    let p = g.G.VertexProgram.model c.args.program.now in
    let first = head_line (g.G.VertexProgram.name_text c.args.program.now) c.args.info in
    let state : ℕ → _ = λ v. p.init 0 no_info in
    let shown = shown_lines p c.args.show state c.args.layout.now.parts.vertices in
    record { state = state; front = front_cut _ _ (first ++ zero_line) shown (first ++ (zero_line ++ shown)) (append_assoc first zero_line shown) c.write_opening.ensures.bytes.front }
