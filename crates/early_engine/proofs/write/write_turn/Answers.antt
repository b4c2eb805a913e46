use Rattle.std.proofs.Common.{◌++◌, ℕ, refl, sym, ap, subst, append_assoc}
use Rattle.lumos_base.specs.Leaving.{no_info}
use Rattle.lumos_depot.specs.Streams.{Writes}
use Rattle.lumos_depot.proofs.Written.{front_behind, front_longer}
use Rattle.lumos_report.specs.Report.{counts_line}
use Rattle.early_engine.specs.Report.{shown_lines, turn_line, turn_of}
use Rattle.early_engine.proofs.ShownLemmas.{front_cut, told_then, whole_of}
use Rattle.early_engine.proofs.write.write_turn.Goals as goal

pub returns-in-Err-clause-told : goal.returns-in-Err-clause-told
returns-in-Err-clause-told g c state keeps =
    let line = counts_line c.args.t c.args.kind c.args.counts.now in
    let shown = shown_lines (g.G.VertexProgram.model c.args.program.now) c.args.options.show state c.args.layout.now.parts.vertices in
    let last = turn_line (turn_of c.args.t c.args.options.iterations c.args.counts.now.moved) in
    front_cut _ _ line (shown ++ last) ((line ++ shown) ++ last) (sym (append_assoc line shown last)) c.write_counts.ensures.bytes.front

pub returns-in-Err-clause-shown : goal.returns-in-Err-clause-shown
returns-in-Err-clause-shown g c =
    let p = g.G.VertexProgram.model c.args.program.now in
    let state : ℕ → _ = λ v. p.init 0 no_info in
    let line = counts_line c.args.t c.args.kind c.args.counts.now in
    let shown = shown_lines p c.args.options.show state c.args.layout.now.parts.vertices in
    let last = turn_line (turn_of c.args.t c.args.options.iterations c.args.counts.now.moved) in
    record { state = state; front = front_cut _ _ line (shown ++ last) ((line ++ shown) ++ last) (sym (append_assoc line shown last)) c.write_counts.ensures.bytes.front }

pub returns-in-Err-write_shown-clause-told : goal.returns-in-Err-write_shown-clause-told
returns-in-Err-write_shown-clause-told g c state keeps =
    let line = counts_line c.args.t c.args.kind c.args.counts.now in
    let shown = shown_lines (g.G.VertexProgram.model c.args.program.now) c.args.options.show state c.args.layout.now.parts.vertices in
    let last = turn_line (turn_of c.args.t c.args.options.iterations c.args.counts.now.moved) in
    front_longer _ _ (line ++ shown) last (front_behind _ _ _ line shown (whole_of _ _ c.write_counts.result _ (rw c.in-Ok.is refl) c.write_counts.ensures.bytes) (c.in-Err-write_shown.ensures.told state keeps))

pub returns-in-Err-write_shown-clause-shown : goal.returns-in-Err-write_shown-clause-shown
returns-in-Err-write_shown-clause-shown g c =
    let wrote = c.in-Err-write_shown.ensures.shown in
    let line = counts_line c.args.t c.args.kind c.args.counts.now in
    let shown = shown_lines (g.G.VertexProgram.model c.args.program.now) c.args.options.show wrote.state c.args.layout.now.parts.vertices in
    let last = turn_line (turn_of c.args.t c.args.options.iterations c.args.counts.now.moved) in
    record {
      state = wrote.state;
      front = front_longer _ _ (line ++ shown) last (front_behind _ _ _ line shown (whole_of _ _ c.write_counts.result _ (rw c.in-Ok.is refl) c.write_counts.ensures.bytes) wrote.front);
    }

pub returns-in-Ok-write_close-clause-told : goal.returns-in-Ok-write_close-clause-told
returns-in-Ok-write_close-clause-told g c state keeps =
    let line = counts_line c.args.t c.args.kind c.args.counts.now in
    let shown = shown_lines (g.G.VertexProgram.model c.args.program.now) c.args.options.show state c.args.layout.now.parts.vertices in
    let last = subst (Writes _ _ c.write_close.result) (ap turn_line c.turn_of-turn.ensures) c.write_close.ensures.bytes in
    told_then _ _ _ (line ++ shown) (turn_line (turn_of c.args.t c.args.options.iterations c.args.counts.now.moved))
    (told_then _ _ _ line shown (whole_of _ _ c.write_counts.result _ (rw c.in-Ok.is refl) c.write_counts.ensures.bytes) (c.in-Ok-write_shown.ensures.told state keeps))
    (whole_of _ _ c.write_close.result _ (rw c.in-Ok-write_close.is refl) last)

pub returns-in-Ok-write_close-clause-shown : goal.returns-in-Ok-write_close-clause-shown
returns-in-Ok-write_close-clause-shown g c =
    let wrote = c.in-Ok-write_shown.ensures.shown in
    let line = counts_line c.args.t c.args.kind c.args.counts.now in
    let shown = shown_lines (g.G.VertexProgram.model c.args.program.now) c.args.options.show wrote.state c.args.layout.now.parts.vertices in
    let last = subst (Writes _ _ c.write_close.result) (ap turn_line c.turn_of-turn.ensures) c.write_close.ensures.bytes in
    record {
      state = wrote.state;
      agrees = wrote.agrees;
      written = told_then _ _ _ (line ++ shown) (turn_line (turn_of c.args.t c.args.options.iterations c.args.counts.now.moved))
          (told_then _ _ _ line shown (whole_of _ _ c.write_counts.result _ (rw c.in-Ok.is refl) c.write_counts.ensures.bytes) wrote.written)
          (whole_of _ _ c.write_close.result _ (rw c.in-Ok-write_close.is refl) last);
    }

pub returns-in-Err-write_close-clause-told : goal.returns-in-Err-write_close-clause-told
returns-in-Err-write_close-clause-told g c state keeps =
    let line = counts_line c.args.t c.args.kind c.args.counts.now in
    let shown = shown_lines (g.G.VertexProgram.model c.args.program.now) c.args.options.show state c.args.layout.now.parts.vertices in
    let last = subst (Writes _ _ c.write_close.result) (ap turn_line c.turn_of-turn.ensures) c.write_close.ensures.bytes in
    front_behind _ _ _ (line ++ shown) (turn_line (turn_of c.args.t c.args.options.iterations c.args.counts.now.moved))
    (told_then _ _ _ line shown (whole_of _ _ c.write_counts.result _ (rw c.in-Ok.is refl) c.write_counts.ensures.bytes) (c.in-Ok-write_shown.ensures.told state keeps)) last.front

pub returns-in-Err-write_close-clause-shown : goal.returns-in-Err-write_close-clause-shown
returns-in-Err-write_close-clause-shown g c =
    let wrote = c.in-Ok-write_shown.ensures.shown in
    let line = counts_line c.args.t c.args.kind c.args.counts.now in
    let shown = shown_lines (g.G.VertexProgram.model c.args.program.now) c.args.options.show wrote.state c.args.layout.now.parts.vertices in
    let last = subst (Writes _ _ c.write_close.result) (ap turn_line c.turn_of-turn.ensures) c.write_close.ensures.bytes in
    record {
      state = wrote.state;
      front = front_behind _ _ _ (line ++ shown) (turn_line (turn_of c.args.t c.args.options.iterations c.args.counts.now.moved))
          (told_then _ _ _ line shown (whole_of _ _ c.write_counts.result _ (rw c.in-Ok.is refl) c.write_counts.ensures.bytes) wrote.written) last.front;
    }
