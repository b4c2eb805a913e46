use Rattle.std.proofs.Common.{sym, ap, ◌∙◌, subst}
use Rattle.lumos_base.specs.Leaving.{no_info}
use Rattle.lumos_depot.specs.Streams.{after_told}
use Rattle.windows.proofs.StayLemmas.{coding}
use Rattle.early_engine.specs.Report.{shown_lines}
use Rattle.early_engine.specs.Shown.{ShowsKept}
use Rattle.early_engine.specs.declared.options.Show.{Show}
use Rattle.early_engine.proofs.ShownLemmas.{kept_agrees, kept_state, nothing_written}
use Rattle.early_engine.proofs.write.write_shown.Goals as goal

pub returns-in-All-clause-shown : goal.returns-in-All-clause-shown
returns-in-All-clause-shown g c =
    subst (λ (s : Show). ShowsKept (coding g.G.Value.Fixed.value_of g.G.Value.Fixed.WIDTH g.G.Sum.Fixed.value_of g.G.Sum.Fixed.WIDTH) c.write_values.new.windows (g.D.Depot.holds c.write_values.new.depot) c.args.t
    (λ state. shown_lines (g.G.VertexProgram.model c.args.program.now) s state c.args.layout.now.parts.vertices) (g.O.Sink.written c.args.out.now) (g.O.Sink.written c.write_values.new.out) c.write_values.result)
    (sym c.in-All.is) c.write_values.ensures.shown

pub returns-in-Brief-clause-shown : goal.returns-in-Brief-clause-shown
returns-in-Brief-clause-shown g c =
    let p = g.G.VertexProgram.model c.args.program.now in
    let code = coding g.G.Value.Fixed.value_of g.G.Value.Fixed.WIDTH g.G.Sum.Fixed.value_of g.G.Sum.Fixed.WIDTH in
    let state = kept_state code c.args.windows.now (g.D.Depot.holds c.args.depot.now) c.args.t (p.init 0 no_info) in
    record {
      state = state;
      agrees = kept_agrees code c.args.windows.now (g.D.Depot.holds c.args.depot.now) c.args.t (p.init 0 no_info);
      written = nothing_written (g.O.Sink.written c.args.out.now)
          ∙ ap (λ (s : Show). after_told (g.O.Sink.written c.args.out.now) (shown_lines p s state c.args.layout.now.parts.vertices)) (sym c.in-Brief.is);
    }
