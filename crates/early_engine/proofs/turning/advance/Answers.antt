use Rattle.std.proofs.Common.{List, Bool, sym, ap, subst}
use Rattle.active_sets.specs.Active.{ActiveState}
use Rattle.windows.specs.Kept.{load_bytes}
use Rattle.windows.specs.Windows.{Coding}
use Rattle.early_engine.specs.Gone.{AreOf}
use Rattle.early_engine.specs.Making.{IsMade}
use Rattle.early_engine.specs.Passes.{feeds_ahead}
use Rattle.early_engine.proofs.turning.advance.Goals as goal

pub returns-in-Ok-clause-made : goal.returns-in-Ok-clause-made
returns-in-Ok-clause-made g c edges u grid at kept =
    let coding : Coding _ _ = record { value_of = g.G.Value.Fixed.value_of; value_width = g.G.Value.Fixed.WIDTH; sum_of = g.G.Sum.Fixed.value_of; sum_width = g.G.Sum.Fixed.WIDTH } in
    subst (λ (s : ActiveState). IsMade (g.G.VertexProgram.model c.args.program.now) coding edges c.args.layout.now.parts c.args.options.mode c.args.options.iterations u c.iterate.new.room.windows (g.D.Depot.holds c.iterate.new.depot) s.was_hot c.in-Ok.counts)
    (sym c.turn.ensures) (c.in-Ok.ensures.made edges u grid at kept)

pub returns-in-Ok-clause-gone : goal.returns-in-Ok-clause-gone
returns-in-Ok-clause-gone g c size need loads are =
    let coding : Coding _ _ = record { value_of = g.G.Value.Fixed.value_of; value_width = g.G.Value.Fixed.WIDTH; sum_of = g.G.Sum.Fixed.value_of; sum_width = g.G.Sum.Fixed.WIDTH } in
    let flags = ap (λ (s : ActiveState). s.was_hot) c.turn.ensures in
    c.in-Ok.ensures.gone size need loads (λ i j row column. subst (λ (f : List Bool). AreOf c.args.layout.now.table (load_bytes coding c.args.room.now.windows) c.args.room.now.active.was_hot f (feeds_ahead c.args.options.mode c.args.options.iterations c.args.t) size need loads i j)
    flags (are i j row column))
