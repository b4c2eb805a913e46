use Rattle.std.proofs.Common.{◌≡◌, ◌+◌, ◌-◌, set, inl, inr, sym, ap, subst, arith}
use Rattle.active_sets.specs.Active.{ActiveState}
use Rattle.lumos_law.specs.Sync.{values}
use Rattle.lumos_depot.specs.declared.depot.FileKind.TheVariants.{Primary, Secondary, Values}
use Rattle.partition.specs.Blocks.{column}
use Rattle.partition.specs.Parts.{Cut, chunk_of}
use Rattle.io_account.specs.declared.Counts.{Counts}
use Rattle.windows.specs.Kept.{load_bytes}
use Rattle.windows.specs.Windows.{Coding}
use Rattle.early_engine.specs.Gone.{and_closed}
use Rattle.early_engine.specs.Steps.{IsMadeBelow}
use Rattle.early_engine.proofs.BytesLemmas.{both, gone_as, gone_beside, gone_moved, of_close, values_moved}
use Rattle.early_engine.proofs.GridLemmas.{grid_list}
use Rattle.early_engine.proofs.IterationLemmas.{closed_is}
use Rattle.early_engine.proofs.KeepLemmas.{fits_sized}
use Rattle.early_engine.proofs.MadeLemmas.{made_more, over_in_part}
use Rattle.early_engine.proofs.SumsLemmas.{column_whole, sums_as}
use Rattle.early_engine.proofs.part.close_part.Goals as goal

pub returns-in-Err-clause-made : goal.returns-in-Err-clause-made
returns-in-Err-clause-made g c edges u grid at made sums =
    let p = g.G.VertexProgram.model c.args.program.now in
    let plain : c.args.t ≡ u + 1 = omega (arith, at) in
    c.in-Err.ensures.intact u (values p edges u) plain (made.ready.holds c.args.j c.requires.column)

pub returns-in-Err-clause-fits : goal.returns-in-Err-clause-fits
returns-in-Err-clause-fits g c =
    let coding : Coding _ _ = record { value_of = g.G.Value.Fixed.value_of; value_width = g.G.Value.Fixed.WIDTH; sum_of = g.G.Sum.Fixed.value_of; sum_width = g.G.Sum.Fixed.WIDTH } in
    fits_sized coding c.args.layout.now.parts c.args.layout.now.table c.args.room.now.windows c.close.new.self (g.D.Depot.holds c.args.depot.now) (g.D.Depot.holds c.close.new.depot) c.close.ensures.stays.room
    (c.close.ensures.moves.contents Primary (λ same. let e : Primary ≡ Values = same in cc)) (c.close.ensures.moves.contents Secondary (λ same. let e : Secondary ≡ Values = same in cc)) c.close.ensures.sized c.requires.fits

pub returns-in-Err-clause-stop : goal.returns-in-Err-clause-stop
returns-in-Err-clause-stop g c kind table =
    let parts = ap (λ (k : Cut). k.parts) c.requires.fits.cut_is in
    inr (inl (record { iteration = c.args.t - 1; chunk = c.args.j; chunk_in = omega (arith, parts, c.requires.column); shown = c.in-Err.ensures.broken }))

pub returns-in-Some-clause-made : goal.returns-in-Some-clause-made
returns-in-Some-clause-made g c edges u grid at made sums =
    let p = g.G.VertexProgram.model c.args.program.now in
    let laws = g.met.G.VertexProgram.lawful c.args.program.now in
    let coding : Coding _ _ = record { value_of = g.G.Value.Fixed.value_of; value_width = g.G.Value.Fixed.WIDTH; sum_of = g.G.Sum.Fixed.value_of; sum_width = g.G.Sum.Fixed.WIDTH } in
    let cut = c.args.layout.now.parts in
    let table = c.args.layout.now.table in
    let j = c.args.j in
    let old = c.args.room.now.windows in
    let before = g.D.Depot.holds c.args.depot.now in
    let plain : c.args.t ≡ u + 1 = omega (arith, at) in
    let holds = made.ready.holds j c.requires.column in
    let whole = sums_as p old j (values p edges u) (column edges (chunk_of cut) j cut.parts) edges (column_whole p laws edges cut (grid_list edges cut table before grid) u old j c.requires.fits.cut_is grid.limits.some_parts) sums in
    let ends = c.in-Ok.ensures.end u (values p edges u) edges plain holds whole in
    over_in_part coding p edges cut j u c.args.t old c.close.new.self before (g.D.Depot.holds c.close.new.depot) c.args.room.now.active.was_hot c.args.room.now.active.is_hot c.args.counts.now.moved c.in-Ok.end c.requires.fits.cut_is ends made
    c.in-Some.vertex c.requires.column c.in-Some.is

pub returns-in-Some-clause-fits : goal.returns-in-Some-clause-fits
returns-in-Some-clause-fits g c =
    let coding : Coding _ _ = record { value_of = g.G.Value.Fixed.value_of; value_width = g.G.Value.Fixed.WIDTH; sum_of = g.G.Sum.Fixed.value_of; sum_width = g.G.Sum.Fixed.WIDTH } in
    fits_sized coding c.args.layout.now.parts c.args.layout.now.table c.args.room.now.windows c.close.new.self (g.D.Depot.holds c.args.depot.now) (g.D.Depot.holds c.close.new.depot) c.close.ensures.stays.room
    (c.close.ensures.moves.contents Primary (λ same. let e : Primary ≡ Values = same in cc)) (c.close.ensures.moves.contents Secondary (λ same. let e : Secondary ≡ Values = same in cc)) c.close.ensures.sized c.requires.fits

pub returns-clause-made : goal.returns-clause-made
returns-clause-made g c edges u grid at made sums =
    let p = g.G.VertexProgram.model c.args.program.now in
    let laws = g.met.G.VertexProgram.lawful c.args.program.now in
    let coding : Coding _ _ = record { value_of = g.G.Value.Fixed.value_of; value_width = g.G.Value.Fixed.WIDTH; sum_of = g.G.Sum.Fixed.value_of; sum_width = g.G.Sum.Fixed.WIDTH } in
    let cut = c.args.layout.now.parts in
    let table = c.args.layout.now.table in
    let j = c.args.j in
    let old = c.args.room.now.windows in
    let new = c.close.new.self in
    let before = g.D.Depot.holds c.args.depot.now in
    let after = g.D.Depot.holds c.close.new.depot in
    let were = c.args.room.now.active.was_hot in
    let plain : c.args.t ≡ u + 1 = omega (arith, at) in
    let holds = made.ready.holds j c.requires.column in
    let whole = sums_as p old j (values p edges u) (column edges (chunk_of cut) j cut.parts) edges (column_whole p laws edges cut (grid_list edges cut table before grid) u old j c.requires.fits.cut_is grid.limits.some_parts) sums in
    let ends = c.in-Ok.ensures.end u (values p edges u) edges plain holds whole in
    let keeps = c.in-Ok.ensures.kept u (values p edges u) edges plain holds whole c.in_default.is in
    let next = made_more coding p edges cut j u c.args.t old new before after were c.args.room.now.active.is_hot c.args.counts.now.moved c.in-Ok.end c.requires.fits.cut_is ends made at c.requires.column grid.limits.few_parts c.mark.ensures.room
    c.close.ensures.stays keeps c.in_default.is in
    subst (λ (s : ActiveState). IsMadeBelow coding p edges cut (j + 1) u new after s.was_hot s.is_hot c.add_moved.new.self.moved) (sym c.mark.ensures.set)
    (subst (λ (k : Counts). IsMadeBelow coding p edges cut (j + 1) u new after were (set c.args.room.now.active.is_hot j c.in-Ok.end.hot) k.moved) (sym c.add_moved.ensures) next)

pub returns-clause-gone : goal.returns-clause-gone
returns-clause-gone g c kind size need loads bs beside taken stored gone =
    let coding : Coding _ _ = record { value_of = g.G.Value.Fixed.value_of; value_width = g.G.Value.Fixed.WIDTH; sum_of = g.G.Sum.Fixed.value_of; sum_width = g.G.Sum.Fixed.WIDTH } in
    let load = load_bytes coding c.args.room.now.windows c.args.j in
    let step = values_moved g.D.Depot.holds g.D.Depot.taken g.D.Depot.stored g.D.Depot.faults g.D.Depot.attached kind c.args.depot.now c.close.new.depot load load c.in-Ok.ensures.taken (c.in-Ok.ensures.stored c.in_default.is) c.close.ensures.moves in
    gone_moved kind size need loads bs (and_closed load beside) taken stored _ _ c.in-Ok.end.moved c.args.counts.now c.add_moved.new.self c.add_moved.ensures
    (gone_as kind size need loads bs bs (both beside (of_close load load)) (and_closed load beside) taken stored _ _ c.args.counts.now (λ i. bs) (closed_is beside load)
    (gone_beside kind size need loads bs beside (of_close load load) taken stored _ _ _ _ c.args.counts.now gone step))
