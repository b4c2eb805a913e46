use Rattle.std.proofs.Common.{Ok, refl, subst, ◌∙◌}
use Rattle.lumos_depot.specs.Streams.{Writes}
use Rattle.grid_build.specs.Built.{HasBuilt}
use Rattle.grid_build.specs.declared.options.PartsChoice.TheVariants.{Stated}
use Rattle.lumos_top.specs.Answers.{built_on}
use Rattle.lumos_top.specs.declared.status.Completed.TheVariants.{Build}
use Rattle.lumos_top.proofs.Causes.{done_causes, unbuilt_causes, unwritten_causes}
use Rattle.lumos_top.proofs.GridEnds.{WasBuilt, build_refuses, built_cut, built_done, kept_by, unbuilt_done, written_whole}
use Rattle.lumos_top.proofs.building.build_grid.Goals as goal

pub returns-in-Err-clause-done : goal.returns-in-Err-clause-done
returns-in-Err-clause-done g c = unbuilt_done (built_on c.args.grid.now) c.args.text (Stated c.few_parts.result) _ c.in-Err.fault _ (build_refuses c.args.grid.now c.few_parts.result) c.build_stop.ensures c.in-Err.ensures.built c.in-Err.ensures.memory refl

pub returns-in-Ok-write_all-clause-done : goal.returns-in-Ok-write_all-clause-done
returns-in-Ok-write_all-clause-done g c =
    let wrote = subst (Writes _ _ c.write_all.result) (c.bytes.ensures.text ∙ c.grid_text.ensures) c.write_all.ensures.bytes in
    let built : WasBuilt _ _ _ _ _ _ _ _ _ = record { built = subst (λ p. HasBuilt c.args.text (Stated p) (g.I.Source.left c.args.input.now) (g.I.Source.left c.build_files.new.input) (g.D.Depot.holds c.args.depot.now) (g.D.Depot.holds c.build_files.new.depot) (Ok c.in-Ok.info)) c.few_parts.ensures c.in-Ok.ensures.built; all = g.D.Depot.tells_all c.build_files.new.depot; copied = c.in-Ok.ensures.copied; unread = c.build_files.ensures.unread } in
    built_done c.args.text c.args.grid.now _ c.in-Ok.info built (kept_by g.D.Depot.holds g.D.Depot.taken g.D.Depot.stored _ _ c.build_files.ensures.leaves) (written_whole _ _ c.write_all.result _ (rw c.in-Ok-write_all.is refl) wrote)

pub returns-in-Err-write_all-clause-done : goal.returns-in-Err-write_all-clause-done
returns-in-Err-write_all-clause-done g c =
    let wrote = subst (Writes _ _ c.write_all.result) (c.bytes.ensures.text ∙ c.grid_text.ensures) c.write_all.ensures.bytes in
    let built : WasBuilt _ _ _ _ _ _ _ _ _ = record { built = subst (λ p. HasBuilt c.args.text (Stated p) (g.I.Source.left c.args.input.now) (g.I.Source.left c.build_files.new.input) (g.D.Depot.holds c.args.depot.now) (g.D.Depot.holds c.build_files.new.depot) (Ok c.in-Ok.info)) c.few_parts.ensures c.in-Ok.ensures.built; all = g.D.Depot.tells_all c.build_files.new.depot; copied = c.in-Ok.ensures.copied; unread = c.build_files.ensures.unread } in
    built_cut c.args.text c.args.grid.now _ c.in-Ok.info built wrote.front

pub returns-in-Err-clause-causes : goal.returns-in-Err-clause-causes
returns-in-Err-clause-causes g c = unbuilt_causes g.I.Source.faults g.D.Depot.faults g.O.Sink.faults _ _ _ _ _ c.in-Err.fault _ c.build_stop.ensures c.build_files.ensures.input_later c.build_files.ensures.depot_later c.in-Err.ensures.read c.in-Err.ensures.depot

pub returns-in-Ok-write_all-clause-causes : goal.returns-in-Ok-write_all-clause-causes
returns-in-Ok-write_all-clause-causes g c = done_causes g.I.Source.faults g.D.Depot.faults g.O.Sink.faults _ _ _ _ _ _ Build c.build_files.ensures.input_later c.build_files.ensures.depot_later c.write_all.ensures.cause.later

pub returns-in-Err-write_all-clause-causes : goal.returns-in-Err-write_all-clause-causes
returns-in-Err-write_all-clause-causes g c = unwritten_causes g.I.Source.faults g.D.Depot.faults g.O.Sink.faults _ _ _ _ _ _ c.build_files.ensures.input_later c.build_files.ensures.depot_later c.write_all.ensures.cause.later c.in-Err-write_all.ensures.cause.failed
