use Rattle.lumos_depot.specs.declared.depot.FileKind.TheVariants.{Meta}
use Rattle.grid_format.proofs.WriteLemmas.{marked_half, marked_told}
use Rattle.grid_format.proofs.write.write_meta.Goals as goal

pub returns-in-Ok-mark_meta-clause-value : goal.returns-in-Ok-mark_meta-clause-value
returns-in-Ok-mark_meta-clause-value g c =
    marked_told c.args.info c.args.counts.now (g.D.Depot.holds c.args.depot.now Meta) _ _ _ _ c.in_ok-begin_meta.ensures.value c.in-Ok.ensures.value c.in-Ok-mark_meta.ensures.value

pub returns-in-Err-clause-refused : goal.returns-in-Err-clause-refused
returns-in-Err-clause-refused g c =
    marked_half c.args.info c.args.counts.now _ _ _ c.in-Ok.ensures.value c.in-Err.ensures.refused
