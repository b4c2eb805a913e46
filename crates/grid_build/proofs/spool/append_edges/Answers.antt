use Rattle.std.proofs.Common.{◌∙◌}
use Rattle.lumos_depot.specs.declared.depot.FileKind.{FileKind}
use Rattle.grid_build.proofs.Growing.{raised_most}
use Rattle.grid_build.proofs.spool.append_edges.Goals as goal

pub returns-in-Ok-clause-refused : goal.returns-in-Ok-clause-refused
returns-in-Ok-clause-refused g c =
    raised_most c.write_at.result _ _ _ _ _ (c.in-Ok.ensures.stored FileKind.Spool) (c.put_edges.auto.bytes ∙ c.requires.room) c.write_at.ensures.counted
