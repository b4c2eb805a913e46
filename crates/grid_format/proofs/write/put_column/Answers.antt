use Rattle.std.proofs.Common.{◌*◌, ap, ◌∙◌}
use Rattle.lumos_depot.specs.Files.{overwritten}
use Rattle.grid_format.proofs.WriteLemmas.{put_next}
use Rattle.grid_format.proofs.write.put_column.Goals as goal

pub loop-i-preserved : goal.loop-i-preserved
loop-i-preserved c =
    c.put.ensures ∙ ap (λ part. overwritten (8 * c.loop-i.i) part c.loop-i.column) c.eight_bytes.ensures
    ∙ put_next c.loop-i.i c.args.counts.now c.args.column.now c.loop-i.column c.loop-i-test.true c.loop-i.invariant
