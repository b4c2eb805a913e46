use Rattle.std.proofs.Common.{◌*◌, ◌+◌, ◌++◌, take, ap, ◌∙◌, arith}
use Rattle.std.proofs.lemmas.Slice.{take-put_mid}
use Rattle.std.proofs.lemmas.Grind.{common_steps}
use Rattle.grid_build.proofs.InfoBytes.{info_more}
use Rattle.grid_build.proofs.tallies.put_infos.Goals as goal

pub loop-i-preserved : goal.loop-i-preserved
loop-i-preserved c =
    let wrote = c.put.ensures in
    record {
      room = grind (arith, common_steps);
      made =
          take-put_mid (12 * c.loop-i.i) _ c.loop-i.bytes c.put.new.out (12 * (c.loop-i.i + 1)) (omega (arith, c.put.auto.out)) (omega arith)
          ∙ ap (λ b. take (12 * c.loop-i.i) c.loop-i.bytes ++ b) wrote
          ∙ info_more c.args.infos.now c.loop-i.i _ (take (12 * c.loop-i.i) c.loop-i.bytes) c.loop-i-test.true c.loop-i.invariant.made;
    }
