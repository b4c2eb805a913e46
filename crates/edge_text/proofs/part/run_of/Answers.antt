use Rattle.std.proofs.Common.{◌++◌, take, get_or, refl, arith}
use Rattle.edge_text.proofs.LineParts.{run_longer, run_unended}
use Rattle.edge_text.proofs.part.run_of.Goals as goal

pub loop-used-preserved : goal.loop-used-preserved
loop-used-preserved c = record {
  used = omega arith;
  open_before = run_unended c.args.text.now c.loop-used.used (get_or c.args.text.now c.loop-used.used 0) c.loop-used-test.true refl c.if-text-used-ne10.true c.loop-used.invariant.open_before;
  reads = λ bytes is.
      run_longer c.args.limits.now c.line_with-line.result bytes c.args.text.now c.loop-used.used (get_or c.args.text.now c.loop-used.used 0) c.loop-used-test.true refl
      (c.line_with-line.ensures (bytes ++ take c.loop-used.used c.args.text.now) (c.loop-used.invariant.reads bytes is));
}
