use Rattle.std.proofs.Common.{get_or, refl, arith}
use Rattle.edge_text.proofs.LineParts.{run_unended}
use Rattle.flight_core.proofs.schedule.line_length.Goals as goal

pub loop-used-preserved : goal.loop-used-preserved
loop-used-preserved c = record {
  used = omega arith;
  unended = run_unended c.args.text.now c.loop-used.used (get_or c.args.text.now c.loop-used.used 0) c.loop-used-test.true refl c.if-text-used-ne10.true c.loop-used.invariant.unended;
}
