use Rattle.std.proofs.Common.{◌∙◌, arith}
use Rattle.grid_format.proofs.NumberLemmas.{added_step}
use Rattle.grid_format.proofs.counts.add_column.Goals as goal

pub loop-i-preserved : goal.loop-i-preserved
loop-i-preserved c = record {
  rest = c.loop-i.invariant.rest
      ∙ added_step c.args.edges c.args.place c.loop-i.total c.args.parts c.loop-i.i c.number_of_eight-count.result c.args.bytes.now c.loop-i-test.true c.number_of_eight-count.ensures (omega arith);
  fits = omega arith;
}
