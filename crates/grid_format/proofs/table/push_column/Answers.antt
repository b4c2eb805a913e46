use Rattle.std.proofs.Common.{◌∷◌, ◌++◌, ◌+◌, ◌-◌, ◌*◌, [], ap, sym, ◌∙◌, append_assoc, arith}
use Rattle.grid_format.specs.Heads.{numbers}
use Rattle.grid_format.proofs.NumberLemmas.{numbers_step}
use Rattle.grid_format.proofs.table.push_column.Goals as goal

pub loop-i-preserved : goal.loop-i-preserved
loop-i-preserved c =
    let rest = numbers (8 * (c.loop-i.i + 1)) (c.args.parts - (c.loop-i.i + 1)) c.args.bytes.now in
    let here = c.loop-i.counts.items in
    record {
      items = ap (λ l. l ++ rest) c.in-Ok.ensures.items
          ∙ append_assoc here (c.number_of_eight.result ∷ []) rest
          ∙ ap (λ n. here ++ n ∷ rest) c.number_of_eight.ensures
          ∙ ap (λ l. here ++ l) (sym (numbers_step c.args.parts c.loop-i.i c.args.bytes.now c.loop-i-test.true))
          ∙ c.loop-i.invariant.items;
      len = grind arith;
      room = grind arith;
    }
