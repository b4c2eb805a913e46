use Rattle.std.proofs.Common.{◌+◌, map, set, take, sym, ap, ◌∙◌, arith}
use Rattle.std.proofs.lemmas.List.{take_all}
use Rattle.grid_build.specs.Passes.{capped}
use Rattle.grid_build.proofs.ReadLemmas.{capped_more, rest_more}
use Rattle.grid_build.proofs.reads.cap_ends.Goals as goal

pub loop-i-preserved : goal.loop-i-preserved
loop-i-preserved c = record {
  front =
      ap (λ e. take (c.loop-i.i + 1) (set c.loop-i.edges c.loop-i.i e)) c.capped.ensures
      ∙ capped_more c.args.vertices c.loop-i.edges c.args.edges.now c.loop-i.i _ (omega (arith, c.loop-i.auto.edges)) c.loop-i.auto.edges c.loop-i.invariant.front c.loop-i.invariant.rest;
  rest = rest_more c.loop-i.edges c.args.edges.now c.loop-i.i c.capped.result c.loop-i.invariant.rest;
}

pub returns : goal.returns
returns c =
    sym (take_all c.loop-i.i c.loop-i.edges (omega (arith, c.loop-i.auto.edges)))
    ∙ c.loop-i.invariant.front
    ∙ ap (map (capped c.args.vertices)) (take_all c.loop-i.i c.args.edges.now (omega (arith, c.loop-i.auto.edges)))
