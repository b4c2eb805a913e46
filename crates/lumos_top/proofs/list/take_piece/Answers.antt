use Rattle.std.proofs.Common.{◌≡◌, ◌+◌, ◌++◌, take, sym, ap, ◌∙◌, subst, arith}
use Rattle.std.proofs.lemmas.List.{append_assoc, take_rest}
use Rattle.std.proofs.lemmas.Grind.{common_steps}
use Rattle.edge_text.specs.Reader.{HasRead}
use Rattle.edge_text.specs.Reading.{reading}
use Rattle.edge_text.proofs.Steps.{part_left, part_read}
use Rattle.lumos_top.proofs.list.take_piece.Goals as goal

pub loop-used-preserved : goal.loop-used-preserved
loop-used-preserved c =
    let now : c.extend_from_slice.new.self.items ≡ c.loop-used.edges.items ++ take c.in-Ok.fed.made c.feed.new.edges_out = grind (arith, common_steps) in
    record {
      used = grind (arith, common_steps);
      places = omega arith;
      limits = c.in-Ok.ensures.limits ∙ c.loop-used.invariant.limits;
      bytes = let count = c.in-Ok.ensures.counts in omega arith;
      reads = λ seen read.
          subst (λ es. HasRead (seen ++ take (c.loop-used.used + c.in-Ok.fed.used) c.args.piece.now) es c.feed.new.self) (sym now)
          (part_read seen c.args.piece.now _ _ c.loop-used.used c.in-Ok.fed.used c.feed.new.self (take_rest c.args.piece.now c.loop-used.used) (c.in-Ok.ensures.reads _ _ (c.loop-used.invariant.reads seen read)));
    }

pub returns-in-Err-clause-reads : goal.returns-in-Err-clause-reads
returns-in-Err-clause-reads c = λ seen read more.
    ap (λ l. reading l (seen ++ c.args.piece.now ++ more)) c.in-Err.ensures.limits
    ∙ ap (reading c.loop-used.reader.limits) (sym (append_assoc _ _ more ∙ part_left seen c.args.piece.now _ more c.loop-used.used (take_rest c.args.piece.now c.loop-used.used)))
    ∙ c.in-Err.ensures.reads _ _ (c.loop-used.invariant.reads seen read) more
