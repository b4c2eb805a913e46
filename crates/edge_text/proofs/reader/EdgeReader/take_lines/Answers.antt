use Rattle.std.proofs.Common.{length, take, sym, ap, ◌∙◌, arith, ◌++◌, ◌+◌, ℕ}
use Rattle.std.proofs.lemmas.List.{length-drop, take_rest}
use Rattle.edge_text.specs.Reading.{reading}
use Rattle.edge_text.proofs.Places.{part_decided, part_places}
use Rattle.edge_text.proofs.Steps.{part_left, part_read}
use Rattle.edge_text.proofs.reader.EdgeReader.take_lines.Goals as goal

pub loop-used-preserved : goal.loop-used-preserved
loop-used-preserved c =
    let now = c.in-Ok.ensures.within in
    let counts = c.in-Ok.ensures.counts in
    let left = ap length (take_rest c.args.text.now c.loop-used.used) ∙ length-drop c.loop-used.used c.args.text.now in
    record {
      used = omega arith;
      room = now.2;
      start = λ none. absurd (omega arith);
      bytes = omega arith;
      limits = c.in-Ok.ensures.limits ∙ c.loop-used.invariant.limits;
      reads = λ seen edges read.
          part_read seen c.args.text.now _ _ c.loop-used.used c.in-Ok.fed.used c.take_some.new.self (take_rest c.args.text.now c.loop-used.used) (c.in-Ok.ensures.reads _ _ (c.loop-used.invariant.reads seen edges read));
      free = λ seen edges read.
          let places = length edges + length c.args.edges_out.now in
          let h = c.in-Ok.ensures.free (seen ++ take c.loop-used.used c.args.text.now) edges (c.loop-used.invariant.reads seen edges read) in
          part_places c.args.self.now.limits c.loop-used.self.limits seen c.args.text.now _ c.loop-used.used c.in-Ok.fed.used places (length edges + length c.loop-used.edges_out) c.loop-used.invariant.limits
          (ap (λ (n : ℕ). length edges + n) c.loop-used.auto.edges_out) (take_rest c.args.text.now c.loop-used.used) (c.loop-used.invariant.free seen edges read) h;
    }

pub returns-in-Err-clause-reads : goal.returns-in-Err-clause-reads
returns-in-Err-clause-reads c = λ seen edges read more.
    ap (λ l. reading l (seen ++ c.args.text.now ++ more)) (sym c.loop-used.invariant.limits)
    ∙ ap (reading c.loop-used.self.limits) (sym (part_left seen c.args.text.now _ more c.loop-used.used (take_rest c.args.text.now c.loop-used.used)))
    ∙ c.in-Err.ensures.reads _ _ (c.loop-used.invariant.reads seen edges read) more

pub returns-in-Err-clause-free : goal.returns-in-Err-clause-free
returns-in-Err-clause-free c = λ seen edges read.
    let left = ap length (take_rest c.args.text.now c.loop-used.used) ∙ length-drop c.loop-used.used c.args.text.now in
    let h = c.in-Err.ensures.free (seen ++ take c.loop-used.used c.args.text.now) edges (c.loop-used.invariant.reads seen edges read) in
    part_decided c.args.self.now.limits c.loop-used.self.limits seen c.args.text.now _ c.loop-used.used (length edges + length c.args.edges_out.now) (length edges + length c.loop-used.edges_out) c.in-Err.fault c.loop-used.invariant.limits
    (ap (λ (n : ℕ). length edges + n) c.loop-used.auto.edges_out) (take_rest c.args.text.now c.loop-used.used) c.loop-used.invariant.used left (c.loop-used.invariant.free seen edges read) h
