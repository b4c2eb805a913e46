use Rattle.std.proofs.Common.{◌++◌, ◌+◌, ℕ, length, take, ap, sym, ◌∙◌, arith}
use Rattle.std.proofs.lemmas.List.{length-drop, take_rest}
use Rattle.edge_text.proofs.Places.{line_places, room_left}
use Rattle.edge_text.proofs.Runs.{run_more}
use Rattle.edge_text.proofs.plain.plain_lines.Goals as goal

pub loop-run-preserved : goal.loop-run-preserved
loop-run-preserved c =
    let was = c.loop-run.invariant in
    let plain = c.in-Some.ensures in
    let inside = plain.inside in
    let left = ap length (take_rest c.args.text.now c.loop-run.run.used) ∙ length-drop c.loop-run.run.used c.args.text.now in
    record {
      used = omega arith;
      made = omega arith;
      lines = omega arith;
      edges = omega arith;
      ahead = omega arith;
      idle = λ same. absurd (omega arith);
      reads = λ seen edges bytes room read.
          let before = c.loop-run.invariant.reads seen edges bytes room read in
          run_more c.args.limits.now seen c.args.text.now _ edges c.loop-run.edges_out c.put_edges.new.edges_out bytes c.loop-run.run c.in-Some.plain.len c.put_edges.result c.count_of.result c.in-Some.plain.edge
          c.greatest_with.result (take_rest c.args.text.now c.loop-run.run.used) was.used plain room c.if-run-limits.true c.count_of.ensures.count c.count_of.ensures.few
          (c.greatest_with.ensures c.args.limits.now.both (edges ++ take c.loop-run.run.made c.loop-run.edges_out) before.greatest) c.put_edges.ensures.edges before;
      free = λ seen edges bytes room read places.
          let before = c.loop-run.invariant.reads seen edges bytes room read in
          line_places c.args.limits.now seen c.args.text.now _ c.loop-run.run.used c.in-Some.plain.len (length edges + length c.args.edges_out.now) (edges ++ take c.loop-run.run.made c.loop-run.edges_out)
          (take_rest c.args.text.now c.loop-run.run.used) plain.open_before before.made
          (room_left edges c.loop-run.edges_out c.loop-run.run.made _ (omega arith) (ap (λ (n : ℕ). length edges + n) (sym c.loop-run.auto.edges_out)))
          (c.loop-run.invariant.free seen edges bytes room read places);
    }
