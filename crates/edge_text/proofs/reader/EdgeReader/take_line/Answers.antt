use Rattle.std.proofs.Common.{◌≡◌, ◌+◌, ◌≤◌, ◌++◌, length, take, get_or, refl, sym, ap, ◌∙◌, subst, arith}
use Rattle.std.proofs.lemmas.List.{length-take-le}
use Rattle.edge_text.specs.Lines.{rest_of}
use Rattle.edge_text.specs.Reader.{HasRead}
use Rattle.edge_text.specs.Reading.{line_edge}
use Rattle.edge_text.specs.contracts.reader.EdgeReader.{the_view}
use Rattle.edge_text.proofs.Places.{fewer_places, first_places, line_decided, room_left}
use Rattle.edge_text.proofs.Steps.{line_done, open_read, other_way}
use Rattle.edge_text.proofs.reader.EdgeReader.take_line.Goals as goal

pub returns-then-run-text-clause-reads : goal.returns-then-run-text-clause-reads
returns-then-run-text-clause-reads c = λ seen edges read.
    let r = subst (HasRead seen (edges ++ take c.args.made c.args.edges_out.now)) (sym c.self.view_is) read in
    let run = c.run_of-run.ensures in
    let within = run.within in
    let room = subst (λ v. v.bytes + length c.args.text.now ≤ v.limits.max_bytes) (sym c.self.view_is) c.requires.room in
    open_read seen (take c.run_of-run.result.used c.args.text.now) (edges ++ take c.args.made c.args.edges_out.now) (the_view c.self.inside) c.run_of-run.result.used c.run_of-run.result.line r run.open_before
    (sym (length-take-le c.run_of-run.result.used c.args.text.now run.within)) (omega arith) (run.reads (rest_of seen) r.line)

pub returns-clause-reads : goal.returns-clause-reads
returns-clause-reads c = λ seen edges read.
    let r = subst (HasRead seen (edges ++ take c.args.made c.args.edges_out.now)) (sym c.self.view_is) read in
    let run = c.run_of-run.ensures in
    let within = run.within in
    let ends = other_way c.run_of-run.result.used (length c.args.text.now) (get_or c.args.text.now c.run_of-run.result.used 0 ≡ 10) run.stops c.if-run-text.false in
    let size : c.run_of-run.result.used + 1 ≡ length (take c.run_of-run.result.used c.args.text.now) + 1 = let long = length-take-le c.run_of-run.result.used c.args.text.now run.within in omega arith in
    let what = c.line_end-what.ensures (rest_of seen ++ take c.run_of-run.result.used c.args.text.now) (run.reads (rest_of seen) r.line) in
    line_done seen c.args.text.now edges c.end_line.new.edges_out c.run_of-run.result.used c.args.self.now.limits c.end_line.new.self c.end_line.result (omega arith) ends c.end_line.ensures.within
    (c.end_line.ensures.reads seen (take c.run_of-run.result.used c.args.text.now) edges read size run.open_before
    (what ∙ ap (λ v. line_edge v.limits (rest_of seen ++ take c.run_of-run.result.used c.args.text.now)) c.self.view_is))

pub returns-then-run-text-clause-free : goal.returns-then-run-text-clause-free
returns-then-run-text-clause-free c = λ seen edges read.
    let run = c.run_of-run.ensures in
    let places = length edges + length c.args.edges_out.now in
    fewer_places c.args.self.now.limits seen c.args.text.now (c.run_of-run.result.used + 1) c.run_of-run.result.used places (omega arith)
    (first_places c.args.self.now.limits seen c.args.text.now c.run_of-run.result.used places (edges ++ take c.args.made c.args.edges_out.now) run.open_before read.made (room_left edges c.args.edges_out.now c.args.made places c.requires.places refl))

pub returns-clause-free : goal.returns-clause-free
returns-clause-free c = λ seen edges read.
    let r = subst (HasRead seen (edges ++ take c.args.made c.args.edges_out.now)) (sym c.self.view_is) read in
    let run = c.run_of-run.ensures in
    let within = run.within in
    let places = length edges + length c.args.edges_out.now in
    let ends = other_way c.run_of-run.result.used (length c.args.text.now) (get_or c.args.text.now c.run_of-run.result.used 0 ≡ 10) run.stops c.if-run-text.false in
    let size : c.run_of-run.result.used + 1 ≡ length (take c.run_of-run.result.used c.args.text.now) + 1 = let long = length-take-le c.run_of-run.result.used c.args.text.now run.within in omega arith in
    let what = c.line_end-what.ensures (rest_of seen ++ take c.run_of-run.result.used c.args.text.now) (run.reads (rest_of seen) r.line) in
    line_decided _ _ c.args.self.now.limits seen c.args.text.now c.run_of-run.result.used places c.end_line.result (omega arith) ends
    (first_places c.args.self.now.limits seen c.args.text.now c.run_of-run.result.used places (edges ++ take c.args.made c.args.edges_out.now) run.open_before read.made (room_left edges c.args.edges_out.now c.args.made places c.requires.places refl))
    c.end_line.ensures.within
    (c.end_line.ensures.reads seen (take c.run_of-run.result.used c.args.text.now) edges read size run.open_before
    (what ∙ ap (λ v. line_edge v.limits (rest_of seen ++ take c.run_of-run.result.used c.args.text.now)) c.self.view_is))
