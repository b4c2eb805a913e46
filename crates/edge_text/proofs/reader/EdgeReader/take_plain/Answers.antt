use Rattle.std.proofs.Common.{◌+◌, ◌≤◌, ◌++◌, length, take, sym, subst, append-nil, refl}
use Rattle.edge_text.specs.Places.{HasPlaces}
use Rattle.edge_text.specs.Reader.{HasRead}
use Rattle.edge_text.specs.contracts.reader.EdgeReader.{the_view}
use Rattle.edge_text.proofs.Places.{no_places}
use Rattle.edge_text.proofs.Runs.{run_begins, run_ends}
use Rattle.edge_text.proofs.Steps.{text_along}
use Rattle.edge_text.proofs.reader.EdgeReader.take_plain.Goals as goal

pub returns-clause-reads : goal.returns-clause-reads
returns-clause-reads c = λ seen edges read.
    let r = subst (HasRead seen (edges ++ take c.args.made c.args.edges_out.now)) (sym c.self.view_is) read in
    let fresh = c.if-not-is_fresh.ensures refl in
    let begun = run_begins seen (edges ++ take c.args.made c.args.edges_out.now) (the_view c.self.inside) c.args.made fresh r in
    let room = subst (λ v. v.bytes + length c.args.text.now ≤ v.limits.max_bytes) (sym c.self.view_is) c.requires.room in
    run_ends (seen ++ take c.plain_lines-run.result.used c.args.text.now) (edges ++ take c.plain_lines-run.result.made c.plain_lines-run.new.edges_out) (the_view c.self.inside) c.plain_lines-run.result fresh r.fault
    (c.plain_lines-run.ensures.reads seen edges c.self.inside.bytes room (text_along _ _ _ _ (sym (append-nil seen)) begun))

pub returns-then-not-is_fresh-clause-free : goal.returns-then-not-is_fresh-clause-free
returns-then-not-is_fresh-clause-free c = λ seen edges read. no_places c.args.self.now.limits seen c.args.text.now _

pub returns-clause-free : goal.returns-clause-free
returns-clause-free c = λ seen edges read.
    let r = subst (HasRead seen (edges ++ take c.args.made c.args.edges_out.now)) (sym c.self.view_is) read in
    let begun = run_begins seen (edges ++ take c.args.made c.args.edges_out.now) (the_view c.self.inside) c.args.made (c.if-not-is_fresh.ensures refl) r in
    let room = subst (λ v. v.bytes + length c.args.text.now ≤ v.limits.max_bytes) (sym c.self.view_is) c.requires.room in
    subst (λ v. HasPlaces v.limits seen c.args.text.now c.plain_lines-run.result.used (length edges + length c.args.edges_out.now)) c.self.view_is
    (c.plain_lines-run.ensures.free seen edges c.self.inside.bytes room (text_along _ _ _ _ (sym (append-nil seen)) begun) (no_places c.self.inside.limits seen c.args.text.now _))
