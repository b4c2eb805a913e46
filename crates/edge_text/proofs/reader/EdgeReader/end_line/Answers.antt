use Rattle.std.proofs.Common.{◌≡◌, ◌+◌, ◌≤◌, [], ◌∷◌, ◌++◌, take, Ok, Err, sym, ap, ◌∙◌, subst, arith, append_assoc}
use Rattle.edge_text.specs.Lines.{rest_of}
use Rattle.edge_text.specs.Reader.{HasRead}
use Rattle.edge_text.specs.Reading.{edges_of, line_edge, line_of, reading}
use Rattle.edge_text.specs.contracts.reader.EdgeReader.{the_view}
use Rattle.edge_text.proofs.Steps.{LineGives, edges_along, end_read, fault_read}
use Rattle.edge_text.proofs.reader.EdgeReader.end_line.Goals as goal

pub returns-in-Ok-clause-reads : goal.returns-in-Ok-clause-reads
returns-in-Ok-clause-reads c = λ seen bytes edges read size none what.
    let r = subst (HasRead seen (edges ++ take c.args.made c.args.edges_out.now)) (sym c.self.view_is) read in
    let line : LineGives (the_view c.self.inside) (rest_of seen ++ bytes) (Ok (edges_of c.self.inside.limits.both c.in-Ok.edge)) =
    ap (line_of c.self.inside.limits c.self.inside.lines c.self.inside.edges) (ap (λ v. line_edge v.limits (rest_of seen ++ bytes)) c.self.view_is ∙ sym what) ∙ c.in-Ok.ensures.value in
    edges_along (seen ++ (bytes ++ 10 ∷ [])) _ _ _ (append_assoc edges (take c.args.made c.args.edges_out.now) (edges_of c.self.inside.limits.both c.in-Ok.edge) ∙ ap (λ t. edges ++ t) (sym c.put_edges-made.ensures.edges))
    (end_read seen bytes (edges ++ take c.args.made c.args.edges_out.now) (edges_of c.self.inside.limits.both c.in-Ok.edge) (the_view c.self.inside) c.args.used c.count_of.result c.greatest_with-self-inside.result r none size
    (subst (λ v. v.bytes + c.args.used ≤ v.limits.max_bytes) (sym c.self.view_is) c.requires.room) line c.count_of.ensures.count
    (c.greatest_with-self-inside.ensures c.self.inside.limits.both (edges ++ take c.args.made c.args.edges_out.now) r.greatest))

pub returns-in-Err-clause-reads : goal.returns-in-Err-clause-reads
returns-in-Err-clause-reads c = λ seen bytes edges read size none what more.
    let r = subst (HasRead seen (edges ++ take c.args.made c.args.edges_out.now)) (sym c.self.view_is) read in
    let line : LineGives (the_view c.self.inside) (rest_of seen ++ bytes) (Err c.in-Err.fault) =
    ap (line_of c.self.inside.limits c.self.inside.lines c.self.inside.edges) (ap (λ v. line_edge v.limits (rest_of seen ++ bytes)) c.self.view_is ∙ sym what) ∙ c.in-Err.ensures.value in
    let room = subst (λ v. v.bytes + c.args.used ≤ v.limits.max_bytes) (sym c.self.view_is) c.requires.room in
    subst (λ v. reading v.limits (seen ++ (bytes ++ 10 ∷ more)) ≡ Err c.in-Err.fault) c.self.view_is
    (fault_read seen bytes more (edges ++ take c.args.made c.args.edges_out.now) (the_view c.self.inside) c.in-Err.fault r none (omega arith) line)
