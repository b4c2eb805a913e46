use Rattle.std.proofs.Common.{◌≡◌, ◌+◌, ◌++◌, length, Ok, Err, sym, ap, ◌∙◌, subst, arith}
use Rattle.std.proofs.lemmas.List.{length-append}
use Rattle.edge_text.specs.Lines.{rest_of}
use Rattle.edge_text.specs.Reader.{HasRead}
use Rattle.edge_text.specs.Reading.{edges_of, greatest_end, line_of, listed, reading}
use Rattle.edge_text.specs.contracts.reader.EdgeReader.{the_view}
use Rattle.edge_text.proofs.Steps.{LineGives, faulty_end, good_end}
use Rattle.edge_text.proofs.reader.EdgeReader.finish.Goals as goal

pub returns-in-Ok-clause-reads : goal.returns-in-Ok-clause-reads
returns-in-Ok-clause-reads c = λ seen edges read.
    let r = subst (HasRead seen edges) (sym c.self.view_is) read in
    let line : LineGives (the_view c.self.inside) (rest_of seen) (Ok (edges_of c.self.inside.limits.both c.in-Ok.edge)) =
    ap (line_of c.self.inside.limits c.self.inside.lines c.self.inside.edges) (sym (c.line_end-what.ensures (rest_of seen) r.line)) ∙ c.in-Ok.ensures.value in
    let had = r.count in
    let counted = c.count_of.ensures.count in
    let long = length-append edges (edges_of c.self.inside.limits.both c.in-Ok.edge) in
    let count : c.self.inside.edges + c.count_of.result ≡ length (edges ++ edges_of c.self.inside.limits.both c.in-Ok.edge) = omega arith in
    let end = good_end seen edges (edges_of c.self.inside.limits.both c.in-Ok.edge) (the_view c.self.inside) r (omega arith) line in
    let whole : reading c.args.self.limits seen ≡ Ok (listed c.args.self.limits (edges ++ edges_of c.self.inside.limits.both c.in-Ok.edge)) =
    subst (λ v. reading v.limits seen ≡ Ok (listed v.limits (edges ++ edges_of c.self.inside.limits.both c.in-Ok.edge))) c.self.view_is end in
    subst (λ es. (reading c.args.self.limits seen ≡ Ok (listed c.args.self.limits (edges ++ es))) × (c.self.inside.edges + c.count_of.result ≡ length (edges ++ es)) × (c.greatest_with.result ≡ greatest_end (edges ++ es)))
    (sym c.put_edges.ensures.edges) (whole, count, c.greatest_with.ensures c.self.inside.limits.both edges r.greatest)

pub returns-in-Err-clause-reads : goal.returns-in-Err-clause-reads
returns-in-Err-clause-reads c = λ seen edges read.
    let r = subst (HasRead seen edges) (sym c.self.view_is) read in
    let line : LineGives (the_view c.self.inside) (rest_of seen) (Err c.in-Err.fault) =
    ap (line_of c.self.inside.limits c.self.inside.lines c.self.inside.edges) (sym (c.line_end-what.ensures (rest_of seen) r.line)) ∙ c.in-Err.ensures.value in
    subst (λ v. reading v.limits seen ≡ Err c.in-Err.fault) c.self.view_is (faulty_end seen edges (the_view c.self.inside) c.in-Err.fault r (omega arith) line)
