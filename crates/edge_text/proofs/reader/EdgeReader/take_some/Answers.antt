use Rattle.std.proofs.Common.{◌≡◌, ◌+◌, ℕ, List, ◌++◌, length, take, Err, ap, ◌∙◌, subst, append-nil, arith}
use Rattle.std.specs.Prelude.{MatchResult}
use Rattle.edge_text.specs.Places.{HasPlaces, IsDecided}
use Rattle.edge_text.specs.Reader.{HasRead}
use Rattle.edge_text.specs.Reading.{reading}
use Rattle.edge_text.specs.declared.fault.TextLimits.{TextLimits}
use Rattle.edge_text.proofs.Steps.{text_along}
use Rattle.edge_text.proofs.reader.EdgeReader.take_some.Goals as goal

pub returns-clause-reads : goal.returns-clause-reads
returns-clause-reads c = λ seen edges read.
    let none : c.take_plain-fed.result.used ≡ 0 = omega arith in
    let before = text_along _ seen _ _ (ap (λ n. seen ++ take n c.args.text.now) none ∙ append-nil seen) (c.take_plain-fed.ensures.reads seen edges read) in
    subst (λ l. MatchResult c.take_line.result (λ fed. HasRead (seen ++ take fed.used c.args.text.now) (edges ++ take fed.made c.take_line.new.edges_out) c.take_line.new.self)
    (λ fault. (more : List ℕ) → reading l (seen ++ (c.args.text.now ++ more)) ≡ Err fault))
    c.take_plain-fed.ensures.limits (c.take_line.ensures.reads seen edges before)

pub returns-clause-free : goal.returns-clause-free
returns-clause-free c = λ seen edges read.
    let none : c.take_plain-fed.result.used ≡ 0 = omega arith in
    let before = text_along _ seen _ _ (ap (λ n. seen ++ take n c.args.text.now) none ∙ append-nil seen) (c.take_plain-fed.ensures.reads seen edges read) in
    let P : TextLimits → ℕ → Type 0 = λ l n. MatchResult c.take_line.result (λ fed. HasPlaces l seen c.args.text.now fed.used (length edges + n)) (IsDecided l seen c.args.text.now (length edges + n)) in
    subst (λ l. P l (length c.args.edges_out.now)) c.take_plain-fed.ensures.limits
    (subst (P c.take_plain-fed.new.self.limits) c.take_plain-fed.auto.edges_out (c.take_line.ensures.free seen edges before))
