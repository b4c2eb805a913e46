use Rattle.std.proofs.Common.{◌≡◌, ◌++◌, length, take, sym, subst, arith}
use Rattle.std.proofs.lemmas.List.{length-take-le, take_all}
use Rattle.edge_text.specs.Reader.{HasRead}
use Rattle.edge_text.proofs.Few.{places_taken, whole_fed}
use Rattle.edge_text.proofs.pieces.feed_whole.Goals as goal

pub returns-in-Ok-clause-reads : goal.returns-in-Ok-clause-reads
returns-in-Ok-clause-reads c = λ seen read.
    let fed = c.in-Ok.ensures in
    let after = c.in-Ok.ensures.reads seen (take c.args.made c.args.edges_out.now) read in
    let made = c.requires.made in
    let places = c.requires.places in
    let count : length (take c.args.made c.args.edges_out.now) ≡ c.args.made = length-take-le c.args.made c.args.edges_out.now (omega arith) in
    let all : c.in-Ok.fed.used ≡ length c.args.piece.now =
    whole_fed seen c.args.piece.now (take c.args.made c.args.edges_out.now) c.feed.new.edges_out c.in-Ok.fed.used c.args.made c.in-Ok.fed.made (length c.args.edges_out.now) c.args.reader.now c.feed.new.self
    read after count fed.within.0 fed.within.1 (omega arith) places fed.stops in
    subst (λ es. HasRead (seen ++ c.args.piece.now) es c.feed.new.self) (sym (places_taken _ c.feed.new.edges_out _ c.args.made c.in-Ok.fed.made count fed.within.1))
    (subst (λ t. HasRead (seen ++ t) (take c.args.made c.args.edges_out.now ++ take c.in-Ok.fed.made c.feed.new.edges_out) c.feed.new.self) (take_all c.in-Ok.fed.used c.args.piece.now (omega arith)) after)
