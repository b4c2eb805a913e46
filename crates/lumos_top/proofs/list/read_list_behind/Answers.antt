use Rattle.std.proofs.Common.{[], Err, sym, ◌∙◌, subst}
use Rattle.edge_text.specs.Reader.{HasRead}
use Rattle.lumos_top.specs.Listing.{PieceReads}
use Rattle.lumos_top.proofs.Endings.{front_full, front_stop}
use Rattle.lumos_top.proofs.list.read_list_behind.Goals as goal

pub returns-in-Memory-clause-list : goal.returns-in-Memory-clause-list
returns-in-Memory-clause-list g c = front_full _ _ _

pub returns-clause-list : goal.returns-clause-list
returns-clause-list g c =
    let read = subst (λ es. HasRead [] es c.new-reader.result) (sym c.new-edges.ensures.items) c.new-reader.ensures.read in
    let faulty = subst (λ why. PieceReads [] c.args.front.now c.take_piece.new.edges.items c.take_piece.new.reader (Err why)) c.in-Text.is (c.in-Err.ensures.reads [] read) in
    front_stop c.args.limits c.take_piece.new.reader.limits c.args.front.now _ c.in-Text.fault (c.take_piece.ensures.limits ∙ c.new-reader.ensures.limits) faulty
