use Rattle.std.proofs.Common.{◌≡◌, length, None, Ok, Err, sym, subst, ◌∙◌}
use Rattle.column_stream.specs.Records.{IsDamage, edges_at, first_fault}
use Rattle.column_stream.proofs.EdgeLemmas.{length-edges}
use Rattle.column_stream.proofs.FaultLemmas.{damage, fits_all}
use Rattle.column_stream.proofs.ReadLemmas.{fault_same, piece_edges, piece_fault}
use Rattle.column_stream.proofs.reads.read_piece.Goals as goal

pub returns-in-Some-clause-fault : goal.returns-in-Some-clause-fault
returns-in-Some-clause-fault g c =
    piece_fault {T = Unit {0}} (g.D.Depot.holds c.args.depot.now c.args.file) c.args.file c.args.ends c.args.place (length c.args.out.now) (length c.args.bytes.now) c.read_at.new.buf (Err c.in-Some.fault) c.requires.room c.in-Ok.ensures.value
    (fault_same (Unit {0}) c.in-Some.fault _ (sym c.get_records.ensures.fault ∙ c.in-Some.is))

pub returns-in-Some-clause-damaged : goal.returns-in-Some-clause-damaged
returns-in-Some-clause-damaged g c =
    let n = length c.args.out.now in
    subst (λ k. IsDamage c.args.file c.args.ends c.args.place k c.in-Some.fault) (length-edges 0 n c.read_at.new.buf)
    (damage c.args.file c.args.ends c.args.place (edges_at 0 n c.read_at.new.buf) c.in-Some.fault (sym c.get_records.ensures.fault ∙ c.in-Some.is))

pub returns-in-None-clause-edges : goal.returns-in-None-clause-edges
returns-in-None-clause-edges g c =
    piece_edges (g.D.Depot.holds c.args.depot.now c.args.file) c.args.place (length c.args.out.now) (length c.args.bytes.now) c.read_at.new.buf c.get_records.new.out c.requires.room c.in-Ok.ensures.value
    (c.get_records.ensures.edges c.in-None.is)

pub returns-in-None-clause-fault : goal.returns-in-None-clause-fault
returns-in-None-clause-fault g c =
    piece_fault {T = Unit {0}} (g.D.Depot.holds c.args.depot.now c.args.file) c.args.file c.args.ends c.args.place (length c.args.out.now) (length c.args.bytes.now) c.read_at.new.buf (Ok (tt {0})) c.requires.room c.in-Ok.ensures.value
    (sym c.get_records.ensures.fault ∙ c.in-None.is)

pub returns-in-None-clause-fits : goal.returns-in-None-clause-fits
returns-in-None-clause-fits g c =
    let n = length c.args.out.now in
    let sound : first_fault c.args.file c.args.ends c.args.place (edges_at 0 n c.read_at.new.buf) ≡ None = sym c.get_records.ensures.fault ∙ c.in-None.is in
    rw (c.get_records.ensures.edges c.in-None.is) (fits_all c.args.file c.args.ends c.args.place (edges_at 0 n c.read_at.new.buf) sound)
