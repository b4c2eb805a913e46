use Rattle.std.proofs.Common.{◌≡◌, ◌*◌, ℕ, length, Some, Ok, Err, sym, ap, ◌∙◌}
use Rattle.value_files.specs.Records.{records_at}
use Rattle.value_files.specs.declared.fault.FileFault.TheVariants.{Depot}
use Rattle.value_files.proofs.DamageLemmas.{fault_same, not_depot}
use Rattle.value_files.proofs.StepLemmas.{piece_fault, piece_values}
use Rattle.value_files.proofs.reads.read_piece.Goals as goal

pub returns-in-Some-clause-fault : goal.returns-in-Some-clause-fault
returns-in-Some-clause-fault g c =
    piece_fault g.V.Fixed.value_of g.V.Fixed.WIDTH c.args.file {T = Unit {0}} (g.D.Depot.holds c.args.depot.now c.args.file) c.args.place (length c.args.out.now) (length c.args.bytes.now) c.read_at.new.buf (Err c.in-Some.fault) c.requires.room c.in-Ok.ensures.value
    (fault_same (Unit {0}) c.in-Some.fault _ (sym c.get_records.ensures.fault ∙ c.in-Some.is))

pub returns-in-Some-clause-cause : goal.returns-in-Some-clause-cause
returns-in-Some-clause-cause g c is =
    let same : c.in-Some.fault ≡ Depot = cc in
    absurd (not_depot g.V.Fixed.value_of g.V.Fixed.WIDTH c.args.file c.args.place (records_at g.V.Fixed.WIDTH 0 (length c.args.out.now) c.read_at.new.buf) (sym c.get_records.ensures.fault ∙ c.in-Some.is ∙ ap Some same))

pub returns-in-None-clause-values : goal.returns-in-None-clause-values
returns-in-None-clause-values g c =
    piece_values g.V.Fixed.value_of g.V.Fixed.WIDTH c.args.file (g.D.Depot.holds c.args.depot.now c.args.file) c.args.place (length c.args.bytes.now) c.read_at.new.buf c.get_records.new.out (c.requires.room ∙ ap (λ (k : ℕ). g.V.Fixed.WIDTH * k) (sym c.get_records.auto.out)) c.in-Ok.ensures.value
    (c.get_records.ensures.values c.in-None.is)

pub returns-in-None-clause-fault : goal.returns-in-None-clause-fault
returns-in-None-clause-fault g c =
    piece_fault g.V.Fixed.value_of g.V.Fixed.WIDTH c.args.file {T = Unit {0}} (g.D.Depot.holds c.args.depot.now c.args.file) c.args.place (length c.args.out.now) (length c.args.bytes.now) c.read_at.new.buf (Ok (tt {0})) c.requires.room c.in-Ok.ensures.value
    (sym c.get_records.ensures.fault ∙ c.in-None.is)
