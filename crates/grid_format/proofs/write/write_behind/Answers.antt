use Rattle.lumos_depot.specs.declared.depot.FileKind.TheVariants.{Meta}
use Rattle.grid_format.proofs.WriteLemmas.{mixed_unmarked}
use Rattle.grid_format.proofs.write.write_behind.Goals as goal

pub returns-in-Err-clause-refused : goal.returns-in-Err-clause-refused
returns-in-Err-clause-refused g c =
    mixed_unmarked c.args.place c.args.bytes.now (g.D.Depot.holds c.args.depot.now Meta) (g.D.Depot.holds c.write_at.new.self Meta) c.requires.behind c.requires.unmarked c.in-Err.ensures.refused
