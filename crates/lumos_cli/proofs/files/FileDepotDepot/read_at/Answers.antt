use Rattle.lumos_cli.proofs.Counts.{other_count}
use Rattle.lumos_cli.proofs.files.FileDepotDepot.read_at.Goals as goal

pub returns-clause-taken : goal.returns-clause-taken
returns-clause-taken g c = λ kind apart. rw (← c.self.view_is) (other_count c.self.inside.taken _ _ kind c.args.kind c.index_of-index.ensures.value apart)
