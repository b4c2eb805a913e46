use Rattle.lumos_cli.proofs.Counts.{other_count}
use Rattle.lumos_cli.proofs.files.FileDepotDepot.write_at.Goals as goal

pub returns-clause-stored : goal.returns-clause-stored
returns-clause-stored g c = λ kind apart. rw (← c.self.view_is) (other_count c.self.inside.stored _ _ kind c.args.kind c.index_of-index.ensures.value apart)
