use Rattle.windows.proofs.LoadLemmas.{loads_add_up}
use Rattle.windows.proofs.laws.loads_add_up.Goals as goal

pub returns : goal.returns
returns g c coding w some = loads_add_up coding w some
