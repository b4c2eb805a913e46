use Rattle.partition.proofs.RangeLemmas.{cover_once}
use Rattle.partition.proofs.laws.ranges_cover_once.Goals as goal

pub returns : goal.returns
returns c = cover_once
