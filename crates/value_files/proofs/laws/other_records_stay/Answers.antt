use Rattle.value_files.proofs.PlaceLemmas.{other_sums, other_values, values_before}
use Rattle.value_files.proofs.laws.other_records_stay.Goals as goal

pub returns-clause-values : goal.returns-clause-values
returns-clause-values g c = other_values g.V.Fixed.WIDTH

pub returns-clause-before : goal.returns-clause-before
returns-clause-before g c = values_before g.V.Fixed.WIDTH

pub returns-clause-sums : goal.returns-clause-sums
returns-clause-sums g c = other_sums g.V.Fixed.WIDTH
