use Rattle.early_engine.proofs.CoreStates.{stands_after}
use Rattle.early_engine.proofs.ReadLemmas.{all_counted, fed_few, full_few}
use Rattle.early_engine.proofs.laws.passes_are_legal.Goals as goal

pub returns-clause-stands : goal.returns-clause-stands
returns-clause-stands g c program edges n parts bound hot some list silent mode limit inside t most =
    stands_after (g.G.VertexProgram.model program) (g.met.G.VertexProgram.lawful program) edges n parts bound hot mode limit t some list silent inside most

pub returns-clause-full_few : goal.returns-clause-full_few
returns-clause-full_few g c size p need = full_few size p need

pub returns-clause-fed_few : goal.returns-clause-fed_few
returns-clause-fed_few g c size p need = fed_few size p need

pub returns-clause-all_counted : goal.returns-clause-all_counted
returns-clause-all_counted g c kind size need bs moved = all_counted kind size need bs moved
