use Rattle.std.proofs.Common.{sym, subst}
use Rattle.lumos_report.specs.declared.records.Kind.{Kind}
use Rattle.partition.specs.Blocks.{column}
use Rattle.partition.specs.Parts.{chunk_of}
use Rattle.windows.specs.Sums.{HasSums}
use Rattle.early_engine.specs.Passes.{first_row}
use Rattle.early_engine.proofs.iteration.begin_sums.Goals as goal

pub returns-in-Full-clause-sums : goal.returns-in-Full-clause-sums
returns-in-Full-clause-sums g c program edges state given =
    subst (λ (k : Kind). HasSums (g.G.VertexProgram.model program) c.clear_sums.new.self c.args.j state (column edges (chunk_of c.args.windows.now.cut) c.args.j (first_row k c.args.j))) (sym c.in-Full.is) (c.clear_sums.ensures.sums program state)

pub returns-in-Full-clause-next : goal.returns-in-Full-clause-next
returns-in-Full-clause-next g c program state full = c.clear_sums.ensures.next program state
