use Rattle.std.proofs.Common.{drop, arith}
use Rattle.std.specs.Fmt.{decimal}
use Rattle.std.proofs.lemmas.List.{drop_all}
use Rattle.graph_gen.proofs.TextLemmas.{line_written}
use Rattle.graph_gen.proofs.drawing.write_line.Goals as goal

pub returns : goal.returns
returns c =
    line_written (decimal c.args.edge.weight.0) (decimal c.args.edge.target.0) (decimal c.args.edge.source.0) (drop 33 c.args.line.now) _ _ _ c.write_field-weight.ensures.text (drop_all 33 c.args.line.now (omega arith)) c.write_field-target.ensures.text c.write_field.ensures.text
