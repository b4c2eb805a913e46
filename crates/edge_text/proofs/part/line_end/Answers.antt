use Rattle.std.proofs.Common.{sym, ◌∙◌}
use Rattle.edge_text.proofs.LineParts.{open_end}
use Rattle.edge_text.proofs.part.line_end.Goals as goal

pub returns : goal.returns
returns c = λ bytes is.
    c.fields_end.ensures c.args.limits.now
    ∙ sym (open_end c.args.limits.now c.args.line.part c.args.line.returned bytes c.whole_fields.result is c.whole_fields.ensures)
