use Rattle.edge_text.proofs.PlainLines.{weight_field}
use Rattle.edge_text.proofs.plain.weight_at.Goals as goal

pub returns-in-Some-ends_at : goal.returns-in-Some-ends_at
returns-in-Some-ends_at c =
    weight_field c.args.text.now c.in-Some-field_at.field.len c.in-Some-ends_at.len c.in-Some-field_at.field.value c.in-Ok.weight c.in-Some-field_at.ensures
    (c.in-Ok.ensures c.in-Some-field_at.ensures.digits c.in-Some-field_at.ensures.number.number) c.in-Some-ends_at.ensures
