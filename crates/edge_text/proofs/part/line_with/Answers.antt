use Rattle.std.proofs.Common.{◌++◌}
use Rattle.std.proofs.lemmas.Bool.{ne_eqb}
use Rattle.edge_text.specs.Fields.{fields_of}
use Rattle.edge_text.specs.Reading.{edge_in}
use Rattle.edge_text.proofs.LineParts.{longer_rest, return_none}
use Rattle.edge_text.proofs.part.line_with.Goals as goal

pub returns-else-byte-eq13 : goal.returns-else-byte-eq13
returns-else-byte-eq13 c = λ bytes is. (
  longer_rest c.args.limits.now c.part_with.result bytes c.args.byte (c.part_with.ensures (λ more. edge_in c.args.limits.now (fields_of (bytes ++ more))) (c.settled-part.ensures bytes is)),
  return_none bytes c.args.byte (ne_eqb c.args.byte 13 c.if-byte-eq13.false),
)
