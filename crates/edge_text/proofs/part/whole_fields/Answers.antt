use Rattle.std.proofs.Common.{[], ◌∙◌, ap, subst, append-nil}
use Rattle.edge_text.specs.Fields.{fields_of}
use Rattle.edge_text.specs.Parts.{IsRest, behind}
use Rattle.edge_text.proofs.LineParts.{number_last}
use Rattle.edge_text.proofs.part.whole_fields.Goals as goal

pub returns-in-Within : goal.returns-in-Within
returns-in-Within c = λ rest is.
    let h = subst (λ p. IsRest c.args.limits.now p rest) c.in-Within.is is in
    h.2 []
    ∙ ap (behind c.args.limits.now c.in-Within.good) (ap fields_of (append-nil h.0) ∙ number_last c.in-Within.value h.0 h.1)
    ∙ c.field_ended.ensures h.0 [] h.1
