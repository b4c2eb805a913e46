use Rattle.std.proofs.Common.{◌∷◌, sym, ◌∙◌, ap, subst}
use Rattle.edge_text.specs.Fields.{fields_of}
use Rattle.edge_text.specs.Parts.{IsRest, after, behind}
use Rattle.edge_text.proofs.LineParts.{bad_within, fourth_begun, number_ended}
use Rattle.edge_text.proofs.part.part_with.Goals as goal

pub returns-in-Whole : goal.returns-in-Whole
returns-in-Whole c = λ rest is more.
    subst (λ p. IsRest c.args.limits.now p rest) c.in-Between.is is (c.args.byte ∷ more)
    ∙ ap (λ f. after c.args.limits.now f (fields_of (c.args.byte ∷ more))) c.in-Whole.is
    ∙ fourth_begun c.in-Whole.field-0 c.args.byte more (sym c.if-is_space.ensures)

pub returns-then-is_space-2 : goal.returns-then-is_space-2
returns-then-is_space-2 c = λ rest is more.
    let h = subst (λ p. IsRest c.args.limits.now p rest) c.in-Within.is is in
    h.2 (c.args.byte ∷ more)
    ∙ ap (behind c.args.limits.now c.in-Within.good) (number_ended c.in-Within.value h.0 more h.1 c.args.byte (sym c.if-is_space-2.ensures))
    ∙ c.field_ended.ensures h.0 (fields_of more) h.1

pub returns-else-is_space-2 : goal.returns-else-is_space-2
returns-else-is_space-2 c = λ rest is more.
    let h = subst (λ p. IsRest c.args.limits.now p rest) c.in-Within.is is in
    h.2 (c.args.byte ∷ more)
    ∙ bad_within c.args.limits.now c.in-Within.good c.in-Within.value h.0 c.args.byte more h.1 (sym c.if-is_space-2.ensures) (sym c.if-is_ascii_digit.ensures.value)
