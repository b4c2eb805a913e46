use Rattle.std.proofs.Common.{◌≡◌, [], ◌∷◌, sym, ◌∙◌}
use Rattle.edge_text.specs.declared.part.GoodFields.TheVariants.{Nothing, Source, Target}
use Rattle.edge_text.proofs.LineParts.{bad_begun, one_digit}
use Rattle.edge_text.proofs.part.field_begun.Goals as goal

pub returns-then-is_ascii_digit : goal.returns-then-is_ascii_digit
returns-then-is_ascii_digit c = λ limits rest is.
    (c.args.byte ∷ [], one_digit c.args.byte c.from.result (sym c.if-is_ascii_digit.ensures.value) c.from.ensures, λ more. is (c.args.byte ∷ more))

pub returns-else-begins_comment : goal.returns-else-begins_comment
returns-else-begins_comment c = λ limits rest is more.
    is (c.args.byte ∷ more) ∙ bad_begun limits c.args.good c.args.byte more c.requires (sym c.if-is_ascii_digit.ensures.value) (λ e. sym c.if-begins_comment.ensures)

pub returns-in-Source : goal.returns-in-Source
returns-in-Source c = λ limits rest is more.
    is (c.args.byte ∷ more) ∙ bad_begun limits c.args.good c.args.byte more c.requires (sym c.if-is_ascii_digit.ensures.value)
    (λ e. let p : Source c.in-Source.field-0 ≡ Nothing = sym c.in-Source.is ∙ e in cc)

pub returns-in-Target : goal.returns-in-Target
returns-in-Target c = λ limits rest is more.
    is (c.args.byte ∷ more) ∙ bad_begun limits c.args.good c.args.byte more c.requires (sym c.if-is_ascii_digit.ensures.value)
    (λ e. let p : Target c.in-Target.field-0 c.in-Target.field-1 ≡ Nothing = sym c.in-Target.is ∙ e in cc)
