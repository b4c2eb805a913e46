use Rattle.std.proofs.Common.{◌≡◌, ◌-◌, [], length, take, drop, sym, ap, ◌∙◌, arith}
use Rattle.std.proofs.lemmas.List.{length-drop, take_rest}
use Rattle.edge_text.specs.Fields.{fields_of}
use Rattle.flight_core.specs.ScheduleLine.{numbers_of, said_behind, said_in}
use Rattle.flight_core.proofs.ScheduleFields.{comment_field, comment_said, short_said, word_said}
use Rattle.flight_core.proofs.said.said_in_line.Goals as goal

pub returns-then-begins_comment : goal.returns-then-begins_comment
returns-then-begins_comment c =
    let whole = take c.without_end.result c.args.line.now in
    let text = take (length whole - c.blanks_at-blanks.result) (drop c.blanks_at-blanks.result whole) in
    let part : text ≡ drop c.blanks_at-blanks.result whole = take_rest whole c.blanks_at-blanks.result in
    let left = ap length part ∙ length-drop c.blanks_at-blanks.result whole in
    let field = c.field_at-len.ensures in
    sym (short_said c.args.line.now text c.requires (ap fields_of part ∙ c.blanks_at-blanks.ensures.fields ∙ ap fields_of c.without_end.ensures.line)
    ∙ ap said_in field.fields
    ∙ comment_said (take c.field_at-len.result text) (fields_of (drop c.field_at-len.result text)) (comment_field text c.field_at-len.result field.some (omega arith) ∙ sym (c.begins_comment.ensures []) ∙ c.if-begins_comment.true))

pub returns : goal.returns
returns c =
    let whole = take c.without_end.result c.args.line.now in
    let text = take (length whole - c.blanks_at-blanks.result) (drop c.blanks_at-blanks.result whole) in
    let part : text ≡ drop c.blanks_at-blanks.result whole = take_rest whole c.blanks_at-blanks.result in
    let left = ap length part ∙ length-drop c.blanks_at-blanks.result whole in
    let field = c.field_at-len.ensures in
    c.said_by_word.ensures ∙ ap (λ t. said_behind (take c.field_at-len.result text) (numbers_of (fields_of t))) (take_rest text c.field_at-len.result)
    ∙ sym (short_said c.args.line.now text c.requires (ap fields_of part ∙ c.blanks_at-blanks.ensures.fields ∙ ap fields_of c.without_end.ensures.line)
    ∙ ap said_in field.fields
    ∙ word_said (take c.field_at-len.result text) (fields_of (drop c.field_at-len.result text)) (comment_field text c.field_at-len.result field.some (omega arith) ∙ sym (c.begins_comment.ensures []) ∙ c.if-begins_comment.false))
