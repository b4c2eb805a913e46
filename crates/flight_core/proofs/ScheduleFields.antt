-- Fields of a line of a schedule.
use Rattle.std.proofs.Common.{◌≡◌, ◌<◌, ◌≤◌, ℕ, zero, suc, ◌+◌, Bool, true, false, not, ltb, List, [], ◌∷◌, ◌++◌, length, take, drop, get_or, refl, sym, ◌∙◌, ap, arith}
use Rattle.std.specs.List.{list_all}
use Rattle.std.proofs.lemmas.Bool.{and_parts, cond-false, cond-true, le-ltb, ne_eqb}
use Rattle.std.proofs.lemmas.List.{drop_more, length-take-le, take-append-drop, take_all, take_more}
use Rattle.edge_text.specs.Fields.{begins_blank, fields_of, is_blank, is_comment}
use Rattle.edge_text.specs.Lines.{onto_first, without_return}
use Rattle.edge_text.proofs.LineParts.{return_dropped, return_none}
use Rattle.flight_core.specs.ScheduleLine.{numbers_of, said_behind, said_by, said_in}
use Rattle.flight_core.specs.declared.said.Said.TheVariants.{Nothing}

abbrev pub is_dark : ℕ → Bool
is_dark byte = not (is_blank byte)

not_true : (b : Bool) → not b ≡ true → b ≡ false
not_true true h = sym h
not_true false h = refl

-- bytes that aren't blank, up to a blank or the end, are a field
pub dark_field : (xs more : List ℕ) → 0 < length xs → list_all is_dark xs ≡ true → begins_blank more ≡ true → fields_of (xs ++ more) ≡ xs ∷ fields_of more
dark_field [] more some dark ends = absurd (omega arith)
dark_field (x ∷ []) more some dark ends =
    let p = and_parts (is_dark x) true dark in
    cond-false (is_blank x) _ _ (not_true (is_blank x) p.0) ∙ cond-true (begins_blank more) _ _ ends
dark_field (x ∷ y ∷ xs) more some dark ends =
    let p = and_parts (is_dark x) (list_all is_dark (y ∷ xs)) dark in
    let q = and_parts (is_dark y) (list_all is_dark xs) p.1 in
    cond-false (is_blank x) _ _ (not_true (is_blank x) p.0) ∙ cond-false (begins_blank (y ∷ xs ++ more)) _ _ (not_true (is_blank y) q.0)
    ∙ ap (onto_first x) (dark_field (y ∷ xs) more (omega arith) p.1 ends)

-- what stands behind a place of a text
pub begins_at : (text : List ℕ) (len : ℕ) → len < length text → begins_blank (drop len text) ≡ is_blank (get_or text len 0)
begins_at text len inside = ap begins_blank (drop_more text len 0 inside)

-- a field up to a place, behind which is a blank or the end
pub field_until : (text : List ℕ) (len : ℕ) → len ≤ length text → begins_blank text ≡ false → list_all is_dark (take len text) ≡ true → begins_blank (drop len text) ≡ true →
    fields_of text ≡ take len text ∷ fields_of (drop len text)
field_until text zero within first dark ends = absurd (let p : true ≡ false = sym ends ∙ first in cc)
field_until text (suc len) within first dark ends =
    let long = length-take-le (suc len) text within in
    ap fields_of (sym (take-append-drop (suc len) text)) ∙ dark_field (take (suc len) text) (drop (suc len) text) (omega arith) dark ends

-- a field up to a place has a byte
pub field_some : (text : List ℕ) (len : ℕ) → begins_blank text ≡ false → begins_blank (drop len text) ≡ true → 0 < len
field_some text zero first ends = absurd (let p : true ≡ false = sym ends ∙ first in cc)
field_some text (suc len) first ends = omega arith

-- a comment is one by its first byte
pub comment_field : (text : List ℕ) (len : ℕ) → 0 < len → 0 < length text → is_comment (take len text) ≡ is_comment (get_or text 0 0 ∷ [])
comment_field text zero some inside = absurd (omega arith)
comment_field [] (suc len) some inside = absurd (omega arith)
comment_field (byte ∷ bytes) (suc len) some inside = refl

-- the last byte of a line
whole_line : (line : List ℕ) (last : ℕ) → length line ≡ last + 1 → line ≡ take last line ++ get_or line last 0 ∷ []
whole_line line last long = sym (take_all (last + 1) line (omega arith)) ∙ take_more line last 0 (omega arith)

pub return_last : (line : List ℕ) (last : ℕ) → length line ≡ last + 1 → get_or line last 0 ≡ 13 → take last line ≡ without_return line
return_last line last long is =
    sym (ap without_return (whole_line line last long ∙ ap (λ b. take last line ++ b ∷ []) is) ∙ return_dropped (take last line))

pub other_last : (line : List ℕ) (last : ℕ) → length line ≡ last + 1 → (get_or line last 0 ≡ 13 → ⊥) → take (length line) line ≡ without_return line
other_last line last long other =
    take_all (length line) line (omega arith) ∙ whole_line line last long
    ∙ sym (ap without_return (whole_line line last long) ∙ return_none (take last line) (get_or line last 0) (ne_eqb (get_or line last 0) 13 other))

-- what a line says that is short enough, by its fields
pub short_said : (line text : List ℕ) → length line ≤ 128 → fields_of text ≡ fields_of (without_return line) → said_by line ≡ said_in (fields_of text)
short_said line text short is = cond-false (ltb 128 (length line)) _ _ (le-ltb 128 (length line) short) ∙ ap said_in (sym is)

-- a line that is a comment, and one that is none
pub comment_said : (word : List ℕ) (fields : List (List ℕ)) → is_comment word ≡ true → said_in (word ∷ fields) ≡ Nothing
comment_said word fields is = cond-true (is_comment word) _ _ is

pub word_said : (word : List ℕ) (fields : List (List ℕ)) → is_comment word ≡ false → said_in (word ∷ fields) ≡ said_behind word (numbers_of fields)
word_said word fields is = cond-false (is_comment word) _ _ is
