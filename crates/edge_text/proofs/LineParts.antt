-- A line so far, with one byte more.
use Rattle.std.proofs.Common.{◌≡◌, ℕ, ◌+◌, ◌-◌, ◌<◌, Bool, true, false, eqb, List, [], ◌∷◌, ◌++◌, length, Option, Some, Result, Err, take, get_or, refl, sym, ◌∙◌, ap, subst, arith}
use Rattle.std.proofs.lemmas.Bool.{and_parts, and_from, cond-false, ne_eqb}
use Rattle.std.proofs.lemmas.List.{append-nil, append_assoc, take_more}
use Rattle.lumos_base.specs.declared.records.Edge.{Edge}
use Rattle.edge_text.specs.Fields.{fields_of, is_blank, is_comment, is_digit}
use Rattle.edge_text.specs.Lines.{lines_of, without_return}
use Rattle.edge_text.specs.Parts.{IsNumber, IsOpen, IsOpenWith, IsRest, after, behind}
use Rattle.edge_text.specs.Reading.{behind_source, behind_target, behind_weight, edge_in, if_good, line_edge, number_in, vertex_at, weight_at}
use Rattle.edge_text.specs.declared.fault.InputWhat.{InputWhat}
use Rattle.edge_text.specs.declared.fault.InputWhat.TheVariants.{NotANumber, TooManyFields}
use Rattle.edge_text.specs.declared.fault.TextLimits.{TextLimits}
use Rattle.edge_text.specs.declared.part.GoodFields.{GoodFields}
use Rattle.edge_text.specs.declared.part.GoodFields.TheVariants.{Nothing, Source, Target}
use Rattle.edge_text.specs.declared.part.LinePart.{LinePart}
use Rattle.edge_text.specs.declared.part.LinePart.TheVariants.{Between, Within}
use Rattle.edge_text.specs.declared.part.Fields.{Fields}
use Rattle.edge_text.specs.declared.part.OpenLine.{OpenLine}
use Rattle.edge_text.proofs.LineEnds.{lines-unended}
use Rattle.edge_text.proofs.FieldRuns.{digits, digit_no_comment, fields-blank, fields-ended, front_with, not_digits}

abbrev pub LineRest : Type 0
LineRest = List ℕ → Result (Option Edge) InputWhat

pub one_digit : (b n : ℕ) → is_digit b ≡ true → n ≡ b - 48 → IsNumber (Some n) (b ∷ [])
one_digit b n h is = record { some = omega arith; all_digits = and_from (is_digit b) true h refl; number = omega arith }

-- a field that is no number
bad_number : (field : List ℕ) (judge : ℕ → Result ℕ InputWhat) → digits field ≡ false → number_in field judge ≡ Err NotANumber
bad_number field judge h = cond-false (digits field) _ _ h

-- a first field, unless it begins a comment, and one behind good ones
bad_field : (limits : TextLimits) (good : GoodFields) (field : List ℕ) (fields : List (List ℕ)) → (good ≡ Nothing → is_comment field ≡ false) → digits field ≡ false → behind limits good (field ∷ fields) ≡ Err NotANumber
bad_field limits Nothing field fields plain h = cond-false (is_comment field) _ _ (plain refl) ∙ ap (λ n. if_good n (λ source. behind_source limits source fields)) (bad_number field (vertex_at limits) h)
bad_field limits (Source source) field fields plain h = ap (λ n. if_good n (λ target. behind_target source target fields)) (bad_number field (vertex_at limits) h)
bad_field limits (Target source target) field fields plain h = ap (λ n. if_good n (λ weight. behind_weight (record { source = record { 0 = source }; target = record { 0 = target }; weight = record { 0 = weight } }) fields)) (bad_number field weight_at h)

-- a byte that begins no number,
pub bad_begun : (limits : TextLimits) (good : GoodFields) (b : ℕ) (more : List ℕ) → is_blank b ≡ false → is_digit b ≡ false → (good ≡ Nothing → is_comment (b ∷ []) ≡ false) → behind limits good (fields_of (b ∷ more)) ≡ Err NotANumber
bad_begun limits good b more dark h plain =
    let f = front_with [] b more refl dark in
    ap (behind limits good) f.is ∙ bad_field limits good (b ∷ f.field) f.fields plain (not_digits [] b f.field h)

-- one that begins a fourth field,
pub fourth_begun : (edge : Edge) (b : ℕ) (more : List ℕ) → is_blank b ≡ false → behind_weight edge (fields_of (b ∷ more)) ≡ Err TooManyFields
fourth_begun edge b more dark = let f = front_with [] b more refl dark in ap (behind_weight edge) f.is

number_no_comment : (value : Option ℕ) (ds more : List ℕ) → IsNumber value ds → is_comment (ds ++ more) ≡ false
number_no_comment value [] more n = absurd (let h = n.some in omega arith)
number_no_comment value (x ∷ ds) more n = let p = and_parts (is_digit x) (digits ds) n.all_digits in digit_no_comment x (ds ++ more) p.0

-- one that is no digit behind digits,
pub bad_within : (limits : TextLimits) (good : GoodFields) (value : Option ℕ) (ds : List ℕ) (b : ℕ) (more : List ℕ) → IsNumber value ds → is_blank b ≡ false → is_digit b ≡ false → behind limits good (fields_of (ds ++ b ∷ more)) ≡ Err NotANumber
bad_within limits good value ds b more n dark h =
    let f = front_with ds b more n.all_digits dark in
    ap (behind limits good) f.is ∙ bad_field limits good (ds ++ b ∷ f.field) f.fields (λ e. number_no_comment value ds (b ∷ f.field) n) (not_digits ds b f.field h)

-- and the end of a field of digits
pub number_ended : (value : Option ℕ) (ds more : List ℕ) → IsNumber value ds → (b : ℕ) → is_blank b ≡ true → fields_of (ds ++ b ∷ more) ≡ ds ∷ fields_of more
number_ended value [] more n b blank = absurd (let h = n.some in omega arith)
number_ended value (x ∷ ds) more n b blank = fields-ended x ds (b ∷ more) n.all_digits blank ∙ ap (λ fs. (x ∷ ds) ∷ fs) (fields-blank b more blank)

pub number_last : (value : Option ℕ) (ds : List ℕ) → IsNumber value ds → fields_of ds ≡ ds ∷ []
number_last value [] n = absurd (let h = n.some in omega arith)
number_last value (x ∷ ds) n = ap fields_of (sym (append-nil (x ∷ ds))) ∙ fields-ended x ds [] n.all_digits refl

pub number_first : (value : Option ℕ) (ds : List ℕ) → IsNumber value ds → is_comment ds ≡ false
number_first value ds n = ap is_comment (sym (append-nil ds)) ∙ number_no_comment value ds [] n

-- a rest that means the same
pub rest_along : (limits : TextLimits) (part : LinePart) (one other : LineRest) → ((more : List ℕ) → other more ≡ one more) → IsRest limits part one → IsRest limits part other
rest_along limits (Between fields) one other same h = λ more. same more ∙ h more
rest_along limits (Within good value) one other same (ds, number, h) = (ds, number, λ more. same more ∙ h more)

-- carriage returns
pub return_dropped : (xs : List ℕ) → without_return (xs ++ 13 ∷ []) ≡ xs
return_dropped [] = refl
return_dropped (x ∷ []) = refl
return_dropped (x ∷ y ∷ xs) = ap (λ t. x ∷ t) (return_dropped (y ∷ xs))

pub return_none : (xs : List ℕ) (b : ℕ) → eqb b 13 ≡ false → without_return (xs ++ b ∷ []) ≡ xs ++ b ∷ []
return_none [] b h = cond-false (eqb b 13) _ _ h
return_none (x ∷ []) b h = ap (λ t. x ∷ t) (return_none [] b h)
return_none (x ∷ y ∷ xs) b h = ap (λ t. x ∷ t) (return_none (y ∷ xs) b h)

-- the rest of a line behind one byte more
pub longer_rest : (limits : TextLimits) (part : LinePart) (bytes : List ℕ) (b : ℕ) → IsRest limits part (λ more. edge_in limits (fields_of (bytes ++ b ∷ more))) → IsRest limits part (λ more. edge_in limits (fields_of (bytes ++ b ∷ [] ++ more)))
longer_rest limits part bytes b h =
    rest_along limits part (λ more. edge_in limits (fields_of (bytes ++ b ∷ more))) (λ more. edge_in limits (fields_of (bytes ++ b ∷ [] ++ more)))
    (λ more. ap (λ bs. edge_in limits (fields_of bs)) (append_assoc bytes (b ∷ []) more)) h

-- what a line means that has nothing more
pub open_end : (limits : TextLimits) (part : LinePart) (returned : Bool) (bytes : List ℕ) (fields : Fields) → IsOpenWith limits part returned bytes →
    ((rest : LineRest) → IsRest limits part rest → rest [] ≡ after limits fields []) → line_edge limits bytes ≡ after limits fields []
open_end limits part false bytes fields h step =
    ap (λ bs. edge_in limits (fields_of bs)) (h.1 ∙ sym (append-nil bytes)) ∙ step (λ more. edge_in limits (fields_of (bytes ++ more))) h.0
open_end limits part true bytes fields h step =
    ap (λ bs. edge_in limits (fields_of bs)) (ap without_return h.1 ∙ return_dropped h.0 ∙ sym (append-nil h.0)) ∙ step (λ more. edge_in limits (fields_of (h.0 ++ more))) h.2

-- one byte of a run more
pub run_longer : (limits : TextLimits) (line : OpenLine) (bytes text : List ℕ) (used b : ℕ) → used < length text → b ≡ get_or text used 0 →
    IsOpen limits line (bytes ++ take used text ++ b ∷ []) → IsOpen limits line (bytes ++ take (used + 1) text)
run_longer limits line bytes text used b inside is h =
    subst (IsOpen limits line) (append_assoc bytes (take used text) (b ∷ []) ∙ ap (λ x. bytes ++ (take used text ++ x ∷ [])) is ∙ ap (λ t. bytes ++ t) (sym (take_more text used 0 inside))) h

pub run_unended : (text : List ℕ) (used b : ℕ) → used < length text → b ≡ get_or text used 0 → (b ≡ 10 → ⊥) → lines_of (take used text) ≡ [] → lines_of (take (used + 1) text) ≡ []
run_unended text used b inside is other h =
    ap lines_of (take_more text used 0 inside ∙ ap (λ x. take used text ++ x ∷ []) (sym is)) ∙ lines-unended (take used text) b h (ne_eqb b 10 other)
