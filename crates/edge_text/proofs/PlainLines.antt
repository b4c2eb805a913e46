-- Plain lines.
use Rattle.std.proofs.Common.{◌≡◌, ℕ, ◌+◌, ◌-◌, ◌≤◌, ◌<◌, Bool, true, false, eqb, leb, List, [], ◌∷◌, ◌++◌, length, take, drop, get_or, Option, Some, Result, Ok, refl, sym, ◌∙◌, ap, subst, inl, inr, ◌⊎◌, arith}
use Rattle.std.specs.List.{list_all}
use Rattle.std.proofs.Math.Seq.{take-add}
use Rattle.std.proofs.lemmas.Bool.{and_from, and_parts, cond-false, cond-true, eqb-true, leb-true, ne_eqb, or_cases, or_left, or_right}
use Rattle.std.proofs.lemmas.List.{append-nil, append_assoc, drop-drop, length-append, get_or-drop, length-drop, length-take-le}
use Rattle.std.proofs.lemmas.List.Folds.{list_all-append}
use Rattle.lumos_base.specs.declared.records.Edge.{Edge}
use Rattle.edge_text.specs.Fields.{begins_blank, fields_of, is_blank, is_comment, is_digit, value_of}
use Rattle.edge_text.specs.Lines.{lines_of, onto_first, without_return}
use Rattle.edge_text.specs.Parts.{IsNumber, IsOpen}
use Rattle.edge_text.specs.Plain.{IsEnd, IsFieldAt, IsPlain, IsWeightAt, is_plain}
use Rattle.edge_text.specs.Reading.{behind_source, behind_target, behind_weight, edge_between, edge_in, if_good, line_edge, number_in, vertex_at, weight_at}
use Rattle.edge_text.specs.declared.fault.InputWhat.{InputWhat}
use Rattle.edge_text.specs.declared.fault.TextLimits.{TextLimits}
use Rattle.edge_text.specs.declared.part.Fields.TheVariants.{Good}
use Rattle.edge_text.specs.declared.part.GoodFields.TheVariants.{Nothing}
use Rattle.edge_text.specs.declared.part.LinePart.TheVariants.{Between}
use Rattle.edge_text.specs.declared.part.OpenLine.{OpenLine}
use Rattle.edge_text.proofs.FieldRuns.{digits, fields-blank, fields-ended}
use Rattle.edge_text.proofs.LineEnds.{lines-unended}
use Rattle.edge_text.proofs.LineParts.{number_first, return_dropped}

abbrev pub blanks : List ℕ → Bool
blanks xs = list_all is_blank xs

abbrev pub plain : List ℕ → Bool
plain xs = list_all is_plain xs

-- a plain byte is no line's end, and no carriage return
blank_case : (b n : ℕ) → (eqb b 32 ≡ true) ⊎ (eqb b 9 ≡ true) → (n ≡ 10) ⊎ (n ≡ 13) → eqb b n ≡ false
blank_case b n (inl e) which = let is = eqb-true b 32 e in ne_eqb b n (λ same. omega arith)
blank_case b n (inr e) which = let is = eqb-true b 9 e in ne_eqb b n (λ same. omega arith)

plain_case : (b n : ℕ) → (is_digit b ≡ true) ⊎ (is_blank b ≡ true) → (n ≡ 10) ⊎ (n ≡ 13) → eqb b n ≡ false
plain_case b n (inl d) which = let p = and_parts (leb 48 b) (leb b 57) d in let low = leb-true 48 b p.0 in ne_eqb b n (λ e. omega arith)
plain_case b n (inr w) which = blank_case b n (or_cases (eqb b 32) (eqb b 9) w) which

plain_other : (b n : ℕ) → is_plain b ≡ true → (n ≡ 10) ⊎ (n ≡ 13) → eqb b n ≡ false
plain_other b n h which = plain_case b n (or_cases (is_digit b) (is_blank b) h) which

plain_open : (xs : List ℕ) → plain xs ≡ true → lines_of xs ≡ []
plain_open [] h = refl
plain_open (x ∷ xs) h =
    let p = and_parts (is_plain x) (plain xs) h in
    cond-false (eqb x 10) _ _ (plain_other x 10 p.0 (inl refl)) ∙ ap (onto_first x) (plain_open xs p.1)

-- behind other bytes there is no carriage return at the end
pub plain_return : (bytes xs : List ℕ) → plain xs ≡ true → 0 < length xs → without_return (bytes ++ xs) ≡ bytes ++ xs
plain_return [] [] h some = absurd (omega arith)
plain_return [] (x ∷ []) h some = let p = and_parts (is_plain x) true h in cond-false (eqb x 13) _ _ (plain_other x 13 p.0 (inr refl))
plain_return [] (x ∷ y ∷ xs) h some = let p = and_parts (is_plain x) (plain (y ∷ xs)) h in ap (λ t. x ∷ t) (plain_return [] (y ∷ xs) p.1 (omega arith))
plain_return (b ∷ []) [] h some = absurd (omega arith)
plain_return (b ∷ []) (x ∷ xs) h some = ap (λ t. b ∷ t) (plain_return [] (x ∷ xs) h some)
plain_return (b ∷ next ∷ bytes) xs h some = ap (λ t. b ∷ t) (plain_return (next ∷ bytes) xs h some)

digits_plain : (xs : List ℕ) → digits xs ≡ true → plain xs ≡ true
digits_plain [] h = refl
digits_plain (x ∷ xs) h = let p = and_parts (is_digit x) (digits xs) h in and_from (is_plain x) (plain xs) (or_left (is_digit x) (is_blank x) p.0) (digits_plain xs p.1)

blanks_plain : (xs : List ℕ) → blanks xs ≡ true → plain xs ≡ true
blanks_plain [] h = refl
blanks_plain (x ∷ xs) h = let p = and_parts (is_blank x) (blanks xs) h in and_from (is_plain x) (plain xs) (or_right (is_digit x) (is_blank x) p.0) (blanks_plain xs p.1)

plain_append : (xs ys : List ℕ) → plain xs ≡ true → plain ys ≡ true → plain (xs ++ ys) ≡ true
plain_append xs ys h k = list_all-append is_plain xs ys ∙ and_from (plain xs) (plain ys) h k

skip_blanks : (bs more : List ℕ) → blanks bs ≡ true → fields_of (bs ++ more) ≡ fields_of more
skip_blanks [] more h = refl
skip_blanks (x ∷ bs) more h = let p = and_parts (is_blank x) (blanks bs) h in fields-blank x (bs ++ more) p.0 ∙ skip_blanks bs more p.1

number_fields : (value : Option ℕ) (ds more : List ℕ) → IsNumber value ds → begins_blank more ≡ true → fields_of (ds ++ more) ≡ ds ∷ fields_of more
number_fields value [] more n ends = absurd (let h = n.some in omega arith)
number_fields value (x ∷ ds) more n ends = fields-ended x ds more n.all_digits ends

begin_blanks : (bs more : List ℕ) → blanks bs ≡ true → 0 < length bs → begins_blank (bs ++ more) ≡ true
begin_blanks [] more h some = absurd (omega arith)
begin_blanks (x ∷ bs) more h some = let p = and_parts (is_blank x) (blanks bs) h in p.0

pub number_is : (text : List ℕ) (d value : ℕ) → d ≤ length text → 0 < d → digits (take d text) ≡ true → value_of (take d text) ≡ value → IsNumber (Some value) (take d text)
number_is text d value within some h is = let long = length-take-le d text within in record { some = omega arith; all_digits = h; number = is }

-- blanks and then a number
pub field_is : (text rest : List ℕ) (b d value : ℕ) → rest ≡ drop b text → b ≤ length text → 0 < b → blanks (take b text) ≡ true → d ≤ length rest → IsNumber (Some value) (take d rest) → IsFieldAt text (b + d) value
field_is text rest b d value is within some blank inside number =
    let all : take (b + d) text ≡ take b text ++ take d rest = take-add b d text ∙ ap (λ t. take b text ++ take d t) (sym is) in
    let long : length rest ≡ length text - b = ap length is ∙ length-drop b text in
    let front = length-take-le b text within in
    record {
      digits = take d rest;
      number = number;
      within = omega arith;
      plain = ap plain all ∙ plain_append (take b text) (take d rest) (blanks_plain (take b text) blank) (digits_plain (take d rest) number.all_digits);
      blank = λ more. ap (λ t. begins_blank (t ++ more)) all ∙ ap begins_blank (append_assoc (take b text) (take d rest) more)
          ∙ begin_blanks (take b text) (take d rest ++ more) blank (omega arith);
      fields = λ more ends. ap (λ t. fields_of (t ++ more)) all ∙ ap fields_of (append_assoc (take b text) (take d rest) more)
          ∙ skip_blanks (take b text) (take d rest ++ more) blank ∙ number_fields (Some value) (take d rest) more number ends;
    }

good_number : (field : List ℕ) (judge : ℕ → Result ℕ InputWhat) (n : ℕ) → digits field ≡ true → Ok n ≡ judge (value_of field) → number_in field judge ≡ Ok n
good_number field judge n h is = cond-true (digits field) _ _ h ∙ sym is

-- a weight
pub weight_field : (text : List ℕ) (at len value weight : ℕ) (field : IsFieldAt text at value) → Ok weight ≡ weight_at (value_of field.digits) → IsEnd text at len → IsWeightAt text len weight
weight_field text at len value weight field good end =
    record {
      at = at;
      end = end;
      plain = field.plain;
      blank = ap begins_blank (sym (append-nil (take at text))) ∙ field.blank [];
      reads = λ source target.
          ap (λ t. behind_target source target (fields_of t)) (sym (append-nil (take at text))) ∙ ap (behind_target source target) (field.fields [] refl)
          ∙ ap (λ n. if_good n (λ weight. behind_weight (edge_between source target weight) [])) (good_number field.digits weight_at weight field.number.all_digits good);
    }

-- the fields of an edge
edge_fields : (limits : TextLimits) (value : Option ℕ) (ds target_ds : List ℕ) (fields : List (List ℕ)) (source target : ℕ) → IsNumber value ds → Ok source ≡ vertex_at limits (value_of ds) →
    digits target_ds ≡ true → Ok target ≡ vertex_at limits (value_of target_ds) → edge_in limits (ds ∷ target_ds ∷ fields) ≡ behind_target source target fields
edge_fields limits value ds target_ds fields source target number first h second =
    cond-false (is_comment ds) _ _ (number_first value ds number)
    ∙ ap (λ n. if_good n (λ source. behind_source limits source (target_ds ∷ fields))) (good_number ds (vertex_at limits) source number.all_digits first)
    ∙ ap (λ n. if_good n (λ target. behind_target source target fields)) (good_number target_ds (vertex_at limits) target h second)

-- plain bytes as a line, also with a carriage return, and behind bytes that are nothing of it
line_open : (all bytes : List ℕ) → plain bytes ≡ true → (all ≡ bytes) ⊎ (all ≡ bytes ++ 13 ∷ []) → lines_of all ≡ []
line_open all bytes h (inl e) = ap lines_of e ∙ plain_open bytes h
line_open all bytes h (inr e) = ap lines_of e ∙ lines-unended bytes 13 (plain_open bytes h) refl

line_reads : (limits : TextLimits) (all bytes front : List ℕ) → plain bytes ≡ true → 0 < length bytes → (all ≡ bytes) ⊎ (all ≡ bytes ++ 13 ∷ []) →
    ((more : List ℕ) → edge_in limits (fields_of (front ++ more)) ≡ edge_in limits (fields_of more)) → line_edge limits (front ++ all) ≡ edge_in limits (fields_of bytes)
line_reads limits all bytes front h some (inl e) nothing =
    ap (λ t. line_edge limits (front ++ t)) e ∙ ap (λ t. edge_in limits (fields_of t)) (plain_return front bytes h some) ∙ nothing bytes
line_reads limits all bytes front h some (inr e) nothing =
    ap (λ t. line_edge limits (front ++ t)) e ∙ ap (line_edge limits) (sym (append_assoc front bytes (13 ∷ [])))
    ∙ ap (λ t. edge_in limits (fields_of t)) (return_dropped (front ++ bytes)) ∙ nothing bytes

line_whole : (front last : List ℕ) (at len : ℕ) → (take len last ≡ take at last) ⊎ (take len last ≡ take at last ++ 13 ∷ []) →
    (front ++ take len last ≡ front ++ take at last) ⊎ (front ++ take len last ≡ front ++ take at last ++ 13 ∷ [])
line_whole front last at len (inl e) = inl (ap (λ t. front ++ t) e)
line_whole front last at len (inr e) = inr (ap (λ t. front ++ t) e ∙ sym (append_assoc front (take at last) (13 ∷ [])))

-- a whole line, with what is left of the text behind its source and behind its target
pub plain_is : (limits : TextLimits) (text rest last : List ℕ) (d f e source target weight one two : ℕ) → rest ≡ drop d text → last ≡ drop f rest → d ≤ length text → 0 < d → IsNumber (Some one) (take d text) →
    Ok source ≡ vertex_at limits (value_of (take d text)) → (field : IsFieldAt rest f two) → Ok target ≡ vertex_at limits (value_of field.digits) → IsWeightAt last e weight → IsPlain limits text (d + f + e) (edge_between source target weight)
plain_is limits text rest last d f e source target weight one two is then_is within some number first field second tail =
    let behind : last ≡ drop (d + f) text = then_is ∙ ap (drop f) is ∙ drop-drop f d text in
    let all : take (d + f + e) text ≡ take d text ++ take f rest ++ take e last =
    take-add (d + f) e text ∙ ap (λ t. t ++ take e (drop (d + f) text)) (take-add d f text) ∙ ap (λ t. take d text ++ take f t ++ take e (drop (d + f) text)) (sym is) ∙ ap (λ t. take d text ++ take f rest ++ take e t) (sym behind) in
    let nothing_else : plain (take d text ++ take f rest ++ take tail.at last) ≡ true =
    plain_append (take d text ++ take f rest) (take tail.at last) (plain_append (take d text) (take f rest) (digits_plain (take d text) number.all_digits) field.plain) tail.plain in
    let whole = subst (λ t. (t ≡ take d text ++ take f rest ++ take tail.at last) ⊎ (t ≡ take d text ++ take f rest ++ take tail.at last ++ 13 ∷ [])) (sym all) (line_whole (take d text ++ take f rest) last tail.at e tail.end.line) in
    let fields : fields_of (take d text ++ take f rest ++ take tail.at last) ≡ take d text ∷ field.digits ∷ fields_of (take tail.at last) =
    ap fields_of (append_assoc (take d text) (take f rest) (take tail.at last))
    ∙ number_fields (Some one) (take d text) (take f rest ++ take tail.at last) number (field.blank (take tail.at last))
    ∙ ap (λ fs. take d text ∷ fs) (field.fields (take tail.at last) tail.blank) in
    let inside = tail.end.inside in
    let long : length last ≡ length text - (d + f) = ap length behind ∙ length-drop (d + f) text in
    let front = length-append (take d text ++ take f rest) (take tail.at last) in
    let first_front = length-append (take d text) (take f rest) in
    let digits_front = length-take-le d text within in
    record {
      inside = omega arith;
      ends = sym (get_or-drop (d + f) text e 0) ∙ ap (λ t. get_or t e 0) (sym behind) ∙ tail.end.ends;
      open_before = line_open (take (d + f + e) text) (take d text ++ take f rest ++ take tail.at last) nothing_else whole;
      reads = λ bytes nothing. line_reads limits (take (d + f + e) text) (take d text ++ take f rest ++ take tail.at last) bytes nothing_else (omega arith) whole nothing
          ∙ ap (edge_in limits) fields
          ∙ edge_fields limits (Some one) (take d text) field.digits (fields_of (take tail.at last)) source target number first field.number.all_digits second
          ∙ tail.reads source target;
    }

-- a whole line behind nothing but blanks
pub fresh_line : (limits : TextLimits) (line : OpenLine) (bytes text : List ℕ) (len : ℕ) (edge : Edge) → line ≡ record { part = Between (Good Nothing); returned = false } → IsOpen limits line bytes → IsPlain limits text len edge →
    line_edge limits (bytes ++ take len text) ≡ Ok (Some edge)
fresh_line limits line bytes text len edge is read p =
    let h = subst (λ l. IsOpen limits l bytes) is read in
    p.reads bytes h.0
