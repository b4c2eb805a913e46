-- A list that is drawn has no faulty line.
use Rattle.std.proofs.Common.{◌≡◌, ◌≤◌, ◌<◌, ℕ, zero, suc, ◌+◌, ◌-◌, ◌*◌, ◌%◌, ◌^◌, Bool, true, false, eqb, leb, List, [], ◌∷◌, ◌++◌, length, take, drop, fold, nat_lt, nat_le, Option, Some, None, Result, Ok, Err, refl, sym, ap, ◌∙◌, subst, add-one, arith, lt-ltb}
use Rattle.std.specs.Prelude.{if◌then◌else◌}
use Rattle.std.specs.Char.{digit_value}
use Rattle.std.specs.Fmt.{decimal}
use Rattle.std.specs.List.{list_all}
use Rattle.std.specs.Str.Parse.{AllDigits, digits_value_after}
use Rattle.std.proofs.Math.Nat.{mod-lt}
use Rattle.std.proofs.lemmas.Bool.{and_from, and_parts, cond-false, cond-true, leb-true, le-ltb, lt-leb, ne_eqb, or_left}
use Rattle.std.proofs.lemmas.Bool.Decides.{nat_tests}
use Rattle.std.proofs.lemmas.Fmt.{decimal_is_IsNumeral}
use Rattle.std.proofs.lemmas.List.{append-nil, append_assoc, take-append-drop}
use Rattle.std.proofs.lemmas.Str.{digit_value_digit}
use Rattle.std.proofs.lemmas.Str.Parse.{digit_from_value}
use Rattle.lumos_base.specs.declared.records.Edge.{Edge}
use Rattle.edge_text.specs.Fields.{begins_blank, fields_of, is_blank, is_comment, is_digit, value_of}
use Rattle.edge_text.specs.Lines.{last_line, lines_of, onto_first, rest_of, without_return}
use Rattle.edge_text.specs.Plain.{is_plain}
use Rattle.edge_text.specs.Reading.{Listed, all_before, behind_source, behind_target, behind_weight, counted_lines, edge_in, edges_of, if_good, is_beyond, line_before, line_edge, line_of, number_in, read_lines, reading, reading_with, vertex_at, weight_at}
use Rattle.edge_text.specs.declared.fault.InputFault.{InputFault}
use Rattle.edge_text.specs.declared.fault.InputWhat.{InputWhat}
use Rattle.edge_text.specs.declared.fault.InputWhat.TheVariants.{NotANumber, NumberTooLarge, VertexTooLarge, WeightTooLarge, VertexBeyond}
use Rattle.edge_text.specs.declared.fault.TextFault.{TextFault}
use Rattle.edge_text.specs.declared.fault.TextFault.TheVariants.{Input, TooManyEdges, InputTooLong}
use Rattle.edge_text.specs.declared.fault.TextLimits.{TextLimits}
use Rattle.edge_text.proofs.FieldRuns.{digit_no_comment, digits, fields-blank, fields-ended}
use Rattle.edge_text.proofs.LineEnds.{lines-append, lines-both, lines-ended, rest-ended}
use Rattle.edge_text.proofs.PlainLines.{plain, plain_return}
use Rattle.graph_gen.specs.Generated.{draw_at, edge_line, generated, generated_edge, number_at}
use Rattle.graph_gen.proofs.TextLemmas.{generated_more, generated_none}

-- a number's digits, as the reader judges them
digits_pass : (ds : List ℕ) → AllDigits 10 ds → digits ds ≡ true
digits_pass [] h = refl
digits_pass (d ∷ ds) h =
    let first : is_digit d ≡ true = let low = digit_from_value d h.0 in grind (arith, nat_tests, low) in
    and_from (is_digit d) (digits ds) first (digits_pass ds h.1)

fold_value : (n : ℕ) (ds : List ℕ) → AllDigits 10 ds → fold (λ k digit. 10 * k + (digit - 48)) n ds ≡ digits_value_after 10 n ds
fold_value n [] h = refl
fold_value n (d ∷ ds) h =
    let digit = digit_value_digit d (digit_from_value d h.0) in
    let next : 10 * n + (d - 48) ≡ n * 10 + digit_value d = omega arith in
    ap (λ (k : ℕ). fold (λ m x. 10 * m + (x - 48)) k ds) next ∙ fold_value (n * 10 + digit_value d) ds h.1

-- A field of digits that writes a number below 2^64.
record Writes (n : ℕ) (field : List ℕ) : Type 0 where
  some : 0 < length field
  all : digits field ≡ true
  value : value_of field ≡ n

decimal_writes : (n : ℕ) → n < 2 ^ 64 → Writes n (decimal n)
decimal_writes n h = let is = decimal_is_IsNumeral n h in
    record { some = is.0.0; all = digits_pass (decimal n) is.0.1; value = fold_value 0 (decimal n) is.0.1 ∙ is.1 }

digits_open : (ds : List ℕ) → digits ds ≡ true → lines_of ds ≡ []
digits_open [] h = refl
digits_open (d ∷ ds) h =
    let p = and_parts (is_digit d) (digits ds) h in
    let low = leb-true 48 d (and_parts (leb 48 d) (leb d 57) p.0).0 in
    cond-false (eqb d 10) _ _ (ne_eqb d 10 (λ e. omega arith)) ∙ ap (onto_first d) (digits_open ds p.1)

digits_plain : (ds : List ℕ) → digits ds ≡ true → plain ds ≡ true
digits_plain [] h = refl
digits_plain (d ∷ ds) h =
    let p = and_parts (is_digit d) (digits ds) h in
    and_from (is_plain d) (plain ds) (or_left (is_digit d) (is_blank d) p.0) (digits_plain ds p.1)

field_first : (ds more : List ℕ) → 0 < length ds → digits ds ≡ true → begins_blank more ≡ true → fields_of (ds ++ more) ≡ ds ∷ fields_of more
field_first [] more some h ends = absurd (omega arith)
field_first (d ∷ ds) more some h ends = fields-ended d ds more h ends

no_comment : (ds : List ℕ) → 0 < length ds → digits ds ≡ true → is_comment ds ≡ false
no_comment [] some h = absurd (omega arith)
no_comment (d ∷ ds) some h = digit_no_comment d ds (and_parts (is_digit d) (digits ds) h).0

-- three fields in a line, without its line feed
abbrev three : List ℕ → List ℕ → List ℕ → List ℕ
three a b c = a ++ (32 ∷ (b ++ (32 ∷ c)))

three_open : (a b c : List ℕ) → digits a ≡ true → digits b ≡ true → digits c ≡ true → lines_of (three a b c) ≡ []
three_open a b c ha hb hc =
    let last : lines_of (32 ∷ c) ≡ [] = ap (onto_first 32) (digits_open c hc) in
    let behind : lines_of (32 ∷ (b ++ (32 ∷ c))) ≡ [] = ap (onto_first 32) (lines-both b (32 ∷ c) (digits_open b hb) last) in
    lines-both a (32 ∷ (b ++ (32 ∷ c))) (digits_open a ha) behind

three_whole : (a b c : List ℕ) → 0 < length c → digits c ≡ true → without_return (three a b c) ≡ three a b c
three_whole a b c some h =
    let front = a ++ (32 ∷ (b ++ (32 ∷ []))) in
    let same : front ++ c ≡ three a b c = simp append_assoc in
    subst (λ (xs : List ℕ). without_return xs ≡ xs) same (plain_return front c (digits_plain c h) some)

three_fields : (x y z : ℕ) (a b c : List ℕ) → Writes x a → Writes y b → Writes z c → fields_of (three a b c) ≡ a ∷ b ∷ c ∷ []
three_fields x y z a b c ha hb hc =
    let last : fields_of c ≡ c ∷ [] = ap fields_of (sym (append-nil c)) ∙ field_first c [] hc.some hc.all refl in
    field_first a (32 ∷ (b ++ (32 ∷ c))) ha.some ha.all refl
    ∙ ap (λ (fs : List (List ℕ)). a ∷ fs) (fields-blank 32 (b ++ (32 ∷ c)) refl ∙ field_first b (32 ∷ c) hb.some hb.all refl ∙ ap (λ (fs : List (List ℕ)). b ∷ fs) (fields-blank 32 c refl ∙ last))

-- The limits of a drawn list: so many vertices are stated.
pub record HasVertices (limits : TextLimits) (n : ℕ) : Type 0 where
  pub most : limits.max_vertex ≡ 268435455
  pub stated : limits.vertices ≡ Some n
  pub some : 1 ≤ n
  pub few : n ≤ 268435456

good_vertex : (limits : TextLimits) (n s : ℕ) → HasVertices limits n → s < n → vertex_at limits s ≡ Ok s
good_vertex limits n s h below =
    let few = h.few in
    let most = h.most in
    let one : nat_lt 18446744073709551615 s ≡ false = le-ltb 18446744073709551615 s (omega arith) in
    let two : nat_lt limits.max_vertex s ≡ false = le-ltb limits.max_vertex s (omega arith) in
    let known : is_beyond limits.vertices s ≡ false = ap (λ (v : Option ℕ). is_beyond v s) h.stated ∙ lt-leb n s below in
    rw (one, two, known) refl

good_weight : (w : ℕ) → w ≤ 16 → weight_at w ≡ Ok w
good_weight w few =
    let one : nat_lt 18446744073709551615 w ≡ false = le-ltb 18446744073709551615 w (omega arith) in
    let two : nat_lt 4294967295 w ≡ false = le-ltb 4294967295 w (omega arith) in
    rw (one, two) refl

number_good : (n : ℕ) (field : List ℕ) (judge : ℕ → Result ℕ InputWhat) → Writes n field → judge n ≡ Ok n → number_in field judge ≡ Ok n
number_good n field judge h good = cond-true (digits field) _ _ h.all ∙ ap judge h.value ∙ good

-- an edge with its ends among n vertices, and a weight of 1 to 16
record IsDrawn (n : ℕ) (e : Edge) : Type 0 where
  source : e.source.0 < n
  target : e.target.0 < n
  weight : e.weight.0 ≤ 16

abbrev body_of : Edge → List ℕ
body_of e = three (decimal e.source.0) (decimal e.target.0) (decimal e.weight.0)

record IsGoodLine (limits : TextLimits) (line : List ℕ) : Type 0 where
  edge : Option Edge
  good : line_edge limits line ≡ Ok edge

drawn_line : (limits : TextLimits) (n : ℕ) (e : Edge) → HasVertices limits n → IsDrawn n e → IsGoodLine limits (body_of e)
drawn_line limits n e h d =
    let few = h.few in
    let low = d.source in
    let high = d.target in
    let light = d.weight in
    let a = decimal_writes e.source.0 (omega arith) in
    let b = decimal_writes e.target.0 (omega arith) in
    let c = decimal_writes e.weight.0 (omega arith) in
    let fields = three_fields e.source.0 e.target.0 e.weight.0 _ _ _ a b c in
    let source = number_good e.source.0 (decimal e.source.0) (vertex_at limits) a (good_vertex limits n e.source.0 h d.source) in
    let target = number_good e.target.0 (decimal e.target.0) (vertex_at limits) b (good_vertex limits n e.target.0 h d.target) in
    let weight = number_good e.weight.0 (decimal e.weight.0) weight_at c (good_weight e.weight.0 d.weight) in
    let plain_field = no_comment (decimal e.source.0) a.some a.all in
    record {
      edge = Some e;
      good = ap (λ (line : List ℕ). edge_in limits (fields_of line)) (three_whole (decimal e.source.0) (decimal e.target.0) (decimal e.weight.0) c.some c.all) ∙ ap (edge_in limits) fields ∙ rw (plain_field, source, target, weight) refl;
    }

-- all lines are good
abbrev AllGood : TextLimits → List (List ℕ) → Type 0
AllGood limits [] = Unit {0}
AllGood limits (line ∷ lines) = IsGoodLine limits line × AllGood limits lines

front_good : (limits : TextLimits) (xs ys : List (List ℕ)) → AllGood limits (xs ++ ys) → AllGood limits xs
front_good limits [] ys h = tt
front_good limits (x ∷ xs) ys h = (h.0, front_good limits xs ys h.1)

before_faulty : (edges : List Edge) (r : Result (List Edge) TextFault) (fault : TextFault) → all_before edges r ≡ Err fault → r ≡ Err fault
before_faulty edges (Ok others) fault h = absurd (cc)
before_faulty edges (Err why) fault h = h

step_free : (over : Bool) (most : ℕ) (edges : List Edge) (others : List Edge → Result (List Edge) TextFault) (fault : InputFault) → (others edges ≡ Err (Input fault) → ⊥) → line_before (if over then Err (TooManyEdges most) else Ok edges) others ≡ Err (Input fault) → ⊥
step_free true most edges others fault free h = absurd (cc)
step_free false most edges others fault free h = free (before_faulty edges (others edges) (Input fault) h)

lines_free : (limits : TextLimits) (line made : ℕ) (lines : List (List ℕ)) (fault : InputFault) → AllGood limits lines → read_lines limits line made lines ≡ Err (Input fault) → ⊥
lines_free limits line made [] fault good h = absurd (cc)
lines_free limits line made (first ∷ lines) fault good h =
    let edges = edges_of limits.both good.0.edge in
    let others : List Edge → Result (List Edge) TextFault = λ es. read_lines limits (line + 1) (made + length es) lines in
    step_free (nat_lt limits.max_edges (made + length edges)) limits.max_edges edges others fault (lines_free limits (line + 1) (made + length edges) lines fault good.1)
    (sym (ap (λ (r : Result (Option Edge) InputWhat). line_before (line_of limits line made r) others) good.0.good) ∙ h)

counted_good : (limits : TextLimits) (long : Bool) (text : List ℕ) → AllGood limits (lines_of text) → rest_of text ≡ [] → AllGood limits (if long then lines_of (take limits.max_bytes text) else lines_of text ++ last_line (rest_of text))
counted_good limits true text good ended =
    let front = take limits.max_bytes text in
    let cut = ap lines_of (sym (take-append-drop limits.max_bytes text)) ∙ lines-append front (drop limits.max_bytes text) in
    front_good limits (lines_of front) _ (subst (AllGood limits) cut good)
counted_good limits false text good ended =
    subst (AllGood limits) (sym (ap (λ (rest : List ℕ). lines_of text ++ last_line rest) ended ∙ append-nil (lines_of text))) good

text_free : (limits : TextLimits) (long : Bool) (r : Result (List Edge) TextFault) (fault : InputFault) → (r ≡ Err (Input fault) → ⊥) → reading_with limits long r ≡ Err (Input fault) → ⊥
text_free limits long (Err why) fault free h = free (cc)
text_free limits true (Ok edges) fault free h = absurd (cc)
text_free limits false (Ok edges) fault free h = absurd (cc)

edge_drawn : (seed n : ℕ) → 1 ≤ n → IsDrawn n (generated_edge seed n 0)
edge_drawn seed n some =
    let weight : draw_at seed (3 * 0 + 3) % 16 < 16 = mod-lt (draw_at seed (3 * 0 + 3)) (omega arith) in
    record { source = mod-lt (draw_at seed (3 * 0 + 1)) some; target = mod-lt (draw_at seed (3 * 0 + 2)) some; weight = omega arith }

-- Its lines are good, and each has ended.
record IsDrawnText (limits : TextLimits) (text : List ℕ) : Type 0 where
  good : AllGood limits (lines_of text)
  ended : rest_of text ≡ []

text_drawn : (limits : TextLimits) (n k seed : ℕ) → HasVertices limits n → IsDrawnText limits (generated seed n k)
text_drawn limits n zero seed h = subst (IsDrawnText limits) (sym (generated_none seed n)) (record { good = tt; ended = refl })
text_drawn limits n (suc k) seed h =
    let e = generated_edge seed n 0 in
    let body = body_of e in
    let rest = generated (number_at seed 3) n k in
    let drawn = edge_drawn seed n h.some in
    let few = h.few in
    let low = drawn.source in
    let high = drawn.target in
    let light = drawn.weight in
    let a = decimal_writes e.source.0 (omega arith) in
    let b = decimal_writes e.target.0 (omega arith) in
    let c = decimal_writes e.weight.0 (omega arith) in
    let unended = three_open (decimal e.source.0) (decimal e.target.0) (decimal e.weight.0) a.all b.all c.all in
    let whole : edge_line e ++ rest ≡ body ++ 10 ∷ rest = simp append_assoc in
    let others = text_drawn limits n k (number_at seed 3) h in
    subst (IsDrawnText limits) (sym (generated_more seed n (suc k) k (sym (add-one k)) ∙ whole)) (record {
      good = subst (AllGood limits) (sym (lines-ended body rest unended)) (drawn_line limits n e h drawn, others.good);
      ended = rest-ended body rest unended ∙ others.ended;
    })

pub drawn_free : (limits : TextLimits) (seed n k : ℕ) (fault : InputFault) → HasVertices limits n → reading limits (generated seed n k) ≡ Err (Input fault) → ⊥
drawn_free limits seed n k fault h is =
    let text = generated seed n k in
    let drawn = text_drawn limits n k seed h in
    text_free limits (nat_lt limits.max_bytes (length text)) (read_lines limits 0 0 (counted_lines limits text)) fault
    (lines_free limits 0 0 (counted_lines limits text) fault (counted_good limits (nat_lt limits.max_bytes (length text)) text drawn.good drawn.ended)) is
