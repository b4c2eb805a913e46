-- What a reader stands for after more bytes.
use Rattle.std.specs.Prelude.{IfOk, MatchResult}
use Rattle.std.proofs.Common.{◌≡◌, ◌≤◌, ◌<◌, ℕ, ◌+◌, ◌-◌, true, false, List, [], ◌∷◌, ◌++◌, length, take, drop, get_or, suc, Option, Result, Ok, Err, ltb, refl, sym, ◌∙◌, ap, subst, inl, inr, ◌⊎◌, arith}
use Rattle.std.proofs.Math.Seq.{take-add, take-append-add}
use Rattle.std.proofs.lemmas.Bool.{cases_Bool, cond-false, cond-true, le-ltb, lt-ltb}
use Rattle.std.proofs.lemmas.List.{append-nil, append_assoc, drop_more, length-append, take-append-drop, take-take, take_at, take_more}
use Rattle.lumos_base.specs.declared.records.Edge.{Edge}
use Rattle.edge_text.specs.Lines.{last_line, lines_of, rest_of}
use Rattle.edge_text.specs.Parts.{IsOpen}
use Rattle.edge_text.specs.Reader.{HasRead, ReaderState}
use Rattle.edge_text.specs.Reading.{all_before, counted_lines, greatest_end, line_before, line_edge, line_of, listed, read_lines, reading, reading_with}
use Rattle.edge_text.specs.declared.fault.Fed.{Fed}
use Rattle.edge_text.specs.declared.fault.TextLimits.{TextLimits}
use Rattle.edge_text.specs.declared.fault.TextFault.{TextFault}
use Rattle.edge_text.specs.declared.fault.TextFault.TheVariants.{InputTooLong}
use Rattle.edge_text.specs.declared.part.Fields.TheVariants.{Good}
use Rattle.edge_text.specs.declared.part.GoodFields.TheVariants.{Nothing}
use Rattle.edge_text.specs.declared.part.LinePart.TheVariants.{Between}
use Rattle.edge_text.specs.declared.part.OpenLine.{OpenLine}
use Rattle.edge_text.proofs.LineEnds.{lines-longer, lines-one_more, rest-longer, rest-none}
use Rattle.edge_text.proofs.Lists.{read_lines-append}

pub edges_along : (seen : List ℕ) (edges others : List Edge) (reader : ReaderState) → edges ≡ others → HasRead seen edges reader → HasRead seen others reader
edges_along seen edges others reader same read = subst (λ es. HasRead seen es reader) same read

pub text_along : (seen others : List ℕ) (edges : List Edge) (reader : ReaderState) → seen ≡ others → HasRead seen edges reader → HasRead others edges reader
text_along seen others edges reader same read = subst (λ t. HasRead t edges reader) same read

-- bytes that end no line
pub open_read : (seen xs : List ℕ) (edges : List Edge) (reader : ReaderState) (used : ℕ) (line : OpenLine) → HasRead seen edges reader → lines_of xs ≡ [] → used ≡ length xs → reader.bytes + used ≤ reader.limits.max_bytes →
    IsOpen reader.limits line (rest_of seen ++ xs) → HasRead (seen ++ xs) edges (record reader { bytes = reader.bytes + used; line = line })
open_read seen xs edges reader used line read none size room is =
    let lines = lines-longer seen xs none in
    let long = length-append seen xs in
    let was = read.bytes in
    record {
      short = omega arith;
      bytes = omega arith;
      lines = read.lines ∙ ap length (sym lines);
      made = ap (read_lines reader.limits 0 0) lines ∙ read.made;
      count = read.count;
      greatest = read.greatest;
      line = subst (IsOpen reader.limits line) (sym (rest-longer seen xs none)) is;
      fault = read.fault;
    }

-- what the line that ends gives
abbrev pub LineGives : ReaderState → List ℕ → Result (List Edge) TextFault → Type 0
LineGives reader bytes r = line_of reader.limits reader.lines reader.edges (line_edge reader.limits bytes) ≡ r

-- and others behind it, where the lines before it are read
line_read : (seen bytes : List ℕ) (edges : List Edge) (reader : ReaderState) (r : Result (List Edge) TextFault) (others : List (List ℕ)) → LineGives reader bytes r → HasRead seen edges reader →
    read_lines reader.limits 0 0 (lines_of seen ++ bytes ∷ others) ≡ all_before edges (line_before r (λ es. read_lines reader.limits (reader.lines + 1) (reader.edges + length es) others))
line_read seen bytes edges reader r others is read =
    let was = read.lines in
    let had = read.count in
    let l : 0 + length (lines_of seen) ≡ reader.lines = omega arith in
    let m : 0 + length edges ≡ reader.edges = omega arith in
    read_lines-append reader.limits 0 0 (lines_of seen) (bytes ∷ others) edges read.made
    ∙ ap (λ n. all_before edges (read_lines reader.limits n (0 + length edges) (bytes ∷ others))) l
    ∙ ap (λ n. all_before edges (read_lines reader.limits reader.lines n (bytes ∷ others))) m
    ∙ ap (λ f. all_before edges (line_before f (λ es. read_lines reader.limits (reader.lines + 1) (reader.edges + length es) others))) is

-- a good line that ends
pub end_read : (seen xs : List ℕ) (edges made : List Edge) (reader : ReaderState) (used count : ℕ) (greatest : Option ℕ) → HasRead seen edges reader → lines_of xs ≡ [] →
    used ≡ length xs + 1 → reader.bytes + used ≤ reader.limits.max_bytes → LineGives reader (rest_of seen ++ xs) (Ok made) → count ≡ length made → greatest ≡ greatest_end (edges ++ made) →
    HasRead (seen ++ (xs ++ 10 ∷ [])) (edges ++ made) (record reader { bytes = reader.bytes + used; lines = reader.lines + 1; edges = reader.edges + count; greatest = greatest; line = record { part = Between (Good Nothing); returned = false } })
end_read seen xs edges made reader used count greatest read none size room is counted most =
    let long = length-append seen (xs ++ 10 ∷ []) in
    let longer = length-append xs (10 ∷ []) in
    let was = read.bytes in
    let lines = lines-one_more seen xs [] none in
    let more = length-append (lines_of seen) ((rest_of seen ++ xs) ∷ []) in
    let had_lines = read.lines in
    let had = read.count in
    let edges_more = length-append edges made in
    record {
      short = omega arith;
      bytes = omega arith;
      lines = let e = ap length lines in omega arith;
      made = ap (read_lines reader.limits 0 0) lines ∙ line_read seen (rest_of seen ++ xs) edges reader (Ok made) [] is read ∙ ap (λ es. Ok (edges ++ es)) (append-nil made);
      count = omega arith;
      greatest = most;
      line = subst (IsOpen reader.limits (record { part = Between (Good Nothing); returned = false })) (sym (rest-none seen xs none)) (λ more. refl, refl);
      fault = read.fault;
    }

-- a faulty line that ends, among the lines that count
fault_counted : (seen bytes text : List ℕ) (edges : List Edge) (reader : ReaderState) (fault : TextFault) (others : List (List ℕ)) → HasRead seen edges reader → LineGives reader bytes (Err fault) →
    counted_lines reader.limits text ≡ lines_of seen ++ bytes ∷ others → reading reader.limits text ≡ Err fault
fault_counted seen bytes text edges reader fault others read is lines =
    ap (λ ls. reading_with reader.limits (ltb reader.limits.max_bytes (length text)) (read_lines reader.limits 0 0 ls)) lines
    ∙ ap (reading_with reader.limits (ltb reader.limits.max_bytes (length text))) (line_read seen bytes edges reader (Err fault) others is read)

-- whatever comes behind it
fault_at : (seen xs more : List ℕ) (edges : List Edge) (reader : ReaderState) (fault : TextFault) → HasRead seen edges reader → lines_of xs ≡ [] → reader.bytes + length xs < reader.limits.max_bytes →
    LineGives reader (rest_of seen ++ xs) (Err fault) →
    (ltb reader.limits.max_bytes (length (seen ++ (xs ++ 10 ∷ more))) ≡ true) ⊎ (ltb reader.limits.max_bytes (length (seen ++ (xs ++ 10 ∷ more))) ≡ false) →
    reading reader.limits (seen ++ (xs ++ 10 ∷ more)) ≡ Err fault
fault_at seen xs more edges reader fault read none room is (inl long) =
    let was = read.bytes in
    let front = length-append seen xs in
    let size : reader.limits.max_bytes ≡ length (seen ++ xs) + suc (reader.limits.max_bytes - length seen - length xs - 1) = omega arith in
    let text : take reader.limits.max_bytes (seen ++ (xs ++ 10 ∷ more)) ≡ seen ++ (xs ++ 10 ∷ take (reader.limits.max_bytes - length seen - length xs - 1) more) =
    ap (take reader.limits.max_bytes) (sym (append_assoc seen xs (10 ∷ more))) ∙ ap (λ n. take n (seen ++ xs ++ 10 ∷ more)) size
    ∙ take-append-add (seen ++ xs) (10 ∷ more) (suc (reader.limits.max_bytes - length seen - length xs - 1)) ∙ append_assoc seen xs (10 ∷ take (reader.limits.max_bytes - length seen - length xs - 1) more) in
    fault_counted seen (rest_of seen ++ xs) (seen ++ (xs ++ 10 ∷ more)) edges reader fault (lines_of (take (reader.limits.max_bytes - length seen - length xs - 1) more)) read is
    (cond-true (ltb reader.limits.max_bytes (length (seen ++ (xs ++ 10 ∷ more)))) _ _ long ∙ ap lines_of text ∙ lines-one_more seen xs (take (reader.limits.max_bytes - length seen - length xs - 1) more) none)
fault_at seen xs more edges reader fault read none room is (inr short) =
    fault_counted seen (rest_of seen ++ xs) (seen ++ (xs ++ 10 ∷ more)) edges reader fault (lines_of more ++ last_line (rest_of (seen ++ (xs ++ 10 ∷ more)))) read is
    (cond-false (ltb reader.limits.max_bytes (length (seen ++ (xs ++ 10 ∷ more)))) _ _ short
    ∙ ap (λ ls. ls ++ last_line (rest_of (seen ++ (xs ++ 10 ∷ more)))) (lines-one_more seen xs more none)
    ∙ append_assoc (lines_of seen) ((rest_of seen ++ xs) ∷ lines_of more) (last_line (rest_of (seen ++ (xs ++ 10 ∷ more)))))

pub fault_read : (seen xs more : List ℕ) (edges : List Edge) (reader : ReaderState) (fault : TextFault) → HasRead seen edges reader → lines_of xs ≡ [] → reader.bytes + length xs < reader.limits.max_bytes →
    LineGives reader (rest_of seen ++ xs) (Err fault) → reading reader.limits (seen ++ (xs ++ 10 ∷ more)) ≡ Err fault
fault_read seen xs more edges reader fault read none room is =
    fault_at seen xs more edges reader fault read none room is (cases_Bool (ltb reader.limits.max_bytes (length (seen ++ (xs ++ 10 ∷ more)))))

-- a byte too many
pub too_long : (seen more : List ℕ) (edges : List Edge) (reader : ReaderState) → HasRead seen edges reader → reader.bytes ≡ reader.limits.max_bytes → 0 < length more →
    reading reader.limits (seen ++ more) ≡ Err (InputTooLong reader.limits.max_bytes)
too_long seen more edges reader read full some =
    let was = read.bytes in
    let size = length-append seen more in
    let long : ltb reader.limits.max_bytes (length (seen ++ more)) ≡ true = lt-ltb reader.limits.max_bytes (length (seen ++ more)) (omega arith) in
    let lines : counted_lines reader.limits (seen ++ more) ≡ lines_of seen =
    cond-true (ltb reader.limits.max_bytes (length (seen ++ more))) _ _ long ∙ ap lines_of (take_at seen more reader.limits.max_bytes (omega arith)) in
    ap (λ ls. reading_with reader.limits (ltb reader.limits.max_bytes (length (seen ++ more))) (read_lines reader.limits 0 0 ls)) lines
    ∙ ap (reading_with reader.limits (ltb reader.limits.max_bytes (length (seen ++ more)))) read.made
    ∙ ap (λ b. reading_with reader.limits b (Ok edges)) long

-- The end of a text: its lines, and the bytes behind them.
end_reading : (seen : List ℕ) (edges : List Edge) (reader : ReaderState) → HasRead seen edges reader →
    reading reader.limits seen ≡ reading_with reader.limits false (read_lines reader.limits 0 0 (lines_of seen ++ last_line (rest_of seen)))
end_reading seen edges reader read =
    let short = le-ltb reader.limits.max_bytes (length seen) read.short in
    ap (λ ls. reading_with reader.limits (ltb reader.limits.max_bytes (length seen)) (read_lines reader.limits 0 0 ls)) (cond-false (ltb reader.limits.max_bytes (length seen)) _ _ short)
    ∙ ap (λ b. reading_with reader.limits b (read_lines reader.limits 0 0 (lines_of seen ++ last_line (rest_of seen)))) short

line_before-nil : (r : Result (List Edge) TextFault) → line_before r (λ es. Ok []) ≡ r
line_before-nil (Err fault) = refl
line_before-nil (Ok edges) = ap Ok (append-nil edges)

-- what they give, of which a blank line gives nothing
end_lines : (seen rest : List ℕ) (edges : List Edge) (reader : ReaderState) (r : Result (List Edge) TextFault) → HasRead seen edges reader → reader.edges ≤ reader.limits.max_edges → LineGives reader rest r →
    read_lines reader.limits 0 0 (lines_of seen ++ last_line rest) ≡ all_before edges r
end_lines seen [] edges reader r read few is =
    let fits : ltb reader.limits.max_edges (reader.edges + 0) ≡ false = le-ltb reader.limits.max_edges (reader.edges + 0) (omega arith) in
    ap (read_lines reader.limits 0 0) (append-nil (lines_of seen)) ∙ read.made ∙ ap Ok (sym (append-nil edges))
    ∙ ap (all_before edges) (sym (cond-false (ltb reader.limits.max_edges (reader.edges + 0)) _ _ fits) ∙ is)
end_lines seen (byte ∷ bytes) edges reader r read few is =
    line_read seen (byte ∷ bytes) edges reader r [] is read ∙ ap (all_before edges) (line_before-nil r)

pub good_end : (seen : List ℕ) (edges made : List Edge) (reader : ReaderState) → HasRead seen edges reader → reader.edges ≤ reader.limits.max_edges → LineGives reader (rest_of seen) (Ok made) →
    reading reader.limits seen ≡ Ok (listed reader.limits (edges ++ made))
good_end seen edges made reader read few is =
    end_reading seen edges reader read ∙ ap (reading_with reader.limits false) (end_lines seen (rest_of seen) edges reader (Ok made) read few is)

pub faulty_end : (seen : List ℕ) (edges : List Edge) (reader : ReaderState) (fault : TextFault) → HasRead seen edges reader → reader.edges ≤ reader.limits.max_edges → LineGives reader (rest_of seen) (Err fault) →
    reading reader.limits seen ≡ Err fault
faulty_end seen edges reader fault read few is =
    end_reading seen edges reader read ∙ ap (reading_with reader.limits false) (end_lines seen (rest_of seen) edges reader (Err fault) read few is)

-- A line feed in a text: the bytes before it with it,
pub line_taken : (text : List ℕ) (len : ℕ) → len < length text → get_or text len 0 ≡ 10 → take len text ++ 10 ∷ [] ≡ take (len + 1) text
line_taken text len inside is = ap (λ b. take len text ++ b ∷ []) (sym is) ∙ sym (take_more text len 0 inside)

-- and with all others
pub line_left : (text more : List ℕ) (len : ℕ) → len < length text → get_or text len 0 ≡ 10 → take len text ++ 10 ∷ (drop (len + 1) text ++ more) ≡ text ++ more
line_left text more len inside is =
    ap (λ b. take len text ++ b ∷ (drop (len + 1) text ++ more)) (sym is)
    ∙ ap (λ t. take len text ++ (t ++ more)) (sym (drop_more text len 0 inside))
    ∙ sym (append_assoc (take len text) (drop len text) more)
    ∙ ap (λ t. t ++ more) (take-append-drop len text)

-- A line that ended, as a part of the text that it stands in
pub line_done : (seen text : List ℕ) (edges outs : List Edge) (len : ℕ) (limits : TextLimits) (reader : ReaderState) (r : Result Fed TextFault) → len < length text → get_or text len 0 ≡ 10 →
    IfOk r (λ fed. (fed.used ≡ len + 1) × (fed.made ≤ length outs)) →
    MatchResult r (λ fed. HasRead (seen ++ (take len text ++ 10 ∷ [])) (edges ++ take fed.made outs) reader) (λ fault. (more : List ℕ) → reading limits (seen ++ (take len text ++ 10 ∷ more)) ≡ Err fault) →
    MatchResult r (λ fed. HasRead (seen ++ take fed.used text) (edges ++ take fed.made outs) reader) (λ fault. (more : List ℕ) → reading limits (seen ++ (text ++ more)) ≡ Err fault)
line_done seen text edges outs len limits reader (Ok fed) inside ends within h =
    subst (λ t. HasRead (seen ++ t) (edges ++ take fed.made outs) reader) (line_taken text len inside ends ∙ ap (λ n. take n text) (sym within.0)) h
line_done seen text edges outs len limits reader (Err fault) inside ends within h = λ more.
    subst (λ t. reading limits (seen ++ t) ≡ Err fault) (line_left text more len inside ends) (h (drop (len + 1) text ++ more))

-- bytes of a text from a place on: some,
pub part_read : (seen text part : List ℕ) (edges : List Edge) (used n : ℕ) (reader : ReaderState) → part ≡ drop used text → HasRead ((seen ++ take used text) ++ take n part) edges reader → HasRead (seen ++ take (used + n) text) edges reader
part_read seen text part edges used n reader is read =
    subst (λ s. HasRead s edges reader)
    (append_assoc seen (take used text) (take n part) ∙ ap (λ p. seen ++ (take used text ++ take n p)) is ∙ ap (λ t. seen ++ t) (sym (take-add used n text))) read

-- and all
pub part_left : (seen text part more : List ℕ) (used : ℕ) → part ≡ drop used text → (seen ++ take used text) ++ (part ++ more) ≡ seen ++ text ++ more
part_left seen text part more used is =
    append_assoc seen (take used text) (part ++ more)
    ∙ ap (λ p. seen ++ (take used text ++ (p ++ more))) is
    ∙ ap (λ t. seen ++ t) (sym (append_assoc (take used text) (drop used text) more) ∙ ap (λ t. t ++ more) (take-append-drop used text))
    ∙ sym (append_assoc seen text more)

pub other_way : (n m : ℕ) (P : Type 0) → (n ≡ m) ⊎ P → (n ≡ m → ⊥) → P
other_way n m P (inl e) h = absurd (h e)
other_way n m P (inr p) h = p

-- the front of a piece
pub front_taken : (piece front : List ℕ) (used room : ℕ) → front ≡ take room piece → used ≤ room → take used front ≡ take used piece
front_taken piece front used room is within = ap (take used) is ∙ take-take used room piece within

pub front_left : (seen piece front more : List ℕ) (room : ℕ) → front ≡ take room piece → (seen ++ front) ++ (drop room piece ++ more) ≡ seen ++ piece ++ more
front_left seen piece front more room is =
    append_assoc seen front (drop room piece ++ more)
    ∙ ap (λ f. seen ++ (f ++ (drop room piece ++ more))) is
    ∙ ap (λ t. seen ++ t) (sym (append_assoc (take room piece) (drop room piece) more) ∙ ap (λ t. t ++ more) (take-append-drop room piece))
    ∙ sym (append_assoc seen piece more)
