-- Runs of plain lines.
use Rattle.std.proofs.Common.{◌≡◌, ◌≤◌, ℕ, ◌+◌, ◌-◌, false, List, [], ◌∷◌, ◌++◌, length, take, drop, Option, Some, None, Ok, ltb, refl, sym, ◌∙◌, ap, subst, arith}
use Rattle.std.proofs.Math.Seq.{take-add}
use Rattle.std.proofs.lemmas.Bool.{cond-false, le-ltb}
use Rattle.std.proofs.lemmas.List.{append_assoc, length-drop, length-take-le}
use Rattle.lumos_base.specs.declared.records.Edge.{Edge}
use Rattle.edge_text.specs.Lines.{rest_of}
use Rattle.edge_text.specs.Parts.{IsOpen}
use Rattle.edge_text.specs.Plain.{IsPlain}
use Rattle.edge_text.specs.Reader.{HasRead, ReaderState, run_state}
use Rattle.edge_text.specs.Reading.{edges_of, greatest_end, line_of}
use Rattle.edge_text.specs.declared.fault.TextLimits.{TextLimits}
use Rattle.edge_text.specs.declared.part.Fields.TheVariants.{Good}
use Rattle.edge_text.specs.declared.part.GoodFields.TheVariants.{Nothing}
use Rattle.edge_text.specs.declared.part.LinePart.TheVariants.{Between}
use Rattle.edge_text.specs.declared.plain.PlainRun.{PlainRun}
use Rattle.edge_text.proofs.PlainLines.{fresh_line}
use Rattle.edge_text.proofs.Steps.{LineGives, edges_along, end_read, line_taken, text_along}

-- a reader at a line's start
pub run_begins : (seen : List ℕ) (edges : List Edge) (reader : ReaderState) (made : ℕ) → reader.line ≡ record { part = Between (Good Nothing); returned = false } → HasRead seen edges reader →
    HasRead seen edges (run_state reader.limits reader.bytes (record { used = 0; made = made; lines = reader.lines; edges = reader.edges; greatest = reader.greatest }))
run_begins seen edges reader made fresh read =
    let bytes = read.bytes in
    record {
      short = read.short;
      bytes = omega arith;
      lines = read.lines;
      made = read.made;
      count = read.count;
      greatest = read.greatest;
      line = subst (λ l. IsOpen reader.limits l (rest_of seen)) fresh read.line;
      fault = refl;
    }

pub run_ends : (seen : List ℕ) (edges : List Edge) (reader : ReaderState) (run : PlainRun) → reader.line ≡ record { part = Between (Good Nothing); returned = false } → reader.fault ≡ None →
    HasRead seen edges (run_state reader.limits reader.bytes run) →
    HasRead seen edges (record reader { bytes = reader.bytes + run.used; lines = run.lines; edges = run.edges; greatest = run.greatest })
run_ends seen edges reader run fresh none read =
    record {
      short = read.short;
      bytes = read.bytes;
      lines = read.lines;
      made = read.made;
      count = read.count;
      greatest = read.greatest;
      line = subst (λ l. IsOpen reader.limits l (rest_of seen)) (sym fresh) read.line;
      fault = none;
    }

-- one plain line more
pub run_more : (limits : TextLimits) (seen text part : List ℕ) (edges outs now : List Edge) (bytes : ℕ) (run : PlainRun) (len made count : ℕ) (edge : Edge) (greatest : Option ℕ) →
    part ≡ drop run.used text → run.used ≤ length text → IsPlain limits part len edge → bytes + length text ≤ limits.max_bytes → run.edges + 2 ≤ limits.max_edges → count ≡ length (edges_of limits.both (Some edge)) → count ≤ 2 →
    greatest ≡ greatest_end (edges ++ take run.made outs ++ edges_of limits.both (Some edge)) → take made now ≡ take run.made outs ++ edges_of limits.both (Some edge) →
    HasRead (seen ++ take run.used text) (edges ++ take run.made outs) (run_state limits bytes run) →
    HasRead (seen ++ take (run.used + len + 1) text) (edges ++ take made now) (run_state limits bytes (record { used = run.used + len + 1; made = made; lines = run.lines + 1; edges = run.edges + count; greatest = greatest }))
run_more limits seen text part edges outs now bytes run len made count edge greatest is within plain room free counted few most put read =
    let inside = plain.inside in
    let long : length part ≡ length text - run.used = ap length is ∙ length-drop run.used text in
    let size : len + 1 ≡ length (take len part) + 1 = let l = length-take-le len part (omega arith) in omega arith in
    let fits : ltb limits.max_edges (run.edges + length (edges_of limits.both (Some edge))) ≡ false = le-ltb limits.max_edges (run.edges + length (edges_of limits.both (Some edge))) (omega arith) in
    let gives : LineGives (run_state limits bytes run) (rest_of (seen ++ take run.used text) ++ take len part) (Ok (edges_of limits.both (Some edge))) =
    ap (line_of limits run.lines run.edges) (fresh_line limits _ (rest_of (seen ++ take run.used text)) part len edge refl read.line plain)
    ∙ cond-false (ltb limits.max_edges (run.edges + length (edges_of limits.both (Some edge)))) _ _ fits in
    let ended = end_read (seen ++ take run.used text) (take len part) (edges ++ take run.made outs) (edges_of limits.both (Some edge)) (run_state limits bytes run) (len + 1) count greatest read
    plain.open_before size (omega arith) gives counted most in
    let used : run.used + (len + 1) ≡ run.used + len + 1 = omega arith in
    let all : seen ++ take run.used text ++ (take len part ++ 10 ∷ []) ≡ seen ++ take (run.used + len + 1) text =
    append_assoc seen (take run.used text) (take len part ++ 10 ∷ [])
    ∙ ap (λ t. seen ++ (take run.used text ++ t)) (line_taken part len plain.inside plain.ends ∙ ap (take (len + 1)) is)
    ∙ ap (λ t. seen ++ t) (sym (take-add run.used (len + 1) text) ∙ ap (λ n. take n text) used) in
    let same : edges ++ take run.made outs ++ edges_of limits.both (Some edge) ≡ edges ++ take made now = append_assoc edges (take run.made outs) (edges_of limits.both (Some edge)) ∙ ap (λ t. edges ++ t) (sym put) in
    let taken : bytes + run.used + (len + 1) ≡ bytes + (run.used + len + 1) = omega arith in
    subst (λ b. HasRead (seen ++ take (run.used + len + 1) text) (edges ++ take made now) (record { limits = limits; bytes = b; lines = run.lines + 1; edges = run.edges + count; greatest = greatest; line = record { part = Between (Good Nothing); returned = false }; fault = None })) taken
    (edges_along (seen ++ take (run.used + len + 1) text) _ _ _ same (text_along _ _ _ _ all ended))
