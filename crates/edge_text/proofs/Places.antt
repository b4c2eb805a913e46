-- Where places are free while bytes are taken.
use Rattle.std.specs.Prelude.{IfOk, MatchResult}
use Rattle.std.proofs.Common.{◌≡◌, ◌≤◌, ◌<◌, ℕ, ◌+◌, ◌-◌, List, [], ◌∷◌, ◌++◌, length, take, drop, get_or, Result, Ok, Err, refl, sym, ◌∙◌, ap, subst, inl, inr, ◌⊎◌, arith}
use Rattle.std.proofs.Math.Seq.{take-add}
use Rattle.std.proofs.lemmas.Bool.{cases_lt}
use Rattle.std.proofs.lemmas.List.{append-nil, append_assoc, length-append, length-take-le, take-take, take_more}
use Rattle.lumos_base.specs.declared.records.Edge.{Edge}
use Rattle.edge_text.specs.Lines.{lines_of}
use Rattle.edge_text.specs.Places.{HasPlaces, IsDecided}
use Rattle.edge_text.specs.Reader.{HasRead, ReaderState}
use Rattle.edge_text.specs.Reading.{read_lines, reading}
use Rattle.edge_text.specs.declared.fault.Fed.{Fed}
use Rattle.edge_text.specs.declared.fault.TextFault.{TextFault}
use Rattle.edge_text.specs.declared.fault.TextFault.TheVariants.{InputTooLong}
use Rattle.edge_text.specs.declared.fault.TextLimits.{TextLimits}
use Rattle.edge_text.proofs.LineEnds.{lines-front, lines-longer}
use Rattle.edge_text.proofs.Steps.{line_taken, too_long}

-- nothing is taken yet
pub no_places : (limits : TextLimits) (seen piece : List ℕ) (places : ℕ) → HasPlaces limits seen piece 0 places
no_places limits seen piece places k edges low read = absurd (omega (arith, low))

-- up to an earlier end
pub fewer_places : (limits : TextLimits) (seen piece : List ℕ) (end others places : ℕ) → others ≤ end → HasPlaces limits seen piece end places → HasPlaces limits seen piece others places
fewer_places limits seen piece end others places less h k edges low read = h k edges (omega (arith, low, less)) read

-- a front of a part from a place on, as a front of the piece
front_on : (seen piece part : List ℕ) (used k : ℕ) → part ≡ drop used piece → used ≤ k → seen ++ take k piece ≡ (seen ++ take used piece) ++ take (k - used) part
front_on seen piece part used k is on =
    let cut : k ≡ used + (k - used) = omega (arith, on) in
    ap (λ (n : ℕ). seen ++ take n piece) cut
    ∙ ap (λ t. seen ++ t) (take-add used (k - used) piece ∙ ap (λ p. take used piece ++ take (k - used) p) (sym is))
    ∙ sym (append_assoc seen (take used piece) (take (k - used) part))

-- a line more, which may end
line_at : (limits : TextLimits) (seen piece part : List ℕ) (used len places k : ℕ) (edges others : List Edge) → part ≡ drop used piece → lines_of (take len part) ≡ [] →
    read_lines limits 0 0 (lines_of (seen ++ take used piece)) ≡ Ok edges → length edges + 2 ≤ places → HasPlaces limits seen piece used places → k < used + len + 1 →
    read_lines limits 0 0 (lines_of (seen ++ take k piece)) ≡ Ok others → (k < used) ⊎ (used ≤ k) → length others + 2 ≤ places
line_at limits seen piece part used len places k edges others is none made free h low read (inl before) = h k others before read
line_at limits seen piece part used len places k edges others is none made free h low read (inr on) =
    let m = k - used in
    let cut : len ≡ m + (len - m) = omega (arith, low, on) in
    let whole : take m part ++ take (len - m) (drop m part) ≡ take len part = sym (take-add m (len - m) part) ∙ ap (λ (n : ℕ). take n part) (sym cut) in
    let open_still : lines_of (take m part) ≡ [] = lines-front (take m part) (take (len - m) (drop m part)) (ap lines_of whole ∙ none) in
    let lines : lines_of (seen ++ take k piece) ≡ lines_of (seen ++ take used piece) =
    ap lines_of (front_on seen piece part used k is on) ∙ lines-longer (seen ++ take used piece) (take m part) open_still in
    let same : Ok edges ≡ Ok others = sym made ∙ ap (read_lines limits 0 0) (sym lines) ∙ read in
    let both : edges ≡ others = cc in
    omega (arith, ap length both, free)

pub line_places : (limits : TextLimits) (seen piece part : List ℕ) (used len places : ℕ) (edges : List Edge) → part ≡ drop used piece → lines_of (take len part) ≡ [] →
    read_lines limits 0 0 (lines_of (seen ++ take used piece)) ≡ Ok edges → length edges + 2 ≤ places → HasPlaces limits seen piece used places → HasPlaces limits seen piece (used + len + 1) places
line_places limits seen piece part used len places edges is none made free h k others low read =
    line_at limits seen piece part used len places k edges others is none made free h low read (cases_lt k used)

-- the first line of a text
pub first_places : (limits : TextLimits) (seen text : List ℕ) (len places : ℕ) (edges : List Edge) → lines_of (take len text) ≡ [] →
    read_lines limits 0 0 (lines_of seen) ≡ Ok edges → length edges + 2 ≤ places → HasPlaces limits seen text (len + 1) places
first_places limits seen text len places edges none made free =
    let start : 0 + len + 1 ≡ len + 1 = omega arith in
    subst (λ (n : ℕ). HasPlaces limits seen text n places) start (line_places limits seen text text 0 len places edges refl none (ap (λ t. read_lines limits 0 0 (lines_of t)) (append-nil seen) ∙ made) free (no_places limits seen text places))

-- made edges take no more places than there are
pub room_left : (edges outs : List Edge) (made places : ℕ) → made + 2 ≤ length outs → places ≡ length edges + length outs → length (edges ++ take made outs) + 2 ≤ places
room_left edges outs made places free all = omega (arith, free, all, length-append edges (take made outs), length-take-le made outs (omega (arith, free)))

-- a part from a place on
part_at : (limits : TextLimits) (seen piece part : List ℕ) (used n places k : ℕ) (edges : List Edge) → part ≡ drop used piece → HasPlaces limits seen piece used places → HasPlaces limits (seen ++ take used piece) part n places → k < used + n →
    read_lines limits 0 0 (lines_of (seen ++ take k piece)) ≡ Ok edges → (k < used) ⊎ (used ≤ k) → length edges + 2 ≤ places
part_at limits seen piece part used n places k edges is first second low read (inl before) = first k edges before read
part_at limits seen piece part used n places k edges is first second low read (inr on) =
    second (k - used) edges (omega (arith, low, on)) (ap (λ t. read_lines limits 0 0 (lines_of t)) (sym (front_on seen piece part used k is on)) ∙ read)

pub part_places : (limits others : TextLimits) (seen piece part : List ℕ) (used n places many : ℕ) → others ≡ limits → many ≡ places → part ≡ drop used piece → HasPlaces limits seen piece used places → HasPlaces others (seen ++ take used piece) part n many → HasPlaces limits seen piece (used + n) places
part_places limits others seen piece part used n places many same count is first second k edges low read =
    let as_here = subst (λ l. HasPlaces l (seen ++ take used piece) part n places) same (subst (λ (m : ℕ). HasPlaces others (seen ++ take used piece) part n m) count second) in
    part_at limits seen piece part used n places k edges is first as_here low read (cases_lt k used)

-- a fault that a part decides
pub part_decided : (limits others : TextLimits) (seen piece part : List ℕ) (used places many : ℕ) (fault : TextFault) → others ≡ limits → many ≡ places → part ≡ drop used piece → used ≤ length piece → length part ≡ length piece - used → HasPlaces limits seen piece used places → IsDecided others (seen ++ take used piece) part many fault → IsDecided limits seen piece places fault
part_decided limits others seen piece part used places many fault same count is inside size first d = record {
  end = used + d.end;
  within = omega (arith, d.within, size, inside);
  free = part_places limits others seen piece part used d.end places many same count is first d.free;
  decides = λ more.
      let all : (seen ++ take used piece) ++ (take d.end part ++ more) ≡ seen ++ (take (used + d.end) piece ++ more) =
      append_assoc seen (take used piece) (take d.end part ++ more)
      ∙ ap (λ t. seen ++ t) (sym (append_assoc (take used piece) (take d.end part) more) ∙ ap (λ t. t ++ more) (ap (λ p. take used piece ++ take d.end p) is ∙ sym (take-add used d.end piece))) in
      subst (λ l. reading l (seen ++ (take (used + d.end) piece ++ more)) ≡ Err fault) same (ap (reading others) (sym all) ∙ d.decides more);
}

-- a front of a piece
pub front_places : (limits : TextLimits) (seen piece front : List ℕ) (room end places : ℕ) → front ≡ take room piece → end ≤ room → HasPlaces limits seen front end places → HasPlaces limits seen piece end places
front_places limits seen piece front room end places is within h k edges low read =
    h k edges low (ap (λ t. read_lines limits 0 0 (lines_of (seen ++ t))) (ap (take k) is ∙ take-take k room piece (omega (arith, low, within))) ∙ read)

pub front_decided : (limits : TextLimits) (seen piece front : List ℕ) (room places : ℕ) (fault : TextFault) → front ≡ take room piece → room ≤ length piece → IsDecided limits seen front places fault → IsDecided limits seen piece places fault
front_decided limits seen piece front room places fault is inside d =
    let long : length front ≡ room = ap length is ∙ length-take-le room piece inside in
    let few : d.end ≤ room = omega (arith, d.within, long) in
    let same : take d.end front ≡ take d.end piece = ap (take d.end) is ∙ take-take d.end room piece few in
    record {
      end = d.end;
      within = omega (arith, few, inside);
      free = front_places limits seen piece front room d.end places is few d.free;
      decides = λ more. ap (λ t. reading limits (seen ++ (t ++ more))) (sym same) ∙ d.decides more;
    }

-- a line that ended, or its fault
pub line_decided : (P Q : Fed → Type 0) (limits : TextLimits) (seen text : List ℕ) (len places : ℕ) (r : Result Fed TextFault) → len < length text → get_or text len 0 ≡ 10 → HasPlaces limits seen text (len + 1) places → IfOk r (λ fed. (fed.used ≡ len + 1) × Q fed) →
    MatchResult r P (λ fault. (more : List ℕ) → reading limits (seen ++ (take len text ++ 10 ∷ more)) ≡ Err fault) →
    MatchResult r (λ fed. HasPlaces limits seen text fed.used places) (IsDecided limits seen text places)
line_decided P Q limits seen text len places (Ok fed) inside ends free used h = fewer_places limits seen text (len + 1) fed.used places (omega (arith, used.0)) free
line_decided P Q limits seen text len places (Err fault) inside ends free used h = record {
  end = len + 1;
  within = omega (arith, inside);
  free = free;
  decides = λ more.
      ap (λ t. reading limits (seen ++ t)) (ap (λ t. t ++ more) (sym (line_taken text len inside ends)) ∙ append_assoc (take len text) (10 ∷ []) more) ∙ h more;
}

-- the byte behind the limit
pub long_decided : (seen piece : List ℕ) (edges outs : List Edge) (room made places : ℕ) (limits : TextLimits) (reader : ReaderState) → HasRead (seen ++ take room piece) (edges ++ take made outs) reader → reader.limits ≡ limits → reader.bytes ≡ reader.limits.max_bytes → room < length piece →
    made + 2 ≤ length outs → places ≡ length edges + length outs → HasPlaces limits seen piece room places → IsDecided limits seen piece places (InputTooLong limits.max_bytes)
long_decided seen piece edges outs room made places limits reader read same full some free all before = record {
  end = room + 1;
  within = omega (arith, some);
  free =
      let next : room + 0 + 1 ≡ room + 1 = omega arith in
      subst (λ (n : ℕ). HasPlaces limits seen piece n places) next
      (line_places limits seen piece (drop room piece) room 0 places (edges ++ take made outs) refl refl (subst (λ l. read_lines l 0 0 (lines_of (seen ++ take room piece)) ≡ Ok (edges ++ take made outs)) same read.made) (room_left edges outs made places free all) before);
  decides = λ more.
      let byte = get_or piece room 0 in
      let text : seen ++ (take (room + 1) piece ++ more) ≡ (seen ++ take room piece) ++ (byte ∷ more) =
      ap (λ t. seen ++ (t ++ more)) (take_more piece room 0 some) ∙ ap (λ t. seen ++ t) (append_assoc (take room piece) (byte ∷ []) more) ∙ sym (append_assoc seen (take room piece) (byte ∷ more)) in
      subst (λ l. reading l (seen ++ (take (room + 1) piece ++ more)) ≡ Err (InputTooLong l.max_bytes)) same
      (ap (reading reader.limits) text ∙ too_long (seen ++ take room piece) (byte ∷ more) (edges ++ take made outs) reader read full (omega arith));
}
