-- What a reader of a schedule stands for after more bytes.
use Rattle.std.proofs.Common.{◌≡◌, ◌≢◌, ◌<◌, ◌≤◌, ℕ, suc, ◌+◌, ◌-◌, ◌^◌, true, false, eqb, ltb, List, [], ◌∷◌, ◌++◌, length, take, drop, get_or, min, None, Result, Ok, Err, refl, sym, ◌∙◌, ap, subst, inl, inr, ◌⊎◌, arith}
use Rattle.std.proofs.Math.Seq.{take-add}
use Rattle.std.proofs.lemmas.Bool.{cases_Bool, cond-false, cond-true, eqb-true, le-ltb, lt-ltb}
use Rattle.std.proofs.lemmas.List.{append-nil, append_assoc, length-append, take-append-drop}
use Rattle.edge_text.specs.Lines.{last_line, lines_of, onto_first, rest_of}
use Rattle.edge_text.proofs.LineEnds.{lines-append, lines-both, lines-ended, lines-longer, lines-rest, lines-unended, rest-append, rest-ended, rest-longer, rest-whole}
use Rattle.edge_text.proofs.Steps.{line_taken}
use Rattle.flight_core.specs.Schedule.{Found, behind_lines, line_then, read_lines, schedule, schedule_with, told, too_long}
use Rattle.flight_core.specs.ScheduleLine.{said_by}
use Rattle.flight_core.specs.ScheduleRead.{HasFault, HasRead, HasStopped, IsEnded, IsFaultOf, IsWithin, ScheduleState, StopsAt, StopsIn}
use Rattle.flight_core.specs.declared.event.Event.{Event}
use Rattle.flight_core.specs.declared.said.Said.TheVariants.{Does, Edges, Unclear}
use Rattle.flight_core.specs.declared.schedule.ScheduleFault.{ScheduleFault}
use Rattle.flight_core.specs.declared.schedule.ScheduleFault.TheVariants.{Bad, Ended, TooManyEvents}

-- the lines of a text, with its last as it counts
abbrev lines_with : (List ℕ → List (List ℕ)) → List ℕ → List (List ℕ)
lines_with last text = lines_of text ++ last (rest_of text)

abbrev pub whole : List ℕ → List (List ℕ)
whole text = lines_with last_line text

with-append : (last : List ℕ → List (List ℕ)) (seen more : List ℕ) → lines_with last (seen ++ more) ≡ lines_of seen ++ lines_with last (rest_of seen ++ more)
with-append last seen more =
    ap (λ ls. ls ++ last (rest_of (seen ++ more))) (lines-append seen more)
    ∙ ap (λ r. lines_of seen ++ lines_of (rest_of seen ++ more) ++ last r) (rest-append seen more)
    ∙ append_assoc (lines_of seen) (lines_of (rest_of seen ++ more)) (last (rest_of (rest_of seen ++ more)))

with-ended : (last : List ℕ → List (List ℕ)) (line more : List ℕ) → lines_of line ≡ [] → lines_with last (line ++ 10 ∷ more) ≡ line ∷ lines_with last more
with-ended last line more unended =
    ap (λ ls. ls ++ last (rest_of (line ++ 10 ∷ more))) (lines-ended line more unended)
    ∙ ap (λ r. line ∷ (lines_of more ++ last r)) (rest-ended line more unended)

last_some : (line : List ℕ) → 0 < length line → last_line line ≡ line ∷ []
last_some [] some = absurd (omega arith)
last_some (byte ∷ bytes) some = refl

-- a long line counts, whether its end has come or not
abbrev Counts : (List ℕ → List (List ℕ)) → Type 0
Counts last = (line : List ℕ) → 128 < length line → last line ≡ line ∷ []

last_counts : Counts last_line
last_counts line long = last_some line (omega arith)

long_counts : Counts too_long
long_counts line long = cond-true (ltb 128 (length line)) _ _ (lt-ltb 128 (length line) long)

-- the line that these bytes begin, whatever comes behind
record HasFirst (last : List ℕ → List (List ℕ)) (line more : List ℕ) : Type 0 where
  first : List ℕ
  others : List (List ℕ)
  is : lines_with last (line ++ more) ≡ (line ++ first) ∷ others

first_at : (last : List ℕ → List (List ℕ)) (line more : List ℕ) (byte : ℕ) → lines_of line ≡ [] → (eqb byte 10 ≡ true) ⊎ (eqb byte 10 ≡ false) → (eqb byte 10 ≡ false → HasFirst last (line ++ byte ∷ []) more) → HasFirst last line (byte ∷ more)
first_at last line more byte unended (inl e) next = record {
  first = [];
  others = lines_with last more;
  is = ap (λ b. lines_with last (line ++ b ∷ more)) (eqb-true byte 10 e) ∙ with-ended last line more unended ∙ ap (λ l. l ∷ lines_with last more) (sym (append-nil line));
}
first_at last line more byte unended (inr e) next =
    let f = next e in
    record {
      first = byte ∷ f.first;
      others = f.others;
      is = ap (lines_with last) (sym (append_assoc line (byte ∷ []) more)) ∙ f.is ∙ ap (λ l. l ∷ f.others) (append_assoc line (byte ∷ []) f.first);
    }

first_open : (last : List ℕ → List (List ℕ)) (line : List ℕ) → Counts last → lines_of line ≡ [] → 128 < length line → lines_with last line ≡ line ∷ []
first_open last line counts unended long = ap (λ ls. ls ++ last (rest_of line)) unended ∙ ap last (rest-whole line unended) ∙ counts line long

first_line : (last : List ℕ → List (List ℕ)) (line more : List ℕ) → Counts last → lines_of line ≡ [] → 128 < length line → HasFirst last line more
first_line last line [] counts unended long = record { first = []; others = []; is = subst (λ l. lines_with last l ≡ l ∷ []) (sym (append-nil line)) (first_open last line counts unended long) }
first_line last line (byte ∷ more) counts unended long =
    let longer = length-append line (byte ∷ []) in
    first_at last line more byte unended (cases_Bool (eqb byte 10)) (λ e. first_line last (line ++ byte ∷ []) more counts (lines-unended line byte unended e) (omega arith))

-- the bytes behind the lines of a text and one more
onto_count : (x : ℕ) (runs : List (List ℕ)) → length (onto_first x runs) ≡ length runs
onto_count x [] = refl
onto_count x (run ∷ runs) = refl

behind_at : (x : ℕ) (s more : List ℕ) → behind_lines (suc (length (lines_of s))) (s ++ more) ≡ behind_lines 1 more → (eqb x 10 ≡ true) ⊎ (eqb x 10 ≡ false) →
    behind_lines (suc (length (lines_of (x ∷ s)))) (x ∷ s ++ more) ≡ behind_lines 1 more
behind_at x s more h (inl e) =
    ap (λ ls. behind_lines (suc (length ls)) (x ∷ s ++ more)) (cond-true (eqb x 10) _ _ e) ∙ cond-true (eqb x 10) _ _ e ∙ h
behind_at x s more h (inr e) =
    ap (λ n. behind_lines (suc n) (x ∷ s ++ more)) (ap length (cond-false (eqb x 10) _ _ e) ∙ onto_count x (lines_of s)) ∙ cond-false (eqb x 10) _ _ e ∙ h

behind_more : (s more : List ℕ) → behind_lines (suc (length (lines_of s))) (s ++ more) ≡ behind_lines 1 more
behind_more [] more = refl
behind_more (x ∷ s) more = behind_at x s more (behind_more s more) (cases_Bool (eqb x 10))

-- what a text gives that begins with bytes that were read
within_reads : (last : List ℕ → List (List ℕ)) (seen more : List ℕ) (reader : ScheduleState) → IsWithin seen reader →
    read_lines 0 [] (lines_with last (seen ++ more)) ≡ read_lines (length (lines_of seen)) reader.events (lines_with last (rest_of seen ++ more))
within_reads last seen more reader within = ap (read_lines 0 []) (with-append last seen more) ∙ within.events (lines_with last (rest_of seen ++ more))

-- and where their last line ends
ended_reads : (last : List ℕ → List (List ℕ)) (seen more : List ℕ) (reader : ScheduleState) → IsWithin seen reader →
    read_lines 0 [] (lines_with last (seen ++ 10 ∷ more)) ≡ line_then (said_by reader.line) (length (lines_of seen)) reader.events (λ made. read_lines (suc (length (lines_of seen))) made (lines_with last more))
ended_reads last seen more reader within =
    within_reads last seen (10 ∷ more) reader within
    ∙ ap (read_lines (length (lines_of seen)) reader.events) (with-ended last (rest_of seen) more (lines-rest seen))
    ∙ ap (λ l. line_then (said_by l) (length (lines_of seen)) reader.events (λ made. read_lines (suc (length (lines_of seen))) made (lines_with last more))) (sym within.line)

-- the number of the next line
pub told_next : (seen : List ℕ) (reader : ScheduleState) (number : ℕ) → IsWithin seen reader → number ≡ min (reader.lines + 1) (2 ^ 64 - 1) → number ≡ told (suc (length (lines_of seen)))
told_next seen reader number within is = let was = within.lines in omega arith

one_more : (seen : List ℕ) → lines_of (seen ++ 10 ∷ []) ≡ lines_of seen ++ rest_of seen ∷ []
one_more seen = lines-append seen (10 ∷ []) ∙ ap (λ ls. lines_of seen ++ ls) (lines-ended (rest_of seen) [] (lines-rest seen))

none_left : (seen : List ℕ) → rest_of (seen ++ 10 ∷ []) ≡ []
none_left seen = rest-append seen (10 ∷ []) ∙ rest-ended (rest_of seen) [] (lines-rest seen)

-- a line that ends, and others are read behind it
pub line_read : (seen : List ℕ) (reader next : ScheduleState) → IsWithin seen reader → next.lines ≡ min (reader.lines + 1) (2 ^ 64 - 1) → next.line ≡ [] →
    ((others : List Event → Result Found ScheduleFault) → line_then (said_by reader.line) (length (lines_of seen)) reader.events others ≡ others next.events) → IsWithin (seen ++ 10 ∷ []) next
line_read seen reader next within number empty says =
    let count : length (lines_of (seen ++ 10 ∷ [])) ≡ suc (length (lines_of seen)) = let more = length-append (lines_of seen) (rest_of seen ∷ []) in ap length (one_more seen) ∙ more ∙ omega arith in
    let none = ap length (none_left seen) in
    record {
      lines = told_next seen reader next.lines within number ∙ ap told (sym count);
      events = λ others.
          ap (λ ls. read_lines 0 [] (ls ++ others)) (one_more seen)
          ∙ ap (read_lines 0 []) (append_assoc (lines_of seen) (rest_of seen ∷ []) others)
          ∙ within.events (rest_of seen ∷ others)
          ∙ ap (λ l. line_then (said_by l) (length (lines_of seen)) reader.events (λ made. read_lines (suc (length (lines_of seen))) made others)) (sym within.line)
          ∙ says (λ made. read_lines (suc (length (lines_of seen))) made others)
          ∙ ap (λ n. read_lines n next.events others) (sym count);
      line = empty ∙ sym (none_left seen);
      short = omega arith;
    }

-- one that is the line `edges`
edges_whole : (seen more : List ℕ) (reader : ScheduleState) → IsWithin seen reader → said_by reader.line ≡ Edges → schedule ((seen ++ 10 ∷ []) ++ more) ≡ Ok (record { events = reader.events; edges = more })
edges_whole seen more reader within is =
    ap schedule (append_assoc seen (10 ∷ []) more)
    ∙ ap (schedule_with (seen ++ 10 ∷ more)) (ended_reads last_line seen more reader within
    ∙ ap (λ says. line_then says (length (lines_of seen)) reader.events (λ made. read_lines (suc (length (lines_of seen))) made (whole more))) is)
    ∙ ap (λ t. Ok (record { events = reader.events; edges = t })) (behind_more seen (10 ∷ more))

pub edges_read : (seen : List ℕ) (reader : ScheduleState) → IsWithin seen reader → said_by reader.line ≡ Edges → IsEnded (seen ++ 10 ∷ []) reader.events
edges_read seen reader within is = record {
  lines = suc (length (lines_of seen));
  decided = λ others.
      ap (λ ls. read_lines 0 [] (ls ++ others)) (one_more seen)
      ∙ ap (read_lines 0 []) (append_assoc (lines_of seen) (rest_of seen ∷ []) others)
      ∙ within.events (rest_of seen ∷ others)
      ∙ ap (λ l. line_then (said_by l) (length (lines_of seen)) reader.events (λ made. read_lines (suc (length (lines_of seen))) made others)) (sym within.line)
      ∙ ap (λ says. line_then says (length (lines_of seen)) reader.events (λ made. read_lines (suc (length (lines_of seen))) made others)) is;
  whole = λ more. edges_whole seen more reader within is;
}

-- and one that has a fault
fault_lines : (last : List ℕ → List (List ℕ)) (seen more : List ℕ) (reader : ScheduleState) (fault : ScheduleFault) → IsWithin seen reader →
    ((others : List Event → Result Found ScheduleFault) → line_then (said_by reader.line) (length (lines_of seen)) reader.events others ≡ Err fault) → read_lines 0 [] (lines_with last ((seen ++ 10 ∷ []) ++ more)) ≡ Err fault
fault_lines last seen more reader fault within says =
    ap (λ t. read_lines 0 [] (lines_with last t)) (append_assoc seen (10 ∷ []) more)
    ∙ ended_reads last seen more reader within ∙ says (λ made. read_lines (suc (length (lines_of seen))) made (lines_with last more))

pub fault_read : (seen more : List ℕ) (reader : ScheduleState) (fault : ScheduleFault) → IsWithin seen reader →
    ((others : List Event → Result Found ScheduleFault) → line_then (said_by reader.line) (length (lines_of seen)) reader.events others ≡ Err fault) → ((line : ℕ) → fault ≢ Ended line) → HasFault ((seen ++ 10 ∷ []) ++ more) fault
fault_read seen more reader fault within says going = record {
  decided = fault_lines too_long seen more reader fault within says;
  whole = ap (schedule_with ((seen ++ 10 ∷ []) ++ more)) (fault_lines last_line seen more reader fault within says);
  going = going;
}

-- bytes that end no line,
pub open_read : (seen bytes : List ℕ) (reader next : ScheduleState) → IsWithin seen reader → lines_of bytes ≡ [] → next.lines ≡ reader.lines → next.events ≡ reader.events → next.line ≡ reader.line ++ bytes → length next.line ≤ 128 →
    IsWithin (seen ++ bytes) next
open_read seen bytes reader next within unended lines events line short =
    let same = lines-longer seen bytes unended in
    let longer : next.line ≡ rest_of (seen ++ bytes) = line ∙ ap (λ l. l ++ bytes) within.line ∙ sym (rest-longer seen bytes unended) in
    let size = ap length longer in
    record {
      lines = lines ∙ within.lines ∙ ap (λ ls. told (length ls)) (sym same);
      events = λ others. ap (λ ls. read_lines 0 [] (ls ++ others)) same ∙ within.events others ∙ ap (λ es. read_lines (length (lines_of seen)) es others) (sym events) ∙ ap (λ ls. read_lines (length ls) next.events others) (sym same);
      line = longer;
      short = omega arith;
    }

-- and too many of them
long_said : (line : List ℕ) → 128 < length line → said_by line ≡ Unclear
long_said line long = cond-true (ltb 128 (length line)) _ _ (lt-ltb 128 (length line) long)

long_lines : (last : List ℕ → List (List ℕ)) (seen bytes more : List ℕ) (reader : ScheduleState) → Counts last → IsWithin seen reader → lines_of bytes ≡ [] → 128 < length reader.line + length bytes →
    read_lines 0 [] (lines_with last ((seen ++ bytes) ++ more)) ≡ Err (Bad (told (suc (length (lines_of seen)))))
long_lines last seen bytes more reader counts within unended long =
    let size = ap length within.line in
    let all = length-append (rest_of seen) bytes in
    let f = first_line last (rest_of seen ++ bytes) more counts (lines-both (rest_of seen) bytes (lines-rest seen) unended) (omega arith) in
    let larger = length-append (rest_of seen ++ bytes) f.first in
    ap (λ t. read_lines 0 [] (lines_with last t)) (append_assoc seen bytes more)
    ∙ within_reads last seen (bytes ++ more) reader within
    ∙ ap (read_lines (length (lines_of seen)) reader.events) (ap (lines_with last) (sym (append_assoc (rest_of seen) bytes more)) ∙ f.is)
    ∙ ap (λ says. line_then says (length (lines_of seen)) reader.events (λ made. read_lines (suc (length (lines_of seen))) made f.others)) (long_said (rest_of seen ++ bytes ++ f.first) (omega arith))

pub long_read : (seen bytes more : List ℕ) (reader : ScheduleState) → IsWithin seen reader → lines_of bytes ≡ [] → 128 < length reader.line + length bytes → HasFault ((seen ++ bytes) ++ more) (Bad (told (suc (length (lines_of seen)))))
long_read seen bytes more reader within unended long = record {
  decided = long_lines too_long seen bytes more reader long_counts within unended long;
  whole = ap (schedule_with ((seen ++ bytes) ++ more)) (long_lines last_line seen bytes more reader last_counts within unended long);
  going = λ line same. cc;
}

-- the end of a text: what its last line gives,
pub end_read : (seen : List ℕ) (reader : ScheduleState) (r : Result Found ScheduleFault) → IsWithin seen reader → read_lines (length (lines_of seen)) reader.events (last_line reader.line) ≡ r → schedule seen ≡ schedule_with seen r
end_read seen reader r within is =
    ap (schedule_with seen) (within.events (last_line (rest_of seen)) ∙ ap (λ l. read_lines (length (lines_of seen)) reader.events (last_line l)) (sym within.line) ∙ is)

-- where it says something
pub last_read : (line : List ℕ) (lines : ℕ) (events : List Event) → 0 < length line → read_lines lines events (last_line line) ≡ line_then (said_by line) lines events (λ made. Err (Ended (told (suc lines))))
last_read [] lines events some = absurd (omega arith)
last_read (byte ∷ bytes) lines events some = refl

-- and no bytes behind it
pub none_behind : (seen : List ℕ) → behind_lines (suc (length (lines_of seen))) seen ≡ []
none_behind seen = ap (behind_lines (suc (length (lines_of seen)))) (sym (append-nil seen)) ∙ behind_more seen []

-- the line `edges` hasn't come yet
pub still_within : (seen : List ℕ) (next : ScheduleState) → next.fault ≡ None → next.complete ≡ false → IsWithin seen next → HasRead seen next
still_within seen next none going within = record { fault = none; within = λ going. within; complete = λ over. absurd (let p : true ≡ false = sym over ∙ going in cc) }

-- an event behind others, where there are few enough
pub event_said : (event : Event) (lines : ℕ) (events : List Event) (others : List Event → Result Found ScheduleFault) → length events < 100000 → line_then (Does event) lines events others ≡ others (events ++ event ∷ [])
event_said event lines events others few = cond-true (ltb (length events) 100000) _ _ (lt-ltb (length events) 100000 few)

pub events_full : (event : Event) (lines : ℕ) (events : List Event) (others : List Event → Result Found ScheduleFault) → 100000 ≤ length events → line_then (Does event) lines events others ≡ Err (TooManyEvents 100000)
events_full event lines events others many = cond-false (ltb (length events) 100000) _ _ (le-ltb (length events) 100000 many)

-- a fault stands whatever comes behind
fault_longer : (seen more : List ℕ) (fault : ScheduleFault) → IsFaultOf seen fault → IsFaultOf (seen ++ more) fault
fault_longer seen more fault (inl none) = inl none
fault_longer seen more fault (inr told) = inr (λ after. subst (λ t. HasFault t fault) (sym (append_assoc seen more after)) (told (more ++ after)))

-- also behind the front of a text
pub fault_in : (seen text : List ℕ) (len : ℕ) (fault : ScheduleFault) → IsFaultOf (seen ++ take len text) fault → IsFaultOf (seen ++ text) fault
fault_in seen text len fault h =
    subst (λ t. IsFaultOf t fault) (append_assoc seen (take len text) (drop len text) ∙ ap (λ t. seen ++ t) (take-append-drop len text))
    (fault_longer (seen ++ take len text) (drop len text) fault h)

-- the front of a text up to and with a line feed
pub line_front : (seen text : List ℕ) (len : ℕ) → len < length text → get_or text len 0 ≡ 10 → (seen ++ take len text) ++ 10 ∷ [] ≡ seen ++ take (len + 1) text
line_front seen text len inside ends = append_assoc seen (take len text) (10 ∷ []) ∙ ap (λ t. seen ++ t) (line_taken text len inside ends)

-- bytes behind the front of a text: some,
pub part_taken : (seen text part : List ℕ) (used n : ℕ) → part ≡ drop used text → (seen ++ take used text) ++ take n part ≡ seen ++ take (used + n) text
part_taken seen text part used n is =
    append_assoc seen (take used text) (take n part) ∙ ap (λ p. seen ++ (take used text ++ take n p)) is ∙ ap (λ t. seen ++ t) (sym (take-add used n text))

-- and all
pub part_whole : (seen text part : List ℕ) (used : ℕ) → part ≡ drop used text → (seen ++ take used text) ++ part ≡ seen ++ text
part_whole seen text part used is =
    append_assoc seen (take used text) part ∙ ap (λ p. seen ++ (take used text ++ p)) is ∙ ap (λ t. seen ++ t) (take-append-drop used text)

-- where a reader is stopped: at the end of its line,
pub stopped_end : (seen : List ℕ) (reader : ScheduleState) (fault : ScheduleFault) → IsWithin seen reader → StopsAt reader.line (length (lines_of seen)) reader.events fault → StopsIn seen (seen ++ 10 ∷ []) reader.events fault
stopped_end seen reader fault within stops = λ more. record {
  front = lines_of seen;
  line = rest_of seen;
  behind = lines_with too_long more;
  lines = ap (lines_with too_long) (append_assoc seen (10 ∷ []) more) ∙ with-append too_long seen (10 ∷ more) ∙ ap (λ ls. lines_of seen ++ ls) (with-ended too_long (rest_of seen) more (lines-rest seen));
  later = omega arith;
  good = within.events;
  stops = subst (λ l. StopsAt l (length (lines_of seen)) reader.events fault) within.line stops;
}

-- or where it is too long
pub stopped_long : (seen bytes : List ℕ) (reader : ScheduleState) → IsWithin seen reader → lines_of bytes ≡ [] → 128 < length reader.line + length bytes → StopsIn seen (seen ++ bytes) reader.events (Bad (told (suc (length (lines_of seen)))))
stopped_long seen bytes reader within unended long = λ more.
    let size = ap length within.line in
    let all = length-append (rest_of seen) bytes in
    let f = first_line too_long (rest_of seen ++ bytes) more long_counts (lines-both (rest_of seen) bytes (lines-rest seen) unended) (omega arith) in
    let larger = length-append (rest_of seen ++ bytes) f.first in
    record {
      front = lines_of seen;
      line = (rest_of seen ++ bytes) ++ f.first;
      behind = f.others;
      lines =
          ap (lines_with too_long) (append_assoc seen bytes more)
          ∙ with-append too_long seen (bytes ++ more)
          ∙ ap (λ ls. lines_of seen ++ ls) (ap (lines_with too_long) (sym (append_assoc (rest_of seen) bytes more)) ∙ f.is);
      later = omega arith;
      good = within.events;
      stops = (long_said ((rest_of seen ++ bytes) ++ f.first) (omega arith), refl);
    }

-- also in a longer text,
pub stopped_in : (seen text : List ℕ) (len : ℕ) (events : List Event) (fault : ScheduleFault) → StopsIn seen (seen ++ take len text) events fault → StopsIn seen (seen ++ text) events fault
stopped_in seen text len events fault h = λ more.
    subst (λ t. HasStopped seen t events fault)
    (sym (append_assoc (seen ++ take len text) (drop len text) more) ∙ ap (λ t. t ++ more) (append_assoc seen (take len text) (drop len text) ∙ ap (λ t. seen ++ t) (take-append-drop len text)))
    (h (drop len text ++ more))

-- and behind fewer bytes
pub stopped_behind : (seen part text : List ℕ) (events : List Event) (fault : ScheduleFault) → StopsIn (seen ++ part) text events fault → StopsIn seen text events fault
stopped_behind seen part text events fault h = λ more.
    let s = h more in
    let lines = ap length (lines-append seen part) ∙ length-append (lines_of seen) (lines_of (rest_of seen ++ part)) in
    let later = s.later in
    record { front = s.front; line = s.line; behind = s.behind; lines = s.lines; later = omega arith; good = s.good; stops = s.stops }
