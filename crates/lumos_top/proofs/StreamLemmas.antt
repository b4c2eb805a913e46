-- How a schedule of so many bytes at most is read.
use Rattle.std.proofs.Common.{◌≡◌, ◌≢◌, ◌<◌, ◌≤◌, ◌⊎◌, inl, inr, ℕ, ◌+◌, ◌-◌, Bool, true, false, ltb, List, [], ◌++◌, drop, take, length, Result, Ok, Err, refl, sym, ap, subst, ◌∙◌, arith}
use Rattle.std.proofs.Math.Seq.{take-append-add, take-append_seam, take-length}
use Rattle.std.proofs.lemmas.Bool.{cases_Bool, cond-false, cond-true, le-ltb, lt-ltb, ltb-false, ltb-true}
use Rattle.std.proofs.lemmas.List.{append_assoc, length-append, length-drop, length-take-le, take-append-drop, take-append-le}
use Rattle.edge_text.specs.Lines.{last_line, lines_of, rest_of}
use Rattle.edge_text.proofs.LineEnds.{lines-append}
use Rattle.edge_text.specs.declared.fault.TextFault.TheVariants.{InputTooLong}
use Rattle.flight_core.specs.Schedule.{Schedule, decided_lines, read_lines, schedule, schedule_with, too_long}
use Rattle.flight_core.specs.ScheduleRead.{HasFault, HasRead, IsEnded, IsFaultOf, IsWithin, ScheduleState}
use Rattle.flight_core.specs.declared.event.Event.{Event}
use Rattle.flight_core.specs.declared.schedule.ScheduleFault.{ScheduleFault}
use Rattle.flight_core.specs.declared.schedule.ScheduleFault.TheVariants.{Bad, Ended, TooManyEvents, NoMemory}
use Rattle.lumos_top.specs.Replays.{cut_stop, or_stop, schedule_stop, schedule_within}
use Rattle.lumos_top.specs.Streaming.{IsBefore, IsFurther, StopsBy}
use Rattle.lumos_top.specs.declared.stream.StreamStop.{StreamStop}
use Rattle.lumos_top.specs.declared.stream.StreamStop.TheVariants as stop

-- a text that isn't too long, and one that is
within_short : (most : ℕ) (text : List ℕ) → length text ≤ most → schedule_within most text ≡ or_stop schedule_stop (schedule text)
within_short most text short = cond-false (ltb most (length text)) _ _ (le-ltb most (length text) short)

within_long : (most : ℕ) (text : List ℕ) → most < length text → schedule_within most text ≡ or_stop (cut_stop most) (schedule_with text (read_lines 0 [] (decided_lines (take most text))))
within_long most text long = cond-true (ltb most (length text)) _ _ (lt-ltb most (length text) long)

-- the front of a text goes on behind what was seen
front_is : (most : ℕ) (seen more : List ℕ) → length seen ≤ most → take most (seen ++ more) ≡ seen ++ take (most - length seen) more
front_is most seen more short =
    let e : most ≡ length seen + (most - length seen) = omega arith in
    ap (λ (n : ℕ). take n (seen ++ more)) e ∙ take-append-add seen more (most - length seen)

-- a schedule that ended, before any other lines
ended_lines : (seen more : List ℕ) (events : List Event) (tail : List (List ℕ)) (ended : IsEnded seen events) → read_lines 0 [] (lines_of (seen ++ more) ++ tail) ≡ Ok (record { events = events; lines = ended.lines })
ended_lines seen more events tail ended =
    ap (λ ls. read_lines 0 [] (ls ++ tail)) (lines-append seen more)
    ∙ ap (read_lines 0 []) (append_assoc (lines_of seen) (lines_of (rest_of seen ++ more)) tail)
    ∙ ended.decided (lines_of (rest_of seen ++ more) ++ tail)

ended_by : (most : ℕ) (seen more : List ℕ) (events : List Event) → IsEnded seen events → length seen ≤ most → (ltb most (length (seen ++ more)) ≡ true) ⊎ (ltb most (length (seen ++ more)) ≡ false) → schedule_within most (seen ++ more) ≡ Ok (record { events = events; edges = more })
ended_by most seen more events ended short (inr e) =
    within_short most (seen ++ more) (ltb-false most (length (seen ++ more)) e) ∙ ap (or_stop schedule_stop) (ended.whole more)
ended_by most seen more events ended short (inl e) =
    let text = seen ++ more in
    let front = take (most - length seen) more in
    let cut = ap decided_lines (front_is most seen more short) in
    let whole = sym (ap (schedule_with text) (ended_lines seen more events (last_line (rest_of text)) ended)) ∙ ended.whole more in
    within_long most text (ltb-true most (length text) e)
    ∙ ap (λ ls. or_stop (cut_stop most) (schedule_with text (read_lines 0 [] ls))) cut
    ∙ ap (λ r. or_stop (cut_stop most) (schedule_with text r)) (ended_lines seen front events (too_long (rest_of (seen ++ front))) ended)
    ∙ ap (or_stop (cut_stop most)) whole

pub ended_within : (most : ℕ) (seen more : List ℕ) (events : List Event) → IsEnded seen events → length seen ≤ most → schedule_within most (seen ++ more) ≡ Ok (record { events = events; edges = more })
ended_within most seen more events ended short = ended_by most seen more events ended short (cases_Bool (ltb most (length (seen ++ more))))

same_stop : (most : ℕ) (fault : ScheduleFault) → ((line : ℕ) → fault ≢ Ended line) → cut_stop most fault ≡ schedule_stop fault
same_stop most (Bad line) going = refl
same_stop most (Ended line) going = absurd (going line refl)
same_stop most (TooManyEvents limit) going = refl
same_stop most NoMemory going = refl

fault_by : (most : ℕ) (seen more : List ℕ) (fault : ScheduleFault) → ((behind : List ℕ) → HasFault (seen ++ behind) fault) → length seen ≤ most → (ltb most (length (seen ++ more)) ≡ true) ⊎ (ltb most (length (seen ++ more)) ≡ false) → schedule_within most (seen ++ more) ≡ Err (schedule_stop fault)
fault_by most seen more fault has short (inr e) =
    within_short most (seen ++ more) (ltb-false most (length (seen ++ more)) e) ∙ ap (or_stop schedule_stop) (has more).whole
fault_by most seen more fault has short (inl e) =
    let text = seen ++ more in
    within_long most text (ltb-true most (length text) e)
    ∙ ap (λ t. or_stop (cut_stop most) (schedule_with text (read_lines 0 [] (decided_lines t)))) (front_is most seen more short)
    ∙ ap (λ r. or_stop (cut_stop most) (schedule_with text r)) (has (take (most - length seen) more)).decided
    ∙ ap Err (same_stop most fault (has more).going)

-- a fault in mid-stream
fault_within : (most : ℕ) (seen more : List ℕ) (fault : ScheduleFault) → ((behind : List ℕ) → HasFault (seen ++ behind) fault) → length seen ≤ most → schedule_within most (seen ++ more) ≡ Err (schedule_stop fault)
fault_within most seen more fault has short = fault_by most seen more fault has short (cases_Bool (ltb most (length (seen ++ more))))

pub stops_by : {A : Type 0} (r : Result A StreamStop) (fault : ScheduleFault) → r ≡ Err (schedule_stop fault) → StopsBy r (schedule_stop fault)
stops_by r (Bad line) is = is
stops_by r (Ended line) is = is
stops_by r (TooManyEvents limit) is = is
stops_by r NoMemory is = tt

fault_stops : (most : ℕ) (seen more : List ℕ) (fault : ScheduleFault) → IsFaultOf seen fault → length seen ≤ most → StopsBy (schedule_within most (seen ++ more)) (schedule_stop fault)
fault_stops most seen more fault (inl none) short = subst (λ f. StopsBy (schedule_within most (seen ++ more)) (schedule_stop f)) (sym none) tt
fault_stops most seen more fault (inr has) short = stops_by (schedule_within most (seen ++ more)) fault (fault_within most seen more fault has short)

-- a schedule that goes on where no more bytes may come
too_long_lines : (seen : List ℕ) (reader : ScheduleState) → IsWithin seen reader → decided_lines seen ≡ lines_of seen ++ []
too_long_lines seen reader within = ap (λ ls. lines_of seen ++ ls) (cond-false (ltb 128 (length (rest_of seen))) _ _ (le-ltb 128 (length (rest_of seen)) within.short))

pub longer_within : (most : ℕ) (seen more : List ℕ) (reader : ScheduleState) → IsWithin seen reader → length seen ≡ most → 0 < length more → schedule_within most (seen ++ more) ≡ Err (stop.Text (InputTooLong most))
longer_within most seen more reader within all some =
    let text = seen ++ more in
    let long = length-append seen more in
    let front : take most text ≡ seen = ap (λ (n : ℕ). take n text) (sym all) ∙ take-append_seam seen more in
    within_long most text (omega arith)
    ∙ ap (λ t. or_stop (cut_stop most) (schedule_with text (read_lines 0 [] (decided_lines t)))) front
    ∙ ap (λ ls. or_stop (cut_stop most) (schedule_with text (read_lines 0 [] ls))) (too_long_lines seen reader within)
    ∙ ap (λ r. or_stop (cut_stop most) (schedule_with text r)) (within.events [])

-- the end of a text
pub end_good : (most : ℕ) (seen : List ℕ) (s : Schedule) → schedule seen ≡ Ok s → length seen ≤ most → schedule_within most seen ≡ Ok s
end_good most seen s is short = within_short most seen short ∙ ap (or_stop schedule_stop) is

pub end_fault : (most : ℕ) (seen : List ℕ) (fault : ScheduleFault) → schedule seen ≡ Err fault → length seen ≤ most → StopsBy (schedule_within most seen) (schedule_stop fault)
end_fault most seen fault is short = stops_by (schedule_within most seen) fault (within_short most seen short ∙ ap (or_stop schedule_stop) is)

-- a part behind what was seen, cut where no more bytes count
part_cut : (seen part more : List ℕ) (n : ℕ) → (seen ++ take n part) ++ (drop n part ++ more) ≡ (seen ++ part) ++ more
part_cut seen part more n =
    append_assoc seen (take n part) (drop n part ++ more)
    ∙ ap (λ t. seen ++ t) (sym (append_assoc (take n part) (drop n part) more) ∙ ap (λ t. t ++ more) (take-append-drop n part))
    ∙ sym (append_assoc seen part more)

part_short : (most taken : ℕ) (seen part : List ℕ) (n : ℕ) → length seen ≡ taken → n ≤ length part → taken + n ≤ most → length (seen ++ take n part) ≤ most
part_short most taken seen part n is inside short =
    let long = length-append seen (take n part) in
    let some = length-take-le n part inside in
    omega arith

-- a fault in the bytes that count
pub part_fault : (most taken : ℕ) (seen part more : List ℕ) (n : ℕ) (fault : ScheduleFault) → length seen ≡ taken → n ≤ length part → taken + n ≤ most → IsFaultOf (seen ++ take n part) fault →
    StopsBy (schedule_within most ((seen ++ part) ++ more)) (schedule_stop fault)
part_fault most taken seen part more n fault is inside short has =
    subst (λ t. StopsBy (schedule_within most t) (schedule_stop fault)) (part_cut seen part more n)
    (fault_stops most (seen ++ take n part) (drop n part ++ more) fault has (part_short most taken seen part n is inside short))

-- more bytes than count
pub part_long : (most taken : ℕ) (seen part more : List ℕ) (n : ℕ) (reader : ScheduleState) → length seen ≡ taken → n < length part → taken + n ≡ most → IsWithin (seen ++ take n part) reader →
    schedule_within most ((seen ++ part) ++ more) ≡ Err (stop.Text (InputTooLong most))
part_long most taken seen part more n reader is inside all within =
    let long = length-append seen (take n part) in
    let some = length-take-le n part (omega arith) in
    let left = length-append (drop n part) more in
    let rest = length-drop n part in
    ap (schedule_within most) (sym (part_cut seen part more n))
    ∙ longer_within most (seen ++ take n part) (drop n part ++ more) reader within (omega arith) (omega arith)

-- a schedule that ends in the bytes that count
pub part_ended : (taken : ℕ) (seen part : List ℕ) (n : ℕ) (events : List Event) → length seen ≡ taken → n ≤ length part → taken + n ≤ 1099511627776 → IsEnded (seen ++ take n part) events → IsBefore (seen ++ part) (drop n part) events
part_ended taken seen part n events is inside short ended = record {
  front = seen ++ take n part;
  split = sym (append_assoc seen (take n part) (drop n part) ∙ ap (λ t. seen ++ t) (take-append-drop n part));
  whole = λ more. ended_within 1099511627776 (seen ++ take n part) more events ended (part_short 1099511627776 taken seen part n is inside short);
}

-- one of two that isn't the other
pub first_way : {A : Type 0} (b : Bool) → A ⊎ (b ≡ true) → b ≡ false → A
first_way b (inl a) never = a
first_way b (inr ever) never = absurd (let p : true ≡ false = sym ever ∙ never in cc)

-- the front of a front
pub take_in : (used n : ℕ) (part : List ℕ) → used ≤ length (take n part) → take used (take n part) ≡ take used part
take_in used n part inside = sym (take-append-le used (take n part) (drop n part) inside) ∙ ap (take used) (take-append-drop n part)

-- a reader that took all the bytes that count
pub read_front : (seen front : List ℕ) (used : ℕ) (reader : ScheduleState) → used ≡ length front → HasRead (seen ++ take used front) reader → HasRead (seen ++ front) reader
read_front seen front used reader all read = subst (λ t. HasRead (seen ++ t) reader) (ap (λ (n : ℕ). take n front) all ∙ take-length front) read

-- and those are all that came
pub part_read : (most taken : ℕ) (seen part : List ℕ) (n : ℕ) (reader : ScheduleState) → most ≡ 1099511627776 → length seen ≡ taken → n ≡ length part → taken + n ≤ most → reader.complete ≡ false → HasRead (seen ++ take n part) reader → IsFurther (seen ++ part) reader
part_read most taken seen part n reader limit is all short going read =
    let long = length-append seen part in
    record { read = subst (λ t. HasRead (seen ++ t) reader) (ap (λ (k : ℕ). take k part) all ∙ take-length part) read; going = going; short = omega arith }
