-- How parts of an input follow one another, and the list behind them.
use Rattle.std.proofs.Common.{◌≡◌, ◌≤◌, ℕ, ◌+◌, ◌-◌, List, [], ◌++◌, drop, take, length, Option, Some, None, Ok, Err, refl, sym, ap, subst, ◌∙◌, arith}
use Rattle.std.specs.Prelude.{slice_range, unwrap_or}
use Rattle.std.proofs.lemmas.List.{append-nil, append_assoc, drop-take, length-append}
use Rattle.edge_text.specs.Reading.{reading}
use Rattle.edge_text.specs.declared.fault.TextLimits.{TextLimits}
use Rattle.flight_core.specs.ScheduleRead.{HasRead, ScheduleState}
use Rattle.flight_core.specs.declared.event.Event.{Event}
use Rattle.lumos_depot.specs.Streams.{Takes, before_told}
use Rattle.lumos_top.specs.Listing.{IsAtEnd}
use Rattle.lumos_top.specs.Replays.{schedule_within, streamed, streamed_behind, streamed_with}
use Rattle.lumos_top.specs.Streaming.{BehindReads, EndsAs, HasBegun, HasPart, HasStreamed, IsBefore, StopsBy, TakesPart, list_why}
use Rattle.lumos_top.specs.declared.list.ListStop.{ListStop}
use Rattle.lumos_top.specs.declared.list.ListStop.TheVariants as list
use Rattle.lumos_top.specs.declared.stream.Begun.{Begun}
use Rattle.lumos_top.specs.declared.stream.Begun.TheVariants.{Behind, Whole}
use Rattle.lumos_top.specs.declared.stream.Part.TheVariants.{Further, Begins}
use Rattle.lumos_top.specs.declared.stream.Stream.{Stream}
use Rattle.lumos_top.specs.declared.stream.StreamStop.{StreamStop}
use Rattle.lumos_top.specs.declared.stream.StreamStop.TheVariants as stop
use Rattle.lumos_top.proofs.Endings.{taken_all, takes_then}

-- a read that gave nothing was at the end
at_none : (old new : Option (List ℕ)) → Takes old new [] → ((xs : List ℕ) → old ≡ Some xs → xs ≡ []) → IsAtEnd new
at_none old new takes end bytes told = end bytes (takes ∙ ap (before_told []) told)

none_left : (left : Option (List ℕ)) → IsAtEnd left → unwrap_or left [] ≡ []
none_left None end = refl
none_left (Some bytes) end = end bytes refl

no_bytes : (old new : Option (List ℕ)) (piece : List ℕ) (count : ℕ) → count ≡ 0 → Takes old new (take count piece) → Takes old new []
no_bytes old new piece count none takes = subst (λ (n : ℕ). Takes old new (take n piece)) none takes

pub whole_part : (seen piece : List ℕ) (reader : ScheduleState) (old new : Option (List ℕ)) (count : ℕ) → count ≡ 0 → Takes old new (take count piece) → ((xs : List ℕ) → old ≡ Some xs → xs ≡ []) → EndsAs seen reader.events (Ok tt) →
    HasPart seen piece reader old new (Ok (Begins Whole))
whole_part seen piece reader old new count none takes end ends =
    let zero = no_bytes old new piece count none takes in
    record { part = []; takes = zero; ends = record { whole = ap (schedule_within 1099511627776) (append-nil seen) ∙ ends; end = at_none old new zero end }; counts = tt }

pub end_part : (seen piece : List ℕ) (reader : ScheduleState) (old new : Option (List ℕ)) (count : ℕ) (why : StreamStop) → count ≡ 0 → Takes old new (take count piece) → ((xs : List ℕ) → old ≡ Some xs → xs ≡ []) → EndsAs seen reader.events (Err why) →
    HasPart seen piece reader old new (Err why)
end_part seen piece reader old new count why none takes end ends =
    let zero = no_bytes old new piece count none takes in
    let bytes : (seen ++ []) ++ unwrap_or new [] ≡ seen = ap (λ t. (seen ++ []) ++ t) (none_left new (at_none old new zero end)) ∙ append-nil (seen ++ []) ∙ append-nil seen in
    record { part = []; takes = zero; ends = subst (λ t. StopsBy (schedule_within 1099511627776 t) why) (sym bytes) ends; counts = tt }

-- the bytes of a piece behind a schedule that ended in it
pub behind_part : (seen piece : List ℕ) (reader : ScheduleState) (old new : Option (List ℕ)) (first count : ℕ) → first ≤ count → Takes old new (take count piece) → TakesPart seen (take count piece) reader (Ok (Some first)) →
    HasPart seen piece reader old new (Ok (Begins (Behind first count)))
behind_part seen piece reader old new first count inside takes before =
    let e : count ≡ first + (count - first) = omega arith in
    let same : drop first (take count piece) ≡ slice_range piece first count = ap (λ (n : ℕ). drop first (take n piece)) e ∙ drop-take first (count - first) piece in
    record { part = take count piece; takes = takes; ends = subst (λ t. IsBefore (seen ++ take count piece) t reader.events) same before; counts = tt }

pub failed_part : (seen piece : List ℕ) (reader : ScheduleState) (old new : Option (List ℕ)) (count : ℕ) (why : StreamStop) → Takes old new (take count piece) → TakesPart seen (take count piece) reader (Err why) → HasPart seen piece reader old new (Err why)
failed_part seen piece reader old new count why takes stops = record { part = take count piece; takes = takes; ends = stops (unwrap_or new []); counts = tt }

-- the bytes that were taken, and what is known of them
pub record HasTaken (old new : Option (List ℕ)) (taken : ℕ) (reader : ScheduleState) : Type 0 where
  pub seen : List ℕ
  pub takes : Takes old new seen
  pub read : HasRead seen reader
  pub count : length seen ≡ taken

begin : (old : Option (List ℕ)) → Takes old old []
begin None = refl
begin (Some bytes) = refl

pub none_taken : (old : Option (List ℕ)) (reader : ScheduleState) → HasRead [] reader → HasTaken old old 0 reader
none_taken old reader read = record { seen = []; takes = begin old; read = read; count = refl }

-- one more part
pub more_taken : (seen piece : List ℕ) (taken more : ℕ) (reader : ScheduleState) (old mid new : Option (List ℕ)) → Takes old mid seen → length seen ≡ taken → HasPart seen piece reader mid new (Ok (Further more)) → HasTaken old new (taken + more) reader
more_taken seen piece taken more reader old mid new takes is h =
    let long = length-append seen h.part in
    let count = h.counts in
    record { seen = seen ++ h.part; takes = takes_then old mid new seen h.part takes h.takes; read = h.ends.read; count = omega arith }

-- the last part
pub last_taken : (seen piece : List ℕ) (begun : Begun) (reader : ScheduleState) (old mid new : Option (List ℕ)) → Takes old mid seen → HasPart seen piece reader mid new (Ok (Begins begun)) → HasBegun piece reader.events old new (Ok begun)
last_taken seen piece begun reader old mid new takes h = record { taken = seen ++ h.part; takes = takes_then old mid new seen h.part takes h.takes; ends = h.ends }

pub failed_taken : (seen piece : List ℕ) (why : StreamStop) (reader : ScheduleState) (old mid new : Option (List ℕ)) → Takes old mid seen → HasPart seen piece reader mid new (Err why) → HasBegun piece reader.events old new (Err why)
failed_taken seen piece why reader old mid new takes h = record { taken = seen ++ h.part; takes = takes_then old mid new seen h.part takes h.takes; ends = h.ends }

-- a schedule that stops a command stops it with the list behind it
list_stops : (limits : TextLimits) (text : List ℕ) (why : StreamStop) → StopsBy (schedule_within 1099511627776 text) why → StopsBy (streamed limits 1099511627776 text) why
list_stops limits text stop.Memory h = tt
list_stops limits text stop.Read h = tt
list_stops limits text (stop.Text fault) h = ap (streamed_behind limits) h
list_stops limits text (stop.BadSchedule line) h = ap (streamed_behind limits) h
list_stops limits text (stop.ScheduleEnded line) h = ap (streamed_behind limits) h
list_stops limits text (stop.TooManyEvents limit) h = ap (streamed_behind limits) h

pub stream_stops : (limits : TextLimits) (piece : List ℕ) (events : List Event) (old new : Option (List ℕ)) (why : StreamStop) → HasBegun piece events old new (Err why) → HasStreamed limits old new (Err why)
stream_stops limits piece events old new why h = record {
  bytes = h.taken ++ unwrap_or new [];
  told = λ all told. taken_all old new h.taken all h.takes told;
  reads = list_stops limits (h.taken ++ unwrap_or new []) why h.ends;
}

-- what is told before bytes are taken is told after it
still_told : (old new : Option (List ℕ)) (seen all : List ℕ) → Takes old new seen → old ≡ Some all → (rest : List ℕ) × (new ≡ Some rest) × (seen ++ rest ≡ all)
still_told old None seen all takes told = absurd (let h : None ≡ Some all = sym takes ∙ told in cc)
still_told old (Some rest) seen all takes told = (rest, refl, let h : Some (seen ++ rest) ≡ Some all = sym takes ∙ told in cc)

-- all bytes of an input are those of the schedule and those of the list
all_bytes : (taken behind bytes all : List ℕ) (old mid : Option (List ℕ)) (events : List Event) (before : IsBefore taken behind events) → Takes old mid taken → ((rest : List ℕ) → mid ≡ Some rest → bytes ≡ behind ++ rest) → old ≡ Some all → before.front ++ bytes ≡ all
all_bytes taken behind bytes all old mid events before takes told is =
    let s = still_told old mid taken all takes is in
    ap (λ t. before.front ++ t) (told s.0 s.1) ∙ sym (append_assoc before.front behind s.0) ∙ ap (λ t. t ++ s.0) (sym before.split) ∙ s.2

-- the list behind a schedule
list_behind : (limits : TextLimits) (front bytes : List ℕ) (events : List Event) → ((more : List ℕ) → schedule_within 1099511627776 (front ++ more) ≡ Ok (record { events = events; edges = more })) → streamed limits 1099511627776 (front ++ bytes) ≡ streamed_with events (reading limits bytes)
list_behind limits front bytes events whole = ap (streamed_behind limits) (whole bytes)

pub stream_good : (limits : TextLimits) (piece : List ℕ) (begun : Begun) (stream : Stream) (old mid new : Option (List ℕ)) → HasBegun piece stream.schedule.events old mid (Ok begun) → BehindReads limits piece begun mid new (Ok stream.list) → HasStreamed limits old new (Ok stream)
stream_good limits piece (Behind first end) stream old mid new h reads = record {
  bytes = h.ends.front ++ reads.bytes;
  told = λ all told. all_bytes h.taken (slice_range piece first end) reads.bytes all old mid stream.schedule.events h.ends h.takes reads.told told;
  reads = (
    list_behind limits h.ends.front reads.bytes stream.schedule.events h.ends.whole ∙ ap (streamed_with stream.schedule.events) reads.reads.0,
    λ all told. let s = still_told old mid h.taken all h.takes told in reads.reads.1 s.0 s.1,
  );
}
stream_good limits piece Whole stream old mid new h reads = record {
  bytes = h.taken;
  told = λ all told. let s = still_told old mid h.taken all h.takes told in sym (append-nil h.taken) ∙ ap (λ t. h.taken ++ t) (sym (h.ends.end s.0 s.1)) ∙ s.2;
  reads = (
    ap (streamed_behind limits) h.ends.whole ∙ ap (streamed_with stream.schedule.events) reads.1,
    λ all told. let s = still_told old mid h.taken all h.takes told in reads.0 ∙ s.1 ∙ ap Some (h.ends.end s.0 s.1),
  );
}

-- a list that isn't read
pub stream_list : (limits : TextLimits) (piece : List ℕ) (begun : Begun) (events : List Event) (old mid new : Option (List ℕ)) (why : ListStop) → HasBegun piece events old mid (Ok begun) → BehindReads limits piece begun mid new (Err why) → HasStreamed limits old new (Err (list_why why))
stream_list limits piece Whole events old mid new why h reads = absurd reads
stream_list limits piece (Behind first end) events old mid new list.Memory h reads =
    record { bytes = h.ends.front ++ reads.bytes; told = λ all told. all_bytes h.taken (slice_range piece first end) reads.bytes all old mid events h.ends h.takes reads.told told; reads = tt }
stream_list limits piece (Behind first end) events old mid new list.Read h reads =
    record { bytes = h.ends.front ++ reads.bytes; told = λ all told. all_bytes h.taken (slice_range piece first end) reads.bytes all old mid events h.ends h.takes reads.told told; reads = tt }
stream_list limits piece (Behind first end) events old mid new (list.Text fault) h reads = record {
  bytes = h.ends.front ++ reads.bytes;
  told = λ all told. all_bytes h.taken (slice_range piece first end) reads.bytes all old mid events h.ends h.takes reads.told told;
  reads = list_behind limits h.ends.front reads.bytes events h.ends.whole ∙ ap (streamed_with events) reads.reads;
}
