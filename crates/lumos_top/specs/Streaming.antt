-- How an input is read whose events stand before its list.
use Rattle.std.specs.Prelude.{◌≡◌, ◌<◌, ◌≤◌, ◌+◌, ℕ, List, [], ◌++◌, false, drop, length, Option, Some, None, Result, Ok, Err, slice_range, unwrap_or}
use Rattle.edge_text.specs.Reading.{reading}
use Rattle.edge_text.specs.declared.fault.TextLimits.{TextLimits}
use Rattle.flight_core.specs.ScheduleRead.{HasRead, ScheduleState}
use Rattle.flight_core.specs.declared.event.Event.{Event}
use Rattle.lumos_depot.specs.Streams.{Takes}
use Rattle.lumos_top.specs.Listing.{HasListed, IsAtEnd, listed_of}
use Rattle.lumos_top.specs.Replays.{Streamed, schedule_within, streamed}
use Rattle.lumos_top.specs.declared.list.EdgeList.{EdgeList}
use Rattle.lumos_top.specs.declared.list.ListStop.{ListStop}
use Rattle.lumos_top.specs.declared.list.ListStop.TheVariants as list
use Rattle.lumos_top.specs.declared.stream.Begun.{Begun}
use Rattle.lumos_top.specs.declared.stream.Begun.TheVariants.{Behind, Whole}
use Rattle.lumos_top.specs.declared.stream.Part.{Part}
use Rattle.lumos_top.specs.declared.stream.Part.TheVariants.{Further, Begins}
use Rattle.lumos_top.specs.declared.stream.Stream.{Stream}
use Rattle.lumos_top.specs.declared.stream.StreamStop.{StreamStop}
use Rattle.lumos_top.specs.declared.stream.StreamStop.TheVariants as stop

-- A text has this fault, unless it is want of memory or a fault of the source.
abbrev pub StopsBy : {A : Type 0} → Result A StreamStop → StreamStop → Type 0
StopsBy text stop.Memory = Unit {0}
StopsBy text stop.Read = Unit {0}
StopsBy text (stop.Text fault) = text ≡ Err (stop.Text fault)
StopsBy text (stop.BadSchedule line) = text ≡ Err (stop.BadSchedule line)
StopsBy text (stop.ScheduleEnded line) = text ≡ Err (stop.ScheduleEnded line)
StopsBy text (stop.TooManyEvents limit) = text ≡ Err (stop.TooManyEvents limit)

-- The bytes that were taken end with these, and those in front of these are a schedule, whatever comes behind.
pub record IsBefore (taken behind : List ℕ) (events : List Event) : Type 0 where
  pub front : List ℕ
  pub split : taken ≡ front ++ behind
  pub whole : (more : List ℕ) → schedule_within 1099511627776 (front ++ more) ≡ Ok (record { events = events; edges = more })

-- the reader has read on, and may read further
pub record IsFurther (seen : List ℕ) (reader : ScheduleState) : Type 0 where
  pub read : HasRead seen reader
  pub going : reader.complete ≡ false
  pub short : length seen ≤ 1099511627776

-- What came of a part behind what was seen: the schedule goes on, or ended before so many of the part's bytes; a fault
-- stands whatever comes behind.
abbrev pub TakesPart : List ℕ → List ℕ → ScheduleState → Result (Option ℕ) StreamStop → Type 0
TakesPart seen part reader (Ok None) = IsFurther (seen ++ part) reader
TakesPart seen part reader (Ok (Some used)) = IsBefore (seen ++ part) (drop used part) reader.events
TakesPart seen part reader (Err why) = (more : List ℕ) → StopsBy (schedule_within 1099511627776 ((seen ++ part) ++ more)) why

-- What came of the end of a text.
abbrev pub EndsAs : List ℕ → List Event → Result (Unit {0}) StreamStop → Type 0
EndsAs seen events (Ok done) = schedule_within 1099511627776 seen ≡ Ok (record { events = events; edges = [] })
EndsAs seen events (Err why) = StopsBy (schedule_within 1099511627776 seen) why

-- All bytes are a schedule, and none is left.
pub record IsAll (taken : List ℕ) (left : Option (List ℕ)) (events : List Event) : Type 0 where
  pub whole : schedule_within 1099511627776 taken ≡ Ok (record { events = events; edges = [] })
  pub end : IsAtEnd left

-- Where a schedule ended among the bytes that were taken, the last of which are in a piece.
abbrev pub BeginsAs : List ℕ → List ℕ → List Event → Option (List ℕ) → Begun → Type 0
BeginsAs taken piece events left (Behind first end) = IsBefore taken (slice_range piece first end) events
BeginsAs taken piece events left Whole = IsAll taken left events

-- the fault of the bytes that were taken and those that are left, where they are told
abbrev pub FailsAs : List ℕ → Option (List ℕ) → StreamStop → Type 0
FailsAs taken left why = StopsBy (schedule_within 1099511627776 (taken ++ unwrap_or left [])) why

-- the number of bytes of a part that isn't the last
abbrev pub Counts : List ℕ → Result Part StreamStop → Type 0
Counts part (Ok (Further count)) = count ≡ length part
Counts part (Ok (Begins begun)) = Unit {0}
Counts part (Err why) = Unit {0}

abbrev pub PartEnds : List ℕ → List ℕ → ScheduleState → Option (List ℕ) → Result Part StreamStop → Type 0
PartEnds taken piece reader left (Ok (Further count)) = IsFurther taken reader
PartEnds taken piece reader left (Ok (Begins begun)) = BeginsAs taken piece reader.events left begun
PartEnds taken piece reader left (Err why) = FailsAs taken left why

-- A part was taken from a source, and read behind what was seen.
pub record HasPart (seen piece : List ℕ) (reader : ScheduleState) (old new : Option (List ℕ)) (result : Result Part StreamStop) : Type 0 where
  pub part : List ℕ
  pub takes : Takes old new part
  pub ends : PartEnds (seen ++ part) piece reader new result
  pub counts : Counts part result

abbrev pub BegunEnds : List ℕ → List ℕ → List Event → Option (List ℕ) → Result Begun StreamStop → Type 0
BegunEnds taken piece events left (Ok begun) = BeginsAs taken piece events left begun
BegunEnds taken piece events left (Err why) = FailsAs taken left why

-- A schedule was taken from a source.
pub record HasBegun (piece : List ℕ) (events : List Event) (old new : Option (List ℕ)) (result : Result Begun StreamStop) : Type 0 where
  pub taken : List ℕ
  pub takes : Takes old new taken
  pub ends : BegunEnds taken piece events new result

-- the bytes behind a schedule lie in the piece
abbrev pub LiesIn : ℕ → Begun → Type 0
LiesIn count (Behind first end) = (first ≤ end) × (end ≤ count)
LiesIn count Whole = Unit {0}

-- so many bytes, one at least, were read of a part that isn't the last
abbrev pub GoesOn : ℕ → ℕ → Result Part StreamStop → Type 0
GoesOn taken count (Ok (Further more)) = (0 < more) × (taken + more ≤ 1099511627776)
GoesOn taken count (Ok (Begins begun)) = LiesIn count begun
GoesOn taken count (Err why) = Unit {0}

-- The list behind a schedule was read.
abbrev pub BehindReads : TextLimits → List ℕ → Begun → Option (List ℕ) → Option (List ℕ) → Result EdgeList ListStop → Type 0
BehindReads limits piece (Behind first end) old new result = HasListed limits (slice_range piece first end) old new result
BehindReads limits piece Whole old new (Ok list) = (new ≡ old) × (reading limits [] ≡ Ok (listed_of list))
BehindReads limits piece Whole old new (Err why) = ⊥

-- why events and their list aren't read where the list isn't
abbrev pub list_why : ListStop → StreamStop
list_why list.Memory = stop.Memory
list_why list.Read = stop.Read
list_why (list.Text fault) = stop.Text fault

-- events and a list, as they are defined
abbrev pub streamed_of : Stream → Streamed
streamed_of stream = record { events = stream.schedule.events; list = listed_of stream.list }

-- The answer is that of the bytes, where those that are told were read to their end, or a fault of theirs; else the
-- outside stopped it.
abbrev pub StreamsAs : TextLimits → List ℕ → Option (List ℕ) → Option (List ℕ) → Result Stream StreamStop → Type 0
StreamsAs limits bytes old new (Ok stream) = (streamed limits 1099511627776 bytes ≡ Ok (streamed_of stream)) × ((all : List ℕ) → old ≡ Some all → new ≡ Some [])
StreamsAs limits bytes old new (Err why) = StopsBy (streamed limits 1099511627776 bytes) why

-- There are bytes, those that were left where the source tells them, that were read as events and a list.
pub record HasStreamed (limits : TextLimits) (old new : Option (List ℕ)) (result : Result Stream StreamStop) : Type 0 where
  pub bytes : List ℕ
  pub told : (all : List ℕ) → old ≡ Some all → bytes ≡ all
  pub reads : StreamsAs limits bytes old new result
