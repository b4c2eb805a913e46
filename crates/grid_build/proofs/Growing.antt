-- How many bytes were stored for a list, and where its reading stopped.
use Rattle.std.proofs.Common.{◌≡◌, ◌≤◌, ◌<◌, ◌+◌, ◌-◌, ◌*◌, ◌^◌, ℕ, List, [], ◌++◌, length, take, drop, Option, Some, None, Result, Ok, Err, inl, inr, refl, sym, ap, ◌∙◌, subst, arith}
use Rattle.std.specs.Prelude.{OnErr}
use Rattle.std.proofs.lemmas.List.{append_assoc, append-nil, length-append, take-append-drop}
use Rattle.lumos_base.specs.declared.records.Edge.{Edge}
use Rattle.lumos_depot.specs.Files.{Raises}
use Rattle.lumos_depot.specs.Streams.{Takes}
use Rattle.lumos_depot.specs.declared.depot.DepotFault.{DepotFault}
use Rattle.lumos_depot.specs.declared.depot.DepotFault.TheVariants as depot
use Rattle.edge_text.specs.Lines.{lines_of}
use Rattle.edge_text.specs.Reader.{HasRead, ReaderState}
use Rattle.edge_text.specs.Reading.{listed, read_lines, reading}
use Rattle.edge_text.specs.declared.fault.TextFault.TheVariants as text
use Rattle.edge_text.specs.declared.fault.TextLimits.{TextLimits}
use Rattle.grid_build.specs.Built.{fault_of}
use Rattle.grid_build.specs.Growing.{GrowsBy, HasGrown, StopsAt, StopsIn}
use Rattle.grid_build.specs.SpoolSteps.{HasStopped, IsSpooling, spool_fault}
use Rattle.grid_build.specs.declared.spool.SpoolStop.{SpoolStop}
use Rattle.grid_build.specs.declared.spool.SpoolStop.TheVariants as stop
use Rattle.grid_build.proofs.SpoolEnds.{takes_then}

-- nothing was taken
pub takes_none : (old new : Option (List ℕ)) → new ≡ old → Takes old new []
takes_none None new same = rw same refl
takes_none (Some left) new same = rw same refl

pub grown_none : (limits : TextLimits) (left : Option (List ℕ)) (before after : ℕ) → after ≡ before → GrowsBy limits left left before after
grown_none limits left before after same = record {
  taken = [];
  takes = takes_none left left refl;
  grown = record { front = []; rest = []; whole = refl; edges = []; made = inl refl; most = λ low. omega (arith, same) };
}

-- the same between counters that are as these
pub grown_as : (limits : TextLimits) (old new : Option (List ℕ)) (before after b a : ℕ) → b ≡ before → a ≡ after → GrowsBy limits old new before after → GrowsBy limits old new b a
grown_as limits old new before after b a first last h = rw (first, last) h

-- a transfer that failed raised a counter by its bytes at most
pub raised_most : {T E : Type 0} (r : Result T E) (old mid new n m : ℕ) → mid ≡ old → n ≡ m → Raises mid new n r → OnErr r ((old ≤ new) × (new ≤ old + m))
raised_most (Ok x) old mid new n m same size h = tt
raised_most (Err e) old mid new n m same size h = (omega (arith, h.0, same), omega (arith, h.1, same, size))

-- what was stored for the lines of what was seen, whatever was taken behind it
pub grown_spooling : (limits : TextLimits) (before : ℕ) (seen rest : List ℕ) (reader : ReaderState) (count : ℕ) (spool : Option (List ℕ)) (stored : ℕ) → reader.limits ≡ limits → IsSpooling before seen reader count spool stored → HasGrown limits (seen ++ rest) before stored
grown_spooling limits before seen rest reader count spool stored same h = record {
  front = seen;
  rest = rest;
  whole = refl;
  edges = h.edges;
  made = inl (subst (λ l. read_lines l 0 0 (lines_of seen) ≡ Ok h.edges) same h.read.made);
  most = λ low. let rose = h.rose low in omega (arith, rose, h.counted);
}

pub grown_seen : (limits : TextLimits) (before : ℕ) (seen : List ℕ) (reader : ReaderState) (count : ℕ) (spool : Option (List ℕ)) (stored : ℕ) → reader.limits ≡ limits → IsSpooling before seen reader count spool stored → HasGrown limits seen before stored
grown_seen limits before seen reader count spool stored same h =
    subst (λ t. HasGrown limits t before stored) (append-nil seen) (grown_spooling limits before seen [] reader count spool stored same h)

-- some edges more, of which not all may have been stored
pub grown_more : (limits : TextLimits) (before : ℕ) (seen text : List ℕ) (used : ℕ) (reader now : ReaderState) (count : ℕ) (more : List Edge) (spool : Option (List ℕ)) (stored stored_now : ℕ) → (h : IsSpooling before seen reader count spool stored) →
    HasRead (seen ++ take used text) (h.edges ++ more) now → now.limits ≡ limits → (stored ≤ stored_now) × (stored_now ≤ stored + 12 * length more) → HasGrown limits (seen ++ text) before stored_now
grown_more limits before seen text used reader now count more spool stored stored_now h read same put = record {
  front = seen ++ take used text;
  rest = drop used text;
  whole = ap (λ t. seen ++ t) (sym (take-append-drop used text)) ∙ sym (append_assoc seen (take used text) (drop used text));
  edges = h.edges ++ more;
  made = inl (subst (λ l. read_lines l 0 0 (lines_of (seen ++ take used text)) ≡ Ok (h.edges ++ more)) same read.made);
  most = λ low.
      let rose = h.rose (omega (arith, put.0, low)) in omega (arith, rose, h.counted, length-append h.edges more, put.1);
}

-- those of a whole text
pub grown_end : (limits was : TextLimits) (before : ℕ) (seen : List ℕ) (reader : ReaderState) (count : ℕ) (more : List Edge) (spool : Option (List ℕ)) (stored stored_now : ℕ) → was ≡ limits → (h : IsSpooling before seen reader count spool stored) →
    reading was seen ≡ Ok (listed was (h.edges ++ more)) → (stored_now < 2 ^ 64 - 1 → (stored ≤ stored_now) × (stored_now ≤ stored + 12 * length more)) → HasGrown limits seen before stored_now
grown_end limits was before seen reader count more spool stored stored_now same h read put = record {
  front = seen;
  rest = [];
  whole = sym (append-nil seen);
  edges = h.edges ++ more;
  made = inr (listed limits (h.edges ++ more), subst (λ l. reading l seen ≡ Ok (listed l (h.edges ++ more))) same read, refl);
  most = λ low.
      let last = put low in
      let rose = h.rose (omega (arith, last.0, low)) in
      omega (arith, rose, h.counted, length-append h.edges more, last.1);
}

-- a part of a text on
pub grown_part : (limits others : TextLimits) (seen text part : List ℕ) (used before after : ℕ) → others ≡ limits → part ≡ drop used text → HasGrown others ((seen ++ take used text) ++ part) before after → HasGrown limits (seen ++ text) before after
grown_part limits others seen text part used before after same is h =
    let all : (seen ++ take used text) ++ part ≡ seen ++ text =
    append_assoc seen (take used text) part ∙ ap (λ p. seen ++ (take used text ++ p)) is ∙ ap (λ t. seen ++ t) (take-append-drop used text) in
    subst (λ l. HasGrown l (seen ++ text) before after) same (subst (λ t. HasGrown others t before after) all h)

-- the reading stopped behind what was seen
pub stops_in : (limits : TextLimits) (most before : ℕ) (seen piece : List ℕ) (reader : ReaderState) (count : ℕ) (spool : Option (List ℕ)) (stored : ℕ) (old mid new : Option (List ℕ)) → reader.limits ≡ limits → Takes old mid seen → Takes mid new piece → length piece ≤ most →
    IsSpooling before seen reader count spool stored → StopsIn limits most old new
stops_in limits most before seen piece reader count spool stored old mid new same first second few h = record {
  seen = seen;
  last = piece;
  takes = takes_then old mid new seen piece first second;
  few = few;
  short = subst (λ l. length seen ≤ l.max_bytes) same h.read.short;
  edges = h.edges;
  good = subst (λ l. read_lines l 0 0 (lines_of seen) ≡ Ok h.edges) same h.read.made;
}

pub stops_by : (limits : TextLimits) (old new : Option (List ℕ)) (why : SpoolStop) → StopsIn limits 65536 old new → (why ≡ stop.Read → StopsIn limits 0 old new) → StopsAt limits old new (spool_fault why)
stops_by limits old new stop.Memory some none = tt
stops_by limits old new stop.Depot some none = tt
stops_by limits old new stop.Read some none = none refl
stops_by limits old new (stop.Text (text.Input fault)) some none = some
stops_by limits old new (stop.Text (text.TooManyEdges limit)) some none = some
stops_by limits old new (stop.Text (text.InputTooLong limit)) some none = some

-- the outside stopped it
pub stops_outside : (limits : TextLimits) (old new : Option (List ℕ)) (why : DepotFault) → StopsAt limits old new (fault_of why)
stops_outside limits old new depot.Failed = tt
stops_outside limits old new depot.NoMemory = tt

-- a piece stopped it
pub stopped : (limits : TextLimits) (most before : ℕ) (seen : List ℕ) (reader : ReaderState) (count : ℕ) (spool : Option (List ℕ)) (stored stored_now : ℕ) (old mid new : Option (List ℕ)) (why : SpoolStop) → reader.limits ≡ limits → most ≡ 65536 → Takes old mid seen →
    IsSpooling before seen reader count spool stored → HasStopped reader.limits most before seen stored_now mid new why → StopsAt limits old new (spool_fault why) × GrowsBy limits old new before stored_now
stopped limits most before seen reader count spool stored stored_now old mid new why same size takes h last = (
  stops_by limits old new why
      (stops_in limits 65536 before seen last.piece reader count spool stored old mid new same takes last.takes (omega (arith, last.few, size)) h)
      (λ is. stops_in limits 0 before seen last.piece reader count spool stored old mid new same takes last.takes (let none = ap length (last.unread is) in omega (arith, none)) h),
  record {
    taken = seen ++ last.piece;
    takes = takes_then old mid new seen last.piece takes last.takes;
    grown = subst (λ l. HasGrown l (seen ++ last.piece) before stored_now) same last.grown;
  },
)
