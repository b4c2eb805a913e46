-- How the reading of a list into Spool ends.
use Rattle.std.proofs.Common.{◌≡◌, ◌≤◌, ◌<◌, ◌*◌, ◌+◌, ◌-◌, ℕ, Bool, true, false, cond, List, [], ◌++◌, length, Option, Some, None, Ok, Err, sym, ap, ◌∙◌, refl, subst, arith}
use Rattle.std.specs.Prelude.{IfSome, IsTrue, flat_map, unwrap_or}
use Rattle.std.specs.Option.{option_map}
use Rattle.std.proofs.lemmas.List.{append_assoc, append-nil, length-append}
use Rattle.std.proofs.lemmas.List.Concat.{flat_map-append}
use Rattle.lumos_base.specs.Records.{edge_bytes}
use Rattle.lumos_base.specs.declared.records.Edge.{Edge}
use Rattle.lumos_depot.specs.Streams.{Takes, before_told}
use Rattle.edge_text.specs.Reader.{ReaderState}
use Rattle.edge_text.specs.Reading.{greatest_end, Listed, listed, one_past, reading, vertices_of}
use Rattle.edge_text.specs.declared.fault.TextFault.{TextFault}
use Rattle.edge_text.specs.declared.fault.TextFault.TheVariants as text
use Rattle.edge_text.specs.declared.fault.TextLimits.{TextLimits}
use Rattle.edge_text.proofs.Fits.{past_few, reading_within}
use Rattle.lumos_depot.specs.Steps.{RoseBy}
use Rattle.grid_build.specs.Spooling.{HasSpooled, SpoolsAs}
use Rattle.grid_build.specs.SpoolSteps.{EndsAs, HasPiece, IsAtEnd, IsSpooling, StopsAs, spool_fault}
use Rattle.grid_build.specs.declared.spool.SpoolStop.{SpoolStop}
use Rattle.grid_build.specs.declared.spool.SpoolStop.TheVariants as stop
use Rattle.grid_build.specs.declared.spool.Spooled.{Spooled}
use Rattle.lumos_depot.proofs.StepLemmas.{rose_then, told_by}

-- one piece after another
pub takes_then : (old mid new : Option (List ℕ)) (seen piece : List ℕ) → Takes old mid seen → Takes mid new piece → Takes old new (seen ++ piece)
takes_then old mid None seen piece first second = first ∙ ap (before_told seen) second
takes_then old mid (Some left) seen piece first second = first ∙ ap (before_told seen) second ∙ ap Some (sym (append_assoc seen piece left))

-- what was taken, and what is left where that is told, are all the bytes
taken_all : (old new : Option (List ℕ)) (seen all : List ℕ) → Takes old new seen → old ≡ Some all → seen ++ unwrap_or new [] ≡ all
taken_all old None seen all takes told = absurd (let h : None ≡ Some all = sym takes ∙ told in cc)
taken_all old (Some left) seen all takes told = let h : Some (seen ++ left) ≡ Some all = sym takes ∙ told in cc

at_end : (old new : Option (List ℕ)) (seen all : List ℕ) → Takes old new seen → IsAtEnd new → old ≡ Some all → (new ≡ Some []) × (seen ≡ all)
at_end old None seen all takes end told = absurd (let h : None ≡ Some all = sym takes ∙ told in cc)
at_end old (Some left) seen all takes end told =
    let none : left ≡ [] = end left refl in
    let h : Some (seen ++ left) ≡ Some all = sym takes ∙ told in
    let same : seen ++ left ≡ all = cc in
    (ap Some none, sym (append-nil seen) ∙ ap (λ l. seen ++ l) (sym none) ∙ same)

-- what stopped is a fault of the bytes, or of the outside
stops : (limits : TextLimits) (bytes : List ℕ) (old new spool : Option (List ℕ)) (why : SpoolStop) → ((fault : TextFault) → why ≡ stop.Text fault → reading limits bytes ≡ Err fault) → SpoolsAs limits bytes old new spool (Err (spool_fault why))
stops limits bytes old new spool stop.Memory h = tt
stops limits bytes old new spool stop.Depot h = tt
stops limits bytes old new spool stop.Read h = tt
stops limits bytes old new spool (stop.Text (text.Input fault)) h = h (text.Input fault) refl
stops limits bytes old new spool (stop.Text (text.TooManyEdges limit)) h = h (text.TooManyEdges limit) refl
stops limits bytes old new spool (stop.Text (text.InputTooLong limit)) h = h (text.InputTooLong limit) refl

-- memory ran out before anything was read
pub spool_none : (limits : TextLimits) (left spool : Option (List ℕ)) → HasSpooled limits left left spool (Err (spool_fault stop.Memory))
spool_none limits left spool = record { bytes = unwrap_or left []; told = λ all told. ap (λ l. unwrap_or l []) told; reads = tt }

-- a piece after what was seen stopped it
pub spool_stop : (limits was : TextLimits) (before : ℕ) (seen : List ℕ) (old mid new spool : Option (List ℕ)) (why : SpoolStop) (reader : ReaderState) (count : ℕ) (kept : Option (List ℕ)) (stored : ℕ) →
    was ≡ limits → Takes old mid seen → HasPiece was before seen reader count kept stored mid new (Err why) → HasSpooled limits old new spool (Err (spool_fault why))
spool_stop limits was before seen old mid new spool why reader count kept stored same takes h =
    let bytes = (seen ++ h.piece) ++ unwrap_or new [] in
    record {
      bytes = bytes;
      told = λ all told. taken_all old new (seen ++ h.piece) all (takes_then old mid new seen h.piece takes h.takes) told;
      reads = stops limits bytes old new spool why
          (λ fault is. ap (λ l. reading l bytes) (sym same) ∙ subst (StopsAs was (seen ++ h.piece)) is h.ends (unwrap_or new []));
    }

-- all was taken, and its end stopped it
pub spool_end_stop : (limits : TextLimits) (before : ℕ) (seen : List ℕ) (old new spool : Option (List ℕ)) (why : SpoolStop) (stored : ℕ) → Takes old new seen → IsAtEnd new → EndsAs limits before seen spool stored (Err why) →
    HasSpooled limits old new spool (Err (spool_fault why))
spool_end_stop limits before seen old new spool why stored takes end h = record {
  bytes = seen;
  told = λ all told. (at_end old new seen all takes end told).1;
  reads = stops limits seen old new spool why (λ fault is. subst (λ w. EndsAs limits before seen spool stored (Err w)) is h);
}

-- all was taken, and its end was read
pub spool_end : (limits : TextLimits) (before : ℕ) (seen : List ℕ) (old new spool : Option (List ℕ)) (spooled : Spooled) (stored : ℕ) → Takes old new seen → IsAtEnd new → EndsAs limits before seen spool stored (Ok spooled) →
    HasSpooled limits old new spool (Ok spooled)
spool_end limits before seen old new spool spooled stored takes end h = record {
  bytes = seen;
  told = λ all told. (at_end old new seen all takes end told).1;
  reads = (h.0, λ told. (at_end old new seen seen takes end told).0);
}

past_low : (o : Option ℕ) → one_past o ≤ 268435456 → IfSome o (λ vertex. vertex ≤ 268435455)
past_low None h = tt
past_low (Some vertex) h = omega arith

-- no end of a list that was read is above the limit
pub greatest_low : (limits : TextLimits) (seen : List ℕ) (l : Listed) → limits.max_vertex ≤ 268435455 → reading limits seen ≡ Ok l → IfSome (greatest_end l.edges) (λ vertex. vertex ≤ 268435455)
greatest_low limits seen l low is =
    let within = reading_within limits seen l is in
    past_low (greatest_end l.edges) (past_few 268435456 limits l.edges (omega arith) within.within)

-- the edges of the end stand behind those in Spool
pub spooled_end : (limits was : TextLimits) (before : ℕ) (seen : List ℕ) (reader : ReaderState) (count : ℕ) (made : List Edge) (old new : Option (List ℕ)) (stored stored_now : ℕ) (spooled : Spooled) →
    was ≡ limits → (h : IsSpooling before seen reader count old stored) → reading was seen ≡ Ok (listed was (h.edges ++ made)) → spooled.edges ≡ length (h.edges ++ made) → spooled.vertices ≡ vertices_of limits.vertices (h.edges ++ made) →
    new ≡ option_map (λ file. file ++ flat_map edge_bytes made) old → RoseBy stored stored_now (12 * length made) → EndsAs limits before seen new stored_now (Ok spooled)
spooled_end limits was before seen reader count made old new stored stored_now spooled same h read edges vertices is rose =
    let all = length-append h.edges made in
    let had = h.counted in
    let both : 12 * count + 12 * length made ≡ 12 * spooled.edges = omega arith in (
      record {
        list = listed limits (h.edges ++ made);
        is = subst (λ l. reading l seen ≡ Ok (listed l (h.edges ++ made))) same read;
        edges = edges;
        vertices = vertices;
        kept =
            told_by (λ file. file ++ flat_map edge_bytes made) old new (λ file. file ≡ flat_map edge_bytes h.edges) (λ file. file ≡ flat_map edge_bytes (h.edges ++ made)) is
            (λ file file_was. ap (λ f. f ++ flat_map edge_bytes made) file_was ∙ sym (flat_map-append edge_bytes h.edges made)) h.kept;
      },
      subst (RoseBy before stored_now) both (rose_then before stored stored_now (12 * count) (12 * length made) h.rose rose),
    )

-- a text of so many bytes at most ends: a piece was read, or it was the last
pub spool_smaller : (before : ℕ) (seen : List ℕ) (reader : ReaderState) (count : ℕ) (spool : Option (List ℕ)) (stored : ℕ) (limits : TextLimits) (bytes : ℕ) (was more : Bool) → was ≡ true → reader.limits ≡ limits →
    IsSpooling before seen reader count spool stored → bytes ≤ reader.bytes → (IsTrue more → bytes < reader.bytes) → cond more 1 0 + (limits.max_bytes - reader.bytes) < cond was 1 0 + (limits.max_bytes - bytes)
spool_smaller before seen reader count spool stored limits bytes was false is same h onward progress = rw is (omega arith)
spool_smaller before seen reader count spool stored limits bytes was true is same h onward progress =
    let fits = h.read.short in
    let read = h.read.bytes in
    let most = ap (λ l. l.max_bytes) same in
    let longer = progress refl in
    rw is (omega arith)
