-- The reading of a list into Spool, step by step.
use Rattle.std.proofs.Common.{◌≡◌, ◌≤◌, ◌*◌, ◌+◌, ℕ, List, ◌++◌, length, take, drop, Option, sym, ap, ◌∙◌, subst, arith}
use Rattle.std.specs.Prelude.{IfSome, flat_map}
use Rattle.std.specs.Option.{option_map}
use Rattle.std.proofs.Math.Seq.{take-add}
use Rattle.std.proofs.lemmas.List.{append_assoc, length-append, length-take-le}
use Rattle.std.proofs.lemmas.List.Concat.{flat_map-append}
use Rattle.lumos_base.specs.Records.{edge_bytes}
use Rattle.lumos_base.specs.declared.records.Edge.{Edge}
use Rattle.edge_text.specs.Reader.{HasRead, ReaderState}
use Rattle.edge_text.specs.Reading.{reading}
use Rattle.edge_text.specs.declared.fault.TextLimits.{TextLimits}
use Rattle.edge_text.proofs.Few.{read_few}
use Rattle.edge_text.proofs.Steps.{part_left}
use Rattle.lumos_depot.specs.Steps.{RoseBy}
use Rattle.grid_build.specs.SpoolSteps.{IsSpooling, StopsAs}
use Rattle.grid_build.specs.declared.spool.SpoolStop.{SpoolStop}
use Rattle.grid_build.specs.declared.spool.SpoolStop.TheVariants as stop
use Rattle.grid_build.proofs.EdgeBytes.{length-edges}
use Rattle.lumos_depot.proofs.StepLemmas.{rose_then, told_by, told_more}

-- so many edges have so many bytes in Spool
pub spooling_length : (before : ℕ) (seen : List ℕ) (reader : ReaderState) (count : ℕ) (spool : Option (List ℕ)) (stored : ℕ) → IsSpooling before seen reader count spool stored → IfSome spool (λ file. length file ≡ 12 * count)
spooling_length before seen reader count spool stored h =
    told_more spool (λ file. file ≡ flat_map edge_bytes h.edges) (λ file. length file ≡ 12 * count)
    (λ file is. ap length is ∙ length-edges h.edges ∙ ap (λ (n : ℕ). 12 * n) (sym h.counted)) h.kept

-- there are no more edges than bytes of the text
pub few_made : (seen : List ℕ) (edges places : List Edge) (made : ℕ) (limits : TextLimits) (now : ReaderState) (count most : ℕ) → HasRead seen (edges ++ take made places) now → count ≡ length edges → now.limits ≡ limits →
    limits.max_bytes ≤ most → count + length (take made places) ≤ most
few_made seen edges places made limits now count most read counted same short =
    let few = read_few seen (edges ++ take made places) now read in
    let fits = read.short in
    let both = length-append edges (take made places) in
    let most_bytes = ap (λ l. l.max_bytes) same in
    omega arith

-- edges were made and put behind those in Spool
pub spooling_more : (before : ℕ) (seen part : List ℕ) (reader now : ReaderState) (count made : ℕ) (places : List Edge) (old new : Option (List ℕ)) (stored stored_now : ℕ) →
    (h : IsSpooling before seen reader count old stored) → HasRead (seen ++ part) (h.edges ++ take made places) now → made ≤ length places →
    new ≡ option_map (λ file. file ++ flat_map edge_bytes (take made places)) old → RoseBy stored stored_now (12 * length (take made places)) →
    IsSpooling before (seen ++ part) now (count + made) new stored_now
spooling_more before seen part reader now count made places old new stored stored_now h read within is rose =
    let long : length (take made places) ≡ made = length-take-le made places within in
    let all = length-append h.edges (take made places) in
    let had = h.counted in
    record {
      edges = h.edges ++ take made places;
      read = read;
      counted = omega arith;
      kept =
          told_by (λ file. file ++ flat_map edge_bytes (take made places)) old new (λ file. file ≡ flat_map edge_bytes h.edges) (λ file. file ≡ flat_map edge_bytes (h.edges ++ take made places)) is
          (λ file was. ap (λ f. f ++ flat_map edge_bytes (take made places)) was ∙ sym (flat_map-append edge_bytes h.edges (take made places))) h.kept;
      rose =
          let both : 12 * count + 12 * length (take made places) ≡ 12 * (count + made) = omega arith in
          subst (RoseBy before stored_now) both (rose_then before stored stored_now (12 * count) (12 * length (take made places)) h.rose rose);
    }

-- the same text
pub spooling_along : (before : ℕ) (seen others : List ℕ) (reader : ReaderState) (count : ℕ) (spool : Option (List ℕ)) (stored : ℕ) → seen ≡ others → IsSpooling before seen reader count spool stored → IsSpooling before others reader count spool stored
spooling_along before seen others reader count spool stored same h = subst (λ t. IsSpooling before t reader count spool stored) same h

-- a part of a text on
pub spooling_part : (before : ℕ) (seen text part : List ℕ) (used n : ℕ) (reader : ReaderState) (count : ℕ) (spool : Option (List ℕ)) (stored : ℕ) → part ≡ drop used text →
    IsSpooling before ((seen ++ take used text) ++ take n part) reader count spool stored → IsSpooling before (seen ++ take (used + n) text) reader count spool stored
spooling_part before seen text part used n reader count spool stored is h =
    spooling_along before ((seen ++ take used text) ++ take n part) (seen ++ take (used + n) text) reader count spool stored
    (append_assoc seen (take used text) (take n part) ∙ ap (λ p. seen ++ (take used text ++ take n p)) is ∙ ap (λ t. seen ++ t) (sym (take-add used n text))) h

-- what stops in a part of a text stops in the text
pub stops_part : (limits others : TextLimits) (seen text part : List ℕ) (used : ℕ) (why : SpoolStop) → others ≡ limits → part ≡ drop used text → StopsAs others ((seen ++ take used text) ++ part) why → StopsAs limits (seen ++ text) why
stops_part limits others seen text part used stop.Memory same is h = tt
stops_part limits others seen text part used stop.Depot same is h = tt
stops_part limits others seen text part used stop.Read same is h = tt
stops_part limits others seen text part used (stop.Text why) same is h = λ more.
    ap (λ l. reading l (seen ++ text ++ more)) (sym same)
    ∙ ap (reading others) (sym (append_assoc (seen ++ take used text) part more ∙ part_left seen text part more used is))
    ∙ h more
