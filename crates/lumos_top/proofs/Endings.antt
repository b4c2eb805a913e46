-- How the reading of a source ends.
use Rattle.std.proofs.Common.{◌≡◌, ℕ, List, [], ◌++◌, Option, Some, None, Result, Ok, Err, sym, ap, ◌∙◌, refl}
use Rattle.std.proofs.lemmas.List.{append_assoc, append-nil}
use Rattle.std.specs.Prelude.{unwrap_or}
use Rattle.lumos_base.specs.declared.records.Edge.{Edge}
use Rattle.lumos_depot.specs.Streams.{Takes, before_told}
use Rattle.edge_text.specs.Reader.{ReaderState}
use Rattle.edge_text.specs.Reading.{reading}
use Rattle.edge_text.specs.declared.fault.TextFault.{TextFault}
use Rattle.edge_text.specs.declared.fault.TextLimits.{TextLimits}
use Rattle.lumos_top.specs.Listing.{EndReads, HasListed, HasPiece, IsAtEnd}
use Rattle.lumos_top.specs.declared.list.EdgeList.{EdgeList}
use Rattle.lumos_top.specs.declared.list.ListStop.{ListStop}
use Rattle.lumos_top.specs.declared.list.ListStop.TheVariants.{Memory, Read, Text}

-- one piece after another
pub takes_then : (old mid new : Option (List ℕ)) (seen piece : List ℕ) → Takes old mid seen → Takes mid new piece → Takes old new (seen ++ piece)
takes_then old mid None seen piece first second = first ∙ ap (before_told seen) second
takes_then old mid (Some left) seen piece first second = first ∙ ap (before_told seen) second ∙ ap Some (sym (append_assoc seen piece left))

-- what was taken, and what is left where that is told, are all the bytes
pub taken_all : (old new : Option (List ℕ)) (seen all : List ℕ) → Takes old new seen → old ≡ Some all → seen ++ unwrap_or new [] ≡ all
taken_all old None seen all takes told = absurd (let h : None ≡ Some all = sym takes ∙ told in cc)
taken_all old (Some left) seen all takes told = let h : Some (seen ++ left) ≡ Some all = sym takes ∙ told in cc

-- the same behind other bytes
behind_all : (front seen piece rest all : List ℕ) → (seen ++ piece) ++ rest ≡ all → ((front ++ seen) ++ piece) ++ rest ≡ front ++ all
behind_all front seen piece rest all is =
    ap (λ t. t ++ rest) (append_assoc front seen piece) ∙ append_assoc front (seen ++ piece) rest ∙ ap (λ t. front ++ t) is

told_all : (front seen piece : List ℕ) (old mid new : Option (List ℕ)) (all : List ℕ) → Takes old mid seen → Takes mid new piece → old ≡ Some all → ((front ++ seen) ++ piece) ++ unwrap_or new [] ≡ front ++ all
told_all front seen piece old mid new all first second told =
    behind_all front seen piece (unwrap_or new []) all (taken_all old new (seen ++ piece) all (takes_then old mid new seen piece first second) told)

-- a piece after what was seen stopped it
pub list_stop : (limits : TextLimits) (front seen : List ℕ) (old mid new : Option (List ℕ)) (stop : ListStop) (edges : List Edge) (reader : ReaderState) →
    Takes old mid seen → reader.limits ≡ limits → HasPiece (front ++ seen) edges reader mid new (Err stop) → HasListed limits front old new (Err stop)
list_stop limits front seen old mid new Memory edges reader takes same h =
    record { bytes = ((front ++ seen) ++ h.piece) ++ unwrap_or new []; told = λ all told. told_all front seen h.piece old mid new all takes h.takes told; reads = tt }
list_stop limits front seen old mid new Read edges reader takes same h =
    record { bytes = ((front ++ seen) ++ h.piece) ++ unwrap_or new []; told = λ all told. told_all front seen h.piece old mid new all takes h.takes told; reads = tt }
list_stop limits front seen old mid new (Text fault) edges reader takes same h =
    record {
      bytes = ((front ++ seen) ++ h.piece) ++ unwrap_or new [];
      told = λ all told. told_all front seen h.piece old mid new all takes h.takes told;
      reads = ap (λ l. reading l (((front ++ seen) ++ h.piece) ++ unwrap_or new [])) (sym same) ∙ h.ends (unwrap_or new []);
    }

-- the bytes in front stopped it
pub front_stop : (limits was : TextLimits) (front : List ℕ) (old : Option (List ℕ)) (fault : TextFault) → was ≡ limits → ((more : List ℕ) → reading was (front ++ more) ≡ Err fault) → HasListed limits front old old (Err (Text fault))
front_stop limits was front old fault same faulty = record {
  bytes = front ++ unwrap_or old [];
  told = λ all told. ap (λ (o : Option (List ℕ)). front ++ unwrap_or o []) told;
  reads = ap (λ l. reading l (front ++ unwrap_or old [])) (sym same) ∙ faulty (unwrap_or old []);
}

pub front_full : (limits : TextLimits) (front : List ℕ) (old : Option (List ℕ)) → HasListed limits front old old (Err Memory)
front_full limits front old = record { bytes = front ++ unwrap_or old []; told = λ all told. ap (λ (o : Option (List ℕ)). front ++ unwrap_or o []) told; reads = tt }

at_end : (old new : Option (List ℕ)) (seen all : List ℕ) → Takes old new seen → IsAtEnd new → old ≡ Some all → (new ≡ Some []) × (seen ≡ all)
at_end old None seen all takes end told = absurd (let h : None ≡ Some all = sym takes ∙ told in cc)
at_end old (Some left) seen all takes end told =
    let none : left ≡ [] = end left refl in
    let h : Some (seen ++ left) ≡ Some all = sym takes ∙ told in
    let same : seen ++ left ≡ all = cc in
    (ap Some none, sym (append-nil seen) ∙ ap (λ l. seen ++ l) (sym none) ∙ same)

-- all was taken, and the end was read
pub list_end : (limits was : TextLimits) (front seen : List ℕ) (old new : Option (List ℕ)) (result : Result EdgeList ListStop) → was ≡ limits → Takes old new seen → IsAtEnd new → EndReads was (front ++ seen) result → HasListed limits front old new result
list_end limits was front seen old new (Ok edges) same takes end h = record {
  bytes = front ++ seen;
  told = λ all told. ap (λ t. front ++ t) (at_end old new seen all takes end told).1;
  reads = (ap (λ l. reading l (front ++ seen)) (sym same) ∙ h, λ all told. (at_end old new seen all takes end told).0);
}
list_end limits was front seen old new (Err (Text fault)) same takes end h =
    record { bytes = front ++ seen; told = λ all told. ap (λ t. front ++ t) (at_end old new seen all takes end told).1; reads = ap (λ l. reading l (front ++ seen)) (sym same) ∙ h }
list_end limits was front seen old new (Err Memory) same takes end h =
    record { bytes = front ++ seen; told = λ all told. ap (λ t. front ++ t) (at_end old new seen all takes end told).1; reads = tt }
list_end limits was front seen old new (Err Read) same takes end h = absurd h
