-- The first record that stands for no value, part by part.
use Rattle.std.proofs.Common.{◌≡◌, ℕ, zero, suc, ◌+◌, ◌-◌, ◌*◌, ◌<◌, ◌≤◌, List, [], ◌∷◌, ◌++◌, length, take, drop, map, Option, None, Some, Err, refl, sym, ap, ◌∙◌, arith, length-drop}
use Rattle.std.specs.Option.{option_or}
use Rattle.std.proofs.Math.Nat.{mul-suc}
use Rattle.std.proofs.lemmas.List.{length-take-le}
use Rattle.lumos_base.specs.Bytes.{IsBytes}
use Rattle.lumos_base.specs.ByteLaws.{IsBytes-drop}
use Rattle.lumos_depot.specs.Files.{range_at}
use Rattle.lumos_depot.specs.declared.depot.FileKind.{FileKind}
use Rattle.value_files.specs.declared.fault.FileFault.{FileFault}
use Rattle.value_files.specs.declared.fault.FileFault.TheVariants.{Depot, Damaged}
use Rattle.value_files.specs.Records.{AreRecords, FaultIs, ShowsBroken, damage_by, first_damage, last_number, records_at}
use Rattle.value_files.proofs.RecordLemmas.{length-records, records-add, times_add, times_more, times_within}

-- the fault that is answered is the one that there is
pub fault_same : (T : Type 0) (fault : FileFault) (there : Option FileFault) → there ≡ Some fault → FaultIs {T = T} (Err fault) there
fault_same T Depot there is = tt
fault_same T (Damaged file place found) there is = is

module _ {V : Type 0} (value_of : List ℕ → Option V) (w : ℕ) (file : FileKind) where
  or_by : (place : ℕ) (r : List ℕ) (later more : Option FileFault) (o : Option V) → damage_by value_of w file place r (option_or later more) o ≡ option_or (damage_by value_of w file place r later o) more
  or_by place r later more None = refl
  or_by place r later more (Some v) = refl

  -- the fault of records is that of the first ones, or else that of those behind them
  pub damage-append : (place : ℕ) (xs ys : List (List ℕ)) → first_damage value_of w file place (xs ++ ys) ≡ option_or (first_damage value_of w file place xs) (first_damage value_of w file (place + w * length xs) ys)
  damage-append place [] ys = let here : place ≡ place + w * zero = omega arith in ap (λ (p : ℕ). first_damage value_of w file p ys) here
  damage-append place (x ∷ xs) ys =
      let next : place + w + w * length xs ≡ place + w * suc (length xs) = omega (arith, mul-suc w (length xs)) in
      ap (λ later. damage_by value_of w file place x later (value_of x)) (damage-append (place + w) xs ys ∙ ap (λ (p : ℕ). option_or (first_damage value_of w file (place + w) xs) (first_damage value_of w file p ys)) next)
      ∙ or_by place x (first_damage value_of w file (place + w) xs) (first_damage value_of w file (place + w * suc (length xs)) ys) (value_of x)

  -- the same of records in bytes
  pub damage-add : (at place n m : ℕ) (bytes : List ℕ) → first_damage value_of w file place (records_at w at (n + m) bytes) ≡ option_or (first_damage value_of w file place (records_at w at n bytes)) (first_damage value_of w file (place + w * n) (records_at w (at + w * n) m bytes))
  damage-add at place n m bytes =
      ap (first_damage value_of w file place) (records-add w at n m bytes)
      ∙ damage-append place (records_at w at n bytes) (records_at w (at + w * n) m bytes)
      ∙ ap (λ (k : ℕ). option_or (first_damage value_of w file place (records_at w at n bytes)) (first_damage value_of w file (place + w * k) (records_at w (at + w * n) m bytes))) (length-records w at n bytes)

  -- records that stand for values are sound
  pub sound : (place : ℕ) (rs : List (List ℕ)) (xs : List V) → map value_of rs ≡ map Some xs → first_damage value_of w file place rs ≡ None
  sound place [] xs is = refl
  sound place (r ∷ rs) [] is = absurd (cc)
  sound place (r ∷ rs) (x ∷ xs) is =
      let first : value_of r ≡ Some x = cc in
      let rest : map value_of rs ≡ map Some xs = cc in
      ap (damage_by value_of w file place r (first_damage value_of w file (place + w) rs)) first ∙ sound (place + w) rs xs rest

  -- and the records that stand for no value are found
  pub found : (place : ℕ) (r : List ℕ) → value_of r ≡ None → first_damage value_of w file place (r ∷ []) ≡ Some (Damaged file place (last_number w r))
  found place r is = ap (damage_by value_of w file place r None) is

  -- a fault behind records without one stands whatever comes behind
  pub fault_stands : (at place n m all : ℕ) (bytes : List ℕ) (fault : FileFault) → n + m ≤ all → first_damage value_of w file place (records_at w at n bytes) ≡ None → first_damage value_of w file (place + w * n) (records_at w (at + w * n) m bytes) ≡ Some fault → first_damage value_of w file place (records_at w at all bytes) ≡ Some fault
  fault_stands at place n m all bytes fault room had is =
      let cut : all ≡ n + m + (all - (n + m)) = omega arith in
      let front : first_damage value_of w file place (records_at w at (n + m) bytes) ≡ Some fault = damage-add at place n m bytes ∙ rw (had, is) refl in
      ap (λ (k : ℕ). first_damage value_of w file place (records_at w at k bytes)) cut
      ∙ damage-add at place (n + m) (all - (n + m)) bytes ∙ rw front refl

  -- the record behind the first i stands for no value
  pub record_fault : (place n i : ℕ) (bytes r : List ℕ) (xs : List V) (fault : FileFault) → i < n → r ≡ range_at (0 + w * i) w bytes → value_of r ≡ None → length xs ≡ i → AreRecords value_of w 0 xs bytes → fault ≡ Damaged file (place + w * i) (last_number w r) → first_damage value_of w file place (records_at w 0 n bytes) ≡ Some fault
  record_fault place n i bytes r xs fault low is none long had fault_is =
      let before : first_damage value_of w file place (records_at w 0 i bytes) ≡ None = sound place (records_at w 0 i bytes) xs (ap (λ (k : ℕ). map value_of (records_at w 0 k bytes)) (sym long) ∙ had) in
      let here : first_damage value_of w file (place + w * i) (records_at w (0 + w * i) 1 bytes) ≡ Some fault =
      found (place + w * i) (range_at (0 + w * i) w bytes) (ap value_of (sym is) ∙ none) ∙ ap (λ x. Some (Damaged file (place + w * i) (last_number w x))) (sym is) ∙ ap Some (sym fault_is) in
      fault_stands 0 place i 1 n bytes fault (omega arith) before here

  -- a broken record behind the first ones is one of all
  pub broken_then : (place n m all : ℕ) (fault : FileFault) → n + m ≤ all → ShowsBroken value_of w file (place + w * n) m fault → ShowsBroken value_of w file place all fault
  broken_then place n m all Depot room h = tt
  broken_then place n m all (Damaged other at number) room h =
      let broken = h.1 in (
        h.0,
        record {
          index = n + broken.index;
          low = let low = broken.low in omega arith;
          place_is = let at_is = broken.place_is in omega (arith, at_is, times_add w n broken.index);
          bytes = broken.bytes;
          are_bytes = broken.are_bytes;
          long = broken.long;
          no_value = broken.no_value;
          found_is = broken.found_is;
        },
      )

IsBytes-take : (n : ℕ) (xs : List ℕ) → IsBytes xs → IsBytes (take n xs)
IsBytes-take zero xs h k = omega arith
IsBytes-take (suc n) [] h k = h k
IsBytes-take (suc n) (x ∷ xs) h zero = h 0
IsBytes-take (suc n) (x ∷ xs) h (suc k) = IsBytes-take n xs (λ j. h (suc j)) k

-- the bytes of the record behind the first i
pub own_is : (w at span i : ℕ) (bytes : List ℕ) → at ≡ w * i → span ≡ w → take (at + span - at) (drop at bytes) ≡ range_at (0 + w * i) w bytes
own_is w at span i bytes is whole =
    let size : at + span - at ≡ w = omega arith in
    let place : at ≡ 0 + w * i = omega arith in
    ap (λ (k : ℕ). take k (drop at bytes)) size ∙ ap (λ (k : ℕ). take w (drop k bytes)) place

pub length-own : (w at span i n : ℕ) (bytes : List ℕ) → at ≡ w * i → span ≡ w → i < n → length bytes ≡ w * n → length (take (at + span - at) (drop at bytes)) ≡ w
length-own w at span i n bytes is whole low long =
    let within = times_within w (i + 1) n (omega arith) in
    let more = times_more w i in
    let rest = length-drop at bytes in
    let room : w ≤ length (drop at bytes) = omega (arith, within, more, rest) in
    let size : at + span - at ≡ w = omega arith in
    ap (λ (k : ℕ). length (take k (drop at bytes))) size ∙ length-take-le w (drop at bytes) room

pub own_bytes : (at n : ℕ) (bytes : List ℕ) → IsBytes bytes → IsBytes (take n (drop at bytes))
own_bytes at n bytes h = IsBytes-take n (drop at bytes) (IsBytes-drop at bytes h)

-- a record that stands for no value isn't the depot's failing
pub not_depot : {V : Type 0} (value_of : List ℕ → Option V) (w : ℕ) (file : FileKind) (place : ℕ) (rs : List (List ℕ)) → first_damage value_of w file place rs ≡ Some Depot → ⊥
not_depot value_of w file place [] is = cc
not_depot value_of w file place (r ∷ rs) is = by_value (value_of r) (not_depot value_of w file (place + w) rs) is
  where
    by_value : (o : Option _) → (first_damage value_of w file (place + w) rs ≡ Some Depot → ⊥) → damage_by value_of w file place r (first_damage value_of w file (place + w) rs) o ≡ Some Depot → ⊥
    by_value None later h = cc
    by_value (Some v) later h = later h
