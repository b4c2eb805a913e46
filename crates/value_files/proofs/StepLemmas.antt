-- Records that were read or written, piece by piece.
use Rattle.std.proofs.Common.{◌≡◌, ℕ, ◌+◌, ◌-◌, ◌*◌, ◌≤◌, List, ◌++◌, length, take, drop, map, flat_map, Option, Some, None, Result, Ok, Err, refl, sym, ap, subst, ◌∙◌, arith}
use Rattle.std.specs.Prelude.{⊤, IfSome}
use Rattle.std.specs.Option.{option_map}
use Rattle.std.proofs.Math.Seq.{take-add}
use Rattle.std.proofs.lemmas.Grind.{common_steps}
use Rattle.std.proofs.lemmas.List.Concat.{flat_map-append}
use Rattle.lumos_depot.specs.Files.{overwritten, range_at}
use Rattle.lumos_depot.specs.declared.depot.FileKind.{FileKind}
use Rattle.lumos_depot.proofs.Overwrites.{written_next}
use Rattle.lumos_depot.proofs.StepLemmas.{told_more, told_with}
use Rattle.value_files.specs.declared.fault.FileFault.{FileFault}
use Rattle.value_files.specs.declared.fault.FileFault.TheVariants.{Depot, Damaged}
use Rattle.value_files.specs.Records.{AreRecords, FaultIs, damage_at, first_damage, records_at}
use Rattle.value_files.proofs.DamageLemmas.{fault_stands, sound}
use Rattle.value_files.proofs.RecordLemmas.{are_append, are_of_range, records_of_range}

pub part_length : {X : Type 0} (n m : ℕ) (xs : List X) → n ≤ m → m ≤ length xs → length (take (m - n) (drop n xs)) ≡ m - n
part_length n m xs low high = grind (arith, common_steps)

module _ {V : Type 0} (value_of : List ℕ → Option V) (w : ℕ) (file : FileKind) where
  -- the bytes that were read are those of the file, and so are their values
  pub piece_values : (told : Option (List ℕ)) (place m : ℕ) (bytes : List ℕ) (items : List V) → m ≡ w * length items → IfSome told (λ held. bytes ≡ range_at place m held) → AreRecords value_of w 0 items bytes → IfSome told (AreRecords value_of w place items)
  piece_values told place m bytes items long read are =
      told_more told (λ held. bytes ≡ range_at place m held) (AreRecords value_of w place items)
      (λ held is. are_of_range value_of w place m items held bytes is long are) read

  pub piece_fault : {T : Type 0} (told : Option (List ℕ)) (place n m : ℕ) (bytes : List ℕ) (result : Result T FileFault) → m ≡ w * n → IfSome told (λ held. bytes ≡ range_at place m held) → FaultIs result (first_damage value_of w file place (records_at w 0 n bytes)) → IfSome told (λ held. FaultIs result (damage_at value_of w file place n held))
  piece_fault told place n m bytes result long read is =
      told_more told (λ held. bytes ≡ range_at place m held) (λ held. FaultIs result (damage_at value_of w file place n held))
      (λ held at. subst (λ rs. FaultIs result (first_damage value_of w file place rs)) (records_of_range w n place m held bytes at long) is) read

  -- the first records were read, and those behind them
  pub values_then : (told : Option (List ℕ)) (place : ℕ) (xs ys : List V) → IfSome told (AreRecords value_of w place xs) → IfSome told (AreRecords value_of w (place + w * length xs) ys) → IfSome told (AreRecords value_of w place (xs ++ ys))
  values_then told place xs ys first second =
      told_with told (AreRecords value_of w place xs) (AreRecords value_of w (place + w * length xs) ys) (AreRecords value_of w place (xs ++ ys))
      (λ held is more. are_append value_of w place (place + w * length xs) xs ys held refl is more) first second

  -- records that stand for values have no fault
  pub values_sound : (T : Type 0) (told : Option (List ℕ)) (place n : ℕ) (x : T) (items : List V) → length items ≡ n → IfSome told (AreRecords value_of w place items) → IfSome told (λ held. FaultIs (Ok x) (damage_at value_of w file place n held))
  values_sound T told place n x items long had =
      told_more told (AreRecords value_of w place items) (λ held. damage_at value_of w file place n held ≡ None)
      (λ held is. sound value_of w file place (records_at w place n held) items (ap (λ (k : ℕ). map value_of (records_at w place k held)) (sym long) ∙ is)) had

  -- a fault was found behind the first ones, and it stands whatever comes behind it
  pub fault_then : (T U : Type 0) (told : Option (List ℕ)) (place n m all : ℕ) (items : List V) (fault : FileFault) → length items ≡ n → n + m ≤ all → IfSome told (AreRecords value_of w place items) → IfSome told (λ held. FaultIs {T = T} (Err fault) (damage_at value_of w file (place + w * n) m held)) → IfSome told (λ held. FaultIs {T = U} (Err fault) (damage_at value_of w file place all held))
  fault_then T U told place n m all items Depot long room first second = told_more told (AreRecords value_of w place items) (λ held. ⊤) (λ held is. tt) first
  fault_then T U told place n m all items (Damaged other at found) long room first second =
      told_with told (AreRecords value_of w place items) (λ held. damage_at value_of w file (place + w * n) m held ≡ Some (Damaged other at found)) (λ held. damage_at value_of w file place all held ≡ Some (Damaged other at found))
      (λ held is more. fault_stands value_of w file place place n m all held (Damaged other at found) room
      (sound value_of w file place (records_at w place n held) items (ap (λ (k : ℕ). map value_of (records_at w place k held)) (sym long) ∙ is)) more) first second

-- a piece of values is written behind those before it
pub values_next : {V : Type 0} (bytes_of : V → List ℕ) (place at i past : ℕ) (items : List V) (old mid new : Option (List ℕ)) → i ≤ past → at ≡ place + length (flat_map bytes_of (take i items)) → IfSome old (λ file. at ≤ length file) →
    mid ≡ option_map (overwritten place (flat_map bytes_of (take i items))) old → new ≡ option_map (overwritten at (flat_map bytes_of (take (past - i) (drop i items)))) mid →
    new ≡ option_map (overwritten place (flat_map bytes_of (take past items))) old
values_next bytes_of place at i past items old mid new low is inside one two =
    let before = flat_map bytes_of (take i items) in
    let part = flat_map bytes_of (take (past - i) (drop i items)) in
    let size : i + (past - i) ≡ past = omega arith in
    let whole : before ++ part ≡ flat_map bytes_of (take past items) =
    sym (flat_map-append bytes_of (take i items) (take (past - i) (drop i items)))
    ∙ ap (flat_map bytes_of) (sym (take-add i (past - i) items) ∙ ap (λ (k : ℕ). take k items) size) in
    written_next place at before part is old mid new inside one two
    ∙ ap (λ bytes. option_map (overwritten place bytes) old) whole
