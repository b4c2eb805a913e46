-- Records outside the range of a write are those that stood there, and stand for the same values.
use Rattle.std.proofs.Common.{◌⊎◌, ℕ, ◌+◌, ◌*◌, ◌≤◌, List, length, map, Option, Some, None, refl, sym, ap, ◌∙◌}
use Rattle.lumos_depot.specs.Files.{SameOutside, SameOutsideTold, range_at}
use Rattle.lumos_depot.proofs.OutsideLemmas.{range_outside}
use Rattle.value_files.specs.Kept.{SameRecords}
use Rattle.value_files.specs.Records.{AreRecords, AreTold, records_at}
use Rattle.value_files.proofs.RecordLemmas.{records_of_range}

pub records_outside : (w place n a count : ℕ) (old new : List ℕ) → SameOutside place n old new → (a + w * count ≤ place) ⊎ (place + n ≤ a) → SameRecords w a count old new
records_outside w place n a count old new same apart =
    let m = w * count in
    let range = range_outside place n a m old new same apart in
    sym (records_of_range w count a m new (range_at a m new) refl refl) ∙ ap (records_at w 0 count) range ∙ records_of_range w count a m old (range_at a m old) refl refl

module _ {V : Type 0} (value_of : List ℕ → Option V) (w : ℕ) where
  pub are_outside : (place n a : ℕ) (items : List V) (old new : List ℕ) → SameOutside place n old new → (a + w * length items ≤ place) ⊎ (place + n ≤ a) → AreRecords value_of w a items old → AreRecords value_of w a items new
  are_outside place n a items old new same apart had =
      ap (map value_of) (records_outside w place n a (length items) old new same apart) ∙ had

  pub told_are_outside : (place n a : ℕ) (items : List V) (old new : Option (List ℕ)) → SameOutsideTold place n old new → (a + w * length items ≤ place) ⊎ (place + n ≤ a) → AreTold value_of w a items old → AreTold value_of w a items new
  told_are_outside place n a items None new same apart had = absurd had
  told_are_outside place n a items (Some old) None same apart had = absurd same
  told_are_outside place n a items (Some old) (Some new) same apart had = are_outside place n a items old new same apart had
