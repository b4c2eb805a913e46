-- What was written is read back.
use Rattle.std.proofs.Common.{◌≡◌, ℕ, zero, suc, ◌+◌, ◌*◌, ◌≤◌, List, [], ◌∷◌, ◌++◌, length, take, drop, map, flat_map, Option, Some, All, refl, sym, ap, ap₂, ◌∙◌, arith, length-append, append_assoc}
use Rattle.std.proofs.Math.Nat.{mul-suc}
use Rattle.std.proofs.lemmas.List.{drop_at, length-take-le, take_at}
use Rattle.std.proofs.lemmas.List.Elements.{All-head, All-tail}
use Rattle.lumos_depot.specs.Files.{overwritten, range_at}
use Rattle.value_files.specs.Records.{AreRecords, records_at}

module _ {V : Type 0} (bytes_of : V → List ℕ) (w : ℕ) (long : (v : V) → length (bytes_of v) ≡ w) where
  -- the bytes of values, one after another
  pub length-all : (items : List V) → length (flat_map bytes_of items) ≡ w * length items
  length-all [] = let none : 0 ≡ w * zero = omega arith in none
  length-all (x ∷ xs) = omega (arith, length-append (bytes_of x) (flat_map bytes_of xs), long x, length-all xs, mul-suc w (length xs))

  module _ (value_of : List ℕ → Option V) (In : V → Type 0) (back : (v : V) → In v → value_of (bytes_of v) ≡ Some v) where
    back_at : (place : ℕ) (items : List V) (front rest : List ℕ) → length front ≡ place → All In items → AreRecords value_of w place items (front ++ (flat_map bytes_of items ++ rest))
    back_at place [] front rest is all = refl
    back_at place (x ∷ xs) front rest is all =
        let more = flat_map bytes_of xs ++ rest in
        let cut : front ++ (bytes_of x ++ flat_map bytes_of xs ++ rest) ≡ front ++ bytes_of x ++ more =
        ap (λ l. front ++ l) (append_assoc (bytes_of x) (flat_map bytes_of xs) rest) ∙ sym (append_assoc front (bytes_of x) more) in
        let past : length (front ++ bytes_of x) ≡ place + w = omega (arith, length-append front (bytes_of x), long x) in
        let from : drop place (front ++ bytes_of x ++ more) ≡ bytes_of x ++ more = ap (drop place) (append_assoc front (bytes_of x) more) ∙ drop_at front (bytes_of x ++ more) place is in
        let first : range_at place w (front ++ bytes_of x ++ more) ≡ bytes_of x = ap (take w) from ∙ take_at (bytes_of x) more w (long x) in
        ap (λ l. map value_of (records_at w place (suc (length xs)) l)) cut
        ∙ ap₂ ◌∷◌ (ap value_of first ∙ back x (All-head In x xs all)) (back_at (place + w) xs (front ++ bytes_of x) rest past (All-tail In x xs all))

    -- what was written at a place of a file is read back from there
    pub read_back : (items : List V) (place : ℕ) (file : List ℕ) → All In items → place + w * length items ≤ length file → AreRecords value_of w place items (overwritten place (flat_map bytes_of items) file)
    read_back items place file all inside =
        let bytes = flat_map bytes_of items in
        ap (λ l. map value_of (records_at w place (length items) l)) (append_assoc (take place file) bytes (drop (place + length bytes) file))
        ∙ back_at place items (take place file) (drop (place + length bytes) file) (length-take-le place file (omega arith)) all
