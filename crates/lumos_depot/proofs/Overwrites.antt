-- Bytes written over those of a file, one write behind another.
use Rattle.std.proofs.Common.{◌≡◌, ◌≤◌, ◌+◌, ℕ, List, [], ◌++◌, length, take, drop, refl, sym, ap, ap₂, ◌∙◌, arith, Option, Some, None, append_assoc, append-nil, length-append, length-drop}
use Rattle.std.specs.Prelude.{IfSome}
use Rattle.std.specs.Option.{option_map}
use Rattle.std.proofs.lemmas.List.{drop_at, drop-drop, length-take-le, take-append-drop, take_at}
use Rattle.lumos_depot.specs.Files.{overwritten}

-- nothing was written
pub overwritten_none : (place : ℕ) (file : List ℕ) → overwritten place [] file ≡ file
overwritten_none place file =
    let start : place + 0 ≡ place = omega arith in
    ap₂ ◌++◌ (append-nil (take place file)) (ap (λ (k : ℕ). drop k file) start) ∙ take-append-drop place file

module _ (place next : ℕ) (first second : List ℕ) (is : next ≡ place + length first) where
  -- a write right behind another
  overwritten_next : (file : List ℕ) → next ≤ length file → overwritten next second (overwritten place first file) ≡ overwritten place (first ++ second) file
  overwritten_next file inside =
      let rest = drop (place + length first) file in
      let long : length (take place file ++ first) ≡ next = omega (arith, length-append (take place file) first, length-take-le place file (omega arith)) in
      let past : place + length first + length second ≡ place + length (first ++ second) = omega (arith, length-append first second) in
      ap₂ ◌++◌
      (ap (λ l. l ++ second) (take_at (take place file ++ first) rest next long) ∙ append_assoc (take place file) first second)
      (sym (drop-drop (length second) next (take place file ++ first ++ rest))
      ∙ ap (drop (length second)) (drop_at (take place file ++ first) rest next long)
      ∙ drop-drop (length second) (place + length first) file
      ∙ ap (λ (k : ℕ). drop k file) past)

  -- the same where a file is told
  pub written_next : (old mid new : Option (List ℕ)) → IfSome old (λ file. next ≤ length file) → mid ≡ option_map (overwritten place first) old → new ≡ option_map (overwritten next second) mid → new ≡ option_map (overwritten place (first ++ second)) old
  written_next None mid new inside one two = two ∙ ap (option_map (overwritten next second)) one
  written_next (Some file) mid new inside one two = two ∙ ap (option_map (overwritten next second)) one ∙ ap Some (overwritten_next file inside)

-- nothing was written yet
pub written_none : (place : ℕ) (told : Option (List ℕ)) → told ≡ option_map (overwritten place []) told
written_none place None = refl
written_none place (Some file) = ap Some (sym (overwritten_none place file))

-- a write keeps the length
pub length-overwritten : (place : ℕ) (bytes file : List ℕ) → place + length bytes ≤ length file → length (overwritten place bytes file) ≡ length file
length-overwritten place bytes file inside =
    omega (arith, length-append (take place file ++ bytes) (drop (place + length bytes) file), length-append (take place file) bytes, length-take-le place file (omega arith), length-drop (place + length bytes) file)
