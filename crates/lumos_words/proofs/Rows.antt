-- The rows that clap keeps for items, and what one more use makes of them.
use Rattle.std.proofs.Common.{◌≡◌, ◌∙◌, Bool, true, false, refl, sym, ap, List, [], ◌∷◌, ◌++◌, map, Some, None, codes, append-nil}
use Rattle.std.specs.Prelude.{◌||◌}
use Rattle.std.specs.Str.{bytes_eq}
use Rattle.std.proofs.lemmas.List.{map-append}
use Rattle.clap.specs.Walk.{Row, at_row, has_row, more_values, takes_values, used}
use Rattle.clap.specs.Kinds.{Kinds}
use Rattle.clap.specs.Faults.{use_fault}
use Rattle.clap.specs.declared.parser.matches.ValueSource.TheVariants.{CommandLine}
use Rattle.clap.specs.declared.builder.value_parser.Reading.TheVariants.{AsWritten}
use Rattle.clap.specs.declared.error.kind.ErrorKind.TheVariants.{ArgumentConflict, InvalidValue}
use Rattle.lumos_words.specs.Options.{Known, Text}
use Rattle.lumos_words.specs.Words.{Item, flagged, key, named, stands, valued}
use Rattle.lumos_words.proofs.TableLemmas.{built_option, built_program}

abbrev pub item_values : Item → List Text
item_values (valued name value) = value ∷ []
item_values (flagged name) = codes "true" ∷ []
item_values (named word) = word ∷ []

abbrev pub item_row : Item → Row
item_row item = record { id = key item; values = item_values item; count = None; source = Some CommandLine; reading = AsWritten }

abbrev pub item_rows : List Item → List Row
item_rows = map item_row

pub row_stands : (name : Text) (items : List Item) → has_row name (item_rows items) ≡ stands name items
row_stands name [] = refl
row_stands name (i ∷ items) = ap (λ (b : Bool). bytes_eq (key i) name || b) (row_stands name items)

pub at_end : (id : Text) (change : Row → List Row) (missing rows : List Row) → has_row id rows ≡ false → at_row id change missing rows ≡ rows ++ missing
at_end id change missing [] h = refl
at_end id change missing (r ∷ rs) h = go (bytes_eq r.id id) refl (at_end id change missing rs)
  where
    go : (b : Bool) → bytes_eq r.id id ≡ b → (has_row id rs ≡ false → at_row id change missing rs ≡ rs ++ missing) → at_row id change missing (r ∷ rs) ≡ (r ∷ rs) ++ missing
    go true e rest =
        let bad : true ≡ false = rw e at h in
        cc
    go false e rest =
        let later : has_row id rs ≡ false = rw e at h in
        rw e (ap (λ (l : List Row). r ∷ l) (rest later))

-- ---- one use

pub valued_takes : (k : Known) → k.is_flag ≡ false → takes_values (built_option k) ≡ true
valued_takes k e = rw e refl

pub flag_takes : (k : Known) → k.is_flag ≡ true → takes_values (built_option k) ≡ false
flag_takes k e = rw e refl

abbrev pub repeat_kinds : Bool → Kinds
repeat_kinds true = ArgumentConflict ∷ []
repeat_kinds false = []

pub valued_fault : (k : Known) (value : Text) (seen : List Item) → k.is_flag ≡ false → use_fault false (built_option k) (value ∷ []) (item_rows seen) ≡ repeat_kinds (stands k.name seen)
valued_fault k value seen e = go (stands k.name seen) (row_stands k.name seen)
  where
    go : (b : Bool) → has_row k.name (item_rows seen) ≡ b → use_fault false (built_option k) (value ∷ []) (item_rows seen) ≡ repeat_kinds b
    go true h = rw (e, h) refl
    go false h = rw (e, h) refl

pub missing_fault : (k : Known) (rows : List Row) → k.is_flag ≡ false → use_fault false (built_option k) [] rows ≡ [] → ⊥
missing_fault k rows e h =
    let bad : InvalidValue ∷ [] ≡ [] = rw e at h in
    cc

pub flag_fault : (k : Known) (seen : List Item) → k.is_flag ≡ true → use_fault false (built_option k) [] (item_rows seen) ≡ repeat_kinds (stands k.name seen)
flag_fault k seen e = go (stands k.name seen) (row_stands k.name seen)
  where
    go : (b : Bool) → has_row k.name (item_rows seen) ≡ b → use_fault false (built_option k) [] (item_rows seen) ≡ repeat_kinds b
    go true h = rw (e, h) refl
    go false h = rw (e, h) refl

pub program_fault : (word : Text) (seen : List Item) → use_fault false built_program (word ∷ []) (item_rows seen) ≡ repeat_kinds (stands (codes "PROGRAM") seen)
program_fault word seen = go (stands (codes "PROGRAM") seen) (row_stands (codes "PROGRAM") seen)
  where
    go : (b : Bool) → has_row (codes "PROGRAM") (item_rows seen) ≡ b → use_fault false built_program (word ∷ []) (item_rows seen) ≡ repeat_kinds b
    go true h = rw h refl
    go false h = rw h refl

-- a new row stands at the end
new_row : (i : Item) (change : Row → List Row) (seen : List Item) → stands (key i) seen ≡ false
    → at_row (key i) change (item_row i ∷ []) (at_row (key i) (λ (r : Row). []) [] (item_rows seen)) ≡ item_rows (seen ++ i ∷ [])
new_row i change seen fresh =
    let none : has_row (key i) (item_rows seen) ≡ false = row_stands (key i) seen ∙ fresh in
    let same : at_row (key i) (λ (r : Row). []) [] (item_rows seen) ≡ item_rows seen = at_end (key i) (λ (r : Row). []) [] (item_rows seen) none ∙ append-nil _ in
    ap (at_row (key i) change (item_row i ∷ [])) same ∙ (at_end (key i) change (item_row i ∷ []) (item_rows seen) none ∙ sym (map-append item_row seen (i ∷ [])))

pub valued_used : (k : Known) (value : Text) (seen : List Item) → k.is_flag ≡ false → stands k.name seen ≡ false
    → used (built_option k) (value ∷ []) (item_rows seen) ≡ item_rows (seen ++ valued k.name value ∷ [])
valued_used k value seen e fresh = rw e (new_row (valued k.name value) (more_values CommandLine (value ∷ [])) seen fresh)

pub flag_used : (k : Known) (seen : List Item) → k.is_flag ≡ true → stands k.name seen ≡ false
    → used (built_option k) [] (item_rows seen) ≡ item_rows (seen ++ flagged k.name ∷ [])
flag_used k seen e fresh = rw e (new_row (flagged k.name) (more_values CommandLine (codes "true" ∷ [])) seen fresh)

pub program_used : (word : Text) (seen : List Item) → stands (codes "PROGRAM") seen ≡ false
    → used built_program (word ∷ []) (item_rows seen) ≡ item_rows (seen ++ named word ∷ [])
program_used word seen fresh = new_row (named word) (more_values CommandLine (word ∷ [])) seen fresh
