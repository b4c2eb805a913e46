-- Fields at the front of a line's bytes.
use Rattle.std.proofs.Common.{◌≡◌, ℕ, Bool, true, false, eqb, leb, List, [], ◌∷◌, ◌++◌, ◌∙◌, ap, inl, inr, ◌⊎◌, arith}
use Rattle.std.specs.List.{list_all}
use Rattle.std.proofs.lemmas.Bool.{and_parts, and_left, and_right, leb-true, ne_eqb, or_from, cond-false, cond-true, cases_Bool}
use Rattle.edge_text.specs.Fields.{begins_blank, fields_of, is_blank, is_comment, is_digit}
use Rattle.edge_text.specs.Lines.{onto_first}

abbrev pub digits : List ℕ → Bool
digits xs = list_all is_digit xs

pub digit_dark : (b : ℕ) → is_digit b ≡ true → is_blank b ≡ false
digit_dark b h = let p = and_parts (leb 48 b) (leb b 57) h in let low = leb-true 48 b p.0 in
    or_from (eqb b 32) (eqb b 9) (ne_eqb b 32 (λ e. omega arith)) (ne_eqb b 9 (λ e. omega arith))

pub digit_no_comment : (b : ℕ) (field : List ℕ) → is_digit b ≡ true → is_comment (b ∷ field) ≡ false
digit_no_comment b field h = let p = and_parts (leb 48 b) (leb b 57) h in let low = leb-true 48 b p.0 in
    or_from (eqb b 35) (eqb b 37) (ne_eqb b 35 (λ e. omega arith)) (ne_eqb b 37 (λ e. omega arith))

-- a blank in front is passed over
pub fields-blank : (b : ℕ) (more : List ℕ) → is_blank b ≡ true → fields_of (b ∷ more) ≡ fields_of more
fields-blank b more h = cond-true (is_blank b) _ _ h

-- a byte in front of one that isn't blank
front_longer : (x : ℕ) (more : List ℕ) → is_blank x ≡ false → begins_blank more ≡ false → fields_of (x ∷ more) ≡ onto_first x (fields_of more)
front_longer x more dark next = cond-false (is_blank x) _ _ dark ∙ cond-false (begins_blank more) _ _ next

-- digits up to a blank or the end are a field
pub fields-ended : (x : ℕ) (ds more : List ℕ) → digits (x ∷ ds) ≡ true → begins_blank more ≡ true → fields_of (x ∷ ds ++ more) ≡ (x ∷ ds) ∷ fields_of more
fields-ended x [] more h ends =
    let p = and_parts (is_digit x) true h in
    cond-false (is_blank x) _ _ (digit_dark x p.0) ∙ cond-true (begins_blank more) _ _ ends
fields-ended x (y ∷ ds) more h ends =
    let p = and_parts (is_digit x) (digits (y ∷ ds)) h in
    let q = and_parts (is_digit y) (digits ds) p.1 in
    front_longer x (y ∷ ds ++ more) (digit_dark x p.0) (digit_dark y q.0) ∙ ap (onto_first x) (fields-ended y ds more p.1 ends)

-- a field that these digits and then this byte begin
pub record HasFront (ds : List ℕ) (b : ℕ) (more : List ℕ) : Type 0 where
  pub field : List ℕ
  pub fields : List (List ℕ)
  pub is : fields_of (ds ++ b ∷ more) ≡ (ds ++ b ∷ field) ∷ fields

front_at : (b y : ℕ) (more : List ℕ) → is_blank b ≡ false → (is_blank y ≡ true) ⊎ (is_blank y ≡ false) → (is_blank y ≡ false → HasFront [] y more) → HasFront [] b (y ∷ more)
front_at b y more dark (inl blank) next = record { field = []; fields = fields_of (y ∷ more); is = cond-false (is_blank b) _ _ dark ∙ cond-true (is_blank y) _ _ blank }
front_at b y more dark (inr other) next =
    let f = next other in
    record { field = y ∷ f.field; fields = f.fields; is = front_longer b (y ∷ more) dark other ∙ ap (onto_first b) f.is }

front_of : (b : ℕ) (more : List ℕ) → is_blank b ≡ false → HasFront [] b more
front_of b [] dark = record { field = []; fields = []; is = cond-false (is_blank b) _ _ dark }
front_of b (y ∷ more) dark = front_at b y more dark (cases_Bool (is_blank y)) (front_of y more)

digits_dark : (ds : List ℕ) (b : ℕ) (more : List ℕ) → digits ds ≡ true → is_blank b ≡ false → begins_blank (ds ++ b ∷ more) ≡ false
digits_dark [] b more h dark = dark
digits_dark (x ∷ ds) b more h dark = let p = and_parts (is_digit x) (digits ds) h in digit_dark x p.0

pub front_with : (ds : List ℕ) (b : ℕ) (more : List ℕ) → digits ds ≡ true → is_blank b ≡ false → HasFront ds b more
front_with [] b more h dark = front_of b more dark
front_with (x ∷ ds) b more h dark =
    let p = and_parts (is_digit x) (digits ds) h in
    let f = front_with ds b more p.1 dark in
    record { field = f.field; fields = f.fields; is = front_longer x (ds ++ b ∷ more) (digit_dark x p.0) (digits_dark ds b more p.1 dark) ∙ ap (onto_first x) f.is }

-- a field with a byte that is no digit is no number
pub not_digits : (ds : List ℕ) (b : ℕ) (field : List ℕ) → is_digit b ≡ false → digits (ds ++ b ∷ field) ≡ false
not_digits [] b field h = and_left (is_digit b) (digits field) h
not_digits (x ∷ ds) b field h = and_right (is_digit x) (digits (ds ++ b ∷ field)) (not_digits ds b field h)
