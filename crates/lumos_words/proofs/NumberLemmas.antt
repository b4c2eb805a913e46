-- Numbers as std reads them.
use Rattle.std.proofs.Common.{◌≡◌, ◌∙◌, ℕ, Bool, true, false, refl, sym, ap, arith, [], ◌∷◌, length, Some, None, Result, Ok, Err, ltb-true, lt-ltb}
use Rattle.std.specs.Prelude.{◌^◌, ◌&&◌, ◌==◌, nat_lt, slice_index}
use Rattle.std.specs.List.{list_all}
use Rattle.std.specs.Char.{digit_value}
use Rattle.std.specs.Result.{result_ok}
use Rattle.std.specs.Str.Parse.{AllDigits, ParsesUnsigned, digits_value}
use Rattle.std.proofs.lemmas.Bool.Decides.{nat_tests}
use Rattle.clap.proofs.WalkLemmas.{both}
use Rattle.lumos_words.specs.Options.{Text}
use Rattle.lumos_words.specs.Numbers.{is_digit, number_of}

pub digit_test : (d : ℕ) → nat_lt (digit_value d) 10 ≡ is_digit d
digit_test d = grind (arith, nat_tests)

digits_pass : (ds : Text) → AllDigits 10 ds → list_all is_digit ds ≡ true
digits_pass [] h = refl
digits_pass (d ∷ ds) h =
    let first : is_digit d ≡ true = sym (digit_test d) ∙ lt-ltb (digit_value d) 10 h.0 in
    rw (first, digits_pass ds h.1) refl

digits_from : (ds : Text) → list_all is_digit ds ≡ true → AllDigits 10 ds
digits_from [] h = tt
digits_from (d ∷ ds) h =
    let parts = both _ _ h in
    (ltb-true _ _ (digit_test d ∙ parts.0), digits_from ds parts.1)

abbrev fits : Text → Bool
fits text = nat_lt 0 (length text) && list_all is_digit text && nat_lt (digits_value 10 text) (2 ^ 64)

pub number_read : {E : Type 0} (text : Text) (r : Result ℕ E) → (slice_index text 0 == 43) ≡ false → ParsesUnsigned 64 10 text r → result_ok r ≡ number_of text
number_read text (Ok n) plain h =
    let g = rw plain at h in
    let one = lt-ltb 0 (length text) g.0.0.0 in
    let two = digits_pass text g.0.0.1 in
    let three = lt-ltb (digits_value 10 text) (2 ^ 64) g.0.1 in
    let test : fits text ≡ true = rw (one, two, three) refl in
    rw test (ap Some g.1)
number_read text (Err e) plain h = go (fits text) refl
  where
    go : (b : Bool) → fits text ≡ b → None ≡ number_of text
    go false t = rw t refl
    go true t =
        let g = rw plain at h in
        let outer = both _ _ t in
        let inner = both _ _ outer.0 in
        absurd (g ((ltb-true _ _ inner.0, digits_from text inner.1), ltb-true _ _ outer.1))
