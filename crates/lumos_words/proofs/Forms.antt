-- What a word looks like, in our words and in clap's.
use Rattle.std.proofs.Common.{◌≡◌, ℕ, Bool, true, false, refl, ap, List, [], ◌∷◌, length, Some, None, codes, arith, eqb-true}
use Rattle.std.specs.Prelude.{◌==◌, slice_get}
use Rattle.std.specs.Str.{bytes_eq, chars, IsUtf8}
use Rattle.std.proofs.lemmas.Str.{encodes-chars}
use Rattle.std.proofs.Math.Utf8.{encodes, encode}
use Rattle.clap.specs.Lexer.{long_of, short_of}
use Rattle.lumos_words.specs.Options.{Text}
use Rattle.lumos_words.specs.Words.{is_plain, name_part, option_part, value_part}

pub end_word : Text
end_word = codes "--"

hyphen : length (encodes (45 ∷ [])) ≡ 1
unfolding encode
hyphen = refl

pub record LooksPlain (word : Text) : Type 0 where
  pub no_end : bytes_eq word (45 ∷ 45 ∷ []) ≡ false
  pub no_long : long_of word ≡ None
  pub no_short : short_of word ≡ None

pub plain_looks : (word : Text) → is_plain word ≡ true → LooksPlain word
plain_looks [] h = record { no_end = refl; no_long = refl; no_short = refl }
plain_looks (x ∷ []) h = go (x == 45) refl
  where
    go : (b : Bool) → (x == 45) ≡ b → LooksPlain (x ∷ [])
    go true e = record { no_end = rw e refl; no_long = rw e refl; no_short = rw e refl }
    go false e = record { no_end = rw e refl; no_long = rw e refl; no_short = rw e refl }
plain_looks (x ∷ y ∷ ys) h = go (x == 45) refl
  where
    go : (b : Bool) → (x == 45) ≡ b → LooksPlain (x ∷ y ∷ ys)
    go true e =
        let bad : false ≡ true = rw e at h in
        cc
    go false e = record { no_end = rw e refl; no_long = rw e refl; no_short = rw e refl }

pub record LooksLong (word part : Text) : Type 0 where
  pub no_end : bytes_eq word (45 ∷ 45 ∷ []) ≡ false
  pub long : long_of word ≡ Some (name_part part, value_part part)

pub long_looks : (word part : Text) → option_part word ≡ Some part → LooksLong word part
long_looks [] part h = cc
long_looks (x ∷ []) part h = cc
long_looks (x ∷ y ∷ []) part h = cc
long_looks (x ∷ y ∷ z ∷ rest) part h = go (x == 45) (y == 45) refl refl
  where
    go : (a b : Bool) → (x == 45) ≡ a → (y == 45) ≡ b → LooksLong (x ∷ y ∷ z ∷ rest) part
    go true true ea eb =
        let is : Some (z ∷ rest) ≡ Some part = rw (ea, eb) at h in
        let same : z ∷ rest ≡ part = cc in
        record { no_end = rw (ea, eb) refl; long = rw (← same, ea, eb) refl }
    go true false ea eb =
        let bad : None ≡ Some part = rw (ea, eb) at h in
        cc
    go false b ea eb =
        let bad : None ≡ Some part = rw ea at h in
        cc

pub record LooksShort (word : Text) : Type 0 where
  pub first : ℕ
  pub rest : Text
  pub is : word ≡ 45 ∷ first ∷ rest
  pub long : long_of word ≡ None
  pub short : short_of word ≡ Some (first ∷ rest)

pub short_looks : (word : Text) → is_plain word ≡ false → option_part word ≡ None → bytes_eq word (45 ∷ 45 ∷ []) ≡ false → LooksShort word
short_looks [] h o e = cc
short_looks (x ∷ []) h o e = cc
short_looks (x ∷ y ∷ ys) h o e = go (x == 45) (y == 45) refl refl ys refl
  where
    go : (a b : Bool) → (x == 45) ≡ a → (y == 45) ≡ b → (rest : Text) → ys ≡ rest → LooksShort (x ∷ y ∷ ys)
    go true true ea eb [] r =
        let bad : true ≡ false = rw (r, ea, eb) at e in
        cc
    go true true ea eb (z ∷ zs) r =
        let bad : Some (z ∷ zs) ≡ None = rw (r, ea, eb) at o in
        cc
    go true false ea eb rest r = record {
      first = y;
      rest = ys;
      is = ap (λ (n : ℕ). n ∷ y ∷ ys) (eqb-true x 45 ea);
      long = rw (ea, eb) refl;
      short = rw (ea, eb) refl;
    }
    go false b ea eb rest r =
        let bad : true ≡ false = rw ea at h in
        cc

-- a text that goes on after a hyphen has a character there
after_hyphen : (y : ℕ) (ys : Text) → chars (45 ∷ y ∷ ys) ≡ 45 ∷ chars (y ∷ ys)
unfolding chars
after_hyphen y ys = refl

pub has_char : (y : ℕ) (ys : Text) → IsUtf8 (45 ∷ y ∷ ys) → (x : ℕ) × (slice_get (chars (y ∷ ys)) 0 ≡ Some x)
has_char y ys utf = go (chars (y ∷ ys)) refl
  where
    go : (cs : List ℕ) → chars (y ∷ ys) ≡ cs → (x : ℕ) × (slice_get (chars (y ∷ ys)) 0 ≡ Some x)
    go [] e =
        let whole = encodes-chars (45 ∷ y ∷ ys) utf in
        let one : encodes (45 ∷ []) ≡ 45 ∷ y ∷ ys = rw (after_hyphen y ys, e) at whole in
        let short : length (encodes (45 ∷ [])) ≡ 1 = hyphen in
        absurd (omega (arith, ap length one))
    go (x ∷ xs) e = (x, rw e refl)

-- a word with two hyphens is no value
pub long_not_plain : (word part : Text) → option_part word ≡ Some part → is_plain word ≡ false
long_not_plain [] part h = cc
long_not_plain (x ∷ []) part h = cc
long_not_plain (x ∷ y ∷ []) part h = cc
long_not_plain (x ∷ y ∷ z ∷ rest) part h = go (x == 45) refl
  where
    go : (b : Bool) → (x == 45) ≡ b → is_plain (x ∷ y ∷ z ∷ rest) ≡ false
    go true e = rw e refl
    go false e =
        let bad : None ≡ Some part = rw e at h in
        cc
