-- Texts that are written one after another, each of a number from 0 on.
use Rattle.std.proofs.Common.{◌≡◌, ◌<◌, ℕ, suc, ◌+◌, ◌-◌, List, ◌++◌, Option, Result, Ok, Err, IsOk, flat_map, subst, sym, ap, ◌∙◌, arith}
use Rattle.std.specs.List.{range_with_len}
use Rattle.lumos_depot.specs.Streams.{AppendsFront, Writes, after_told}
use Rattle.lumos_depot.proofs.Written.{after_told-after, front_behind, front_longer, front_whole}
use Rattle.early_engine.proofs.Repeats.{texts, texts_cut, texts_from, texts_more}

first_text : (f : ℕ → List ℕ) (i n : ℕ) → i < n → texts_from f i n ≡ f i ++ texts_from f (i + 1) n
first_text f i n h =
    let e : n - i ≡ suc (n - (i + 1)) = omega arith in
    ap (λ (m : ℕ). flat_map f (range_with_len i m)) e

whole_at : {E : Type 0} (mid new : Option (List ℕ)) (r : Result (Unit {0}) E) (text : List ℕ) → IsOk r → Writes mid new r text → new ≡ after_told mid text
whole_at mid new (Ok done) text ok h = h.whole
whole_at mid new (Err e) text ok h = absurd (cc)

-- one more text was written
pub text_written : {E : Type 0} (f : ℕ → List ℕ) (old mid new : Option (List ℕ)) (r : Result (Unit {0}) E) (i : ℕ) → IsOk r → mid ≡ after_told old (texts f i) → Writes mid new r (f i) → new ≡ after_told old (texts f (i + 1))
text_written f old mid new r i ok before h =
    whole_at mid new r (f i) ok h ∙ ap (λ m. after_told m (f i)) before ∙ after_told-after old (texts f i) (f i) ∙ ap (after_told old) (sym (texts_more f i))

-- one more text was cut
pub text_cut : {D E : Type 0} (f : ℕ → List ℕ) (old mid new : Option (List ℕ)) (r : Result (Unit {0}) D) (e : E) (i n : ℕ) → i < n → mid ≡ after_told old (texts f i) → Writes mid new r (f i) → Writes old new (Err e) (texts f n)
text_cut f old mid new r e i n inside before h =
    let all : texts f n ≡ texts f i ++ (f i ++ texts_from f (i + 1) n) = texts_cut f i n (omega arith) ∙ ap (λ t. texts f i ++ t) (first_text f i n inside) in
    record { front = subst (AppendsFront old new) (sym all) (front_behind old mid new (texts f i) (f i ++ texts_from f (i + 1) n) before (front_longer mid new (f i) (texts_from f (i + 1) n) h.front)); whole = tt }

-- all texts were written
pub texts_whole : {E : Type 0} (f : ℕ → List ℕ) (old new : Option (List ℕ)) (i n : ℕ) → i ≡ n → new ≡ after_told old (texts f i) → Writes {E = E} old new (Ok tt) (texts f n)
texts_whole f old new i n all h =
    let whole = h ∙ ap (λ (k : ℕ). after_told old (texts f k)) all in
    record { front = front_whole old new (texts f n) whole; whole = whole }
