-- Which iterations are fed.
use Rattle.std.proofs.Common.{◌≡◌, ℕ, suc, ◌%◌, ◌==◌, ◌≤◌, ◌&&◌, nat_lt, Bool, true, false, cond, refl, add-one, arith}
use Rattle.std.proofs.lemmas.Bool.{eq-eqb, eqb-false, lt-ltb}
use Rattle.lumos_report.specs.declared.records.Kind.TheVariants.{Full, Fed}
use Rattle.early_engine.specs.Passes.{feeds_ahead, kind_of}
use Rattle.early_engine.specs.declared.options.Mode.{Mode}
use Rattle.early_engine.specs.declared.options.Mode.TheVariants as mode

is_fed : (b : Bool) → cond b Full Fed ≡ Fed → b ≡ false
is_fed true h = absurd (cc)
is_fed false h = refl

odd_before : (t : ℕ) → (suc t % 2 == 1) ≡ false → (t % 2 == 1) ≡ true
odd_before t even =
    let apart = eqb-false (suc t % 2) 1 even in
    let odd : t % 2 ≡ 1 = omega (arith, add-one t) in
    eq-eqb (t % 2) 1 odd

both : (a b : Bool) → a ≡ true → b ≡ true → (a && b) ≡ true
both true b h k = k
both false b h k = absurd (cc)

-- the iteration before a fed one fed ahead
pub fed_before : (m : Mode) (limit t : ℕ) → kind_of m (suc t) ≡ Fed → suc t ≤ limit → feeds_ahead m limit t ≡ true
fed_before mode.Plain limit t is low = absurd (cc)
fed_before mode.Fed limit t is low =
    both (t % 2 == 1) (nat_lt t limit) (odd_before t (is_fed (suc t % 2 == 1) is)) (lt-ltb t limit (omega arith))

none_ahead : (b c : Bool) → b ≡ false → (b && c) ≡ false
none_ahead true c h = absurd (cc)
none_ahead false c h = refl

-- a fed iteration doesn't feed ahead
pub fed_not_ahead : (m : Mode) (limit t : ℕ) → kind_of m t ≡ Fed → feeds_ahead m limit t ≡ false
fed_not_ahead mode.Plain limit t is = refl
fed_not_ahead mode.Fed limit t is = none_ahead (t % 2 == 1) (nat_lt t limit) (is_fed (t % 2 == 1) is)
