-- The records of vertices lie inside their files, and apart from one another.
use Rattle.std.proofs.Common.{◌≡◌, ◌≢◌, ◌⊎◌, inl, inr, ℕ, zero, suc, ◌+◌, ◌*◌, ◌%◌, ◌<◌, ◌≤◌, List, length, flat_map, Option, Some, All, refl, sym, ap, ◌∙◌, arith}
use Rattle.std.specs.Prelude.{IfSome}
use Rattle.std.specs.Option.{option_map}
use Rattle.std.proofs.Math.Nat.{mod-lt, mul_comm}
use Rattle.lumos_depot.specs.Files.{SameOutside, overwritten}
use Rattle.lumos_depot.proofs.StepLemmas.{told_by}
use Rattle.value_files.specs.Kept.{AreApart, SameRecords, sum_place, value_place}
use Rattle.value_files.specs.Records.{AreRecords}
use Rattle.value_files.proofs.BackLemmas.{read_back}
use Rattle.value_files.proofs.OutsideLemmas.{records_outside}
use Rattle.value_files.proofs.RecordLemmas.{times_add, times_within}

turn_within : (b n : ℕ) → b < 2 → b * n + n ≤ 2 * n
turn_within zero n low = omega arith
turn_within (suc zero) n low = omega arith
turn_within (suc (suc b)) n low = absurd (omega arith)

turns_apart : (a b n : ℕ) → a < 2 → b < 2 → a ≢ b → (a * n + n ≤ b * n) ⊎ (b * n + n ≤ a * n)
turns_apart zero zero n la lb apart = absurd (apart refl)
turns_apart zero (suc zero) n la lb apart = inl (omega arith)
turns_apart (suc zero) zero n la lb apart = inr (omega arith)
turns_apart (suc zero) (suc zero) n la lb apart = absurd (apart refl)
turns_apart (suc (suc a)) b n la lb apart = absurd (omega arith)
turns_apart a (suc (suc b)) n la lb apart = absurd (omega arith)

-- so many records from a number on end where the next ones begin
ends_at : (w p len : ℕ) → p * w + w * len ≡ w * (p + len)
ends_at w p len = ap (λ (k : ℕ). k + w * len) (mul_comm p w) ∙ sym (times_add w p len)

before_of : (w p len q : ℕ) → p + len ≤ q → p * w + w * len ≤ q * w
before_of w p len q low =
    let ends = ends_at w p len in
    let within = times_within w (p + len) q low in
    let turned = mul_comm q w in
    omega (arith, ends, within, turned)

pub value_inside : (w n t first len : ℕ) → first + len ≤ n → value_place w n t first + w * len ≤ 2 * n * w
value_inside w n t first len low =
    let b = t % 2 in
    let turn = turn_within b n (mod-lt t (omega arith)) in
    before_of w (b * n + first) len (2 * n) (omega arith)

pub sum_inside : (w first len past : ℕ) → first + len ≤ past → sum_place w first + w * len ≤ past * w
sum_inside w first len past low = before_of w first len past low

-- the records of ranges that are apart are apart
pub sums_apart : (w a m b n : ℕ) → AreApart a m b n → (sum_place w a + w * m ≤ sum_place w b) ⊎ (sum_place w b + w * n ≤ sum_place w a)
sums_apart w a m b n (inl low) = inl (before_of w a m b low)
sums_apart w a m b n (inr low) = inr (before_of w b n a low)

pub values_apart : (w n t a m b k : ℕ) → AreApart a m b k → (value_place w n t a + w * m ≤ value_place w n t b) ⊎ (value_place w n t b + w * k ≤ value_place w n t a)
values_apart w n t a m b k (inl low) = inl (before_of w (t % 2 * n + a) m (t % 2 * n + b) (omega arith))
values_apart w n t a m b k (inr low) = inr (before_of w (t % 2 * n + b) k (t % 2 * n + a) (omega arith))

-- and so are those after even iterations and after odd ones
pub turns_are_apart : (w n t u a m b k : ℕ) → t % 2 ≢ u % 2 → a + m ≤ n → b + k ≤ n → (value_place w n t a + w * m ≤ value_place w n u b) ⊎ (value_place w n u b + w * k ≤ value_place w n t a)
turns_are_apart w n t u a m b k apart one two = by_turn (turns_apart (t % 2) (u % 2) n (mod-lt t (omega arith)) (mod-lt u (omega arith)) apart)
  where
    by_turn : (t % 2 * n + n ≤ u % 2 * n) ⊎ (u % 2 * n + n ≤ t % 2 * n) → (value_place w n t a + w * m ≤ value_place w n u b) ⊎ (value_place w n u b + w * k ≤ value_place w n t a)
    by_turn (inl low) = inl (before_of w (t % 2 * n + a) m (u % 2 * n + b) (omega arith))
    by_turn (inr low) = inr (before_of w (u % 2 * n + b) k (t % 2 * n + a) (omega arith))

-- two iterations, one behind the other
next_differs : (t : ℕ) → t % 2 ≢ (t + 1) % 2
next_differs t same = omega (arith, same)

pub before_apart : (w n t a m b k : ℕ) → a + m ≤ n → b + k ≤ n → (value_place w n t a + w * m ≤ value_place w n (t + 1) b) ⊎ (value_place w n (t + 1) b + w * k ≤ value_place w n t a)
before_apart w n t a m b k one two = turns_are_apart w n t (t + 1) a m b k (next_differs t) one two

-- what was written where there is room for it is read back
pub told_back : {V : Type 0} (bytes_of : V → List ℕ) (w : ℕ) (long : (v : V) → length (bytes_of v) ≡ w) (value_of : List ℕ → Option V) (In : V → Type 0) (back : (v : V) → In v → value_of (bytes_of v) ≡ Some v)
    (items : List V) (place : ℕ) (old new : Option (List ℕ)) (P : List ℕ → Type 0) → ((file : List ℕ) → P file → place + w * length items ≤ length file) → All In items → IfSome old P → new ≡ option_map (overwritten place (flat_map bytes_of items)) old → IfSome new (AreRecords value_of w place items)
told_back bytes_of w long value_of In back items place old new P room all had is =
    told_by (overwritten place (flat_map bytes_of items)) old new P (AreRecords value_of w place items) is
    (λ file fits. read_back bytes_of w long value_of In back items place file all (room file fits)) had

apart_turned : (a m b n : ℕ) → AreApart a m b n → AreApart b n a m
apart_turned a m b n (inl low) = inr low
apart_turned a m b n (inr low) = inl low

-- what a store of a range leaves of the others
pub other_values : (w n t first len other count : ℕ) (old new : List ℕ) → AreApart first len other count → SameOutside (value_place w n t first) (w * len) old new → SameRecords w (value_place w n t other) count old new
other_values w n t first len other count old new apart same =
    records_outside w (value_place w n t first) (w * len) (value_place w n t other) count old new same
    (values_apart w n t other count first len (apart_turned first len other count apart))

pub values_before : (w n t first len other count : ℕ) (old new : List ℕ) → first + len ≤ n → other + count ≤ n → SameOutside (value_place w n (t + 1) first) (w * len) old new → SameRecords w (value_place w n t other) count old new
values_before w n t first len other count old new one two same =
    records_outside w (value_place w n (t + 1) first) (w * len) (value_place w n t other) count old new same
    (before_apart w n t other count first len two one)

pub other_sums : (w first len other count : ℕ) (old new : List ℕ) → AreApart first len other count → SameOutside (sum_place w first) (w * len) old new → SameRecords w (sum_place w other) count old new
other_sums w first len other count old new apart same =
    records_outside w (sum_place w first) (w * len) (sum_place w other) count old new same
    (sums_apart w other count first len (apart_turned first len other count apart))
