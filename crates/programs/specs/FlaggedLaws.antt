-- The laws of the bytes of a number with a flag.
use Rattle.std.proofs.Common.{◌≡◌, ◌==◌, ℕ, zero, suc, ◌^◌, ◌<◌, Bool, true, false, cond, List, [], ◌∷◌, Some, None, slice_index, refl, sym, ap, ◌∙◌, arith}
use Rattle.std.proofs.lemmas.Option.{same_Some, none-some}
use Rattle.byteorder.specs.Endian.{little_bytes, little_number}
use Rattle.byteorder.specs.Numbers.{little_number-reads_back}
use Rattle.lumos_base.specs.ByteLaws.{IsBytes-append, number_bytes, number_in_range}
use Rattle.lumos_base.specs.Bytes.{IsBytes}
use Rattle.programs.specs.Flagged.{flag_byte, flagged_bytes, flagged_by, flagged_from}

flag_is_byte : (b : Bool) → IsBytes (flag_byte b ∷ [])
flag_is_byte true zero = omega arith
flag_is_byte true (suc k) = omega arith
flag_is_byte false zero = omega arith
flag_is_byte false (suc k) = omega arith

pub flagged_are_bytes : (n : ℕ) (b : Bool) → IsBytes (flagged_bytes n b)
flagged_are_bytes n b = IsBytes-append (little_bytes 8 n) (flag_byte b ∷ []) (number_bytes 8 n) (flag_is_byte b)

flag_reads_back : {V : Type 0} (make : ℕ → Bool → V) (n : ℕ) (b : Bool) → flagged_by make n (flag_byte b) ≡ Some (make n b)
flag_reads_back make n true = refl
flag_reads_back make n false = refl

-- a number in range is read back with its flag
pub flagged_reads_back : {V : Type 0} (make : ℕ → Bool → V) (n : ℕ) (b : Bool) → n < 2 ^ 64
    → flagged_from make (flagged_bytes n b) ≡ Some (make n b)
flagged_reads_back make n b h =
    ap (λ m. flagged_by make m (flag_byte b)) (little_number-reads_back 8 n (flag_byte b ∷ []) h) ∙ flag_reads_back make n b

-- what is read has the number that was read
number_kept : {V : Type 0} (make : ℕ → Bool → V) (number : V → ℕ) → ((n : ℕ) (b : Bool) → number (make n b) ≡ n)
    → (n : ℕ) (a b : Bool) (x : V) → cond a (Some (make n false)) (cond b (Some (make n true)) None) ≡ Some x → number x ≡ n
number_kept make number made n true b x is = sym (ap number (same_Some _ _ is)) ∙ made n false
number_kept make number made n false true x is = sym (ap number (same_Some _ _ is)) ∙ made n true
number_kept make number made n false false x is = absurd (none-some _ is)

-- bytes that stand for a value stand for one whose number is in range
pub flagged_in_range : {V : Type 0} (make : ℕ → Bool → V) (number : V → ℕ) → ((n : ℕ) (b : Bool) → number (make n b) ≡ n)
    → (bytes : List ℕ) (x : V) → IsBytes bytes → flagged_from make bytes ≡ Some x → number x < 2 ^ 64
flagged_in_range make number made bytes x h is =
    let byte = slice_index bytes 8 in
    let same = number_kept make number made (little_number 8 bytes) (byte == 0) (byte == 1) x is in
    let fits = number_in_range 8 bytes h in
    rw same fits
