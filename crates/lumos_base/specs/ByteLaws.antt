-- Numbers written as bytes, the least byte first, and read again.
use Rattle.std.proofs.Common.{◌≡◌, ℕ, zero, suc, ◌/◌, ◌^◌, ◌<◌, List, [], ◌∷◌, ◌++◌, drop, sym, ap, ◌∙◌, arith, append-nil}
use Rattle.std.proofs.Math.Nat.{mod-lt}
use Rattle.std.specs.Int.{byte_at, bytes_low_first}
use Rattle.byteorder.specs.Endian.{little_bytes, little_number}
use Rattle.byteorder.specs.Numbers.{little_number-reads_back, little_from-lt}
use Rattle.lumos_base.specs.Bytes.{IsBytes}

-- a number that fits in n bytes is read back from them
pub number_reads_back : (n x : ℕ) → x < 256 ^ n → little_number n (little_bytes n x) ≡ x
number_reads_back n x h =
    let plain = little_number-reads_back n x [] h in ap (little_number n) (sym (append-nil (little_bytes n x))) ∙ plain

-- n bytes stand for a number that fits in n bytes
pub number_in_range : (n : ℕ) (xs : List ℕ) → IsBytes xs → little_number n xs < 256 ^ n
number_in_range n xs h = little_from-lt 0 n xs h

byte_at-lt : (j x : ℕ) → byte_at j x < 256
byte_at-lt zero x = mod-lt x (omega arith)
byte_at-lt (suc j) x = mod-lt (x / 256 ^ suc j) (omega arith)

low_bytes-are_bytes : (j n x : ℕ) → IsBytes (bytes_low_first j n x)
low_bytes-are_bytes j zero x k = omega arith
low_bytes-are_bytes j (suc n) x zero = byte_at-lt j x
low_bytes-are_bytes j (suc n) x (suc k) = low_bytes-are_bytes (suc j) n x k

-- a number is written as bytes
pub number_bytes : (n x : ℕ) → IsBytes (little_bytes n x)
number_bytes n x = low_bytes-are_bytes 0 n x

pub IsBytes-append : (xs ys : List ℕ) → IsBytes xs → IsBytes ys → IsBytes (xs ++ ys)
IsBytes-append [] ys h g k = g k
IsBytes-append (x ∷ xs) ys h g zero = h 0
IsBytes-append (x ∷ xs) ys h g (suc k) = IsBytes-append xs ys (λ j. h (suc j)) g k

pub IsBytes-drop : (n : ℕ) (xs : List ℕ) → IsBytes xs → IsBytes (drop n xs)
IsBytes-drop zero xs h = h
IsBytes-drop (suc n) [] h = h
IsBytes-drop (suc n) (x ∷ xs) h = IsBytes-drop n xs (λ j. h (suc j))
