-- What was read is written as the bytes that were read.
use Rattle.std.proofs.Common.{◌≡◌, ℕ, zero, suc, ◌+◌, ◌-◌, ◌*◌, ◌/◌, ◌%◌, ◌^◌, ◌<◌, ◌≤◌, List, [], ◌∷◌, ◌++◌, length, take, drop, refl, sym, ap, ap₂, ◌∙◌, arith, length-drop, append_assoc, take-append-drop}
use Rattle.std.proofs.Math.Nat.{div-div-eq-div-mul, pow-succ'}
use Rattle.std.proofs.lemmas.List.{drop-drop, take_all}
use Rattle.std.specs.Int.{byte_at, bytes_low_first}
use Rattle.byteorder.specs.Endian.{little_bytes, little_number, little_from}
use Rattle.byteorder.specs.Numbers.{little_from-cons}
use Rattle.lumos_base.specs.Bytes.{IsBytes}
use Rattle.lumos_base.specs.ByteLaws.{IsBytes-drop}
use Rattle.lumos_base.specs.Records.{edge_bytes, edge_from, info_bytes, info_from}

-- the bytes from the next place on are those of the number without its lowest byte
byte_at-shift : (j x : ℕ) → byte_at (suc j) x ≡ byte_at j (x / 256)
byte_at-shift zero x = refl
byte_at-shift (suc j) x =
    ap (λ (p : ℕ). x / p % 256) (pow-succ' 256 (suc j)) ∙ ap (λ (y : ℕ). y % 256) (sym (div-div-eq-div-mul x 256 (256 ^ suc j)))

low_bytes-shift : (j n x : ℕ) → bytes_low_first (suc j) n x ≡ bytes_low_first j n (x / 256)
low_bytes-shift j zero x = refl
low_bytes-shift j (suc n) x = ap₂ ◌∷◌ (byte_at-shift j x) (low_bytes-shift (suc j) n x)

-- what is read of bytes and written again are these bytes
pub number_writes_back : (n : ℕ) (xs : List ℕ) → IsBytes xs → n ≤ length xs → little_bytes n (little_number n xs) ≡ take n xs
number_writes_back zero xs h len = refl
number_writes_back (suc n) [] h len = absurd (omega arith)
number_writes_back (suc n) (x ∷ xs) h len =
    let first : x < 256 = h 0 in
    let moved : little_from 0 (suc n) (x ∷ xs) ≡ x + 256 * little_from 0 n xs = ap (λ (r : ℕ). x + 256 * r) (little_from-cons 0 n x xs) in
    let low : (x + 256 * little_from 0 n xs) % 256 ≡ x = omega arith in
    let high : (x + 256 * little_from 0 n xs) / 256 ≡ little_from 0 n xs = omega arith in
    let rest = low_bytes-shift 0 n (x + 256 * little_from 0 n xs) ∙ ap (little_bytes n) high ∙ number_writes_back n xs (λ k. h (suc k)) (omega arith) in
    ap (little_bytes (suc n)) moved ∙ ap₂ ◌∷◌ low rest

-- twelve bytes are their three parts in a row
three_parts : (xs : List ℕ) → length xs ≡ 12 → take 4 xs ++ take 4 (drop 4 xs) ++ take 4 (drop 8 xs) ≡ xs
three_parts xs len =
    let last : take 4 (drop 8 xs) ≡ drop 8 xs = take_all 4 (drop 8 xs) (simp length-drop (omega arith)) in
    ap (λ z. take 4 xs ++ take 4 (drop 4 xs) ++ z) last
    ∙ append_assoc (take 4 xs) (take 4 (drop 4 xs)) (drop 8 xs)
    ∙ ap (λ z. take 4 xs ++ (take 4 (drop 4 xs) ++ z)) (sym (drop-drop 4 4 xs))
    ∙ ap (λ z. take 4 xs ++ z) (take-append-drop 4 (drop 4 xs))
    ∙ take-append-drop 4 xs

-- an edge that was read is written as the bytes that were read
pub edge_writes_back : (bytes : List ℕ) → IsBytes bytes → length bytes ≡ 12 → edge_bytes (edge_from bytes) ≡ bytes
edge_writes_back bytes h len =
    let first = number_writes_back 4 bytes h (omega arith) in
    let second = number_writes_back 4 (drop 4 bytes) (IsBytes-drop 4 bytes h) (simp length-drop (omega arith)) in
    let third = number_writes_back 4 (drop 8 bytes) (IsBytes-drop 8 bytes h) (simp length-drop (omega arith)) in
    ap₂ ◌++◌ (ap₂ ◌++◌ first second) third ∙ three_parts bytes len

-- an `OutInfo` that was read is written as the bytes that were read
pub info_writes_back : (bytes : List ℕ) → IsBytes bytes → length bytes ≡ 12 → info_bytes (info_from bytes) ≡ bytes
info_writes_back bytes h len =
    let first = number_writes_back 4 bytes h (omega arith) in
    let second = number_writes_back 8 (drop 4 bytes) (IsBytes-drop 4 bytes h) (simp length-drop (omega arith)) in
    let last : take 8 (drop 4 bytes) ≡ drop 4 bytes = take_all 8 (drop 4 bytes) (simp length-drop (omega arith)) in
    ap₂ ◌++◌ first (second ∙ last) ∙ take-append-drop 4 bytes

-- a slice's rest from n on is all that is left
pub rest_of : (n : ℕ) (xs : List ℕ) → take (length xs - n) (drop n xs) ≡ drop n xs
rest_of n xs = take_all (length xs - n) (drop n xs) (simp length-drop (omega arith))
