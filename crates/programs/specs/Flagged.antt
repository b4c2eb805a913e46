-- A number of eight bytes with a flag behind it, which are the values of two programs.
use Rattle.std.specs.Prelude.{◌==◌, ℕ, Bool, true, false, if◌then◌else◌, List, [], ◌∷◌, ◌++◌, Option, Some, None, slice_index}
use Rattle.byteorder.specs.Endian.{little_bytes, little_number}

-- the byte of a truth value
abbrev pub flag_byte : Bool → ℕ
flag_byte b = if b then 1 else 0

-- the number in eight bytes, and one that is 1 where the flag is set and else 0
abbrev pub flagged_bytes : ℕ → Bool → List ℕ
flagged_bytes n b = little_bytes 8 n ++ flag_byte b ∷ []

-- the value made of a number and a byte: none where the byte is neither 0 nor 1
abbrev pub flagged_by : {V : Type 0} → (ℕ → Bool → V) → ℕ → ℕ → Option V
flagged_by make n byte = if byte == 0 then Some (make n false) else if byte == 1 then Some (make n true) else None

-- the value that nine bytes stand for
abbrev pub flagged_from : {V : Type 0} → (ℕ → Bool → V) → List ℕ → Option V
flagged_from make bytes = flagged_by make (little_number 8 bytes) (slice_index bytes 8)
