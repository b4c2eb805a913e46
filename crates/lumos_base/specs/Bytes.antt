-- Lists of bytes.
use Rattle.std.specs.Prelude.{ℕ, ◌<◌, List, slice_index}

-- each number of the list is a byte
abbrev pub IsBytes : List ℕ → Type 0
IsBytes xs = (k : ℕ) → slice_index xs k < 256
