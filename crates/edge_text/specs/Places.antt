-- Places for edges, of which two have to be free wherever a byte is taken.
use Rattle.std.specs.Prelude.{ℕ, ◌≡◌, ◌≤◌, ◌<◌, ◌+◌, List, ◌++◌, length, take, Ok, Err}
use Rattle.lumos_base.specs.declared.records.Edge.{Edge}
use Rattle.edge_text.specs.Lines.{lines_of}
use Rattle.edge_text.specs.Reading.{read_lines, reading}
use Rattle.edge_text.specs.declared.fault.TextFault.{TextFault}
use Rattle.edge_text.specs.declared.fault.TextLimits.{TextLimits}

-- At each byte of a piece before an end, the lines that have ended leave two of so many places free.
abbrev pub HasPlaces : TextLimits → List ℕ → List ℕ → ℕ → ℕ → Type 0
HasPlaces limits seen piece end places =
    (k : ℕ) (edges : List Edge) → k < end → read_lines limits 0 0 (lines_of (seen ++ take k piece)) ≡ Ok edges → length edges + 2 ≤ places

-- Bytes of a piece, at each of which places are free, decide a fault, whatever comes behind them.
pub record IsDecided (limits : TextLimits) (seen piece : List ℕ) (places : ℕ) (fault : TextFault) : Type 0 where
  pub end : ℕ
  pub within : end ≤ length piece
  pub free : HasPlaces limits seen piece end places
  pub decides : (more : List ℕ) → reading limits (seen ++ (take end piece ++ more)) ≡ Err fault
