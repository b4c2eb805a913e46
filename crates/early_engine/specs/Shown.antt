-- The values that are kept, as lines of a report.
use Rattle.std.specs.Prelude.{◌≡◌, ◌<◌, ℕ, List, Option, Result, Ok, Err}
use Rattle.lumos_depot.specs.Streams.{AppendsFront, after_told}
use Rattle.lumos_law.specs.Sync.{IsChunk}
use Rattle.windows.specs.Kept.{Keeps, KeepsList}
use Rattle.windows.specs.Windows.{Coding, Told, WindowState, chunk_first}
use Rattle.early_engine.specs.declared.options.RunFault.{RunFault}

module _ {V S : Type 0} (coding : Coding V S) (windows : WindowState V S) (told : Told) (t : ℕ) where
  -- A state has the values after iteration t of each chunk below m whose values are kept.
  abbrev pub AgreesBelow : ℕ → (ℕ → V) → Type 0
  AgreesBelow m state = (j : ℕ) → j < m → (xs : List V) → KeepsList coding windows told t j xs → IsChunk state (chunk_first windows j) xs

  -- of each chunk
  abbrev pub Agrees : (ℕ → V) → Type 0
  Agrees state = AgreesBelow windows.cut.parts state

  -- The values after iteration t that are kept are those of a state.
  abbrev pub KeepsAll : (ℕ → V) → Type 0
  KeepsAll state = (j : ℕ) → j < windows.cut.parts → Keeps coding windows told t j state

-- A text was written whole, or a front of it.
abbrev pub WritesRun : {T : Type 0} → Option (List ℕ) → Option (List ℕ) → List ℕ → Result T RunFault → Type 0
WritesRun old new text (Ok x) = new ≡ after_told old text
WritesRun old new text (Err fault) = AppendsFront old new text

-- A front of the text by some state was written.
pub record IsFront {V : Type 0} (text : (ℕ → V) → List ℕ) (old new : Option (List ℕ)) : Type 0 where
  pub state : ℕ → V
  pub front : AppendsFront old new (text state)

module _ {V S : Type 0} (coding : Coding V S) (windows : WindowState V S) (told : Told) (t : ℕ) (text : (ℕ → V) → List ℕ) (old new : Option (List ℕ)) where
  -- The text by a state was written that has the values after iteration t that are kept.
  pub record IsShown : Type 0 where
    pub state : ℕ → V
    pub agrees : Agrees coding windows told t state
    pub written : new ≡ after_told old (text state)

  -- It is so where a call answers Ok; else a front was written.
  abbrev pub ShowsKept : {T : Type 0} → Result T RunFault → Type 0
  ShowsKept (Ok x) = IsShown
  ShowsKept (Err fault) = IsFront text old new
