-- What an engine keeps between two iterations.
use Rattle.std.specs.Prelude.{◌≡◌, ◌<◌, ℕ, Bool, true, List}
use Rattle.active_sets.specs.Active.{hot_at}
use Rattle.lumos_base.specs.declared.records.Edge.{Edge}
use Rattle.lumos_law.specs.Program.{Program}
use Rattle.lumos_law.specs.Sync.{values}
use Rattle.partition.specs.Blocks.{column}
use Rattle.partition.specs.Parts.{Cut, chunk_of}
use Rattle.windows.specs.Kept.{Keeps}
use Rattle.windows.specs.Sums.{StoresEarly}
use Rattle.windows.specs.Windows.{Coding, Told, WindowState}
use Rattle.early_engine.specs.Passes.{feeds_ahead, is_hot}
use Rattle.early_engine.specs.declared.options.Mode.{Mode}

-- the edges of column j that an iteration may be fed early: those of the blocks above the diagonal, in parts of c vertices
abbrev pub early_edges : List Edge → ℕ → ℕ → List Edge
early_edges edges c j = column edges c j j

module _ {V S : Type 0} (p : Program V S) (edges : List Edge) (cut : Cut) where
  -- The flags tell of these chunks which of them are hot in iteration t.
  abbrev pub AreHotOf : (ℕ → Bool) → ℕ → List Bool → Type 0
  AreHotOf these t flags = (i : ℕ) → i < cut.parts → these i ≡ true → hot_at flags i ≡ is_hot p edges cut.vertices cut.parts t i

  -- They tell it of all chunks.
  abbrev pub AreHot : ℕ → List Bool → Type 0
  AreHot t flags = (i : ℕ) → i < cut.parts → hot_at flags i ≡ is_hot p edges cut.vertices cut.parts t i

module _ {V S : Type 0} (coding : Coding V S) (p : Program V S) (edges : List Edge) (cut : Cut) where
  -- After iteration t the values that are kept are those of synchronous execution; the sums that are stored are the early
  -- ones of the next iteration, where it was fed ahead; and the flags tell which chunks are hot.
  pub record IsKept (mode : Mode) (limit t : ℕ) (windows : WindowState V S) (told : Told) (flags : List Bool) : Type 0 where
    pub holds : (j : ℕ) → j < cut.parts → Keeps coding windows told t j (values p edges t)
    pub ahead : feeds_ahead mode limit t ≡ true → (j : ℕ) → j < cut.parts → StoresEarly coding p windows told j (values p edges t) (early_edges edges (chunk_of cut) j)
    pub active : AreHot p edges cut t flags
