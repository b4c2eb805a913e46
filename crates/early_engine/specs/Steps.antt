-- The steps of an iteration: what is known behind the first rows of a column, and behind the first columns.
use Rattle.std.specs.Prelude.{◌≡◌, ◌<◌, ◌≤◌, ⊤, ℕ, suc, ◌+◌, Bool, true, nat_lt, List, cond, [], None}
use Rattle.lumos_base.specs.declared.records.Edge.{Edge}
use Rattle.lumos_law.specs.Program.{Program}
use Rattle.lumos_law.specs.Sync.{sum_at, values}
use Rattle.partition.specs.Parts.{Cut, chunk_of, first_vertex}
use Rattle.flight_core.specs.Finish.{finish_of}
use Rattle.flight_core.specs.declared.steps.Finish.{Finish}
use Rattle.io_account.specs.declared.Counts.{Counts}
use Rattle.lumos_report.specs.declared.records.Kind.{Kind}
use Rattle.lumos_report.specs.declared.records.Kind.TheVariants.{Full, Fed}
use Rattle.windows.specs.Kept.{Keeps}
use Rattle.windows.specs.Sums.{StoresEarly}
use Rattle.windows.specs.Windows.{Coding, Told, WindowState}
use Rattle.early_engine.specs.Early.{AreHot, AreHotOf, early_edges}

-- an iteration of a kind goes through block (i,j)
abbrev pub GoesThrough : Kind → ℕ → ℕ → Type 0
GoesThrough Full i j = ⊤
GoesThrough Fed i j = j ≤ i

-- the counts with one block more that an iteration of a kind read
abbrev pub with_read : Kind → Counts → Counts
with_read Full counts = record counts { primary = counts.primary + 1 }
with_read Fed counts = record counts { secondary = counts.secondary + 1 }

-- how many blocks were gone through
abbrev pub blocks_in : Counts → ℕ
blocks_in counts = counts.primary + counts.secondary + counts.skipped + counts.empty

-- the edges that are fed, where they are
abbrev pub fed_if : Bool → List Edge → List Edge
fed_if is edges = cond is edges []

-- the chunks below j
abbrev pub below : ℕ → ℕ → Bool
below j i = nat_lt i j

module _ {V S : Type 0} (p : Program V S) where
  -- what came of the first n vertices in iteration t + 1
  abbrev pub came_of : List Edge → ℕ → ℕ → Finish
  came_of edges t n = finish_of p (values p edges t) (sum_at p edges (values p edges t)) 0 n

module _ {V S : Type 0} (coding : Coding V S) (p : Program V S) (edges : List Edge) (cut : Cut) where
  -- What is known in iteration t + 1, where some columns are made: the values before it and those of the made parts after it
  -- are kept, and the flags tell which parts were hot before it and which of the made ones are hot in it.
  pub record IsReady (done : ℕ → Bool) (t : ℕ) (windows : WindowState V S) (told : Told) (were are : List Bool) : Type 0 where
    pub holds : (i : ℕ) → i < cut.parts → Keeps coding windows told t i (values p edges t)
    pub made : (i : ℕ) → i < cut.parts → done i ≡ true → Keeps coding windows told (suc t) i (values p edges (suc t))
    pub were_hot : AreHot p edges cut t were
    pub are_hot : AreHotOf p edges cut done (suc t) are

  -- Iteration t + 1 is made of the parts below j, so many values moved in them, and none of their vertices is over.
  pub record IsMadeBelow (j t : ℕ) (windows : WindowState V S) (told : Told) (were are : List Bool) (moved : ℕ) : Type 0 where
    pub ready : IsReady (below j) t windows told were are
    pub count : moved ≡ (came_of p edges t (first_vertex cut.vertices (chunk_of cut) j)).moved
    pub none : (came_of p edges t (first_vertex cut.vertices (chunk_of cut) j)).over ≡ None

  -- Before column j of an iteration of a kind, the early sums are stored that it goes on from, by the values before it; and
  -- those of the parts below j that it leaves for the next one, where it feeds ahead, by the values after it.
  pub record AreEarly (kind : Kind) (ahead : Bool) (j t : ℕ) (windows : WindowState V S) (told : Told) : Type 0 where
    pub given : kind ≡ Fed → (i : ℕ) → j ≤ i → i < cut.parts → StoresEarly coding p windows told i (values p edges t) (early_edges edges (chunk_of cut) i)
    pub left : ahead ≡ true → (i : ℕ) → i < j → StoresEarly coding p windows told i (values p edges (suc t)) (early_edges edges (chunk_of cut) i)
