-- The iterations of an engine as events of the event core, and the state of the core that an engine stands for.
use Rattle.std.specs.Prelude.{◌≡◌, ℕ, suc, ◌<◌, ◌&&◌, nat_lt, Bool, true, false, cond, List, [], ◌∷◌, ◌++◌, flat_map, Some}
use Rattle.std.specs.List.{range_with_len}
use Rattle.lumos_base.specs.declared.records.Edge.{Edge}
use Rattle.lumos_law.specs.Program.{Program}
use Rattle.lumos_law.specs.Sync.{sum_at, values, IsChunk}
use Rattle.partition.specs.Parts.{Cut, chunk_of, chunk_size, first_vertex, IsInPart}
use Rattle.flight_core.specs.Events.{State, after, is_done, is_final, kept_of, prior, start, sums_of, AreLegal}
use Rattle.flight_core.specs.Sound.{IsSound}
use Rattle.flight_core.specs.declared.event.Event.{Event}
use Rattle.flight_core.specs.declared.event.Event.TheVariants.{Feed, Skip, Finalise}
use Rattle.lumos_report.specs.declared.records.Kind.{Kind}
use Rattle.windows.specs.Kept.{KeepsList, StoresList}
use Rattle.windows.specs.Windows.{Coding, Told, WindowState}
use Rattle.early_engine.specs.Early.{early_edges}
use Rattle.early_engine.specs.Passes.{Hot, feeds_ahead, is_hot, kind_of, rows_of}
use Rattle.early_engine.specs.declared.options.Mode.{Mode}

-- the event of block (i,j) in iteration t: it is fed where its source chunk was hot in the iteration before, and skipped
-- otherwise
abbrev pub event_of : Hot → ℕ → ℕ → ℕ → Event
event_of hot t i j = cond (hot (prior t) i) (Feed t i j) (Skip t i j)

-- the events of block (i,j) in iteration t; above the diagonal, where the iteration feeds ahead, that of the next one too
abbrev pub block_events : Hot → Bool → ℕ → ℕ → ℕ → List Event
block_events hot ahead t j i = event_of hot t i j ∷ cond (ahead && nat_lt i j) (event_of hot (suc t) i j ∷ []) []

-- the events of column j, which is made final at the end
abbrev pub column_events : Hot → Kind → Bool → ℕ → ℕ → ℕ → List Event
column_events hot kind ahead p t j = flat_map (block_events hot ahead t j) (rows_of kind p j) ++ Finalise t j ∷ []

-- the events of iteration t over p parts, column by column
abbrev pub pass : Hot → Mode → ℕ → ℕ → ℕ → List Event
pass hot mode limit p t = flat_map (column_events hot (kind_of mode t) (feeds_ahead mode limit t) p t) (range_with_len 0 p)

-- those of the first t iterations
abbrev pub passes_to : Hot → Mode → ℕ → ℕ → ℕ → List Event
passes_to hot mode limit p t = flat_map (pass hot mode limit p) (range_with_len 1 t)

-- where a chunk isn't taken as hot, no vertex of it contributes
abbrev pub IsSilent : {V S : Type 0} → Program V S → List Edge → ℕ → ℕ → Hot → Type 0
IsSilent p edges n c hot = (t i v : ℕ) → hot t i ≡ false → IsInPart n c i v → p.contributes (values p edges t v) ≡ false

module _ {V S : Type 0} (p : Program V S) (edges : List Edge) (n parts : ℕ) (hot : Hot) (mode : Mode) (limit t : ℕ) where
  -- the core's state after the first t iterations
  abbrev pub core_state : State V S
  core_state =
      after p edges n (chunk_size n parts) (start p edges n (chunk_size n parts) parts) (passes_to hot mode limit parts t)

  -- The events of the first t iterations are legal one after another, where iterations up to `bound` are; the state after
  -- them is sound; iteration t is final in all chunks, and none after it is; and of iteration t + 1 exactly the blocks
  -- above the diagonal are done where iteration t fed ahead, and then its partial sums are the early ones.
  pub record StandsAfter (bound : ℕ) : Type 0 where
    pub legal : AreLegal p edges n (chunk_size n parts) parts bound (start p edges n (chunk_size n parts) parts) (passes_to hot mode limit parts t)
    pub sound : IsSound p edges n (chunk_size n parts) parts core_state
    pub final : (u j : ℕ) → j < parts → is_final core_state u j ≡ nat_lt u (suc t)
    pub done : (i j : ℕ) → i < parts → j < parts → is_done core_state (suc t) i j ≡ (feeds_ahead mode limit t && nat_lt i j)
    pub early : feeds_ahead mode limit t ≡ true → (j : ℕ) → j < parts
        → IsChunk (sum_at p (early_edges edges (chunk_size n parts) j) (values p edges t)) (first_vertex n (chunk_size n parts) j) (sums_of p n (chunk_size n parts) core_state (suc t) j)

-- the final values of a chunk, which windows and their files keep
pub record HasFinal {V S : Type 0} (coding : Coding V S) (core : State V S) (t : ℕ) (windows : WindowState V S) (told : Told) (j : ℕ) : Type 0 where
  pub items : List V
  pub is : kept_of core.finals t j ≡ Some items
  pub kept : KeepsList coding windows told t j items

-- What an engine and its files keep after iteration t is what the core keeps after the events of the first t iterations,
-- which are legal: each chunk's final values, and the partial sums of each column in the next iteration, where it was fed
-- ahead.
pub record IsCoreState {V S : Type 0} (coding : Coding V S) (p : Program V S) (edges : List Edge) (cut : Cut) (mode : Mode) (limit t : ℕ) (windows : WindowState V S) (told : Told) : Type 0 where
  pub legal : AreLegal p edges cut.vertices (chunk_of cut) cut.parts 1000000 (start p edges cut.vertices (chunk_of cut) cut.parts) (passes_to (is_hot p edges cut.vertices cut.parts) mode limit cut.parts t)
  pub finals : (j : ℕ) → j < cut.parts → HasFinal coding (core_state p edges cut.vertices cut.parts (is_hot p edges cut.vertices cut.parts) mode limit t) t windows told j
  pub partial : feeds_ahead mode limit t ≡ true → (j : ℕ) → j < cut.parts
      → StoresList coding windows told j (sums_of p cut.vertices (chunk_of cut) (core_state p edges cut.vertices cut.parts (is_hot p edges cut.vertices cut.parts) mode limit t) (suc t) j)
