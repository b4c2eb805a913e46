-- The steps of a column: what each of them leaves of what an engine knows.
use Rattle.std.proofs.Common.{◌≡◌, ◌⊎◌, inl, inr, ℕ, suc, ◌+◌, ◌<◌, Bool, true, false, List, Option, Some, None, refl, sym, ap, ◌∙◌, subst, arith}
use Rattle.std.specs.Option.{is_some}
use Rattle.std.proofs.lemmas.Bool.{cases_eq}
use Rattle.lumos_base.specs.declared.records.Edge.{Edge}
use Rattle.lumos_depot.specs.Steps.{Reads, Stores, Touches}
use Rattle.lumos_depot.specs.declared.depot.FileKind.{FileKind}
use Rattle.lumos_depot.specs.declared.depot.FileKind.TheVariants.{Info, Sums}
use Rattle.lumos_depot.proofs.StepLemmas.{reads_touches, stores_touches, touches_none}
use Rattle.lumos_law.specs.Program.{Program}
use Rattle.lumos_law.specs.Sync.{values}
use Rattle.partition.specs.Blocks.{column}
use Rattle.partition.specs.Parts.{Cut, chunk_of}
use Rattle.grid_format.specs.Tables.{BlockCounts}
use Rattle.lumos_report.specs.declared.records.Kind.{Kind}
use Rattle.lumos_report.specs.declared.records.Kind.TheVariants.{Full, Fed}
use Rattle.value_files.specs.declared.fault.FileFault.{FileFault}
use Rattle.value_files.specs.declared.fault.FileFault.TheVariants.{Depot}
use Rattle.windows.specs.Kept.{Stays, StaysBut, StaysButSums}
use Rattle.windows.specs.Sums.{HasSums, StoresEarly}
use Rattle.windows.specs.Windows.{Coding, IsSameRoom, Told, WindowState}
use Rattle.windows.proofs.FrameLemmas.{but_early, sums_early, sums_keeps}
use Rattle.early_engine.specs.Early.{early_edges}
use Rattle.early_engine.specs.Files.{stores_of, takes_of}
use Rattle.early_engine.specs.Grids.{IsOfIteration, IsOfPass, IsOnGrid}
use Rattle.early_engine.specs.Making.{StopShows}
use Rattle.early_engine.specs.Steps.{AreEarly, IsMadeBelow}
use Rattle.early_engine.specs.declared.part.Stop.{Stop}
use Rattle.early_engine.specs.declared.part.Stop.TheVariants.{File, Over}
use Rattle.early_engine.proofs.KeepLemmas.{ready_stays, sums_fault, values_fault}

-- a depot that tells a grid tells Sums
pub sums_told : (edges : List Edge) (cut : Cut) (table : BlockCounts) (told : FileKind → Option (List ℕ)) → ((j k : FileKind) → is_some (told j) ≡ is_some (told k)) → IsOnGrid edges cut table told → (file : List ℕ) × (told Sums ≡ Some file)
sums_told edges cut table told all grid = by (told Sums) refl
  where
    by : (o : Option (List ℕ)) → told Sums ≡ o → (file : List ℕ) × (told Sums ≡ Some file)
    by (Some file) is = (file, is)
    by None is = absurd (let e : true ≡ false = sym (ap is_some grid.files.info_file) ∙ all Info Sums ∙ ap is_some is in cc)

module _ {D : Type 0} (h : D → FileKind → Option (List ℕ)) (t s : D → FileKind → ℕ) (f : D → ℕ) (a : D → Option (List ℕ)) (x y : D) where
  -- the sums that a fed iteration begins with are read
  pub begin_touches : (kind : Kind) (stores : FileKind → Bool) → (kind ≡ Full → y ≡ x) → Reads h t s f a Sums x y → Touches h t s f a (takes_of kind) stores x y
  begin_touches Full stores idle reads = subst (λ z. Touches h t s f a (takes_of Full) stores x z) (sym (idle refl)) (touches_none h t s f a (takes_of Full) stores x)
  begin_touches Fed stores idle reads = reads_touches h t s f a (takes_of Fed) stores Sums x y refl reads

  -- and those that it leaves are stored
  pub leave_touches : (takes : FileKind → Bool) (ahead : Bool) → (ahead ≡ false → y ≡ x) → Stores h t s f a Sums x y → Touches h t s f a takes (stores_of ahead) x y
  leave_touches takes true idle stores = stores_touches h t s f a takes (stores_of true) Sums x y refl stores
  leave_touches takes false idle stores = subst (λ z. Touches h t s f a takes (stores_of false) x z) (sym (idle refl)) (touches_none h t s f a takes (stores_of false) x)

module _ {V S : Type 0} (coding : Coding V S) where
  -- a fault of an iteration over the same windows
  pub iteration_fault : (old new : WindowState V S) (kind : Kind) (table : BlockCounts) (fault : FileFault) → IsSameRoom old new → IsOfIteration coding new kind table fault → IsOfIteration coding old kind table fault
  iteration_fault old new kind table fault room (inl block) = inl (subst (λ (c : Cut). IsOfPass kind c table fault) room.cut block)
  iteration_fault old new kind table fault room (inr (inl of)) = inr (inl (values_fault coding old new fault room of))
  iteration_fault old new kind table fault room (inr (inr of)) = inr (inr (sums_fault coding kind old new fault room of))

  pub stop_same : (ValueIn : V → Type 0) (SumIn : S → Type 0) (p : Program V S) (old new : WindowState V S) (kind : Kind) (table : BlockCounts) (why : Stop) → IsSameRoom old new → StopShows ValueIn SumIn coding p new kind table why → StopShows ValueIn SumIn coding p old kind table why
  stop_same ValueIn SumIn p old new kind table (File fault) room shown = iteration_fault old new kind table fault room shown
  stop_same ValueIn SumIn p old new kind table (Over vertex) room shown = (let n = ap (λ (c : Cut). c.vertices) room.cut in omega (arith, shown.0, n), shown.1)

  module _ (p : Program V S) (edges : List Edge) (cut : Cut) where
    -- sums of a column, by another word for its parts
    pub sums_of_column : (old w : WindowState V S) (j n : ℕ) (state : ℕ → V) → old.cut ≡ cut → HasSums p w j state (column edges (chunk_of old.cut) j n) → HasSums p w j state (column edges (chunk_of cut) j n)
    sums_of_column old w j n state same has = subst (λ (c : Cut). HasSums p w j state (column edges (chunk_of c) j n)) same has

    -- the early sums that a part begins with
    pub early_here : (kind : Kind) (ahead : Bool) (j u : ℕ) (w : WindowState V S) (told : Told) → w.cut ≡ cut → j < cut.parts → AreEarly coding p edges cut kind ahead j u w told → kind ≡ Fed
        → StoresEarly coding p w told j (values p edges u) (early_edges edges (chunk_of w.cut) j)
    early_here kind ahead j u w told same low early fed = subst (λ (c : Cut). StoresEarly coding p w told j (values p edges u) (early_edges edges (chunk_of c) j)) (sym same) (early.given fed j (omega arith) low)

    module _ (old new : WindowState V S) (before after : Told) where
      pub made_stays : (j u : ℕ) (were are : List Bool) (moved : ℕ) → Stays coding old before new after → IsMadeBelow coding p edges cut j u old before were are moved → IsMadeBelow coding p edges cut j u new after were are moved
      made_stays j u were are moved stays made = record { ready = ready_stays coding p edges cut old new before after stays _ u were are made.ready; count = made.count; none = made.none }

      -- what is made stays where sums are stored
      pub made_stored : (j k u : ℕ) (were are : List Bool) (moved : ℕ) → StaysButSums coding k old before new after → IsMadeBelow coding p edges cut j u old before were are moved → IsMadeBelow coding p edges cut j u new after were are moved
      made_stored j k u were are moved stays made = record {
        ready = record {
          holds = λ i low. sums_keeps coding k old new before after u i (values p edges u) stays (made.ready.holds i low);
          made = λ i low is. sums_keeps coding k old new before after (suc u) i (values p edges (suc u)) stays (made.ready.made i low is);
          were_hot = made.ready.were_hot;
          are_hot = made.ready.are_hot;
        };
        count = made.count;
        none = made.none;
      }

      pub early_closed : (kind : Kind) (ahead : Bool) (j u t k : ℕ) → StaysBut coding t k old before new after → AreEarly coding p edges cut kind ahead j u old before → AreEarly coding p edges cut kind ahead j u new after
      early_closed kind ahead j u t k stays early = record {
        given = λ fed i from low. but_early coding p t k old new before after i _ _ stays (early.given fed i from low);
        left = λ on i low. but_early coding p t k old new before after i _ _ stays (early.left on i low);
      }

      -- the early sums of one part more
      pub early_more : (kind : Kind) (ahead : Bool) (j u : ℕ) → StaysButSums coding j old before new after → (ahead ≡ true → StoresEarly coding p new after j (values p edges (suc u)) (early_edges edges (chunk_of cut) j))
          → AreEarly coding p edges cut kind ahead j u old before → AreEarly coding p edges cut kind ahead (j + 1) u new after
      early_more kind ahead j u stays stored early = record {
        given = λ fed i from low. sums_early coding p j old new before after i _ _ stays (λ same. omega arith) (early.given fed i (omega (arith, from)) low);
        left = λ on i low. by on i low (cases_eq i j);
      }
        where
          by : ahead ≡ true → (i : ℕ) → i < j + 1 → (i ≡ j) ⊎ (i ≡ j → ⊥) → StoresEarly coding p new after i (values p edges (suc u)) (early_edges edges (chunk_of cut) i)
          by on i low (inl is) = subst (λ (k : ℕ). StoresEarly coding p new after k (values p edges (suc u)) (early_edges edges (chunk_of cut) k)) (sym is) (stored on)
          by on i low (inr apart) = sums_early coding p j old new before after i _ _ stays apart (early.left on i (omega arith))

-- where the depot failed, an iteration stops with no more to show
pub depot_stop : {V S : Type 0} (coding : Coding V S) (w : WindowState V S) (kind : Kind) (table : BlockCounts) (fault : FileFault) (j : ℕ) → j < w.cut.parts → fault ≡ Depot → IsOfIteration coding w kind table fault
depot_stop coding w kind table fault j low is =
    subst (IsOfIteration coding w kind table) (sym is) (inr (inl (record { iteration = 0; chunk = j; chunk_in = low; shown = tt })))
