-- What leads out of the vertices, read back from Info, and the values at first.
use Rattle.std.proofs.Common.{◌≡◌, ◌≢◌, ◌⊎◌, inl, inr, ◌≤◌, ◌<◌, ◌+◌, ◌-◌, ◌*◌, ◌++◌, ◌∷◌, ◌||◌, ℕ, Bool, false, zero, suc, All, List, Option, Result, Ok, Err, length, drop, flat_map, sum_by, refl, sym, ap, ap₂, ◌∙◌, subst, arith}
use Rattle.std.specs.Prelude.{IfErr, IfSome, OnOk}
use Rattle.std.specs.List.{list_any, range_with_len}
use Rattle.std.proofs.lemmas.Bool.{cases_eq}
use Rattle.std.proofs.lemmas.List.{take_at}
use Rattle.std.proofs.lemmas.List.Elements.{recursion_from_All}
use Rattle.active_sets.specs.Active.{hot_at}
use Rattle.lumos_base.specs.Leaving.{out_info}
use Rattle.lumos_base.specs.RecordLaws.{info_reads_back}
use Rattle.lumos_base.specs.Records.{IsEdge, info_bytes, info_from}
use Rattle.lumos_base.specs.declared.records.Edge.{Edge}
use Rattle.lumos_depot.specs.Steps.{Moves, Reads, RoseBy, Touches}
use Rattle.lumos_depot.specs.Streams.{AppendsFront, after_told}
use Rattle.lumos_depot.specs.declared.depot.FileKind.{FileKind}
use Rattle.lumos_depot.specs.declared.depot.FileKind.TheVariants.{Meta, Primary, Secondary, Info, Values, Sums, Spool}
use Rattle.lumos_depot.proofs.StepLemmas.{moves_touches, reads_touches, rose_as, told_some, touches_then}
use Rattle.lumos_law.specs.Program.{Program}
use Rattle.lumos_law.specs.Sync.{values}
use Rattle.lumos_law.proofs.ChunkLemmas.{chunk_same}
use Rattle.lumos_law.proofs.ValueLemmas.{out_info_in}
use Rattle.lumos_report.specs.Report.{head_line, zero_line}
use Rattle.partition.specs.Parts.{Cut, chunk_of, first_vertex, part_length}
use Rattle.grid_format.specs.Grid.{grid, grid_head}
use Rattle.grid_format.specs.Tables.{BlockCounts}
use Rattle.grid_format.specs.declared.head.GridInfo.{GridInfo}
use Rattle.grid_format.proofs.BlockPlaces.{drop-each}
use Rattle.windows.specs.Kept.{Keeps, StaysBut, load_bytes}
use Rattle.windows.specs.Sums.{given_values}
use Rattle.windows.specs.Windows.{Coding, Told, WindowState, chunk_count, chunk_first}
use Rattle.windows.proofs.FrameLemmas.{but_keeps}
use Rattle.windows.proofs.InitialLemmas.{info_front}
use Rattle.windows.proofs.LoadLemmas.{loads_add_up}
use Rattle.windows.proofs.PartLemmas.{part_inside}
use Rattle.early_engine.specs.Early.{AreHot}
use Rattle.early_engine.specs.Files.{start_takes, stores_of}
use Rattle.early_engine.specs.Grids.{IsOnGrid}
use Rattle.early_engine.specs.Report.{first_lines, shown_lines}
use Rattle.early_engine.specs.Runs.{RoseAll, loose_bytes, shown_bytes, stored_first, taken_first}
use Rattle.early_engine.specs.Shown.{IsShown, KeepsAll, ShowsKept, WritesRun}
use Rattle.early_engine.specs.Starts.{IsFromOutside, StartComes}
use Rattle.early_engine.specs.declared.options.RunFault.{RunFault}
use Rattle.early_engine.specs.declared.options.RunFault.TheVariants as run
use Rattle.early_engine.specs.declared.options.Show.{Show}

-- the numbers from v on, below n
range_from : (a v n : ℕ) → v < n → drop v (range_with_len a n) ≡ (a + v) ∷ range_with_len (a + v + 1) (n - (v + 1))
range_from a v zero h = absurd (omega arith)
range_from a zero (suc n) h =
    let start : a ≡ a + 0 = omega arith in
    let rest : n ≡ suc n - (0 + 1) = omega arith in
    ap (λ (b : ℕ). b ∷ range_with_len (b + 1) n) start ∙ ap (λ (m : ℕ). (a + 0) ∷ range_with_len (a + 0 + 1) m) rest
range_from a (suc v) (suc n) h =
    let start : a + 1 + v ≡ a + suc v = omega arith in
    let rest : n - (v + 1) ≡ suc n - (suc v + 1) = omega arith in
    range_from (a + 1) v n (omega arith) ∙ ap (λ (b : ℕ). b ∷ range_with_len (b + 1) (n - (v + 1))) start ∙ ap (λ (m : ℕ). (a + suc v) ∷ range_with_len (a + suc v + 1) m) rest

-- what is read of a vertex from the Info of a grid
info_read : (edges : List Edge) (n parts v : ℕ) → v < n → length edges ≤ 2147483648 → All IsEdge edges → info_from (drop (12 * v) (grid edges n parts).info) ≡ out_info edges v
info_read edges n parts v below few numbers =
    let bytes : ℕ → List ℕ = λ u. info_bytes (out_info edges u) in
    let rest = flat_map bytes (range_with_len (v + 1) (n - (v + 1))) in
    let e : 0 + v ≡ v = omega arith in
    let at : drop (12 * v) (grid edges n parts).info ≡ bytes v ++ rest =
    drop-each bytes 12 v (range_with_len 0 n) (λ u. refl) ∙ ap (flat_map bytes) (range_from 0 v n below) ∙ ap (λ (u : ℕ). flat_map bytes (u ∷ range_with_len (u + 1) (n - (v + 1)))) e in
    ap info_from at ∙ sym (info_front 12 (bytes v ++ rest) (omega arith)) ∙ ap info_from (take_at (bytes v) rest 12 refl)
    ∙ info_reads_back (out_info edges v) (out_info_in edges v few (recursion_from_All IsEdge edges numbers))

-- the values that Info gives are those at first
pub given_first : {V S : Type 0} (p : Program V S) (edges : List Edge) (cut : Cut) (table : BlockCounts) (told : Told) → IsOnGrid edges cut table told → (v : ℕ) → v < cut.vertices → given_values p (grid edges cut.vertices cut.parts).info v ≡ values p edges 0 v
given_first p edges cut table told is v low = ap (p.init v) (info_read edges cut.vertices cut.parts v low is.limits.few is.numbers)

module _ {V S : Type 0} (coding : Coding V S) where
  -- what is kept of a state is kept of one with the same values
  pub keeps_as : (w : WindowState V S) (told : Told) (t j : ℕ) (f h : ℕ → V) → ((v : ℕ) → v < w.cut.vertices → f v ≡ h v) → Keeps coding w told t j f → Keeps coding w told t j h
  keeps_as w told t j f h same keeps = record {
    items = keeps.items;
    kept = keeps.kept;
    chunk = chunk_same f h (chunk_first w j) keeps.items
        (λ k below. same (chunk_first w j + k) (omega (arith, below, keeps.kept.long, part_inside w.cut.vertices (chunk_of w.cut) j))) keeps.chunk;
  }

  -- the values of one chunk more are kept
  pub keeps_more : (old new : WindowState V S) (before after : Told) (t i : ℕ) (state : ℕ → V) → StaysBut coding t i old before new after → Keeps coding new after t i state → ((k : ℕ) → k < i → Keeps coding old before t k state) → (k : ℕ) → k < i + 1 → Keeps coding new after t k state
  keeps_more old new before after t i state stays here had k below = by (cases_eq k i)
    where
      by : (k ≡ i) ⊎ (k ≡ i → ⊥) → Keeps coding new after t k state
      by (inl same) = subst (λ (j : ℕ). Keeps coding new after t j state) (sym same) here
      by (inr apart) = but_keeps coding t i old new before after t k state stays (inr apart) (had k (omega (arith, below, apart)))

-- tests that agree on a range pass alike
any_same : (q r : ℕ → Bool) (a n : ℕ) → ((v : ℕ) → v < a + n → q v ≡ r v) → list_any q (range_with_len a n) ≡ list_any r (range_with_len a n)
any_same q r a zero same = refl
any_same q r a (suc n) same = ap₂ ◌||◌ (same a (omega arith)) (any_same q r (a + 1) n (λ v below. same v (omega arith)))

module _ {V S : Type 0} (p : Program V S) (edges : List Edge) (cut : Cut) (table : BlockCounts) (told : Told) (grid_is : IsOnGrid edges cut table told) where
  abbrev held : List ℕ
  held = (grid edges cut.vertices cut.parts).info

  -- the values at first are kept where those that Info gives are
  pub first_kept : (coding : Coding V S) (w : WindowState V S) (now : Told) → w.cut ≡ cut → IfSome (told Info) (λ f. KeepsAll coding w now 0 (given_values p f)) → KeepsAll coding w now 0 (values p edges 0)
  first_kept coding w now same given j low =
      let vertices = ap (λ (k : Cut). k.vertices) same in
      keeps_as coding w now 0 j (given_values p held) (values p edges 0) (λ v below. given_first p edges cut table told grid_is v (omega (arith, below, vertices)))
      (told_some (told Info) (λ f. KeepsAll coding w now 0 (given_values p f)) held grid_is.files.info_file given j low)

  -- and the flags that are marked by these tell which chunks are hot at first
  pub first_hot : (w : WindowState V S) (flags : List Bool) → w.cut ≡ cut
      → IfSome (told Info) (λ f. (i : ℕ) → i < cut.parts → hot_at flags i ≡ list_any (λ v. p.contributes (given_values p f v)) (range_with_len (chunk_first w i) (chunk_count w i))) → AreHot p edges cut 0 flags
  first_hot w flags same given i low =
      let n = cut.vertices in
      let c = chunk_of cut in
      told_some (told Info) (λ f. (i : ℕ) → i < cut.parts → hot_at flags i ≡ list_any (λ v. p.contributes (given_values p f v)) (range_with_len (chunk_first w i) (chunk_count w i))) held grid_is.files.info_file given i low
      ∙ ap (λ (k : Cut). list_any (λ v. p.contributes (given_values p held v)) (range_with_len (first_vertex k.vertices (chunk_of k) i) (part_length k.vertices (chunk_of k) i))) same
      ∙ any_same (λ v. p.contributes (given_values p held v)) (λ v. p.contributes (values p edges 0 v)) (first_vertex n c i) (part_length n c i)
      (λ v below. ap p.contributes (given_first p edges cut table told grid_is v (omega (arith, below, part_inside n c i))))

-- the lines that are written at first are those of the report
pub first_is : {V S : Type 0} (p : Program V S) (name : List ℕ) (show : Show) (edges : List Edge) (info : GridInfo) (n : ℕ) → info ≡ grid_head edges info.vertices info.parts → n ≡ info.vertices
    → head_line name info ++ (zero_line ++ shown_lines p show (values p edges 0) n) ≡ first_lines p name show edges info.vertices info.parts
first_is p name show edges info n head all =
    ap (λ (h : GridInfo). head_line name h ++ (zero_line ++ shown_lines p show (values p edges 0) n)) head
    ∙ ap (λ (k : ℕ). head_line name (grid_head edges info.vertices info.parts) ++ (zero_line ++ shown_lines p show (values p edges 0) k)) all

module _ {V S : Type 0} (coding : Coding V S) (p : Program V S) (name : List ℕ) (show : Show) (edges : List Edge) (cut : Cut) (w : WindowState V S) (told : Told) where
  -- what comes of the beginning where the values at first are kept
  pub start_comes : (old new : Option (List ℕ)) (r : Result (Unit {0}) RunFault) (text : List ℕ) → text ≡ first_lines p name show edges cut.vertices cut.parts → IfErr r IsFromOutside → KeepsAll coding w told 0 (values p edges 0) → WritesRun old new text r
      → StartComes coding p name show edges cut w told old new r
  start_comes old new (Ok done) text is outside kept wrote = (kept, wrote ∙ ap (after_told old) is)
  start_comes old new (Err run.Depot) text is outside kept wrote = subst (AppendsFront old new) is wrote
  start_comes old new (Err run.Out) text is outside kept wrote = subst (AppendsFront old new) is wrote
  start_comes old new (Err (run.Range t v)) text is outside kept wrote = absurd outside
  start_comes old new (Err (run.Damaged kind place found)) text is outside kept wrote = absurd outside

-- a text that is another one was written by a state
pub shown_as : {V S T : Type 0} (coding : Coding V S) (w : WindowState V S) (told : Told) (t : ℕ) (text whole : (ℕ → V) → List ℕ) (old new : Option (List ℕ)) (r : Result T RunFault) → ((state : ℕ → V) → text state ≡ whole state)
    → ShowsKept coding w told t text old new r → OnOk r (IsShown coding w told t whole old new)
shown_as coding w told t text whole old new (Ok x) is shown = record { state = shown.state; agrees = shown.agrees; written = shown.written ∙ ap (after_told old) (is shown.state) }
shown_as coding w told t text whole old new (Err fault) is shown = tt

-- the values of all chunks load those that aren't kept in memory
pub loads_loose : {V S : Type 0} (coding : Coding V S) (w : WindowState V S) (cut : Cut) (pinned : ℕ) → w.cut ≡ cut → w.pinned ≡ pinned → 0 < cut.parts → sum_by (load_bytes coding w) (range_with_len 0 cut.parts) ≡ loose_bytes cut coding.value_width pinned
loads_loose coding w cut pinned same kept some =
    let parts = ap (λ (k : Cut). k.parts) same in
    ap (λ (k : ℕ). sum_by (load_bytes coding w) (range_with_len 0 k)) (sym parts) ∙ loads_add_up coding w (omega (arith, parts, some))
    ∙ (λ i. ((same i).vertices - first_vertex (same i).vertices (chunk_of (same i)) (kept i)) * coding.value_width)

pub infos_apart : Info ≢ Values
infos_apart e = cc

values_apart : Values ≢ Info
values_apart e = cc

rose_none : (x y : ℕ) → y ≡ x → RoseBy x y 0
rose_none x y same low = omega (arith, same)

module _ {D : Type 0} (h : D → FileKind → Option (List ℕ)) (t s : D → FileKind → ℕ) (f : D → ℕ) (a : D → Option (List ℕ)) (x y z : D) (moves : Moves h t s f a Info Values x y) (reads : Reads h t s f a Values y z) where
  -- what the beginning touches
  pub start_touches : Touches h t s f a start_takes (stores_of false) x z
  start_touches = touches_then h t s f a start_takes (stores_of false) x y z (moves_touches h t s f a start_takes (stores_of false) Info Values x y refl refl moves) (reads_touches h t s f a start_takes (stores_of false) Values y z refl reads)

  module _ (cut : Cut) (v pinned : ℕ) where
    -- and takes
    pub start_taken : (show : Show) → RoseBy (t x Info) (t y Info) (12 * cut.vertices) → RoseBy (t y Values) (t z Values) (shown_bytes show (loose_bytes cut v pinned)) → RoseAll (t x) (t z) (taken_first cut v pinned show)
    start_taken show info values Meta = rose_none (t x Meta) (t z Meta) (start_touches.taken Meta refl)
    start_taken show info values Primary = rose_none (t x Primary) (t z Primary) (start_touches.taken Primary refl)
    start_taken show info values Secondary = rose_none (t x Secondary) (t z Secondary) (start_touches.taken Secondary refl)
    start_taken show info values Info = rose_as (t x Info) (t y Info) (t x Info) (t z Info) (12 * cut.vertices) refl (reads.taken Info infos_apart) info
    start_taken show info values Values = rose_as (t y Values) (t z Values) (t x Values) (t z Values) (shown_bytes show (loose_bytes cut v pinned)) (sym (moves.taken Values values_apart)) refl values
    start_taken show info values Sums = rose_none (t x Sums) (t z Sums) (start_touches.taken Sums refl)
    start_taken show info values Spool = rose_none (t x Spool) (t z Spool) (start_touches.taken Spool refl)

    -- and stores
    pub start_stored : RoseBy (s x Values) (s y Values) (loose_bytes cut v pinned) → RoseAll (s x) (s z) (stored_first cut v pinned)
    start_stored values Meta = rose_none (s x Meta) (s z Meta) (start_touches.stored Meta refl)
    start_stored values Primary = rose_none (s x Primary) (s z Primary) (start_touches.stored Primary refl)
    start_stored values Secondary = rose_none (s x Secondary) (s z Secondary) (start_touches.stored Secondary refl)
    start_stored values Info = rose_none (s x Info) (s z Info) (start_touches.stored Info refl)
    start_stored values Values = rose_as (s x Values) (s y Values) (s x Values) (s z Values) (loose_bytes cut v pinned) refl (reads.stored Values) values
    start_stored values Sums = rose_none (s x Sums) (s z Sums) (start_touches.stored Sums refl)
    start_stored values Spool = rose_none (s x Spool) (s z Spool) (start_touches.stored Spool refl)
