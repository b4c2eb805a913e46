-- One block more in the sums of a column.
use Rattle.std.proofs.Common.{◌≡◌, ◌⊎◌, inl, inr, ℕ, zero, suc, ◌+◌, ◌<◌, ◌≤◌, ◌^◌, ◌&&◌, ◌++◌, min, nat_lt, Bool, true, false, List, take, sym, ap, ◌∙◌, subst, add-one, arith, append-nil}
use Rattle.std.specs.List.{AllByRecursion}
use Rattle.std.proofs.lemmas.Bool.{cases_lt, le-ltb, lt-ltb}
use Rattle.std.proofs.lemmas.List.{length-take}
use Rattle.std.proofs.lemmas.List.Elements.{recursion_from_All}
use Rattle.lumos_base.specs.Records.{IsEdge}
use Rattle.lumos_base.specs.declared.records.Edge.{Edge}
use Rattle.lumos_law.specs.Program.{Program, Lawful}
use Rattle.lumos_law.specs.Sync.{contributions, fed_sum, sum_at, values, IsChunk}
use Rattle.lumos_law.proofs.ChunkLemmas.{chunk_same}
use Rattle.lumos_law.proofs.JoinLemmas.{join_from_in}
use Rattle.lumos_law.proofs.SkipLemmas.{silent_block}
use Rattle.lumos_law.proofs.SumLemmas.{all-filter, fed_sum-append, given_in}
use Rattle.lumos_law.proofs.ValueLemmas.{values_in}
use Rattle.partition.specs.Blocks.{block, column}
use Rattle.partition.specs.Parts.{Cut, chunk_of, first_vertex, part_length, IsInPart}
use Rattle.partition.proofs.BlockLemmas.{block_sources, column_more}
use Rattle.partition.proofs.RangeLemmas.{cover_once}
use Rattle.flight_core.specs.EdgeList.{IsEdgeList}
use Rattle.flight_core.proofs.ColumnLemmas.{column-sum}
use Rattle.flight_core.proofs.FedEdgeLemmas.{all_map}
use Rattle.windows.specs.Sums.{HasNext, HasSums}
use Rattle.windows.specs.Windows.{WindowState, chunk_count, chunk_first}
use Rattle.early_engine.specs.Passes.{is_hot}
use Rattle.early_engine.specs.Steps.{fed_if}
use Rattle.early_engine.proofs.FlagLemmas.{any_none}

module _ {V S : Type 0} (p : Program V S) (w : WindowState V S) (j : ℕ) (state : ℕ → V) where
  -- two lists of edges give the vertices of a chunk the same
  abbrev pub Gives : List Edge → List Edge → Type 0
  Gives es fs = (k : ℕ) → k < chunk_count w j → sum_at p es state (chunk_first w j + k) ≡ sum_at p fs state (chunk_first w j + k)

  same_in : (es fs : List Edge) (xs : List S) → Gives es fs → IsChunk (sum_at p es state) (chunk_first w j) (take (chunk_count w j) xs) → IsChunk (sum_at p fs state) (chunk_first w j) (take (chunk_count w j) xs)
  same_in es fs xs gives chunk = chunk_same _ _ (chunk_first w j) (take (chunk_count w j) xs) (λ k low. gives k (let long = length-take {A = _} (chunk_count w j) xs in omega (arith, long, low))) chunk

  -- sums of what other edges give as well
  pub sums_as : (es fs : List Edge) → Gives es fs → HasSums p w j state es → HasSums p w j state fs
  sums_as es fs gives has = record { part = has.part; long = has.long; chunk = same_in es fs w.sums gives has.chunk }

  pub next_as : (es fs : List Edge) → Gives es fs → HasNext p w j state es → HasNext p w j state fs
  next_as es fs gives has = record { part = has.part; long = has.long; chunk = same_in es fs w.next_sums gives has.chunk }

module _ {V S : Type 0} {ValueIn : V → Type 0} {SumIn : S → Type 0} (p : Program V S) (laws : Lawful ValueIn SumIn p) (edges : List Edge) (cut : Cut) (list : IsEdgeList cut.vertices edges) (t : ℕ) where
  known : (u : ℕ) → u < 2 ^ 32 → ValueIn (values p edges t u)
  known u below = values_in p laws edges t u list.few (recursion_from_All _ edges list.numbers) below

  block_numbers : (i j : ℕ) → AllByRecursion IsEdge (block edges (chunk_of cut) i j)
  block_numbers i j = all-filter IsEdge _ edges (recursion_from_All _ edges list.numbers)

  grown : (i j v : ℕ) → sum_at p (column edges (chunk_of cut) j (i + 1)) (values p edges t) v ≡ fed_sum p (block edges (chunk_of cut) i j) (values p edges t) v (sum_at p (column edges (chunk_of cut) j i) (values p edges t) v)
  grown i j v = ap (λ es. fed_sum p es (values p edges t) v p.unit) (column_more edges (chunk_of cut) j i) ∙ fed_sum-append p (values p edges t) v (column edges (chunk_of cut) j i) (block edges (chunk_of cut) i j) p.unit

  -- what the first rows of a column give is in range
  rows_in : (j v m : ℕ) → SumIn (sum_at p (column edges (chunk_of cut) j m) (values p edges t) v)
  rows_in j v zero = laws.joins.unit_in
  rows_in j v (suc m) =
      let before = sum_at p (column edges (chunk_of cut) j m) (values p edges t) v in
      let es = block edges (chunk_of cut) m j in
      let all : sum_at p (column edges (chunk_of cut) j (suc m)) (values p edges t) v ≡ fed_sum p es (values p edges t) v before = ap (λ (n : ℕ). sum_at p (column edges (chunk_of cut) j n) (values p edges t) v) (sym (add-one m)) ∙ grown m j v in
      subst SumIn (sym all) (join_from_in laws.joins before (contributions p es (values p edges t) v) (rows_in j v m) (given_in p laws (values p edges t) known v es (block_numbers m j)))

  -- a block from a part that isn't hot gives nothing
  cold : (i j v : ℕ) → is_hot p edges cut.vertices cut.parts t i ≡ false → sum_at p (column edges (chunk_of cut) j i) (values p edges t) v ≡ sum_at p (column edges (chunk_of cut) j (i + 1)) (values p edges t) v
  cold i j v off =
      let n = cut.vertices in
      let c = chunk_of cut in
      let silent = all_map (λ (e : Edge). IsInPart n c i e.source.0) (λ e. p.contributes (values p edges t e.source.0) ≡ false)
      (λ e inside. any_none (λ u. p.contributes (values p edges t u)) (first_vertex n c i) (part_length n c i) e.source.0 off inside.low inside.high)
      (block edges c i j) (recursion_from_All _ _ (block_sources edges n c i j (omega arith) list.ends)) in
      sym (silent_block p laws (values p edges t) known v (block edges c i j) (block_numbers i j) silent (sum_at p (column edges c j i) (values p edges t) v) (rows_in j v i)) ∙ sym (grown i j v)

  -- one row more, fed where its part is hot
  pub row_fed : (i j v : ℕ) (now : Bool) → now ≡ is_hot p edges cut.vertices cut.parts t i
      → sum_at p (column edges (chunk_of cut) j i ++ fed_if now (block edges (chunk_of cut) i j)) (values p edges t) v ≡ sum_at p (column edges (chunk_of cut) j (i + 1)) (values p edges t) v
  row_fed i j v true is = ap (λ es. sum_at p es (values p edges t) v) (sym (column_more edges (chunk_of cut) j i))
  row_fed i j v false is = ap (λ es. sum_at p es (values p edges t) v) (append-nil (column edges (chunk_of cut) j i)) ∙ cold i j v (sym is)

  -- one row more ahead, above the diagonal
  pub row_ahead : (i j v : ℕ) (flag hot : Bool) → flag ≡ (true && nat_lt i j && hot) → (i < j → hot ≡ is_hot p edges cut.vertices cut.parts t i)
      → sum_at p (column edges (chunk_of cut) j (min i j) ++ fed_if flag (block edges (chunk_of cut) i j)) (values p edges t) v ≡ sum_at p (column edges (chunk_of cut) j (min (i + 1) j)) (values p edges t) v
  row_ahead i j v flag hot is knows = by (cases_lt i j)
    where
      by : (i < j) ⊎ (j ≤ i)
          → sum_at p (column edges (chunk_of cut) j (min i j) ++ fed_if flag (block edges (chunk_of cut) i j)) (values p edges t) v ≡ sum_at p (column edges (chunk_of cut) j (min (i + 1) j)) (values p edges t) v
      by (inl low) =
          let here : min i j ≡ i = omega (arith, low) in
          let next : i + 1 ≡ min (i + 1) j = omega (arith, low) in
          ap (λ (n : ℕ). sum_at p (column edges (chunk_of cut) j n ++ fed_if flag (block edges (chunk_of cut) i j)) (values p edges t) v) here
          ∙ row_fed i j v flag (is ∙ ap (λ (b : Bool). true && b && hot) (lt-ltb i j low) ∙ knows low)
          ∙ ap (λ (n : ℕ). sum_at p (column edges (chunk_of cut) j n) (values p edges t) v) next
      by (inr high) =
          let off : flag ≡ false = is ∙ ap (λ (b : Bool). true && b && hot) (le-ltb i j high) in
          let same : min i j ≡ min (i + 1) j = omega (arith, high) in
          ap (λ (b : Bool). sum_at p (column edges (chunk_of cut) j (min i j) ++ fed_if b (block edges (chunk_of cut) i j)) (values p edges t) v) off
          ∙ ap (λ es. sum_at p es (values p edges t) v) (append-nil (column edges (chunk_of cut) j (min i j)))
          ∙ ap (λ (n : ℕ). sum_at p (column edges (chunk_of cut) j n) (values p edges t) v) same

  -- a column's rows give what all edges give
  pub column_whole : (w : WindowState V S) (j : ℕ) → w.cut ≡ cut → 0 < cut.parts → Gives p w j (values p edges t) (column edges (chunk_of cut) j cut.parts) edges
  column_whole w j same some = subst (λ (c : Cut). (k : ℕ) → k < part_length c.vertices (chunk_of c) j
      → sum_at p (column edges (chunk_of cut) j cut.parts) (values p edges t) (first_vertex c.vertices (chunk_of c) j + k) ≡ sum_at p edges (values p edges t) (first_vertex c.vertices (chunk_of c) j + k)) (sym same)
      (λ k low.
      let n = cut.vertices in
      let v = first_vertex n (chunk_of cut) j + k in
      let inside : IsInPart n (chunk_of cut) j v = record { low = omega arith; high = omega (arith, low) } in
      column-sum p laws edges (values p edges t) n cut.parts j v some ((cover_once n cut.parts some).alone j v inside).1 known (recursion_from_All _ edges list.numbers) list.ends)
