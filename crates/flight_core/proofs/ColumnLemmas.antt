-- The sums over a column's blocks are those over the whole list.
use Rattle.std.proofs.Common.{◌≡◌, ◌==◌, ◌&&◌, ℕ, ◌<◌, ◌^◌, Bool, true, false, List, map, All, refl, sym, ap, ◌∙◌}
use Rattle.std.specs.List.{AllByRecursion}
use Rattle.std.proofs.lemmas.Bool.{eq-eqb, eqb-true}
use Rattle.std.proofs.lemmas.List.Elements.{filter_agree}
use Rattle.lumos_base.specs.Records.{IsEdge}
use Rattle.lumos_base.specs.declared.records.Edge.{Edge}
use Rattle.lumos_law.specs.Joins.{join_from}
use Rattle.lumos_law.specs.Program.{Program, Lawful}
use Rattle.lumos_law.specs.Sync.{edges_into, fed_sum, sum_at}
use Rattle.lumos_law.proofs.OrderLemmas.{sum_at-permutation}
use Rattle.lumos_law.proofs.SumLemmas.{all-filter}
use Rattle.partition.specs.Blocks.{column, edges_into_part, IsBelow}
use Rattle.partition.specs.Parts.{chunk_size, part_at}
use Rattle.partition.proofs.BlockLemmas.{hold_once}
use Rattle.partition.proofs.BucketLemmas.{filter-filter}

and_hit : (a b : Bool) → (b ≡ true → a ≡ true) → (a && b) ≡ b
and_hit true b h = refl
and_hit false true h = h refl
and_hit false false h = refl

-- the edges into a vertex are among those into its part
into_part : (edges : List Edge) (c j v : ℕ) → part_at c v ≡ j → edges_into (edges_into_part edges c j) v ≡ edges_into edges v
into_part edges c j v is =
    filter-filter (λ (e : Edge). e.target.0 == v) (λ e. part_at c e.target.0 == j) edges
    ∙ filter_agree _ _ (λ e. and_hit (part_at c e.target.0 == j) (e.target.0 == v) (λ hit. eq-eqb (part_at c e.target.0) j (ap (part_at c) (eqb-true e.target.0 v hit) ∙ is))) edges

module _ {V S : Type 0} {ValueIn : V → Type 0} {SumIn : S → Type 0} (p : Program V S) (laws : Lawful ValueIn SumIn p) where
  pub column-sum : (edges : List Edge) (state : ℕ → V) (n parts j v : ℕ) → 0 < parts → part_at (chunk_size n parts) v ≡ j → ((u : ℕ) → u < 2 ^ 32 → ValueIn (state u)) → AllByRecursion IsEdge edges → All (IsBelow n) edges
      → fed_sum p (column edges (chunk_size n parts) j parts) state v p.unit ≡ sum_at p edges state v
  column-sum edges state n parts j v some is known all ends =
      let c = chunk_size n parts in
      sym (sum_at-permutation p laws (edges_into_part edges c j) (column edges c j parts) state v ((hold_once edges n parts some ends).by_column j) known (all-filter IsEdge (λ e. part_at c e.target.0 == j) edges all))
      ∙ ap (λ es. join_from p.join p.unit (map (λ (e : Edge). p.contribution (state e.source.0) e.weight.0) es)) (into_part edges c j v is)
