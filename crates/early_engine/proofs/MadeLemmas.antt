-- An iteration that is made up to a column, and with the next one.
use Rattle.std.proofs.Common.{◌≡◌, ◌≢◌, ◌⊎◌, inl, inr, ℕ, suc, ◌+◌, ◌-◌, ◌<◌, ◌≤◌, ◌%◌, Bool, List, length, set, Option, Some, None, find, option_map, refl, sym, ap, ◌∙◌, subst, arith}
use Rattle.std.specs.List.{range_with_len}
use Rattle.std.specs.Option.{option_or}
use Rattle.std.proofs.lemmas.Bool.{cases_eq, lt-ltb, ltb-true}
use Rattle.lumos_base.specs.Records.{vertex_of}
use Rattle.lumos_base.specs.declared.records.Edge.{Edge}
use Rattle.lumos_base.specs.declared.records.Vertex.{Vertex}
use Rattle.lumos_depot.specs.declared.depot.FileKind.{FileKind}
use Rattle.lumos_law.specs.Program.{Program}
use Rattle.lumos_law.specs.Sync.{is_over, moved_count, next_values, sum_at, values}
use Rattle.partition.specs.Parts.{Cut, chunk_of, first_vertex, part_length}
use Rattle.partition.proofs.RangeLemmas.{parts_suffice}
use Rattle.flight_core.specs.Finish.{finish_of, joined_end}
use Rattle.flight_core.specs.declared.steps.Finish.{Finish}
use Rattle.flight_core.proofs.FinishLemmas.{finish_join}
use Rattle.windows.specs.Kept.{Keeps, StaysBut}
use Rattle.windows.specs.Windows.{Coding, Told, WindowState, chunk_count, chunk_first}
use Rattle.windows.proofs.FrameLemmas.{but_keeps}
use Rattle.windows.proofs.PartLemmas.{part_ends}
use Rattle.flight_core.specs.Events.{prior}
use Rattle.grid_format.specs.Tables.{BlockCounts}
use Rattle.io_account.specs.declared.Counts.{Counts}
use Rattle.lumos_report.specs.declared.records.Kind.{Kind}
use Rattle.early_engine.specs.Early.{AreHot, IsKept}
use Rattle.early_engine.specs.Gone.{AreOf, Beside, HasGone, loads_by}
use Rattle.early_engine.specs.Grids.{IsOnGrid}
use Rattle.early_engine.specs.Making.{IsMade}
use Rattle.early_engine.specs.Passes.{Place, feeds_ahead, is_hot, kind_of, needed, passes, size_at, tally_of}
use Rattle.early_engine.specs.Steps.{AreEarly, IsMadeBelow, came_of}
use Rattle.early_engine.specs.declared.options.Mode.{Mode}
use Rattle.early_engine.proofs.HotLemmas.{told_of}
use Rattle.early_engine.proofs.KindLemmas.{fed_before}
use Rattle.early_engine.proofs.FlagLemmas.{marked}

module _ {V S : Type 0} (p : Program V S) (state : ℕ → V) (sum : ℕ → S) where
  -- the first vertices, and the next ones: together
  came_joined : (n m first total : ℕ) (end : Finish) → first ≡ n → total ≡ n + m → end ≡ finish_of p state sum first m → finish_of p state sum 0 total ≡ joined_end (finish_of p state sum 0 n) end
  came_joined n m first total end first_is total_is is =
      let from : 0 + n ≡ first = omega arith in
      ap (finish_of p state sum 0) total_is ∙ finish_join p state sum 0 n m
      ∙ ap (joined_end (finish_of p state sum 0 n)) (ap (λ (f : ℕ). finish_of p state sum f m) from ∙ sym is)

  pub moved_next : (n m first total : ℕ) (end : Finish) → first ≡ n → total ≡ n + m → end ≡ finish_of p state sum first m → (finish_of p state sum 0 n).moved + end.moved ≡ (finish_of p state sum 0 total).moved
  moved_next n m first total end first_is total_is is = sym (ap (λ (f : Finish). f.moved) (came_joined n m first total end first_is total_is is))

  pub over_next : (n m first total : ℕ) (end : Finish) → first ≡ n → total ≡ n + m → end ≡ finish_of p state sum first m → (finish_of p state sum 0 n).over ≡ None → (finish_of p state sum 0 total).over ≡ end.over
  over_next n m first total end first_is total_is is none =
      ap (λ (f : Finish). f.over) (came_joined n m first total end first_is total_is is) ∙ ap (λ (o : Option Vertex). option_or o end.over) none

  over_first : (n more : ℕ) (v : Vertex) → (finish_of p state sum 0 n).over ≡ Some v → (finish_of p state sum 0 (n + more)).over ≡ Some v
  over_first n more v is =
      ap (λ (f : Finish). f.over) (finish_join p state sum 0 n more) ∙ ap (λ (o : Option Vertex). option_or o (finish_of p state sum (0 + n) more).over) is

  -- the least vertex of all that is over
  pub over_found : (n m first total whole : ℕ) (end : Finish) (v : Vertex) → first ≡ n → total ≡ n + m → total ≤ whole → end ≡ finish_of p state sum first m → (finish_of p state sum 0 n).over ≡ None → end.over ≡ Some v
      → find (λ u. p.over u (state u) (sum u)) (range_with_len 0 whole) ≡ Some v.0
  over_found n m first total whole end v first_is total_is within is none over =
      let rest : total + (whole - total) ≡ whole = omega arith in
      let here : (finish_of p state sum 0 total).over ≡ Some v = over_next n m first total end first_is total_is is none ∙ over in
      over_some _ v (sym (ap (λ (k : ℕ). (finish_of p state sum 0 k).over) rest) ∙ over_first total (whole - total) v here)
    where
      over_some : (o : Option ℕ) (u : Vertex) → option_map vertex_of o ≡ Some u → o ≡ Some u.0
      over_some None u h = absurd (cc)
      over_some (Some k) u h = ap (λ (w : Option Vertex). option_map (λ (x : Vertex). x.0) w) h

-- no vertex is over
over_none : (o : Option ℕ) → option_map vertex_of o ≡ None → o ≡ None
over_none None h = refl
over_none (Some u) h = absurd (cc)

-- all parts have all vertices
pub all_parts : (cut : Cut) (j : ℕ) → 0 < cut.parts → j ≡ cut.parts → first_vertex cut.vertices (chunk_of cut) j ≡ cut.vertices
all_parts cut j some all =
    let suffice = parts_suffice cut.vertices cut.parts some in
    ap (λ (k : ℕ). first_vertex cut.vertices (chunk_of cut) k) all ∙ omega arith

-- an iteration and the next aren't both even, nor both odd
pub turns : (t u : ℕ) → t ≡ suc u → u % 2 ≢ t % 2
turns t u is same = omega arith

module _ {V S : Type 0} (coding : Coding V S) (p : Program V S) (edges : List Edge) (cut : Cut) where
  -- of no part
  pub made_none : (t : ℕ) (windows : WindowState V S) (told : Told) (were are : List Bool) (moved : ℕ) → moved ≡ 0 → ((i : ℕ) → i < cut.parts → Keeps coding windows told t i (values p edges t)) → AreHot p edges cut t were
      → IsMadeBelow coding p edges cut 0 t windows told were are moved
  made_none t windows told were are moved none_moved holds were_hot =
      let first : 0 ≡ first_vertex cut.vertices (chunk_of cut) 0 = omega arith in
      record {
        ready = record {
          holds = holds;
          made = λ i low is. absurd (let under = ltb-true i 0 is in omega arith);
          were_hot = were_hot;
          are_hot = λ i low is. absurd (let under = ltb-true i 0 is in omega arith);
        };
        count = none_moved ∙ ap (λ (n : ℕ). (came_of p edges t n).moved) first;
        none = ap (λ (n : ℕ). (came_of p edges t n).over) (sym first);
      }

  module _ (j u t : ℕ) (old new : WindowState V S) (before after : Told) (were flags : List Bool) (moved : ℕ) (end : Finish) (same : old.cut ≡ cut)
      (ends : end ≡ finish_of p (values p edges u) (sum_at p edges (values p edges u)) (chunk_first old j) (chunk_count old j)) (made : IsMadeBelow coding p edges cut j u old before were flags moved) where
    here : end ≡ finish_of p (values p edges u) (sum_at p edges (values p edges u)) (first_vertex cut.vertices (chunk_of cut) j) (part_length cut.vertices (chunk_of cut) j)
    here = ends ∙ ap (λ (c : Cut). finish_of p (values p edges u) (sum_at p edges (values p edges u)) (first_vertex c.vertices (chunk_of c) j) (part_length c.vertices (chunk_of c) j)) same

    -- the least vertex that is over
    pub over_in_part : (v : Vertex) → j < cut.parts → end.over ≡ Some v → find (λ x. p.over x (values p edges u x) (sum_at p edges (values p edges u) x)) (range_with_len 0 cut.vertices) ≡ Some v.0
    over_in_part v low over =
        over_found p (values p edges u) (sum_at p edges (values p edges u)) (first_vertex cut.vertices (chunk_of cut) j) (part_length cut.vertices (chunk_of cut) j) (first_vertex cut.vertices (chunk_of cut) j)
        (first_vertex cut.vertices (chunk_of cut) (j + 1)) cut.vertices end v refl (part_ends cut.vertices (chunk_of cut) j) (omega arith) here made.none over

    -- one part more is made
    pub made_more : t ≡ suc u → j < cut.parts → cut.parts ≤ 256 → length flags ≡ 256 → StaysBut coding t j old before new after → Keeps coding new after t j (next_values p edges (values p edges u)) → end.over ≡ None
        → IsMadeBelow coding p edges cut (j + 1) u new after were (set flags j end.hot) (moved + end.moved)
    made_more next low few long stays keeps none = record {
      ready = record {
        holds = λ i row. but_keeps coding t j old new before after u i (values p edges u) stays (inl (turns t u next)) (made.ready.holds i row);
        made = λ i row is. by_part i row (ltb-true i (j + 1) is) (cases_eq i j);
        were_hot = made.ready.were_hot;
        are_hot = λ i row is.
            let under = ltb-true i (j + 1) is in
            marked flags (λ k. is_hot p edges cut.vertices cut.parts (suc u) k) j end.hot (omega (arith, low, few, long)) (ap (λ (f : Finish). f.hot) here)
            (λ k under. made.ready.are_hot k (omega (arith, under, low)) (lt-ltb k j under)) i under;
      };
      count = ap (λ (k : ℕ). k + end.moved) made.count
          ∙ moved_next p (values p edges u) (sum_at p edges (values p edges u)) (first_vertex cut.vertices (chunk_of cut) j) (part_length cut.vertices (chunk_of cut) j) (first_vertex cut.vertices (chunk_of cut) j)
          (first_vertex cut.vertices (chunk_of cut) (j + 1)) end refl (part_ends cut.vertices (chunk_of cut) j) here;
      none = over_next p (values p edges u) (sum_at p edges (values p edges u)) (first_vertex cut.vertices (chunk_of cut) j) (part_length cut.vertices (chunk_of cut) j) (first_vertex cut.vertices (chunk_of cut) j)
          (first_vertex cut.vertices (chunk_of cut) (j + 1)) end refl (part_ends cut.vertices (chunk_of cut) j) here made.none ∙ none;
    }
      where
        by_part : (i : ℕ) → i < cut.parts → i < j + 1 → (i ≡ j) ⊎ (i ≡ j → ⊥) → Keeps coding new after (suc u) i (values p edges (suc u))
        by_part i row under (inl is) = subst (λ (k : ℕ). Keeps coding new after (suc u) k (values p edges (suc u))) (sym is) (subst (λ (n : ℕ). Keeps coding new after n j (values p edges (suc u))) next keeps)
        by_part i row under (inr apart) = but_keeps coding t j old new before after (suc u) i (values p edges (suc u)) stays (inr apart) (made.ready.made i row (lt-ltb i j (omega arith)))

  -- all parts make the iteration
  pub made_all : (j t : ℕ) (windows : WindowState V S) (told : Told) (were are : List Bool) (moved : ℕ) → 0 < cut.parts → j ≡ cut.parts → IsMadeBelow coding p edges cut j t windows told were are moved
      → ((i : ℕ) → i < cut.parts → Keeps coding windows told (suc t) i (values p edges (suc t))) × (AreHot p edges cut (suc t) are × ((moved ≡ moved_count p edges cut.vertices t) × (find (is_over p edges t) (range_with_len 0 cut.vertices) ≡ None)))
  made_all j t windows told were are moved some all made =
      let whole = all_parts cut j some all in (
        λ i row. made.ready.made i row (lt-ltb i j (omega (arith, row, all))),
        (
          λ i row. made.ready.are_hot i row (lt-ltb i j (omega (arith, row, all))),
          (made.count ∙ ap (λ (n : ℕ). (came_of p edges t n).moved) whole, over_none _ (sym (ap (λ (n : ℕ). (came_of p edges t n).over) whole) ∙ made.none)),
        ),
      )

  -- the early sums that an iteration of a kind goes on from
  pub early_first : (mode : Mode) (limit u t : ℕ) (kind : Kind) (ahead : Bool) (windows : WindowState V S) (told : Told) (flags : List Bool) → t ≡ suc u → t ≤ limit → kind ≡ kind_of mode t → IsKept coding p edges cut mode limit u windows told flags
      → AreEarly coding p edges cut kind ahead 0 u windows told
  early_first mode limit u t kind ahead windows told flags next few sort kept = record {
    given = λ fed i from low. kept.ahead (fed_before mode limit u (sym (ap (kind_of mode) next) ∙ sym sort ∙ fed) (omega (arith, next, few))) i low;
    left = λ on i low. absurd (omega arith);
  }

  -- the iteration of the run is made
  pub iteration_made : (table : BlockCounts) (grid_told now : Told) (mode : Mode) (limit u t j : ℕ) (kind : Kind) (ahead : Bool) (windows begun : WindowState V S) (were flags : List Bool) (counts : Counts) (beside : Beside) (load : ℕ → ℕ) (taken stored taken_now stored_now : FileKind → ℕ)
      → t ≡ suc u → kind ≡ kind_of mode t → ahead ≡ feeds_ahead mode limit t → IsOnGrid edges cut table grid_told → j ≡ cut.parts → AreHot p edges cut u were
      → IsMadeBelow coding p edges cut j u windows now were flags counts.moved → AreEarly coding p edges cut kind ahead j u windows now
      → ((size : Place → ℕ) (need : Place → Bool) (loads : Place → ℕ) → ((i k : ℕ) → i < cut.parts → k < cut.parts → AreOf table load were flags ahead size need loads i k) → HasGone kind size need loads (passes kind cut.parts) beside taken stored taken_now stored_now counts)
      → IsMade p coding edges cut mode limit u windows now flags counts
  iteration_made table grid_told now mode limit u t j kind ahead windows begun were flags counts beside load taken stored taken_now stored_now next sort ahead_is grid all hot made early gone =
      let whole = made_all j u windows now were flags counts.moved grid.limits.some_parts all made in
      let size = size_at edges (chunk_of cut) in
      let hots = is_hot p edges cut.vertices cut.parts in
      let counted = (gone size (needed hots ahead t) (loads_by load (hots (prior t)) (hots t) ahead) (λ i k row column. told_of p edges cut table grid_told load were flags ahead u t i k next row column grid hot whole.1.0)).counted in
      record {
        kept = record { holds = whole.0; ahead = λ on i low. early.left (ahead_is ∙ ap (feeds_ahead mode limit) next ∙ on) i (omega (arith, low, all)); active = whole.1.0 };
        counted = counted ∙ (λ i. tally_of ((sort ∙ ap (kind_of mode) next) i) size (needed hots ((ahead_is ∙ ap (feeds_ahead mode limit) next) i) (next i)) (passes ((sort ∙ ap (kind_of mode) next) i) cut.parts) (whole.1.1.0 i));
        none = whole.1.1.1;
      }
