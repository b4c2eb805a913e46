-- What the iterations of a run take and store of each file.
use Rattle.std.proofs.Common.{◌≡◌, ◌≤◌, ℕ, ◌+◌, ◌||◌, Bool, true, false, List, Option, Result, Ok, Err, refl, ap, ◌∙◌, subst, arith, add-one}
use Rattle.std.specs.Prelude.{IfOk, sum_by}
use Rattle.std.specs.List.{list_any, range_with_len}
use Rattle.std.proofs.lemmas.List.Sums.{sum_by_push}
use Rattle.lumos_depot.specs.Steps.{Touches}
use Rattle.lumos_depot.specs.declared.depot.FileKind.{FileKind}
use Rattle.lumos_depot.proofs.StepLemmas.{rose_then, rose_whole, touches_more, touches_then}
use Rattle.lumos_report.specs.declared.records.Ending.{Ending}
use Rattle.lumos_report.specs.declared.records.Kind.{Kind}
use Rattle.lumos_report.specs.declared.records.Kind.TheVariants.{Full, Fed}
use Rattle.partition.proofs.BucketLemmas.{range_more}
use Rattle.early_engine.specs.Files.{run_stores, run_takes, start_takes, stores_of, takes_of}
use Rattle.early_engine.specs.Passes.{feeds_ahead, file_of, kind_of}
use Rattle.early_engine.specs.Runs.{RoseAll}
use Rattle.early_engine.specs.declared.options.RunFault.{RunFault}
use Rattle.early_engine.specs.declared.options.RunOptions.{RunOptions}
use Rattle.early_engine.proofs.FlagLemmas.{any_none}

-- what the first n iterations move of each file, where iteration t moves `bytes t`
abbrev pub moved_to : (ℕ → FileKind → ℕ) → ℕ → FileKind → ℕ
moved_to bytes n kind = sum_by (λ t. bytes t kind) (range_with_len 1 n)

-- one iteration more
sum_more : (f : ℕ → ℕ) (n : ℕ) → sum_by f (range_with_len 1 (n + 1)) ≡ sum_by f (range_with_len 1 n) + f (n + 1)
sum_more f n =
    let next : 1 + n ≡ n + 1 = omega arith in
    ap (λ (k : ℕ). sum_by f (range_with_len 1 k)) (add-one n) ∙ ap (sum_by f) (range_more 1 n) ∙ sum_by_push f (range_with_len 1 n) (1 + n)
    ∙ ap (λ (k : ℕ). sum_by f (range_with_len 1 n) + f k) next

-- no iteration yet
pub all_none : (bytes : ℕ → FileKind → ℕ) (n : ℕ) (before : FileKind → ℕ) → n ≡ 0 → RoseAll before before (moved_to bytes n)
all_none bytes n before none kind low = let all : moved_to bytes n kind ≡ 0 = ap (λ (k : ℕ). moved_to bytes k kind) none in omega (arith, all)

pub all_more : (bytes : ℕ → FileKind → ℕ) (t next : ℕ) (before mid after : FileKind → ℕ) → next ≡ t + 1 → RoseAll before mid (moved_to bytes t) → RoseAll mid after (bytes (t + 1)) → RoseAll before after (moved_to bytes next)
all_more bytes t next before mid after at first second kind =
    rose_whole (before kind) (mid kind) (after kind) (moved_to bytes t kind) (bytes (t + 1) kind) (moved_to bytes next kind) (ap (λ (k : ℕ). moved_to bytes k kind) at ∙ sum_more (λ u. bytes u kind) t) (first kind) (second kind)

-- what the beginning moves, and the iterations behind it
pub all_then : (m : FileKind → ℕ) (n : ℕ → FileKind → ℕ) (before mid after : FileKind → ℕ) (r : Result Ending RunFault) → RoseAll before mid m → IfOk r (λ end. RoseAll mid after (n end.iterations)) → IfOk r (λ end. RoseAll before after (λ kind. m kind + n end.iterations kind))
all_then m n before mid after (Ok end) first second = λ kind. rose_then (before kind) (mid kind) (after kind) (m kind) (n end.iterations kind) (first kind) (second kind)
all_then m n before mid after (Err fault) first second = tt

-- the beginning takes nothing of the blocks
pub start_apart : (kind : Kind) → start_takes (file_of kind) ≡ false
start_apart Full = refl
start_apart Fed = refl

neither : (a b : Bool) → (a || b) ≡ false → (a ≡ false) × (b ≡ false)
neither false b none = (refl, none)
neither true b none = let e : true ≡ false = none in absurd (cc)

module _ {D : Type 0} (h : D → FileKind → Option (List ℕ)) (t s : D → FileKind → ℕ) (f : D → ℕ) (a : D → Option (List ℕ)) where
  -- the beginning of a run touches files that the run touches
  pub start_touches : (o : RunOptions) (x y : D) → Touches h t s f a start_takes (stores_of false) x y → Touches h t s f a (run_takes o.mode o.iterations) (run_stores o.mode o.iterations) x y
  start_touches o x y touches =
      touches_more h t s f a start_takes (stores_of false) (run_takes o.mode o.iterations) (run_stores o.mode o.iterations) x y
      (λ kind none. (neither (start_takes kind) (list_any (λ u. takes_of (kind_of o.mode u) kind) (range_with_len 1 o.iterations)) none).0)
      (λ kind none. (neither (stores_of false kind) (list_any (λ u. stores_of (feeds_ahead o.mode o.iterations u) kind) (range_with_len 1 o.iterations)) none).0) touches

  -- so does an iteration of it
  pub turn_touches : (o q : RunOptions) (u : ℕ) (x y z : D) → o ≡ q → 1 ≤ u → u ≤ q.iterations → Touches h t s f a (run_takes q.mode q.iterations) (run_stores q.mode q.iterations) x y
      → Touches h t s f a (takes_of (kind_of o.mode u)) (stores_of (feeds_ahead o.mode o.iterations u)) y z → Touches h t s f a (run_takes q.mode q.iterations) (run_stores q.mode q.iterations) x z
  turn_touches o q u x y z same some few first turn =
      let here = subst (λ (k : RunOptions). Touches h t s f a (takes_of (kind_of k.mode u)) (stores_of (feeds_ahead k.mode k.iterations u)) y z) same turn in
      touches_then h t s f a (run_takes q.mode q.iterations) (run_stores q.mode q.iterations) x y z first
      (touches_more h t s f a (takes_of (kind_of q.mode u)) (stores_of (feeds_ahead q.mode q.iterations u)) (run_takes q.mode q.iterations) (run_stores q.mode q.iterations) y z
      (λ kind none. any_none (λ v. takes_of (kind_of q.mode v) kind) 1 q.iterations u (neither (start_takes kind) (list_any (λ v. takes_of (kind_of q.mode v) kind) (range_with_len 1 q.iterations)) none).1 some (omega (arith, few)))
      (λ kind none. any_none (λ v. stores_of (feeds_ahead q.mode q.iterations v) kind) 1 q.iterations u (neither (stores_of false kind) (list_any (λ v. stores_of (feeds_ahead q.mode q.iterations v) kind) (range_with_len 1 q.iterations)) none).1 some (omega (arith, few))) here)
