-- How the iterations of a run go on and end.
use Rattle.std.proofs.Common.{◌≡◌, ◌==◌, ◌⊎◌, inl, inr, ◌<◌, ◌≤◌, ℕ, zero, suc, ◌-◌, Bool, true, false, List, [], ◌++◌, Option, Some, None, Result, Ok, Err, find, refl, sym, ap, ◌∙◌, subst, arith}
use Rattle.std.specs.Prelude.{if◌then◌else◌, IfErr, IfOk}
use Rattle.std.specs.List.{range_with_len}
use Rattle.std.proofs.lemmas.Bool.{cases_eq, cond-true, cond-false, eq-eqb, ne_eqb}
use Rattle.lumos_base.specs.declared.records.Edge.{Edge}
use Rattle.lumos_depot.specs.Streams.{AppendsFront, after_told}
use Rattle.lumos_law.specs.Program.{Program}
use Rattle.lumos_law.specs.Sync.{Ending as EndingOf, over_in, still_in, limit_at, ending, ending_by, ending_from, is_over, moved_count, values}
use Rattle.partition.specs.Parts.{Cut}
use Rattle.io_account.specs.declared.Counts.{Counts}
use Rattle.lumos_report.specs.Report.{counts_line}
use Rattle.lumos_report.specs.declared.records.Kind.{Kind}
use Rattle.lumos_report.specs.declared.records.Why.TheVariants.{Limit}
use Rattle.value_files.specs.declared.fault.FileFault.TheVariants as file
use Rattle.windows.specs.Windows.{Coding, Told, WindowState}
use Rattle.early_engine.specs.Making.{IsMade, IsUnmade}
use Rattle.early_engine.specs.Passes.{kind_of}
use Rattle.early_engine.specs.Report.{closing_line, end_line, finished, shown_lines, turn_line, turn_of, turn_text}
use Rattle.early_engine.specs.Early.{IsKept}
use Rattle.early_engine.specs.Shown.{WritesRun}
use Rattle.early_engine.specs.Starts.{IsFromOutside}
use Rattle.early_engine.specs.Turns.{fault_of, HasFront, TurnComes, TurnTells}
use Rattle.early_engine.specs.declared.part.Stop.{Stop}
use Rattle.early_engine.specs.declared.part.Stop.TheVariants as stop
use Rattle.early_engine.specs.declared.options.Mode.{Mode}
use Rattle.early_engine.specs.declared.options.RunFault.{RunFault}
use Rattle.early_engine.specs.declared.options.RunFault.TheVariants.{Depot, Out, Range, Damaged}
use Rattle.early_engine.specs.declared.options.Show.{Show}
use Rattle.early_engine.specs.declared.options.Turn.{Turn}
use Rattle.early_engine.specs.declared.options.Turn.TheVariants.{Going, Ended}

either_none : (b : Bool) → ◌≡◌ {A = List ℕ} (if b then [] else []) []
either_none true = refl
either_none false = refl

-- an ending in another iteration closes nothing
closing_over : (t u v : ℕ) → closing_line t (over_in u v) ≡ []
closing_over t u v = either_none (finished (over_in u v) == t)

closing_still : (t u : ℕ) → t < u → closing_line t (still_in u) ≡ []
closing_still t u later = cond-false (u == t) (end_line (still_in u)) [] (ne_eqb u t (λ same. omega arith))

closing_limit : (t u : ℕ) → t < u → closing_line t (limit_at u) ≡ []
closing_limit t u later = cond-false (u == t) (end_line (limit_at u)) [] (ne_eqb u t (λ same. omega arith))

-- and one in this iteration closes with its line
pub closing_here : (t : ℕ) (e : EndingOf) → finished e ≡ t → closing_line t e ≡ end_line e
closing_here t e is = cond-true (finished e == t) (end_line e) [] (eq-eqb (finished e) t is)

pub closing_elsewhere : (t : ℕ) (e : EndingOf) → (finished e ≡ t → ⊥) → closing_line t e ≡ []
closing_elsewhere t e apart = cond-false (finished e == t) (end_line e) [] (ne_eqb (finished e) t apart)

closing_by : (t u m : ℕ) (o : Option ℕ) (later : EndingOf) → t < u → closing_line t later ≡ [] → closing_line t (ending_by u o m later) ≡ []
closing_by t u m (Some v) later low h = closing_over t u v
closing_by t u zero None later low h = closing_still t u low
closing_by t u (suc k) None later low h = h

module _ {V S : Type 0} (p : Program V S) (edges : List Edge) (n : ℕ) where
  abbrev over_at : ℕ → Option ℕ
  over_at t = find (is_over p edges t) (range_with_len 0 n)

  pub ends_over : (left t v : ℕ) → over_at t ≡ Some v → ending_from p edges n (suc left) t ≡ over_in (suc t) v
  ends_over left t v is = ap (λ o. ending_by (suc t) o (moved_count p edges n t) (ending_from p edges n left (suc t))) is

  pub ends_still : (left t : ℕ) → over_at t ≡ None → moved_count p edges n t ≡ 0 → ending_from p edges n (suc left) t ≡ still_in (suc t)
  ends_still left t none still =
      ap (λ o. ending_by (suc t) o (moved_count p edges n t) (ending_from p edges n left (suc t))) none
      ∙ ap (λ m. ending_by (suc t) None m (ending_from p edges n left (suc t))) still

  by_moved : (left t moved : ℕ) → 0 < moved → ending_by (suc t) None moved (ending_from p edges n left (suc t)) ≡ ending_from p edges n left (suc t)
  by_moved left t zero h = absurd (omega arith)
  by_moved left t (suc k) h = refl

  pub goes_on : (left t : ℕ) → over_at t ≡ None → 0 < moved_count p edges n t → ending_from p edges n (suc left) t ≡ ending_from p edges n left (suc t)
  goes_on left t none moves =
      ap (λ o. ending_by (suc t) o (moved_count p edges n t) (ending_from p edges n left (suc t))) none
      ∙ by_moved left t (moved_count p edges n t) moves

  reaches_by : (t moved : ℕ) (o : Option ℕ) (later : EndingOf) → suc t ≤ finished later → t ≤ finished (ending_by (suc t) o moved later)
  reaches_by t moved (Some v) later h = omega arith
  reaches_by t zero None later h = omega arith
  reaches_by t (suc k) None later h = omega arith

  -- a run finishes the iterations before those that are left
  pub reaches : (left t : ℕ) → t ≤ finished (ending_from p edges n left t)
  reaches zero t = omega arith
  reaches (suc left) t = reaches_by t (moved_count p edges n t) (over_at t) (ending_from p edges n left (suc t)) (reaches left (suc t))

  reaches_more_by : (t moved : ℕ) (later : EndingOf) → suc t ≤ finished later → suc t ≤ finished (ending_by (suc t) None moved later)
  reaches_more_by t zero later h = omega arith
  reaches_more_by t (suc k) later h = h

  -- and one more, where no vertex is over
  pub reaches_more : (left t : ℕ) → over_at t ≡ None → suc t ≤ finished (ending_from p edges n (suc left) t)
  reaches_more left t none =
      subst (λ o. suc t ≤ finished (ending_by (suc t) o (moved_count p edges n t) (ending_from p edges n left (suc t)))) (sym none)
      (reaches_more_by t (moved_count p edges n t) (ending_from p edges n left (suc t)) (reaches left (suc t)))

  closing_below : (left u t : ℕ) → t < u → closing_line t (ending_from p edges n left u) ≡ []
  closing_below zero u t low = closing_limit t u low
  closing_below (suc left) u t low =
      closing_by t (suc u) (moved_count p edges n u) (over_at u) (ending_from p edges n left (suc u)) (omega arith) (closing_below left (suc u) t (omega arith))

  -- a run that goes on closes nothing
  pub closing_next : (left t : ℕ) → closing_line t (ending_from p edges n (suc left) t) ≡ []
  closing_next left t =
      closing_by t (suc t) (moved_count p edges n t) (over_at t) (ending_from p edges n left (suc t)) (omega arith) (closing_below left (suc t) t (omega arith))

-- a turn that goes on isn't the last
pub going_on : (iteration limit moved : ℕ) (turn : Turn) → turn ≡ turn_of iteration limit moved → turn ≡ Going → iteration ≡ limit → ⊥
going_on iteration limit zero turn is going same = let e : Going ≡ turn_of iteration limit zero = sym going ∙ is in cc
going_on iteration limit (suc k) turn is going same =
    let last = cond-true (iteration == limit) (Ended (record { iterations = iteration; why = Limit })) Going (eq-eqb iteration limit same) in
    let e : Going ≡ Ended (record { iterations = iteration; why = Limit }) = sym going ∙ is ∙ last in
    cc

module _ {V S : Type 0} (p : Program V S) (show : Show) (mode : Mode) (edges : List Edge) (cut : Cut) (limit t : ℕ) (low : t < limit) (is : ending p edges cut.vertices limit ≡ ending_from p edges cut.vertices (limit - t) t) where
  abbrev n : ℕ
  n = cut.vertices

  abbrev end : EndingOf
  end = ending p edges cut.vertices limit

  next : end ≡ ending_from p edges n (suc (limit - suc t)) t
  next = let left : limit - t ≡ suc (limit - suc t) = omega arith in is ∙ ap (λ (k : ℕ). ending_from p edges n k t) left

  abbrev Closes : Turn → Type 0
  Closes turn = TurnTells p show mode edges cut limit t turn × (turn_line turn ≡ closing_line (suc t) end)

  closes_on : (k : ℕ) → over_at p edges n t ≡ None → suc k ≡ moved_count p edges n t → (suc t ≡ limit) ⊎ (suc t ≡ limit → ⊥) → Closes (turn_of (suc t) limit (suc k))
  closes_on k none moved (inl last) =
      let ended : turn_of (suc t) limit (suc k) ≡ Ended (record { iterations = suc t; why = Limit }) = cond-true (suc t == limit) _ _ (eq-eqb (suc t) limit last) in
      let left : limit - suc t ≡ 0 = omega arith in
      let all : end ≡ limit_at (suc t) = next ∙ goes_on p edges n (limit - suc t) t none (omega arith) ∙ ap (λ (m : ℕ). ending_from p edges n m (suc t)) left in
      let line = ap (closing_line (suc t)) all ∙ closing_here (suc t) (limit_at (suc t)) refl in
      subst Closes (sym ended) ((all, refl), sym line)
  closes_on k none moved (inr apart) =
      let going : turn_of (suc t) limit (suc k) ≡ Going = cond-false (suc t == limit) _ _ (ne_eqb (suc t) limit apart) in
      let on : end ≡ ending_from p edges n (limit - suc t) (suc t) = next ∙ goes_on p edges n (limit - suc t) t none (omega arith) in
      let left : limit - suc t ≡ suc (limit - suc t - 1) = omega arith in
      let line = ap (closing_line (suc t)) (on ∙ ap (λ (m : ℕ). ending_from p edges n m (suc t)) left) ∙ closing_next p edges n (limit - suc t - 1) (suc t) in
      subst Closes (sym going) ((omega arith, on), sym line)

  -- what is told of the run after an iteration is its ending
  closes : (m : ℕ) → over_at p edges n t ≡ None → m ≡ moved_count p edges n t → Closes (turn_of (suc t) limit m)
  closes zero none moved =
      let still : end ≡ still_in (suc t) = next ∙ ends_still p edges n (limit - suc t) t none (sym moved) in
      let line = ap (closing_line (suc t)) still ∙ closing_here (suc t) (still_in (suc t)) refl in
      ((still, refl), sym line)
  closes (suc k) none moved = closes_on k none moved (cases_eq (suc t) limit)

  module _ (coding : Coding V S) (windows : WindowState V S) (told : Told) (flags : List Bool) (counts : Counts) (made : IsMade p coding edges cut mode limit t windows told flags counts) (iteration long : ℕ) (kind : Kind) (at : iteration ≡ suc t) (all : long ≡ n) (sort : kind ≡ kind_of mode iteration) where
    moved_is : counts.moved ≡ moved_count p edges n t
    moved_is = ap (λ (k : Counts). k.moved) made.counted

    -- the text that was written is that of the iteration
    abbrev pub written_text : List ℕ
    written_text = (counts_line iteration kind counts ++ shown_lines p show (values p edges (suc t)) long) ++ turn_line (turn_of iteration limit counts.moved)

    text_is : written_text ≡ turn_text p show mode edges n cut.parts limit t
    text_is =
        let line = ap (λ (k : ℕ). turn_line (turn_of k limit counts.moved)) at ∙ (closes counts.moved made.none moved_is).1 in
        let counted = made.counted in
        ap (λ l. (counts_line iteration kind counts ++ shown_lines p show (values p edges (suc t)) long) ++ l) line
        ∙ (λ i. (counts_line (at i) ((sort ∙ ap (kind_of mode) at) i) (counted i) ++ shown_lines p show (values p edges (suc t)) (all i)) ++ closing_line (suc t) end)

    front_of : (old new : Option (List ℕ)) → AppendsFront old new written_text → HasFront p show mode edges cut limit t old new
    front_of old new front = record {
      front = subst (AppendsFront old new) text_is front;
      made = subst (λ e. suc t ≤ finished e) (sym next) (reaches_more p edges n (limit - suc t) t made.none);
    }

    -- an iteration that was made, and written as far as the outside let it
    pub turned : (after : WindowState V S) (later : Told) (old new : Option (List ℕ)) (result : Result Turn RunFault) → IsKept coding p edges cut mode limit (suc t) after later flags → IfOk result (λ turn. turn ≡ turn_of iteration limit counts.moved) → IfErr result IsFromOutside
        → WritesRun old new written_text result → TurnComes p show mode edges cut limit t coding after later flags old new result
    turned after later old new (Ok turn) kept told outside written =
        let same : turn_of (suc t) limit counts.moved ≡ turn = ap (λ (k : ℕ). turn_of k limit counts.moved) (sym at) ∙ sym told in
        record {
          kept = kept;
          written = written ∙ ap (after_told old) text_is;
          tells = subst (TurnTells p show mode edges cut limit t) same (closes counts.moved made.none moved_is).0;
        }
    turned after later old new (Err Depot) kept told outside written = inr (front_of old new written)
    turned after later old new (Err Out) kept told outside written = front_of old new written
    turned after later old new (Err (Range u v)) kept told outside written = absurd outside
    turned after later old new (Err (Damaged file place found)) kept told outside written = absurd outside

  -- an iteration that isn't made
  pub turned_stop : (coding : Coding V S) (windows : WindowState V S) (told : Told) (flags : List Bool) (iteration : ℕ) (why : Stop) (old : Option (List ℕ)) → iteration ≡ suc t → IsUnmade p edges cut t why
      → TurnComes p show mode edges cut limit t coding windows told flags old old (Err (fault_of iteration why))
  turned_stop coding windows told flags iteration (stop.File file.Depot) old at unmade = inl refl
  turned_stop coding windows told flags iteration (stop.File (file.Damaged kind place found)) old at unmade = absurd unmade
  turned_stop coding windows told flags iteration (stop.Over vertex) old at unmade =
      (next ∙ ends_over p edges n (limit - suc t) t vertex.0 unmade ∙ ap (λ (k : ℕ). over_in k vertex.0) (sym at), at, refl)
