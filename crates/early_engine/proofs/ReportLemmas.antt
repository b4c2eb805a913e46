-- What is reported over every depot.
use Rattle.std.proofs.Common.{◌≡◌, ◌==◌, ◌≤◌, ℕ, zero, suc, ◌+◌, Bool, true, false, List, [], ◌++◌, Option, Some, None, Result, Ok, Err, refl, sym, ap, ◌∙◌, subst, arith, add-one, append-nil, append_assoc}
use Rattle.std.specs.Prelude.{if◌then◌else◌, IfOk}
use Rattle.io_account.specs.declared.Counts.{Counts}
use Rattle.grid_format.specs.Tables.{BlockCounts}
use Rattle.grid_format.specs.declared.head.GridInfo.{GridInfo}
use Rattle.lumos_depot.specs.Streams.{after_told}
use Rattle.lumos_depot.proofs.Written.{after_told-after}
use Rattle.lumos_law.specs.Program.{Program}
use Rattle.lumos_report.specs.Report.{ending_line}
use Rattle.lumos_report.specs.declared.records.Ending.{Ending}
use Rattle.lumos_report.specs.declared.records.Why.TheVariants.{Still, Limit}
use Rattle.windows.specs.Windows.{Coding, Told, WindowState}
use Rattle.early_engine.specs.Gone.{IsTallied}
use Rattle.early_engine.specs.Report.{opening_lines, stage_lines, turn_line, turn_of}
use Rattle.early_engine.specs.Reported.{AreEnded, AreReported, IsOpening, IsReport, IsReported}
use Rattle.early_engine.specs.declared.options.Mode.{Mode}
use Rattle.early_engine.specs.declared.options.RunFault.{RunFault}
use Rattle.early_engine.specs.declared.options.Show.{Show}
use Rattle.early_engine.specs.declared.options.Turn.{Turn}
use Rattle.early_engine.specs.declared.options.Turn.TheVariants.{Going, Ended}

pub told_none : (told : Option (List ℕ)) → told ≡ after_told told []
told_none None = refl
told_none (Some held) = ap Some (sym (append-nil held))

ended_by : (t : ℕ) (b : Bool) (end : Ending) → (if b then Ended (record { iterations = t; why = Limit }) else Going) ≡ Ended end → t ≡ end.iterations
ended_by t true end is = let same : record { iterations = t; why = Limit } ≡ end = cc in ap (λ (e : Ending). e.iterations) same
ended_by t false end is = absurd (cc)

-- a run that ends with iteration t tells so
pub ended_at : (t limit moved : ℕ) (end : Ending) → turn_of t limit moved ≡ Ended end → t ≡ end.iterations
ended_at t limit zero end is = let same : record { iterations = t; why = Still } ≡ end = cc in ap (λ (e : Ending). e.iterations) same
ended_at t limit (suc k) end is = ended_by t (t == limit) end is

module _ {V S : Type 0} (p : Program V S) where
  module _ (show : Show) (mode : Mode) (limit n : ℕ) (Counted : ℕ → Counts → Type 0) where
    -- the texts of so many iterations stand behind what stood there
    abbrev pub Went : ℕ → Option (List ℕ) → Option (List ℕ) → Type 0
    Went t old new = (text : List ℕ) × AreReported p show mode limit n Counted t text × (new ≡ after_told old text)

    -- what was counted so was counted in another way
    pub reported_as : (coding : Coding V S) (P : ℕ → Counts → Type 0) (t : ℕ) (windows : WindowState V S) (told : Told) (old new : Option (List ℕ)) (turn : Turn) → ((counts : Counts) → P t counts → Counted t counts)
        → IsReported coding p show mode limit n P t windows told old new turn → IsReported coding p show mode limit n Counted t windows told old new turn
    reported_as coding P t windows told old new turn more made = record { counts = made.counts; counted = more made.counts made.counted; tells = made.tells; shown = made.shown }

    -- no iteration yet
    pub went_none : (t : ℕ) (held : Option (List ℕ)) → t ≡ 0 → Went t held held
    went_none t held none = subst (λ (k : ℕ). Went k held held) (sym none) ([], refl, told_none held)

    module _ (coding : Coding V S) (t next : ℕ) (windows : WindowState V S) (told : Told) (old mid new : Option (List ℕ)) (turn : Turn) (at : next ≡ t + 1) (before : Went t old mid) (made : IsReported coding p show mode limit n Counted next windows told mid new turn) where
      abbrev lines : ℕ → List ℕ
      lines k = stage_lines p show mode n k made.counts made.shown.state

      here : next ≡ suc t
      here = at ∙ add-one t

      -- one iteration more
      pub went_more : turn ≡ Going → Went (t + 1) old new
      went_more going =
          let tells = ap (λ (k : ℕ). turn_of k limit made.counts.moved) (sym here) ∙ sym made.tells ∙ going in
          let text = made.shown.written ∙ ap (λ u. after_told mid (lines next ++ turn_line u)) (sym made.tells ∙ going) ∙ ap (after_told mid) (append-nil (lines next)) ∙ ap (λ m. after_told m (lines next)) before.2
          ∙ after_told-after old before.0 (lines next) ∙ ap (λ (k : ℕ). after_told old (before.0 ++ lines k)) here in
          subst (λ (k : ℕ). Went k old new) (sym (add-one t))
          (before.0 ++ lines (suc t), (before.0, before.1, made.counts, made.shown.state, subst (λ (k : ℕ). Counted k made.counts) here made.counted, tells, refl), text)

      -- the last iteration is the one that the ending tells
      pub went_at : (end : Ending) → turn ≡ Ended end → end.iterations ≡ t + 1
      went_at end is = sym (ended_at next limit made.counts.moved end (sym made.tells ∙ is)) ∙ at

      -- the last iteration
      pub went_last : (end : Ending) → next ≤ limit → turn ≡ Ended end → AreEnded p show mode limit n Counted old new end
      went_last end low is =
          let tells = ap (λ (k : ℕ). turn_of k limit made.counts.moved) (sym here) ∙ sym made.tells ∙ is in
          let last = ended_at (suc t) limit made.counts.moved end tells in
          record {
            before = t;
            early = before.0;
            went = before.1;
            counts = made.counts;
            counted = subst (λ (k : ℕ). Counted k made.counts) here made.counted;
            state = made.shown.state;
            tells = tells;
            last = last;
            most = omega (arith, last, here, low);
            written = made.shown.written ∙ ap (λ u. after_told mid (lines next ++ turn_line u)) (sym made.tells ∙ is) ∙ ap (λ m. after_told m (lines next ++ ending_line end)) before.2
                ∙ after_told-after old before.0 (lines next ++ ending_line end) ∙ ap (after_told old) (sym (append_assoc before.0 (lines next) (ending_line end)))
                ∙ ap (λ (k : ℕ). after_told old ((before.0 ++ lines k) ++ ending_line end)) here;
          }

  -- a run's report
  pub report_is : (coding : Coding V S) (name : List ℕ) (show : Show) (mode : Mode) (limit : ℕ) (info : GridInfo) (table : BlockCounts) (windows : WindowState V S) (told : Told) (old mid new : Option (List ℕ)) (end : Ending) → IsOpening coding p name show info windows told old mid
      → AreEnded p show mode limit info.vertices (IsTallied mode table) mid new end → IsReport p name show mode limit info table old new end
  report_is coding name show mode limit info table windows told old mid new end first rest =
      record { state = first.state; ended = subst (λ m. AreEnded p show mode limit info.vertices (IsTallied mode table) m new end) first.written rest }

  pub report_if : (coding : Coding V S) (name : List ℕ) (show : Show) (mode : Mode) (limit : ℕ) (info : GridInfo) (table : BlockCounts) (windows : WindowState V S) (told : Told) (old mid new : Option (List ℕ)) (r : Result Ending RunFault) → IsOpening coding p name show info windows told old mid
      → IfOk r (AreEnded p show mode limit info.vertices (IsTallied mode table) mid new) → IfOk r (IsReport p name show mode limit info table old new)
  report_if coding name show mode limit info table windows told old mid new (Ok end) first rest = report_is coding name show mode limit info table windows told old mid new end first rest
  report_if coding name show mode limit info table windows told old mid new (Err fault) first rest = tt

-- it ends with the line that tells the ending
pub report_ends : {V S : Type 0} (p : Program V S) (name : List ℕ) (show : Show) (mode : Mode) (limit : ℕ) (info : GridInfo) (table : BlockCounts) (old new : Option (List ℕ)) (end : Ending) → IsReport p name show mode limit info table old new end
    → (text : List ℕ) × (new ≡ after_told old (text ++ ending_line end))
report_ends p name show mode limit info table old new end report =
    let first = opening_lines p name show info report.state in
    let rest = report.ended.early ++ stage_lines p show mode info.vertices (suc report.ended.before) report.ended.counts report.ended.state in
    (first ++ rest, report.ended.written ∙ after_told-after old first (rest ++ ending_line end) ∙ ap (after_told old) (sym (append_assoc first rest (ending_line end))))
