-- What an engine stands for, from one iteration to the next.
use Rattle.std.proofs.Common.{◌≡◌, ◌≤◌, ◌<◌, ℕ, suc, ◌+◌, ◌-◌, Bool, true, false, List, Option, sym, ap, ◌∙◌, subst, arith, add-one}
use Rattle.lumos_base.specs.declared.records.Edge.{Edge}
use Rattle.lumos_depot.specs.Steps.{SameOff}
use Rattle.lumos_depot.specs.declared.depot.FileKind.{FileKind}
use Rattle.lumos_depot.specs.declared.depot.FileKind.TheVariants.{Meta, Primary, Secondary, Info}
use Rattle.lumos_law.specs.Program.{Lawful, Program}
use Rattle.lumos_law.specs.Sync.{ending, ending_from, values}
use Rattle.partition.specs.Parts.{Cut}
use Rattle.grid_format.specs.Tables.{BlockCounts}
use Rattle.grid_format.specs.declared.head.GridInfo.{GridInfo}
use Rattle.windows.specs.Windows.{Coding, Told, WindowState}
use Rattle.early_engine.specs.Core.{IsCoreState}
use Rattle.early_engine.specs.Early.{AreHot, IsKept}
use Rattle.early_engine.specs.Engines.{EngineState, IsOpened, IsSameRun, IsStanding, cut_in}
use Rattle.early_engine.specs.Grids.{IsOnGrid}
use Rattle.early_engine.specs.Passes.{feeds_ahead}
use Rattle.early_engine.specs.Shown.{KeepsAll}
use Rattle.early_engine.specs.Turns.{HasTurned}
use Rattle.early_engine.specs.declared.options.Mode.{Mode}
use Rattle.early_engine.specs.declared.options.Mode.TheVariants as mode
use Rattle.early_engine.specs.declared.options.Phase.TheVariants as phase
use Rattle.early_engine.specs.declared.options.RunOptions.{RunOptions}
use Rattle.early_engine.specs.declared.options.Turn.{Turn}
use Rattle.early_engine.specs.declared.options.Turn.TheVariants.{Going}
use Rattle.early_engine.proofs.CoreStates.{core_state_of}
use Rattle.early_engine.proofs.GridLemmas.{grid_list}
use Rattle.early_engine.proofs.KeepLemmas.{grid_off}

-- nothing feeds the first iteration ahead
never_first : (m : Mode) (limit : ℕ) → feeds_ahead m limit 0 ≡ true → ⊥
never_first mode.Plain limit h = let e : false ≡ true = h in cc
never_first mode.Fed limit h = let e : false ≡ true = h in cc

-- what is kept at first
pub kept_first : {V S : Type 0} (coding : Coding V S) (p : Program V S) (edges : List Edge) (later : Told) (cut : Cut) (m : Mode) (limit : ℕ) (windows : WindowState V S) (flags : List Bool) → windows.cut ≡ cut → KeepsAll coding windows later 0 (values p edges 0) → AreHot p edges cut 0 flags → IsKept coding p edges cut m limit 0 windows later flags
kept_first coding p edges later cut m limit windows flags same holds hot = record {
  holds = λ j low. holds j (let parts = ap (λ (k : Cut). k.parts) same in omega (arith, low, parts));
  ahead = λ fed. absurd (never_first m limit fed);
  active = hot;
}

module _ {G V S : Type 0} (coding : Coding V S) (p : Program V S) (edges : List Edge) (told : Told) where
  -- what holds of an iteration by what is kept before it
  pub stood : (w : EngineState G V S) (cut : Cut) (t : ℕ) (P : Cut → ℕ → Type 0) → cut ≡ cut_in w.info → t ≡ w.finished + 1
      → ((u : ℕ) → IsOnGrid edges cut w.table told → IsKept coding p edges cut w.options.mode w.options.iterations u w.windows told w.active → t ≡ suc u → u < w.options.iterations
      → ending p edges cut.vertices w.options.iterations ≡ ending_from p edges cut.vertices (w.options.iterations - u) u → P cut u)
      → IsStanding coding p edges told w → P (cut_in w.info) w.finished
  stood w cut t P fits at comes stands =
      let grid = subst (λ (k : Cut). IsOnGrid edges k w.table told) (sym fits) stands.grid in
      let kept = subst (λ (k : Cut). IsKept coding p edges k w.options.mode w.options.iterations w.finished w.windows told w.active) (sym fits) stands.kept in
      let on = subst (λ (k : Cut). ending p edges k.vertices w.options.iterations ≡ ending_from p edges k.vertices (w.options.iterations - w.finished) w.finished) (sym fits) stands.goes_on in
      subst (λ (k : Cut). P k w.finished) fits (comes w.finished grid kept (at ∙ add-one w.finished) stands.left on)

  -- the grid of an engine, told later
  grid_later : (named : FileKind → Bool) (later : Told) (w new : EngineState G V S) → named Meta ≡ false → named Primary ≡ false → named Secondary ≡ false → named Info ≡ false → SameOff named told later → IsSameRun w new
      → IsOnGrid edges (cut_in w.info) w.table told → IsOnGrid edges (cut_in new.info) new.table later
  grid_later named later w new meta primary secondary info same run grid =
      grid_off named edges (cut_in new.info) new.table told later meta primary secondary info same
      (subst (λ (t : BlockCounts). IsOnGrid edges (cut_in new.info) t told) (sym run.table) (subst (λ (i : GridInfo). IsOnGrid edges (cut_in i) w.table told) (sym run.info) grid))

  -- after an iteration that goes on it stands again
  pub stands_again : (named : FileKind → Bool) (later : Told) (w new : EngineState G V S) (before after : Option (List ℕ)) (turn : Turn) → named Meta ≡ false → named Primary ≡ false → named Secondary ≡ false → named Info ≡ false → SameOff named told later
      → turn ≡ Going → IsSameRun w new → new.phase ≡ phase.Going → new.finished ≡ w.finished + 1 → IsStanding coding p edges told w
      → HasTurned p w.options.show w.options.mode edges (cut_in w.info) w.options.iterations w.finished coding new.windows later new.active before after turn → IsStanding coding p edges later new
  stands_again named later w new before after turn meta primary secondary info same going run is_going counted stands turned =
      let next : new.finished ≡ suc w.finished = counted ∙ add-one w.finished in
      let gone = subst (HasTurned p w.options.show w.options.mode edges (cut_in w.info) w.options.iterations w.finished coding new.windows later new.active before after) going turned in
      let low : suc w.finished < w.options.iterations = gone.tells.0 in
      record {
        grid = grid_later named later w new meta primary secondary info same run stands.grid;
        kept = subst (λ (k : ℕ). IsKept coding p edges (cut_in new.info) new.options.mode new.options.iterations k new.windows later new.active) (sym next)
            (subst (λ (o : RunOptions). IsKept coding p edges (cut_in new.info) o.mode o.iterations (suc w.finished) new.windows later new.active) (sym run.options)
            (subst (λ (i : GridInfo). IsKept coding p edges (cut_in i) w.options.mode w.options.iterations (suc w.finished) new.windows later new.active) (sym run.info) gone.kept));
        phase = is_going;
        left = subst (λ (o : RunOptions). new.finished < o.iterations) (sym run.options) (omega (arith, next, low));
        goes_on = (λ i. ending p edges (run.info i).vertices (run.options i).iterations) ∙ gone.tells.1
            ∙ (λ i. ending_from p edges (sym run.info i).vertices ((sym run.options i).iterations - sym next i) (sym next i));
      }

  -- after an iteration that was made it keeps what the event core keeps
  pub core_turned : {ValueIn : V → Type 0} {SumIn : S → Type 0} (laws : Lawful ValueIn SumIn p) (later : Told) (w : EngineState G V S) (finished : ℕ) (windows : WindowState V S) (flags : List Bool) (before after : Option (List ℕ)) (turn : Turn) → w.options.iterations ≤ 1000000 → finished ≡ w.finished + 1
      → windows.cut ≡ cut_in w.info → IsStanding coding p edges told w → HasTurned p w.options.show w.options.mode edges (cut_in w.info) w.options.iterations w.finished coding windows later flags before after turn
      → IsCoreState coding p edges (cut_in w.info) w.options.mode w.options.iterations finished windows later
  core_turned laws later w finished windows flags before after turn few at cut_is stands turned =
      let low : w.finished < w.options.iterations = stands.left in
      subst (λ (k : ℕ). IsCoreState coding p edges (cut_in w.info) w.options.mode w.options.iterations k windows later) (sym (at ∙ add-one w.finished))
      (core_state_of p laws edges coding (cut_in w.info) w.options.mode w.options.iterations (suc w.finished) windows later flags stands.grid.limits.some_parts (grid_list edges (cut_in w.info) w.table told stands.grid)
      few (omega (arith, low)) cut_is turned.kept)

  -- an engine that begins stands
  pub stands_first : (named : FileKind → Bool) (later : Told) (w new : EngineState G V S) → named Meta ≡ false → named Primary ≡ false → named Secondary ≡ false → named Info ≡ false → SameOff named told later → IsSameRun w new → new.phase ≡ phase.Going → new.finished ≡ 0
      → 0 < new.options.iterations → IsOpened edges told w → IsKept coding p edges (cut_in w.info) w.options.mode w.options.iterations 0 new.windows later new.active → IsStanding coding p edges later new
  stands_first named later w new meta primary secondary info same run is_going none some opened kept = record {
    grid = grid_later named later w new meta primary secondary info same run opened.grid;
    kept = subst (λ (k : ℕ). IsKept coding p edges (cut_in new.info) new.options.mode new.options.iterations k new.windows later new.active) (sym none)
        (subst (λ (o : RunOptions). IsKept coding p edges (cut_in new.info) o.mode o.iterations 0 new.windows later new.active) (sym run.options)
        (subst (λ (i : GridInfo). IsKept coding p edges (cut_in i) w.options.mode w.options.iterations 0 new.windows later new.active) (sym run.info) kept));
    phase = is_going;
    left = omega (arith, none, some);
    goes_on = let all : new.options.iterations ≡ new.options.iterations - 0 = omega arith in
        ap (λ (k : ℕ). ending_from p edges new.info.vertices k 0) all ∙ ap (λ (k : ℕ). ending_from p edges new.info.vertices (new.options.iterations - k) k) (sym none);
  }

  -- and keeps what the event core keeps at its start
  pub core_first : {ValueIn : V → Type 0} {SumIn : S → Type 0} (laws : Lawful ValueIn SumIn p) (later : Told) (w : EngineState G V S) (windows : WindowState V S) (flags : List Bool) → w.options.iterations ≤ 1000000 → windows.cut ≡ cut_in w.info → IsOpened edges told w
      → IsKept coding p edges (cut_in w.info) w.options.mode w.options.iterations 0 windows later flags → IsCoreState coding p edges (cut_in w.info) w.options.mode w.options.iterations 0 windows later
  core_first laws later w windows flags few cut_is opened kept =
      core_state_of p laws edges coding (cut_in w.info) w.options.mode w.options.iterations 0 windows later flags opened.grid.limits.some_parts (grid_list edges (cut_in w.info) w.table told opened.grid) few (omega arith) cut_is kept
