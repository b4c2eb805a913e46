-- The report of a run.
use Rattle.std.specs.Prelude.{◌≡◌, ◌==◌, ℕ, zero, suc, ◌-◌, List, [], ◌++◌, Option, Result, Ok, Err, flat_map, if◌then◌else◌}
use Rattle.std.specs.List.{range_with_len}
use Rattle.lumos_base.specs.declared.records.Edge.{Edge}
use Rattle.lumos_depot.specs.Streams.{AppendsFront, after_told}
use Rattle.lumos_depot.specs.declared.stream.Failed.{Failed}
use Rattle.lumos_law.specs.Program.{Program}
use Rattle.lumos_law.specs.Sync.{Ending as EndingOf, over_in, still_in, limit_at, ending, moved_count, values}
use Rattle.grid_format.specs.Grid.{grid_head}
use Rattle.grid_format.specs.declared.head.GridInfo.{GridInfo}
use Rattle.io_account.specs.declared.Counts.{Counts}
use Rattle.lumos_report.specs.Report.{counts_line, ending_line, head_line, value_line, zero_line}
use Rattle.lumos_report.specs.declared.records.Why.TheVariants.{Still, Limit}
use Rattle.early_engine.specs.Passes.{counts_in, kind_of}
use Rattle.early_engine.specs.declared.options.Mode.{Mode}
use Rattle.early_engine.specs.declared.options.Show.{Show}
use Rattle.early_engine.specs.declared.options.Show.TheVariants.{All, Brief}
use Rattle.early_engine.specs.declared.options.Turn.{Turn}
use Rattle.early_engine.specs.declared.options.Turn.TheVariants.{Going, Ended}

-- how many iterations a run finishes
abbrev pub finished : EndingOf → ℕ
finished (over_in t v) = t - 1
finished (still_in t) = t
finished (limit_at t) = t

-- the last line, which a run that ends out of range lacks
abbrev pub end_line : EndingOf → List ℕ
end_line (over_in t v) = []
end_line (still_in t) = ending_line (record { iterations = t; why = Still })
end_line (limit_at t) = ending_line (record { iterations = t; why = Limit })

-- the last line, behind the lines of the last iteration alone
abbrev pub closing_line : ℕ → EndingOf → List ℕ
closing_line t end = if finished end == t then end_line end else []

module _ {V S : Type 0} (p : Program V S) where
  -- a line for each of the n vertices from a first one on, where each vertex v has the value `state v`
  abbrev pub value_lines : (ℕ → V) → ℕ → ℕ → List ℕ
  value_lines state first n = flat_map (λ v. value_line v (p.show (state v))) (range_with_len first n)

  -- those of n vertices, where values are shown
  abbrev pub shown_lines : Show → (ℕ → V) → ℕ → List ℕ
  shown_lines All state n = value_lines state 0 n
  shown_lines Brief state n = []

  -- the lines before the first iteration over a grid with this head, where each vertex v has the value `state v` at first
  abbrev pub opening_lines : List ℕ → Show → GridInfo → (ℕ → V) → List ℕ
  opening_lines name show info state = head_line name info ++ (zero_line ++ shown_lines show state info.vertices)

  -- those over edges between n vertices that are cut into `parts` parts
  abbrev pub first_lines : List ℕ → Show → List Edge → ℕ → ℕ → List ℕ
  first_lines name show edges n parts = opening_lines name show (grid_head edges n parts) (values p edges 0)

  -- the lines of iteration t over n vertices: its blocks, how many values moved, and the values after it, where each
  -- vertex v has the value `state v`
  abbrev pub stage_lines : Show → Mode → ℕ → ℕ → Counts → (ℕ → V) → List ℕ
  stage_lines show mode n t counts state = counts_line t (kind_of mode t) counts ++ shown_lines show state n

  -- those of iteration t + 1 in a run of at most `limit` iterations over edges
  abbrev pub turn_lines : Show → Mode → List Edge → ℕ → ℕ → ℕ → ℕ → List ℕ
  turn_lines show mode edges n parts limit t =
      stage_lines show mode n (suc t) (counts_in p edges n parts mode limit (suc t) (moved_count p edges n t)) (values p edges (suc t))

  -- what iteration t + 1 writes in a run of at most `limit` iterations: its lines, and the last line where the run ends with it
  abbrev pub turn_text : Show → Mode → List Edge → ℕ → ℕ → ℕ → ℕ → List ℕ
  turn_text show mode edges n parts limit t =
      turn_lines show mode edges n parts limit t ++ closing_line (suc t) (ending p edges n limit)

  -- the lines from the first iteration on: those of each finished iteration, and how the run ended
  abbrev pub later_lines : Show → Mode → List Edge → ℕ → ℕ → ℕ → List ℕ
  later_lines show mode edges n parts limit =
      let end = ending p edges n limit in flat_map (turn_lines show mode edges n parts limit) (range_with_len 0 (finished end)) ++ end_line end

  -- The report on edges between n vertices that are cut into `parts` parts, of at most `limit` iterations: the head, the
  -- values at first, the lines of each finished iteration, and how the run ended.
  abbrev pub report : List ℕ → Show → Mode → List Edge → ℕ → ℕ → ℕ → List ℕ
  report name show mode edges n parts limit = first_lines name show edges n parts ++ later_lines show mode edges n parts limit

-- whether a run of at most `limit` iterations goes on after iteration t, in which so many values moved
abbrev pub turn_of : ℕ → ℕ → ℕ → Turn
turn_of t limit zero = Ended (record { iterations = t; why = Still })
turn_of t limit (suc moved) = if t == limit then Ended (record { iterations = t; why = Limit }) else Going

-- the last line, where there is one
abbrev pub turn_line : Turn → List ℕ
turn_line Going = []
turn_line (Ended end) = ending_line end

-- A text was written whole and answered so, or a front of it.
abbrev pub WritesTurn : Turn → Option (List ℕ) → Option (List ℕ) → List ℕ → Result Turn Failed → Type 0
WritesTurn turn old new text (Ok made) = (made ≡ turn) × (new ≡ after_told old text)
WritesTurn turn old new text (Err failed) = AppendsFront old new text
