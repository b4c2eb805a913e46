-- What the value lines of `paths` and `components` mean: they show what walks along the edges of the list give.
use Rattle.std.specs.Prelude.{◌≡◌, ◌⊎◌, ◌≤◌, ◌<◌, ⊤, ℕ, suc, ◌+◌, Bool, true, List, [], ◌++◌, Option, Some, Result, Ok, Err, codes, decimal, flat_map, length, if◌then◌else◌}
use Rattle.std.specs.List.{range_with_len}
use Rattle.lumos_base.specs.declared.records.Edge.{Edge}
use Rattle.lumos_depot.specs.Streams.{after_told}
use Rattle.edge_text.specs.Reading.{Listed, reading}
use Rattle.edge_text.specs.declared.fault.TextLimits.{TextLimits}
use Rattle.lumos_law.specs.Program.{Program}
use Rattle.lumos_law.specs.Sync.{still_in, ending, moved_count}
use Rattle.partition.specs.Parts.{chunk_size, first_vertex, part_length}
use Rattle.flight_core.specs.Events.{is_final}
use Rattle.flight_core.specs.declared.event.Event.{Event}
use Rattle.programs.specs.Paths.{cost_text}
use Rattle.programs.specs.Walks.{IsBest, IsBestWithin, IsLeastJoined, IsLeastTo, IsLeastWithin}
use Rattle.grid_format.specs.Grid.{grid_head}
use Rattle.lumos_report.specs.Report.{counts_line, head_line, value_line, zero_line}
use Rattle.early_engine.specs.Passes.{counts_in, kind_of}
use Rattle.early_engine.specs.Report.{end_line, finished}
use Rattle.early_engine.specs.declared.options.Mode.{Mode}
use Rattle.early_engine.specs.declared.options.Show.{Show}
use Rattle.early_engine.specs.declared.options.Show.TheVariants.{All, Brief}
use Rattle.lumos_top.specs.Answers.{drawn, limits_of, mode_of, replay_within, run_parts, show_of}
use Rattle.lumos_top.specs.Programs.{chosen}
use Rattle.lumos_top.specs.Replays.{Streamed, after_events, events_line, final_line, streamed}
use Rattle.lumos_top.specs.Sides.{Sides, WhereTold}
use Rattle.lumos_top.specs.declared.status.Status.{Status}
use Rattle.lumos_top.specs.declared.status.Status.TheVariants as status
use Rattle.lumos_words.specs.Requests.{request}
use Rattle.lumos_words.specs.declared.faults.UsageFault.{UsageFault}
use Rattle.lumos_words.specs.declared.request.BuildWords.{BuildWords}
use Rattle.lumos_words.specs.declared.request.IterWords.{IterWords}
use Rattle.lumos_words.specs.declared.request.ProgramWords.{ProgramWords}
use Rattle.lumos_words.specs.declared.request.ProgramWords.TheVariants.{PageRank, Spreading, Paths, Components, Tally}
use Rattle.lumos_words.specs.declared.request.Request.{Request}
use Rattle.lumos_words.specs.declared.request.Request.TheVariants as ask

-- ---- what a value line shows

-- it shows a vertex of this kind
abbrev pub ShowsVertex : (ℕ → Type 0) → List ℕ → Type 0
ShowsVertex IsKind shown = (vertex : ℕ) × ((shown ≡ decimal vertex) × IsKind vertex)

-- it shows a cost of this kind, or `-` where there is none
abbrev pub ShowsCost : (Option ℕ → Type 0) → List ℕ → Type 0
ShowsCost IsKind shown = (cost : Option ℕ) × ((shown ≡ cost_text cost) × IsKind cost)

-- What is shown of v after t iterations: under `paths` the least cost over the walks of at most t edges from the start to v, or
-- `-` where there is none; under `components` the least vertex from which a walk of at most t edges leads to v. Nothing is said
-- of the other programs.
abbrev pub ShowsWithin : ProgramWords → List Edge → ℕ → ℕ → List ℕ → Type 0
ShowsWithin (PageRank unit share) edges t v shown = ⊤
ShowsWithin (Spreading unit share seeds) edges t v shown = ⊤
ShowsWithin (Paths start) edges t v shown = ShowsCost (IsBestWithin t edges start v) shown
ShowsWithin Components edges t v shown = ShowsVertex (IsLeastWithin t edges v) shown
ShowsWithin Tally edges t v shown = ⊤

-- What is shown of v where the run ends still: the same over walks of any length. Where the list is read in both directions,
-- `components` shows the least vertex of v's weak component.
abbrev pub ShowsStill : ProgramWords → List Edge → Bool → ℕ → List ℕ → Type 0
ShowsStill (PageRank unit share) edges both v shown = ⊤
ShowsStill (Spreading unit share seeds) edges both v shown = ⊤
ShowsStill (Paths start) edges both v shown = ShowsCost (IsBest edges start v) shown
ShowsStill Components edges both v shown = ShowsVertex (IsLeastTo edges v) shown × (both ≡ true → ShowsVertex (IsLeastJoined edges v) shown)
ShowsStill Tally edges both v shown = ⊤

-- What is shown of each of n vertices where the start is none of them: `-`.
abbrev pub ShowsBeyond : ProgramWords → ℕ → List ℕ → Type 0
ShowsBeyond (PageRank unit share) n shown = ⊤
ShowsBeyond (Spreading unit share seeds) n shown = ⊤
ShowsBeyond (Paths start) n shown = n ≤ start → shown ≡ codes "-"
ShowsBeyond Components n shown = ⊤
ShowsBeyond Tally n shown = ⊤

-- The same of all vertices of a list, up to an iteration, where `shown t v` is shown of v after t iterations.
pub record ShowsWalks (program : ProgramWords) (list : Listed) (most : ℕ) (shown : ℕ → ℕ → List ℕ) : Type 0 where
  pub within : (t v : ℕ) → t ≤ most → v < list.vertices → ShowsWithin program list.edges t v (shown t v)
  pub beyond : (t v : ℕ) → v < list.vertices → ShowsBeyond program list.vertices (shown t v)

-- ---- where the value lines stand

-- a line for each of n vertices, where values are shown
abbrev pub lines_with : (ℕ → List ℕ) → Show → ℕ → List ℕ
lines_with shown All n = flat_map (λ v. value_line v (shown v)) (range_with_len 0 n)
lines_with shown Brief n = []

module _ {V S : Type 0} (p : Program V S) where
  -- the lines of iteration t + 1 of a run, whose value lines show this
  abbrev pub turn_with : (ℕ → ℕ → List ℕ) → Show → Mode → List Edge → ℕ → ℕ → ℕ → ℕ → List ℕ
  turn_with shown show mode edges n parts limit t =
      counts_line (suc t) (kind_of mode (suc t)) (counts_in p edges n parts mode limit (suc t) (moved_count p edges n t)) ++ lines_with (shown (suc t)) show n

  -- The report of a run, whose value line of v after t iterations shows `shown t v`: its other lines are the run's own.
  abbrev pub report_with : (ℕ → ℕ → List ℕ) → List ℕ → Show → Mode → List Edge → ℕ → ℕ → ℕ → List ℕ
  report_with shown name show mode edges n parts limit =
      let end = ending p edges n limit in
      (head_line name (grid_head edges n parts) ++ (zero_line ++ lines_with (shown 0) show n)) ++ (flat_map (turn_with shown show mode edges n parts limit) (range_with_len 0 (finished end)) ++ end_line end)

  -- the lines of chunk j of a replay after t iterations, where it is final in them
  abbrev pub chunk_with : (ℕ → ℕ → List ℕ) → List Edge → ℕ → ℕ → List Event → ℕ → ℕ → List ℕ
  chunk_with shown edges n parts events t j =
      let c = chunk_size n parts in
      if is_final (after_events p edges n parts events) t j
      then final_line t j ++ flat_map (λ k. value_line (first_vertex n c j + k) (shown t (first_vertex n c j + k))) (range_with_len 0 (part_length n c j))
      else []

  -- The report of a replay, whose value line of v in a chunk that is final after t iterations shows `shown t v`.
  abbrev pub finals_with : (ℕ → ℕ → List ℕ) → List ℕ → List Edge → ℕ → ℕ → List Event → List ℕ
  finals_with shown name edges n parts events =
      head_line name (grid_head edges n parts)
      ++ (flat_map (λ t. flat_map (chunk_with shown edges n parts events t) (range_with_len 0 parts)) (range_with_len 0 1025) ++ events_line (length events))

-- ---- what a command writes

-- A run read its list, and wrote a report whose value lines show what walks along its edges give.
pub record RunMeans (program : ProgramWords) (grid : BuildWords) (iterate : IterWords) (input : List ℕ) (sides : Sides) : Type 0 where
  pub limits : TextLimits
  pub within : limits_of grid ≡ Ok limits
  pub list : Listed
  pub reads : reading limits input ≡ Ok list
  pub parts : ℕ
  pub fitted : run_parts program grid iterate list.vertices ≡ Some parts
  pub shown : ℕ → ℕ → List ℕ
  pub written : sides.new_out ≡ after_told sides.old_out (report_with (chosen program).program shown (chosen program).name (show_of iterate) (mode_of iterate) list.edges list.vertices parts iterate.iterations)
  pub walks : ShowsWalks program list iterate.iterations shown
  pub still : (t v : ℕ) → ending (chosen program).program list.edges list.vertices iterate.iterations ≡ still_in t → v < list.vertices → ShowsStill program list.edges grid.both v (shown t v)

-- So did a replay, of the list behind its events.
pub record ReplayMeans (program : ProgramWords) (parts : ℕ) (vertices : Option ℕ) (both : Bool) (input : List ℕ) (sides : Sides) : Type 0 where
  pub limits : TextLimits
  pub within : replay_within parts vertices both ≡ Ok limits
  pub stream : Streamed
  pub reads : streamed limits 1099511627776 input ≡ Ok stream
  pub shown : ℕ → ℕ → List ℕ
  pub written : sides.new_out ≡ after_told sides.old_out (finals_with (chosen program).program shown (chosen program).name stream.list.edges stream.list.vertices parts stream.events)
  pub walks : ShowsWalks program stream.list 1024 shown

-- What a command wrote that came to its end, as asked: that of a run is made of what its files give back, and so known where
-- these are told; that of a sample is of the list that is drawn. A build shows no values.
abbrev pub Means : Result Request UsageFault → List ℕ → Sides → Type 0
Means (Ok (ask.Run program grid iterate)) input sides = WhereTold sides.was (RunMeans program grid iterate input sides)
Means (Ok (ask.Build grid)) input sides = ⊤
Means (Ok (ask.Sample program grid iterate seed edges)) input sides = WhereTold sides.was (RunMeans program grid iterate (drawn grid seed edges) sides)
Means (Ok (ask.Replay program parts vertices both)) input sides = ReplayMeans program parts vertices both input sides
Means (Err fault) input sides = ⊤

-- There is an input, the one at entry where it is told, of which the value lines show what walks give: those of a command that
-- is done, or whose run ended with a vertex that is over.
pub record HasMeaning (words : List (List ℕ)) (result : Status) (sides : Sides) : Type 0 where
  pub input : List ℕ
  pub entry : (all : List ℕ) → sides.left_old ≡ Some all → input ≡ all
  pub means : (result ≡ status.Done) ⊎ (result ≡ status.Range) → Means (request words) input sides
