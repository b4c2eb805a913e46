-- What words, an input and the files at entry come to: what is done, or why it isn't.
use Rattle.std.specs.Prelude.{ℕ, ◌+◌, ◌*◌, Bool, true, false, List, [], length, nat_lt, unwrap_or, Option, Some, None, Result, Ok, Err, if◌then◌else◌}
use Rattle.edge_text.specs.Reading.{Listed, reading}
use Rattle.edge_text.specs.declared.fault.TextFault.{TextFault}
use Rattle.edge_text.specs.declared.fault.TextLimits.{TextLimits}
use Rattle.lumos_depot.specs.declared.depot.FileKind.{FileKind}
use Rattle.lumos_depot.specs.declared.depot.FileKind.TheVariants as file
use Rattle.lumos_law.specs.Program.{Program}
use Rattle.graph_gen.specs.Generated.{generated}
use Rattle.lumos_law.specs.Sync.{Ending, ending}
use Rattle.partition.specs.Fitting.{least_parts, need_at}
use Rattle.grid_format.specs.Checks.{GridFiles}
use Rattle.grid_format.specs.Grid.{grid, grid_head}
use Rattle.grid_format.specs.declared.head.GridInfo.{GridInfo}
use Rattle.early_engine.specs.Engines.{cut_in}
use Rattle.early_engine.specs.Report.{finished, report}
use Rattle.early_engine.specs.Runs.{stored_by, taken_by}
use Rattle.early_engine.specs.declared.options.Mode.{Mode}
use Rattle.early_engine.specs.declared.options.Mode.TheVariants.{Fed, Plain}
use Rattle.early_engine.specs.declared.options.RunOptions.{RunOptions}
use Rattle.early_engine.specs.declared.options.Show.{Show}
use Rattle.early_engine.specs.declared.options.Show.TheVariants.{All, Brief}
use Rattle.windows.specs.Budget.{need_of, pinned_of}
use Rattle.lumos_top.specs.Programs.{chosen}
use Rattle.lumos_top.specs.Report.{grid_line}
use Rattle.lumos_top.specs.Replays.{Refused, Streamed, replay_limits, replayed, streamed}
use Rattle.lumos_top.specs.Stops.{ending_line, ending_status, stream_stop}
use Rattle.lumos_words.specs.Requests.{request}
use Rattle.lumos_words.specs.declared.faults.UsageFault.{UsageFault}
use Rattle.lumos_words.specs.declared.request.BuildWords.{BuildWords}
use Rattle.lumos_words.specs.declared.request.IterWords.{IterWords}
use Rattle.lumos_words.specs.declared.request.ProgramWords.{ProgramWords}
use Rattle.lumos_words.specs.declared.request.Request.{Request}
use Rattle.lumos_words.specs.declared.request.Request.TheVariants.{Run, Build, Replay, Sample}
use Rattle.lumos_top.specs.declared.status.Refusal.{Refusal}
use Rattle.lumos_top.specs.declared.status.Refusal.TheVariants as refuse
use Rattle.lumos_top.specs.declared.status.Status.{Status}
use Rattle.lumos_top.specs.declared.status.Status.TheVariants as status
use Rattle.lumos_top.specs.declared.status.Stop.{Stop}
use Rattle.lumos_top.specs.declared.status.Stop.TheVariants as stop
use Rattle.lumos_top.specs.declared.status.TooMany.{TooMany}
use Rattle.lumos_top.specs.declared.status.TooMany.TheVariants.{Parts, Vertices}
use Rattle.lumos_top.specs.declared.stream.StreamStop.{StreamStop}

-- the parts that are stated, or 16, over which a build that states none makes its grid
abbrev pub stated_parts : BuildWords → ℕ
stated_parts words = unwrap_or words.parts 16

-- how many bytes two values and two sums of a program have
abbrev pub window_bytes : ProgramWords → ℕ
window_bytes words = let c = chosen words in 2 * c.coding.value_width + 2 * c.coding.sum_width

-- Over how many parts the grid of a run over n vertices is built: as many as are stated; or the least number from 16 on with
-- which its windows fit the budget, if there is one.
abbrev pub parts_or : Option ℕ → Option ℕ → Option ℕ
parts_or (Some parts) least = Some parts
parts_or None least = least

abbrev pub run_parts : ProgramWords → BuildWords → IterWords → ℕ → Option ℕ
run_parts program words iterate n = parts_or words.parts (least_parts n (window_bytes program) iterate.budget 16)

-- how the list of a command is read
abbrev pub limits_with : BuildWords → Option ℕ → TextLimits
limits_with words vertices = record { max_vertex = 268435455; vertices = vertices; max_edges = words.max_edges; max_bytes = words.max_bytes; both = words.both }

abbrev pub vertices_within : BuildWords → Option ℕ → Result TextLimits TooMany
vertices_within words None = Ok (limits_with words None)
vertices_within words (Some n) = if nat_lt 268435456 n then Err (Vertices n 268435456) else Ok (limits_with words (Some n))

-- the same, where neither the parts nor the vertices that are stated are too many
abbrev pub limits_of : BuildWords → Result TextLimits TooMany
limits_of words = if nat_lt 256 (stated_parts words) then Err (Parts (stated_parts words) 256) else vertices_within words words.vertices

-- how a run goes through its grid, and what it shows
abbrev pub mode_of : IterWords → Mode
mode_of iterate = if iterate.plain then Plain else Fed

abbrev pub show_of : IterWords → Show
show_of iterate = if iterate.brief then Brief else All

-- with the bytes that values and sums may take
abbrev pub options_of : IterWords → RunOptions
options_of iterate = record { iterations = iterate.iterations; mode = mode_of iterate; show = show_of iterate; budget = iterate.budget }

-- how many bytes a command takes of files and stores in them
pub record Moved : Type 0 where
  pub primary_taken : ℕ
  pub secondary_taken : ℕ
  pub values_taken : ℕ
  pub values_stored : ℕ
  pub sums_taken : ℕ
  pub sums_stored : ℕ

-- blocks are taken, and nothing is kept in files
abbrev pub taken_blocks : ℕ → ℕ → Moved
taken_blocks primary secondary = record { primary_taken = primary; secondary_taken = secondary; values_taken = 0; values_stored = 0; sums_taken = 0; sums_stored = 0 }

-- the same of a run, by the files that it takes bytes of and stores bytes in
abbrev pub moved_by : (FileKind → ℕ) → (FileKind → ℕ) → Moved
moved_by taken stored = record { primary_taken = taken file.Primary; secondary_taken = taken file.Secondary; values_taken = taken file.Values; values_stored = stored file.Values; sums_taken = taken file.Sums; sums_stored = stored file.Sums }

-- behind a build, which copies so many bytes of Primary
abbrev pub behind_copy : ℕ → Moved → Moved
behind_copy copied moved = record { primary_taken = copied + moved.primary_taken; secondary_taken = moved.secondary_taken; values_taken = moved.values_taken; values_stored = moved.values_stored; sums_taken = moved.sums_taken; sums_stored = moved.sums_stored }

-- what a run writes, how it ends, and what its beginning and its finished iterations move
pub record Ran : Type 0 where
  pub text : List ℕ
  pub ending : Ending
  pub moved : Moved

-- by the widths of a value and of a sum: as many chunks are kept in memory as the budget has room for
abbrev pub ran_with : {V S : Type 0} → Program V S → ℕ → ℕ → List ℕ → RunOptions → GridInfo → Listed → Ran
ran_with p v s name options info list =
    let end = ending p list.edges info.vertices options.iterations in
    let pinned = pinned_of (cut_in info) v s options.budget in record {
      text = report p name options.show options.mode list.edges info.vertices info.parts options.iterations;
      ending = end;
      moved = moved_by (taken_by (cut_in info) v s pinned p list.edges options.show options.mode options.iterations (finished end)) (stored_by (cut_in info) v s pinned options.mode options.iterations (finished end));
    }

abbrev pub ran_by : {V S : Type 0} → Program V S → ℕ → ℕ → List ℕ → ℕ → IterWords → Listed → Ran
ran_by p v s name parts iterate list = ran_with p v s name (options_of iterate) (grid_head list.edges list.vertices parts) list

abbrev pub ran_as : ProgramWords → ℕ → IterWords → Listed → Ran
ran_as words parts iterate list = let c = chosen words in ran_by c.program c.coding.value_width c.coding.sum_width c.name parts iterate list

-- a grid that is built: that of a list, over so many parts
pub record Built : Type 0 where
  pub list : Listed
  pub parts : ℕ

-- a run over such a grid: its program, and how it iterates
pub record RunOn : Type 0 where
  pub program : ProgramWords
  pub iterate : IterWords
  pub own : Built

-- its head, and its files
abbrev pub built_head : Built → GridInfo
built_head built = grid_head built.list.edges built.list.vertices built.parts

abbrev pub built_files : Built → GridFiles
built_files built = grid built.list.edges built.list.vertices built.parts

-- how many bytes the windows of a program over a grid with this head need
abbrev pub need_in : ProgramWords → GridInfo → ℕ
need_in words info = let c = chosen words in need_of (cut_in info) c.coding.value_width c.coding.sum_width

-- what a command comes to that nothing stops: its text, its status and fault line, whether it reads the input, the grid that it
-- builds, if any, the run whose text is made of what the files of that grid give back, if it is one, and what it moves
pub record Did : Type 0 where
  pub text : List ℕ
  pub status : Status
  pub line : List ℕ
  pub reads : Bool
  pub built : Option Built
  pub run : Option RunOn
  pub moved : Moved

-- why a command isn't done, and the grid that it has built by then, if any
pub record Halted : Type 0 where
  pub why : Stop
  pub built : Option Built

-- it is refused, and leaves the grid that was there
abbrev pub halted : Refusal → Halted
halted why = record { why = stop.Refused why; built = None }

-- a build copies from Primary what the grid's Secondary has, and a run then takes what its iterations read
abbrev pub copied_bytes : Built → ℕ
copied_bytes built = length (built_files built).secondary

abbrev pub did_run : ProgramWords → IterWords → Built → Did
did_run program iterate own =
    let ran = ran_as program own.parts iterate own.list in record {
      text = ran.text;
      status = ending_status ran.ending;
      line = ending_line ran.ending;
      reads = true;
      built = Some own;
      run = Some (record { program = program; iterate = iterate; own = own });
      moved = behind_copy (copied_bytes own) ran.moved;
    }

abbrev pub did_build : Built → Did
did_build own = record {
  text = grid_line own.list.vertices (length own.list.edges) own.parts;
  status = status.Done;
  line = [];
  reads = true;
  built = Some own;
  run = None;
  moved = taken_blocks (copied_bytes own) 0;
}

-- What a run over a grid comes to: it is refused where its windows need more than the budget, and the grid is built by then.
abbrev pub ran_over : ProgramWords → IterWords → Built → Result Did Halted
ran_over program iterate own =
    let need = need_in program (built_head own) in
    if nat_lt iterate.budget need then Err (record { why = stop.Refused (refuse.BudgetTooSmall need iterate.budget); built = Some own }) else Ok (did_run program iterate own)

-- Over the parts that the grid of its list gets: where no number of parts fits, it is refused with what 256 parts need, and no
-- grid is built.
abbrev pub ran_parts : ProgramWords → IterWords → Listed → Option ℕ → Result Did Halted
ran_parts program iterate list (Some parts) = ran_over program iterate (record { list = list; parts = parts })
ran_parts program iterate list None = Err (halted (refuse.BudgetTooSmall (need_at list.vertices (window_bytes program) 256) iterate.budget))

abbrev pub ran_on : ProgramWords → BuildWords → IterWords → Listed → Result Did Halted
ran_on program words iterate list = ran_parts program iterate list (run_parts program words iterate list.vertices)

abbrev pub built_on : BuildWords → Listed → Result Did Halted
built_on words list = Ok (did_build (record { list = list; parts = stated_parts words }))

-- what is done with a list that was read, or its fault
abbrev pub done_with : (Listed → Result Did Halted) → Result Listed TextFault → Result Did Halted
done_with command (Ok list) = command list
done_with command (Err fault) = Err (halted (refuse.Text fault))

abbrev pub done_within : (Listed → Result Did Halted) → Result TextLimits TooMany → List ℕ → Result Did Halted
done_within command (Ok limits) input = done_with command (reading limits input)
done_within command (Err many) input = Err (halted (refuse.TooMany many))

-- what a replay writes, unless an event is refused
abbrev pub did_replay : Result (List ℕ) Refused → Result Did Halted
did_replay (Ok text) = Ok (record { text = text; status = status.Done; line = []; reads = true; built = None; run = None; moved = taken_blocks 0 0 })
did_replay (Err refused) = Err (halted (refuse.Illegal refused.event refused.why))

-- what a replay of events over a list writes: the iterations from 0 to 1024 are shown
abbrev pub replay_text : ProgramWords → ℕ → Streamed → Result (List ℕ) Refused
replay_text words parts s = let c = chosen words in replayed c.program s.list.edges s.list.vertices parts c.name 1025 s.events

abbrev pub replay_with : ProgramWords → ℕ → Result Streamed StreamStop → Result Did Halted
replay_with program parts (Ok s) = did_replay (replay_text program parts s)
replay_with program parts (Err why) = Err (record { why = stream_stop why; built = None })

-- how the list behind a schedule is read, where neither the parts nor the vertices that are stated are too many: a replay has 64
-- and 4096 at most
abbrev pub replay_vertices : Option ℕ → Bool → Result TextLimits TooMany
replay_vertices None both = Ok (replay_limits None both)
replay_vertices (Some n) both = if nat_lt 4096 n then Err (Vertices n 4096) else Ok (replay_limits (Some n) both)

abbrev pub replay_within : ℕ → Option ℕ → Bool → Result TextLimits TooMany
replay_within parts vertices both = if nat_lt 64 parts then Err (Parts parts 64) else replay_vertices vertices both

-- a schedule has 2^40 bytes at most
abbrev pub did_within : ProgramWords → ℕ → Result TextLimits TooMany → List ℕ → Result Did Halted
did_within program parts (Ok limits) input = replay_with program parts (streamed limits 1099511627776 input)
did_within program parts (Err many) input = Err (halted (refuse.TooMany many))

-- the list of a sample, which is drawn by a rule, and what a command comes to that reads such a list and no input
abbrev pub drawn : BuildWords → ℕ → ℕ → List ℕ
drawn grid seed edges = generated seed (unwrap_or grid.vertices 0) edges

abbrev pub unread : Result Did Halted → Result Did Halted
unread (Ok did) = Ok (record did { reads = false })
unread (Err halt) = Err halt

-- What an input and the files at entry come to, as asked.
abbrev pub answer_to : Result Request UsageFault → List ℕ → (FileKind → List ℕ) → Result Did Halted
answer_to (Ok (Run program grid iterate)) input files = done_within (ran_on program grid iterate) (limits_of grid) input
answer_to (Ok (Build grid)) input files = done_within (built_on grid) (limits_of grid) input
answer_to (Ok (Sample program grid iterate seed edges)) input files = unread (done_within (ran_on program grid iterate) (limits_of grid) (drawn grid seed edges))
answer_to (Ok (Replay program parts vertices both)) input files = did_within program parts (replay_within parts vertices both) input
answer_to (Err fault) input files = Err (halted (refuse.Usage fault))

-- What words, an input and the files at entry come to.
abbrev pub answer : List (List ℕ) → List ℕ → (FileKind → List ℕ) → Result Did Halted
answer words input files = answer_to (request words) input files

-- why the words alone are refused, whatever the input is: they ask for nothing, or state a number that is too great
abbrev pub stopped_by : Result TextLimits TooMany → Option Refusal
stopped_by (Ok limits) = None
stopped_by (Err many) = Some (refuse.TooMany many)

abbrev pub refusal_of : Result Request UsageFault → Option Refusal
refusal_of (Ok (Run program grid iterate)) = stopped_by (limits_of grid)
refusal_of (Ok (Build grid)) = stopped_by (limits_of grid)
refusal_of (Ok (Sample program grid iterate seed edges)) = stopped_by (limits_of grid)
refusal_of (Ok (Replay program parts vertices both)) = stopped_by (replay_within parts vertices both)
refusal_of (Err fault) = Some (refuse.Usage fault)

abbrev pub refusal : List (List ℕ) → Option Refusal
refusal words = refusal_of (request words)

-- the directory that words lead to, if they lead to one: that of a run, a build or a sample for which no stated number is too
-- great
abbrev pub place_within : Result TextLimits TooMany → List ℕ → Option (List ℕ)
place_within (Ok limits) name = Some name
place_within (Err many) name = None

abbrev pub place_for : Result Request UsageFault → Option (List ℕ)
place_for (Ok (Run program grid iterate)) = place_within (limits_of grid) grid.dir
place_for (Ok (Build grid)) = place_within (limits_of grid) grid.dir
place_for (Ok (Sample program grid iterate seed edges)) = place_within (limits_of grid) grid.dir
place_for (Ok (Replay program parts vertices both)) = None
place_for (Err fault) = None

abbrev pub directory : List (List ℕ) → Option (List ℕ)
directory words = place_for (request words)
