-- What the words ask for, or the first fault.
use Rattle.std.specs.Prelude.{◌≡◌, ⊤, ℕ, Bool, List, [], ◌∷◌, Option, Some, None, Result, Ok, Err, codes, unwrap_or}
use Rattle.lumos_words.specs.Options.{Text, command_of, has_program, options_of}
use Rattle.lumos_words.specs.Words.{Items, said, understood}
use Rattle.lumos_words.specs.Faults.{fault}
use Rattle.lumos_words.specs.Settings.{Say, directory, if_good, is_set, plan_of}
use Rattle.lumos_words.specs.declared.faults.UsageWhat.TheVariants as what
use Rattle.lumos_words.specs.declared.faults.UsageFault.{UsageFault}
use Rattle.lumos_words.specs.declared.faults.WordsFault.{WordsFault}
use Rattle.lumos_words.specs.declared.faults.WordsFault.TheVariants.{NoMemory, Usage}
use Rattle.lumos_words.specs.declared.request.BuildWords.{BuildWords}
use Rattle.lumos_words.specs.declared.request.IterWords.{IterWords}
use Rattle.lumos_words.specs.declared.request.ProgramWords.{ProgramWords}
use Rattle.lumos_words.specs.declared.request.ProgramWords.TheVariants as words
use Rattle.lumos_words.specs.declared.request.Request.{Request}
use Rattle.lumos_words.specs.declared.request.Request.TheVariants as requested
use Rattle.lumos_words.specs.declared.settings.Draws.{Draws}
use Rattle.lumos_words.specs.declared.settings.Plan.{Plan}
use Rattle.lumos_words.specs.declared.settings.ProgramName.{ProgramName}
use Rattle.lumos_words.specs.declared.settings.ProgramName.TheVariants as program
use Rattle.lumos_words.specs.declared.settings.Sizes.{Sizes}
use Rattle.lumos_words.specs.declared.settings.Task.{Task}
use Rattle.lumos_words.specs.declared.settings.Task.TheVariants as task
use Rattle.lumos_words.specs.declared.settings.Ways.{Ways}
use Rattle.lumos_words.specs.declared.table.CommandWord.{CommandWord}

abbrev pub program_words : ProgramName → Ways → ProgramWords
program_words program.PageRank ways = words.PageRank ways.unit ways.share
program_words program.Spreading ways = words.Spreading ways.unit ways.share ways.seeds
program_words program.Paths ways = words.Paths ways.from
program_words program.Components ways = words.Components
program_words program.Tally ways = words.Tally

abbrev pub build_words : Sizes → Text → Bool → BuildWords
build_words sizes dir both = record {
  dir = dir;
  parts = sizes.parts;
  budget = sizes.budget;
  vertices = sizes.vertices;
  max_edges = sizes.max_edges;
  max_bytes = sizes.max_bytes;
  both = both;
}

abbrev pub iter_words : Sizes → Ways → IterWords
iter_words sizes ways = record { iterations = sizes.iterations; budget = sizes.budget; plain = ways.plain; brief = ways.brief }

-- so many parts where none are given
abbrev pub with_parts : ℕ → Sizes → Sizes
with_parts absent sizes = record sizes { parts = Some (unwrap_or sizes.parts absent) }

-- so many vertices where none are stated
abbrev pub with_vertices : ℕ → Sizes → Sizes
with_vertices absent sizes = record sizes { vertices = Some (unwrap_or sizes.vertices absent) }

abbrev pub request_with : Task → Sizes → Ways → Draws → Text → Bool → Request
request_with (task.Run program) sizes ways draws dir both = requested.Run (program_words program ways) (build_words sizes dir both) (iter_words sizes ways)
request_with task.Build sizes ways draws dir both = requested.Build (build_words (with_parts 16 sizes) dir both)
request_with (task.Replay program) sizes ways draws dir both = requested.Replay (program_words program ways) (unwrap_or sizes.parts 2) sizes.vertices both
request_with (task.Sample program) sizes ways draws dir both =
    requested.Sample (program_words program ways) (build_words (with_vertices 1000 sizes) dir both) (iter_words sizes ways) draws.seed draws.edges

abbrev pub request_for : Plan → Text → Bool → Request
request_for plan dir both = request_with plan.task plan.sizes plan.ways plan.draws dir both

-- what a command is asked for, by the texts of its options
abbrev pub asked : CommandWord → Say → Result Request UsageFault
asked command say = if_good (plan_of command say) (λ plan. Ok (request_for plan (directory (say (codes "dir"))) (is_set (say (codes "both")))))

abbrev pub request_said : CommandWord → Items → Result Request UsageFault
request_said command None = Err (fault what.WordsNotUnderstood)
request_said command (Some items) = asked command (λ name. said name items)

abbrev pub request_behind : Option CommandWord → List Text → Result Request UsageFault
request_behind None rest = Err (fault what.UnknownCommand)
request_behind (Some command) rest = request_said command (understood (options_of command) (has_program command) rest)

-- what the words ask for, or their first fault
abbrev pub request : List Text → Result Request UsageFault
request [] = Err (fault what.NoCommand)
request (word ∷ rest) = request_behind (command_of word) rest

-- the answer is this one, unless memory is wanting
abbrev pub IsAnswer : Result Request UsageFault → Result Request WordsFault → Type 0
IsAnswer wanted (Ok asked) = wanted ≡ Ok asked
IsAnswer wanted (Err (Usage why)) = wanted ≡ Err why
IsAnswer wanted (Err NoMemory) = ⊤
