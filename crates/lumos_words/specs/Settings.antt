-- The values of the options, in the order of the table, or the first fault.
use Rattle.std.specs.Prelude.{ℕ, Bool, true, false, ◌&&◌, List, [], Option, Some, None, Result, Ok, Err, codes, if◌then◌else◌, nat_le, unwrap_or}
use Rattle.std.specs.Str.{bytes_eq}
use Rattle.lumos_words.specs.Options.{Text}
use Rattle.lumos_words.specs.Numbers.{number_of, seeds_of}
use Rattle.lumos_words.specs.Faults.{fault, fault_for, name_of}
use Rattle.lumos_words.specs.declared.faults.OptionName.{OptionName}
use Rattle.lumos_words.specs.declared.faults.OptionName.TheVariants as option
use Rattle.lumos_words.specs.declared.faults.UsageWhat.{UsageWhat}
use Rattle.lumos_words.specs.declared.faults.UsageWhat.TheVariants as what
use Rattle.lumos_words.specs.declared.faults.UsageFault.{UsageFault}
use Rattle.lumos_words.specs.declared.request.SeedWord.{SeedWord}
use Rattle.lumos_words.specs.declared.table.CommandWord.{CommandWord}
use Rattle.lumos_words.specs.declared.table.CommandWord.TheVariants as command
use Rattle.lumos_words.specs.declared.settings.ProgramName.{ProgramName}
use Rattle.lumos_words.specs.declared.settings.ProgramName.TheVariants as program
use Rattle.lumos_words.specs.declared.settings.Task.{Task}
use Rattle.lumos_words.specs.declared.settings.Task.TheVariants as task
use Rattle.lumos_words.specs.declared.settings.Sizes.{Sizes}
use Rattle.lumos_words.specs.declared.settings.Ways.{Ways}
use Rattle.lumos_words.specs.declared.settings.Draws.{Draws}
use Rattle.lumos_words.specs.declared.settings.Plan.{Plan}

-- the text that an option has, or the program's name, by its name; a flag that stands has the text `true`
abbrev pub Say : Type 0
Say = Text → Option Text

-- what follows a good answer; a fault is handed on
abbrev pub if_good : {A B : Type 0} → Result A UsageFault → (A → Result B UsageFault) → Result B UsageFault
if_good (Ok x) next = next x
if_good (Err why) next = Err why

-- ---- the program

abbrev pub program_named : Text → Result ProgramName UsageFault
program_named word = if bytes_eq word (codes "pagerank") then Ok program.PageRank
    else (if bytes_eq word (codes "spreading") then Ok program.Spreading
    else (if bytes_eq word (codes "paths") then Ok program.Paths
    else (if bytes_eq word (codes "components") then Ok program.Components
    else (if bytes_eq word (codes "tally") then Ok program.Tally else Err (fault what.UnknownProgram)))))

abbrev pub program_of : Option Text → Result ProgramName UsageFault
program_of None = Err (fault what.NoProgram)
program_of (Some word) = program_named word

-- a command with its program
abbrev pub task_of : CommandWord → Option Text → Result Task UsageFault
task_of command.Run word = if_good (program_of word) (λ program. Ok (task.Run program))
task_of command.Build word = Ok task.Build
task_of command.Replay word = if_good (program_of word) (λ program. Ok (task.Replay program))
task_of command.Sample word = if_good (program_of word) (λ program. Ok (task.Sample program))

-- the fewest vertices that may be stated: a sample's edges end at vertices, so it has one
abbrev pub least_vertices : Task → ℕ
least_vertices (task.Run program) = 0
least_vertices task.Build = 0
least_vertices (task.Replay program) = 0
least_vertices (task.Sample program) = 1

-- the values are left out, where it isn't said whether they are shown
abbrev pub is_brief : Task → Bool
is_brief (task.Run program) = false
is_brief task.Build = false
is_brief (task.Replay program) = false
is_brief (task.Sample program) = true

-- ---- one option

-- the directory is `.` where none is given
abbrev pub directory : Option Text → Text
directory text = unwrap_or text (codes ".")

abbrev pub non_empty : Text → Result Text UsageFault
non_empty [] = Err (fault what.EmptyDirectory)
non_empty text = Ok text

abbrev pub is_set : Option Text → Bool
is_set text = bytes_eq (unwrap_or text (codes "false")) (codes "true")

-- a number lies in the range of its option
abbrev pub ranged : OptionName → ℕ → ℕ → Option ℕ → Result (Option ℕ) UsageFault
ranged name low high None = Err (fault_for what.BadNumber name)
ranged name low high (Some n) = if nat_le low n && nat_le n high then Ok (Some n) else Err (fault_for what.NumberOutside name)

abbrev pub number_said : OptionName → ℕ → ℕ → Option Text → Result (Option ℕ) UsageFault
number_said name low high None = Ok None
number_said name low high (Some text) = ranged name low high (number_of text)

-- the number of an option, if it is given; the same with the number that stands where it isn't
abbrev pub number_in : OptionName → ℕ → ℕ → Say → Result (Option ℕ) UsageFault
number_in name low high say = number_said name low high (say (name_of name))

abbrev pub number_or : OptionName → ℕ → ℕ → ℕ → Say → Result ℕ UsageFault
number_or name low high absent say = if_good (number_in name low high say) (λ n. Ok (unwrap_or n absent))

-- whether the second of two words is chosen, or what stands where neither is given
abbrev pub second_said : Text → Text → UsageWhat → Bool → Option Text → Result Bool UsageFault
second_said first second bad absent None = Ok absent
second_said first second bad absent (Some text) = if bytes_eq text first then Ok false
    else (if bytes_eq text second then Ok true else Err (fault bad))

abbrev pub is_second : Text → Text → Text → UsageWhat → Bool → Say → Result Bool UsageFault
is_second name first second bad absent say = second_said first second bad absent (say name)

abbrev pub seeds_or_fault : Option (List SeedWord) → Result (List SeedWord) UsageFault
seeds_or_fault (Some seeds) = Ok seeds
seeds_or_fault None = Err (fault what.BadSeeds)

abbrev pub seeds_said : Option Text → Result (List SeedWord) UsageFault
seeds_said None = Ok []
seeds_said (Some text) = seeds_or_fault (seeds_of text)

-- ---- all options: the range of each number, and what stands where it isn't given

abbrev pub greatest : ℕ
greatest = 18446744073709551615

abbrev pub sizes_of : Task → Say → Result Sizes UsageFault
sizes_of task say =
    if_good (number_in option.Parts 1 greatest say) (λ parts.
    if_good (number_or option.Iterations 1 1000000 10 say) (λ iterations.
    if_good (number_or option.Budget 1 1099511627776 1073741824 say) (λ budget.
    if_good (number_in option.Vertices (least_vertices task) greatest say) (λ vertices.
    if_good (number_or option.MaxEdges 0 2147483648 2147483648 say) (λ max_edges.
    if_good (number_or option.MaxBytes 0 1099511627776 1099511627776 say) (λ max_bytes.
    Ok (record {
      parts = parts;
      iterations = iterations;
      budget = budget;
      vertices = vertices;
      max_edges = max_edges;
      max_bytes = max_bytes;
    })))))))

abbrev pub ways_of : Task → Say → Result Ways UsageFault
ways_of task say =
    if_good (is_second (codes "mode") (codes "fed") (codes "plain") what.BadMode false say) (λ plain.
    if_good (is_second (codes "show") (codes "all") (codes "brief") what.BadShow (is_brief task) say) (λ brief.
    if_good (number_or option.Unit 1 9223372036854775808 1000000000 say) (λ unit.
    if_good (number_or option.Share 0 1000 850 say) (λ share.
    if_good (number_or option.From 0 268435455 0 say) (λ from.
    if_good (seeds_said (say (codes "seeds"))) (λ seeds.
    Ok (record { plain = plain; brief = brief; unit = unit; share = share; from = from; seeds = seeds })))))))

abbrev pub draws_of : Say → Result Draws UsageFault
draws_of say =
    if_good (number_or option.Seed 0 greatest 1 say) (λ seed.
    if_good (number_or option.Edges 0 2147483648 1000 say) (λ edges.
    Ok (record { seed = seed; edges = edges })))

-- the program, then option by option
abbrev pub plan_of : CommandWord → Say → Result Plan UsageFault
plan_of command say =
    if_good (task_of command (say (codes "PROGRAM"))) (λ task.
    if_good (non_empty (directory (say (codes "dir")))) (λ dir.
    if_good (sizes_of task say) (λ sizes.
    if_good (ways_of task say) (λ ways.
    if_good (draws_of say) (λ draws.
    Ok (record { task = task; sizes = sizes; ways = ways; draws = draws }))))))

-- whether an answer is good, for a step that keeps none
abbrev pub result_done : {A : Type 0} → Result A UsageFault → Result (Unit {0}) UsageFault
result_done (Ok x) = Ok tt
result_done (Err why) = Err why
