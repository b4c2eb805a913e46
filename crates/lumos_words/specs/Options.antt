-- The commands, and the one table of their options.
use Rattle.std.specs.Prelude.{ℕ, Bool, true, false, List, [], ◌∷◌, Option, Some, None, codes, if◌then◌else◌}
use Rattle.std.specs.List.{filter}
use Rattle.std.specs.Str.{bytes_eq}
use Rattle.lumos_words.specs.declared.table.CommandWord.{CommandWord}
use Rattle.lumos_words.specs.declared.table.CommandWord.TheVariants.{Run, Build, Replay, Sample}

abbrev pub Text : Type 0
Text = List ℕ

-- an option: its name without hyphens, whether it is a flag, and for each command whether it has it
pub record Known : Type 0 where
  pub name : Text
  pub is_flag : Bool
  pub run : Bool
  pub build : Bool
  pub replay : Bool
  pub sample : Bool

abbrev pub valued_option : Text → Bool → Bool → Bool → Bool → Known
valued_option name run build replay sample = record { name = name; is_flag = false; run = run; build = build; replay = replay; sample = sample }

abbrev pub flag_option : Text → Bool → Bool → Bool → Bool → Known
flag_option name run build replay sample = record { name = name; is_flag = true; run = run; build = build; replay = replay; sample = sample }

-- the table: for each option, whether `run`, `build`, `replay` and `sample` have it
abbrev pub options : List Known
options =
    valued_option (codes "dir") true true false true ∷
    valued_option (codes "parts") true true true true ∷
    valued_option (codes "iterations") true false false true ∷
    valued_option (codes "budget") true true false true ∷
    valued_option (codes "vertices") true true true true ∷
    valued_option (codes "max-edges") true true false false ∷
    valued_option (codes "max-bytes") true true false false ∷
    flag_option (codes "both") true true true true ∷
    valued_option (codes "mode") true false false true ∷
    valued_option (codes "show") true false false true ∷
    valued_option (codes "unit") true false true true ∷
    valued_option (codes "share") true false true true ∷
    valued_option (codes "from") true false true true ∷
    valued_option (codes "seeds") true false true true ∷
    valued_option (codes "seed") false false false true ∷
    valued_option (codes "edges") false false false true ∷
    []

abbrev pub has_option : CommandWord → Known → Bool
has_option Run known = known.run
has_option Build known = known.build
has_option Replay known = known.replay
has_option Sample known = known.sample

-- the options of a command
abbrev pub options_of : CommandWord → List Known
options_of command = filter (has_option command) options

-- a program is named behind the command
abbrev pub has_program : CommandWord → Bool
has_program Build = false
has_program _ = true

-- the command that a word names
abbrev pub command_of : Text → Option CommandWord
command_of word = if bytes_eq word (codes "run") then Some Run
    else (if bytes_eq word (codes "build") then Some Build
    else (if bytes_eq word (codes "replay") then Some Replay
    else (if bytes_eq word (codes "sample") then Some Sample else None)))
