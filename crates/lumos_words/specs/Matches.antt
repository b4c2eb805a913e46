-- The table as a command of clap, and what clap's matches say, in our words.
use Rattle.std.specs.Prelude.{◌≡◌, ⊤, Bool, true, false, List, [], ◌∷◌, ◌++◌, Option, Some, None, codes, map, if◌then◌else◌, unwrap_or, String}
use Rattle.std.specs.String.{string_bytes}
use Rattle.std.specs.declared.alloc.Global.{Global}
use Rattle.clap.specs.Simple.{App, new_rule, new_shape, with_rule}
use Rattle.clap.specs.Walk.{Rule}
use Rattle.clap.specs.Words.{first_value, found_of}
use Rattle.clap.specs.declared.builder.action.ArgAction.TheVariants.{Set, SetTrue}
use Rattle.clap.specs.declared.parser.matches.ArgMatches.{ArgMatches}
use Rattle.lumos_words.specs.Options.{Known, Text, has_option}
use Rattle.lumos_words.specs.Words.{Item, Items, is_flag, said}
use Rattle.lumos_words.specs.declared.table.CommandWord.{CommandWord}
use Rattle.lumos_words.specs.declared.table.OptionRow.{OptionRow}

-- a row of the code's table
abbrev pub known_of : OptionRow → Known
known_of row = record { name = row.name.now; is_flag = row.is_flag; run = row.run; build = row.build; replay = row.replay; sample = row.sample }

abbrev pub table_of : List OptionRow → List Known
table_of rows = map known_of rows

-- words as their bytes
abbrev pub texts_of : List (String Global) → List Text
texts_of words = map string_bytes words

-- ---- the command

abbrev pub option_rule : Known → Rule
option_rule known = record (new_rule known.name) {
  long = Some known.name;
  action = Some (if known.is_flag then SetTrue else Set);
}

abbrev pub program_rule : Rule
program_rule = new_rule (codes "PROGRAM")

abbrev pub program_rules : Bool → List Rule
program_rules true = program_rule ∷ []
program_rules false = []

-- the command that a table describes, with one positional where it has a program
abbrev pub app_for : List Known → Bool → App
app_for table has_program = record {
  top = record (new_shape (codes "lumos")) {
    rules = map option_rule table ++ program_rules has_program;
    disable_help_flag = true;
  };
  subs = [];
}

-- an option more, where the command has it
abbrev pub with_option : CommandWord → App → Known → App
with_option command app known = if has_option command known then with_rule app (option_rule known) else app

-- ---- the matches

-- the text that the matches have of a name
abbrev pub text_in : ArgMatches → Text → Option Text
text_in matches name = first_value (found_of matches) name

-- the matches say what the items say; a flag that doesn't stand has the text `false` there
pub record Says (table : List Known) (items : List Item) (matches : ArgMatches) : Type 0 where
  pub value : (name : Text) → is_flag table name ≡ false → text_in matches name ≡ said name items
  pub flag : (name : Text) → is_flag table name ≡ true → text_in matches name ≡ Some (unwrap_or (said name items) (codes "false"))

-- there are matches exactly where the words are understood
abbrev pub SaysAll : List Known → Items → Option ArgMatches → Type 0
SaysAll table (Some items) (Some matches) = Says table items matches
SaysAll table None None = ⊤
SaysAll table (Some items) None = ⊥
SaysAll table None (Some matches) = ⊥
