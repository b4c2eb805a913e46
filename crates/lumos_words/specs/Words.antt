-- How the words behind the command word are understood.
use Rattle.std.specs.Prelude.{◌≡◌, ⊤, Bool, true, not, ◌==◌, ◌&&◌, List, [], ◌∷◌, ◌++◌, Option, Some, None, codes, if◌then◌else◌, find, option_map, option_and_then}
use Rattle.std.specs.List.{list_any, before_first, after_first}
use Rattle.std.specs.Str.{bytes_eq, IsUtf8}
use Rattle.lumos_words.specs.Options.{Known, Text}

-- what one word says, or two: an option with its value, a flag, or the program's name
pub data Item : Type 0 where
  valued : Text → Text → Item
  flagged : Text → Item
  named : Text → Item

-- the items, or nothing where the words aren't understood
abbrev pub Items : Type 0
Items = Option (List Item)

-- ---- one word

-- the word doesn't begin with `-`, or is `-` alone: a word of one byte is plain, whichever it is
abbrev pub is_plain : Text → Bool
is_plain [] = true
is_plain (x ∷ []) = true
is_plain (x ∷ y ∷ rest) = not (x == 45)

-- what follows the two hyphens of `--name` or `--name=value`
abbrev pub option_part : Text → Option Text
option_part (x ∷ y ∷ z ∷ rest) = if x == 45 && y == 45 then Some (z ∷ rest) else None
option_part _ = None

-- what stands before the first `=`, and what stands behind it, if there is one
abbrev pub name_part : Text → Text
name_part text = before_first (λ x. x == 61) text

abbrev pub value_part : Text → Option Text
value_part text = if list_any (λ x. x == 61) text then Some (after_first (λ x. x == 61) text) else None

-- the option with this whole name
abbrev pub known_by : List Known → Text → Option Known
known_by table name = find (λ known. bytes_eq known.name name) table

-- what a word says by itself: an item, or an option whose value is the next word, or nothing that is understood
pub data Meaning : Type 0 where
  whole : Item → Meaning
  begun : Text → Meaning
  wrong : Meaning

-- a flag has no value
abbrev pub flag_says : Text → Option Text → Meaning
flag_says name None = whole (flagged name)
flag_says name (Some value) = wrong

abbrev pub valued_says : Text → Option Text → Meaning
valued_says name None = begun name
valued_says name (Some value) = whole (valued name value)

abbrev pub option_says : Option Known → Option Text → Meaning
option_says None value = wrong
option_says (Some known) value = if known.is_flag then flag_says known.name value else valued_says known.name value

-- a name is understood where the command has a program
abbrev pub name_says : Bool → Text → Meaning
name_says has_program word = if has_program then whole (named word) else wrong

abbrev pub word_says : List Known → Bool → Option Text → Text → Meaning
word_says table has_program (Some part) word = option_says (known_by table (name_part part)) (value_part part)
word_says table has_program None word = if is_plain word then name_says has_program word else wrong

-- ---- word by word

abbrev pub with_item : Item → Items → Items
with_item item rest = option_map (λ items. item ∷ items) rest

-- a word's item and those of the rest, which is read with the option that waits for its value
abbrev pub continued : Meaning → (Option Text → Items) → Items
continued (whole item) rest = with_item item (rest None)
continued (begun name) rest = rest (Some name)
continued wrong rest = None

-- all words are names
abbrev pub names_read : Bool → List Text → Items
names_read has_program [] = Some []
names_read has_program (word ∷ rest) = continued (name_says has_program word) (λ waiting. names_read has_program rest)

-- all words, where an option may wait for its value, which is plain; behind a word `--` there are names alone
unfoldable pub reading : List Known → Bool → Option Text → List Text → Items
reading table has_program None [] = Some []
reading table has_program (Some name) [] = None
reading table has_program None (word ∷ rest) =
    if bytes_eq word (codes "--") then names_read has_program rest
    else continued (word_says table has_program (option_part word) word) (λ waiting. reading table has_program waiting rest)
reading table has_program (Some name) (word ∷ rest) =
    if is_plain word then with_item (valued name word) (reading table has_program None rest) else None

-- ---- each at most once

-- the name of an item's option; all names of programs have one
abbrev pub key : Item → Text
key (valued name value) = name
key (flagged name) = name
key (named word) = codes "PROGRAM"

abbrev pub stands : Text → List Item → Bool
stands name items = list_any (λ item. bytes_eq (key item) name) items

-- no item's key stands among those before it
abbrev pub is_once : List Item → List Item → Bool
is_once before [] = true
is_once before (item ∷ rest) = not (stands (key item) before) && is_once (before ++ item ∷ []) rest

abbrev pub once : List Item → Items
once items = if is_once [] items then Some items else None

-- what the words say, by the options of a command, or nothing where they aren't understood
abbrev pub understood : List Known → Bool → List Text → Items
understood table has_program words = option_and_then once (reading table has_program None words)

-- ---- what the items say

abbrev pub text_of : Item → Text
text_of (valued name value) = value
text_of (flagged name) = codes "true"
text_of (named word) = word

-- the value of an option, or the program's name
abbrev pub said : Text → List Item → Option Text
said name items = option_map text_of (find (λ item. bytes_eq (key item) name) items)

-- ---- what a table and its words keep

-- an option of the table with this name is a flag
abbrev pub is_flag : List Known → Text → Bool
is_flag table name = list_any (λ known. known.is_flag && bytes_eq known.name name) table

-- no option has the name under which the program stands
abbrev pub HasOwnName : List Known → Type 0
HasOwnName table = known_by table (codes "PROGRAM") ≡ None

-- the words are texts
abbrev pub AreTexts : List Text → Type 0
AreTexts [] = ⊤
AreTexts (word ∷ rest) = IsUtf8 word × AreTexts rest
