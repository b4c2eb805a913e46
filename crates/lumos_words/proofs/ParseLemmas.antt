-- What the functions that call clap need.
use Rattle.std.proofs.Common.{◌≡◌, ◌∙◌, ◌<◌, ℕ, Bool, true, false, refl, sym, ap, arith, List, [], ◌∷◌, ◌++◌, map, length, drop, Some, None, append-nil, inl, inr, codes, take, ◌+◌}
use Rattle.std.specs.Str.{IsUtf8}
use Rattle.std.proofs.lemmas.List.{map-append, take_more}
use Rattle.std.specs.Prelude.{String}
use Rattle.std.specs.List.{filter, slice_index_or}
use Rattle.std.proofs.lemmas.List.Elements.{filter-append}
use Rattle.std.specs.declared.alloc.Global.{Global}
use Rattle.clap.specs.Walk.{Rule, first_of, rows_of}
use Rattle.clap.specs.Matches.{found_of}
use Rattle.clap.specs.Simple.{App, is_simple, matches_of, new_shape, with_rule}
use Rattle.clap.specs.Kinds.{HasKind, IsAmong, Kinds}
use Rattle.clap.specs.Values.{kind_of}
use Rattle.clap.specs.Faults.{fault_of}
use Rattle.clap.specs.declared.error.Error.{Error}
use Rattle.clap.specs.declared.error.kind.ErrorKind.TheVariants.{OutOfMemory}
use Rattle.clap.specs.declared.parser.matches.ArgMatches.{ArgMatches}
use Rattle.clap.proofs.WalkLemmas.{both, first_value-rows}
use Rattle.lumos_words.specs.Options.{Known, Text, has_option, options_of}
use Rattle.lumos_words.specs.Words.{AreTexts, HasOwnName, Items, understood}
use Rattle.lumos_words.specs.Matches.{SaysAll, known_of, table_of, texts_of}
use Rattle.lumos_words.specs.Matches.{app_for, option_rule, program_rule, with_option}
use Rattle.lumos_words.specs.declared.table.CommandWord.{CommandWord}
use Rattle.lumos_words.specs.declared.table.CommandWord.TheVariants.{Run, Build, Replay, Sample}
use Rattle.lumos_words.specs.declared.table.OptionRow.{OptionRow}
use Rattle.lumos_words.proofs.TableLemmas.{simple_for}
use Rattle.lumos_words.proofs.Whole.{Taken, flag_in, said_in, taken}

abbrev with_rules : List Rule → App
with_rules rules = record { top = record (new_shape (codes "lumos")) { rules = rules; disable_help_flag = true }; subs = [] }

-- an option more is one more in the table
option_added : (table : List Known) (known : Known) → with_rule (app_for table false) (option_rule known) ≡ app_for (table ++ known ∷ []) false
option_added table known = ap with_rules (ap (λ (rules : List Rule). rules ++ option_rule known ∷ []) (append-nil (map option_rule table))
    ∙ (sym (map-append option_rule table (known ∷ [])) ∙ sym (append-nil (map option_rule (table ++ known ∷ [])))))

pub program_added : (table : List Known) → with_rule (app_for table false) program_rule ≡ app_for table true
program_added table = ap with_rules (ap (λ (rules : List Rule). rules ++ program_rule ∷ []) (append-nil (map option_rule table)))

-- a row more of the table, where the command has it
row_added : (word : CommandWord) (table : List Known) (known : Known) → with_option word (app_for (filter (has_option word) table) false) known ≡ app_for (filter (has_option word) (table ++ known ∷ [])) false
row_added word table known = go (has_option word known) refl
  where
    go : (b : Bool) → has_option word known ≡ b → with_option word (app_for (filter (has_option word) table) false) known ≡ app_for (filter (has_option word) (table ++ known ∷ [])) false
    go true e = rw (filter-append (has_option word) table (known ∷ []), e) (option_added (filter (has_option word) table) known)
    go false e = rw (filter-append (has_option word) table (known ∷ []), e, append-nil (filter (has_option word) table)) refl

-- the command of the first rows of the table
abbrev pub rows_app : CommandWord → List OptionRow → ℕ → App
rows_app word rows i = app_for (filter (has_option word) (table_of (take i rows))) false

-- what an index behind the end stands for
abbrev pub no_row : OptionRow
no_row = record { name = record { ref_ptr = (0, 0); now = [] }; is_flag = false; run = false; build = false; replay = false; sample = false }

pub row_step : (word : CommandWord) (rows : List OptionRow) (i : ℕ) → i < length rows → with_option word (rows_app word rows i) (known_of (slice_index_or rows i no_row)) ≡ rows_app word rows (i + 1)
row_step word rows i inside =
    let row = slice_index_or rows i no_row in
    row_added word (table_of (take i rows)) (known_of row)
    ∙ ap (λ (table : List Known). app_for (filter (has_option word) table) false) (sym (map-append known_of (take i rows) (row ∷ [])) ∙ ap table_of (sym (take_more rows i no_row inside)))

pub texts_more : (words : List Text) (word : Text) → AreTexts words → IsUtf8 word → AreTexts (words ++ word ∷ [])
texts_more [] word h utf = (utf, tt)
texts_more (w ∷ words) word h utf = (h.0, texts_more words word h.1 utf)

pub is_simple_for : (t : List Known) (p : Bool) → is_simple (app_for t p) ≡ true
is_simple_for t p = (both _ _ (simple_for t p)).0

pub says : (t : List Known) (p : Bool) (words : List Text) (m : ArgMatches) → HasOwnName t → AreTexts words → 0 < length words
    → fault_of (app_for t p) words ≡ [] → rows_of (found_of m) ≡ matches_of (app_for t p) words → SaysAll t (understood t p (drop 1 words)) (Some m)
says t p [] m own texts some none rows = absurd (omega arith)
says t p (name ∷ words) m own texts some none rows = go (understood t p words) (taken t p name words own texts.1)
  where
    go : (i : Items) → Taken t p name words i → SaysAll t i (Some m)
    go None h = h none
    go (Some items) h = record {
      value = λ n f. first_value-rows (found_of m) n ∙ (ap (first_of n) (rows ∙ h.1) ∙ said_in t p n items f);
      flag = λ n f. first_value-rows (found_of m) n ∙ (ap (first_of n) (rows ∙ h.1) ∙ flag_in t p n items f);
    }

pub says_nothing : (t : List Known) (p : Bool) (words : List Text) → HasOwnName t → AreTexts words → 0 < length words
    → (fault_of (app_for t p) words ≡ [] → ⊥) → SaysAll t (understood t p (drop 1 words)) None
says_nothing t p [] own texts some none = absurd (omega arith)
says_nothing t p (name ∷ words) own texts some none = go (understood t p words) (taken t p name words own texts.1)
  where
    go : (i : Items) → Taken t p name words i → SaysAll t i None
    go None h = tt
    go (Some items) h = none h.0

-- an error that isn't of memory comes only where some kind does
pub some_kind : (e : Error) (kinds : Kinds) → HasKind kinds e → (kind_of e ≡ OutOfMemory → ⊥) → kinds ≡ [] → ⊥
some_kind e kinds h other none = elim h [
  | inl memory ↦ other memory
  | inr among ↦ let bad : IsAmong (kind_of e) [] = rw none at among in bad
]

pub texts_some : (words : List (String Global)) → 0 < length words → 0 < length (texts_of words)
texts_some [] h = h
texts_some (w ∷ words) h = omega arith

-- no command has an option under whose name the program stands
pub own_name : (word : CommandWord) → HasOwnName (options_of word)
own_name Run = refl
own_name Build = refl
own_name Replay = refl
own_name Sample = refl
