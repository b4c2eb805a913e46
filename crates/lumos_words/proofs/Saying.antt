-- What is asked for hangs on what is said of the options' names alone.
use Rattle.std.proofs.Common.{◌≡◌, ◌∙◌, true, false, refl, sym, ap, subst, List, [], ◌∷◌, Option, Some, None, Result, Ok, Err, codes, drop}
use Rattle.std.specs.Prelude.{String, slice_get}
use Rattle.std.specs.Str.{bytes_eq}
use Rattle.std.specs.String.{string_bytes}
use Rattle.std.specs.declared.alloc.Global.{Global}
use Rattle.clap.specs.declared.parser.matches.ArgMatches.{ArgMatches}
use Rattle.lumos_words.specs.Options.{Text, command_of, has_program, options_of}
use Rattle.lumos_words.specs.Words.{Item, Items, is_flag, said, understood}
use Rattle.lumos_words.specs.Settings.{Say, draws_of, if_good, is_set, plan_of, sizes_of, task_of, ways_of}
use Rattle.lumos_words.specs.Requests.{IsAnswer, asked, request, request_behind, request_said}
use Rattle.lumos_words.specs.Matches.{Says, SaysAll, text_in, texts_of}
use Rattle.lumos_words.specs.Faults.{fault}
use Rattle.lumos_words.specs.declared.faults.UsageWhat.TheVariants.{WordsNotUnderstood}
use Rattle.lumos_words.specs.declared.faults.UsageFault.{UsageFault}
use Rattle.lumos_words.specs.declared.faults.WordsFault.{WordsFault}
use Rattle.lumos_words.specs.declared.request.Request.{Request}
use Rattle.lumos_words.specs.declared.settings.Plan.{Plan}
use Rattle.lumos_words.specs.declared.settings.Task.{Task}
use Rattle.lumos_words.specs.declared.table.CommandWord.{CommandWord}
use Rattle.lumos_words.specs.declared.table.CommandWord.TheVariants.{Run, Build, Replay, Sample}

sizes_same : (t : Task) (f g : Say) → f (codes "parts") ≡ g (codes "parts") → f (codes "iterations") ≡ g (codes "iterations") → f (codes "budget") ≡ g (codes "budget")
    → f (codes "vertices") ≡ g (codes "vertices") → f (codes "max-edges") ≡ g (codes "max-edges") → f (codes "max-bytes") ≡ g (codes "max-bytes") → sizes_of t f ≡ sizes_of t g
sizes_same t f g parts iterations budget vertices edges bytes = rw (parts, iterations, budget, vertices, edges, bytes) refl

ways_same : (t : Task) (f g : Say) → f (codes "mode") ≡ g (codes "mode") → f (codes "show") ≡ g (codes "show") → f (codes "unit") ≡ g (codes "unit")
    → f (codes "share") ≡ g (codes "share") → f (codes "from") ≡ g (codes "from") → f (codes "seeds") ≡ g (codes "seeds") → ways_of t f ≡ ways_of t g
ways_same t f g mode show unit share from seeds = rw (mode, show, unit, share, from, seeds) refl

draws_same : (f g : Say) → f (codes "seed") ≡ g (codes "seed") → f (codes "edges") ≡ g (codes "edges") → draws_of f ≡ draws_of g
draws_same f g seed edges = rw (seed, edges) refl

-- the same of each task is the same of what may be one
for_task : (r : Result Task UsageFault) (p q : Task → Result Plan UsageFault) → ((t : Task) → p t ≡ q t) → if_good r p ≡ if_good r q
for_task (Ok t) p q same = same t
for_task (Err why) p q same = refl

plan_same : (word : CommandWord) (f g : Say) → f (codes "PROGRAM") ≡ g (codes "PROGRAM") → f (codes "dir") ≡ g (codes "dir") → ((t : Task) → sizes_of t f ≡ sizes_of t g)
    → ((t : Task) → ways_of t f ≡ ways_of t g) → draws_of f ≡ draws_of g → plan_of word f ≡ plan_of word g
plan_same word f g program dir sizes ways draws = rw (program, dir, draws) (for_task (task_of word (g (codes "PROGRAM"))) _ _ (λ t. rw (sizes t, ways t) refl))

asked_same : (word : CommandWord) (f g : Say) → plan_of word f ≡ plan_of word g → f (codes "dir") ≡ g (codes "dir") → is_set (f (codes "both")) ≡ is_set (g (codes "both")) → asked word f ≡ asked word g
asked_same word f g plan dir both = rw (plan, dir, both) refl

-- `--both` is the one flag
plain_name : (word : CommandWord) (name : Text) → bytes_eq (codes "both") name ≡ false → is_flag (options_of word) name ≡ false
plain_name Run name e = rw e refl
plain_name Build name e = rw e refl
plain_name Replay name e = rw e refl
plain_name Sample name e = rw e refl

flag_name : (word : CommandWord) → is_flag (options_of word) (codes "both") ≡ true
flag_name Run = refl
flag_name Build = refl
flag_name Replay = refl
flag_name Sample = refl

-- the matches are asked for what the items are
pub says_asked : (word : CommandWord) (items : List Item) (m : ArgMatches) → Says (options_of word) items m → asked word (text_in m) ≡ asked word (λ name. said name items)
says_asked word items m says = asked_same word f g (plan_same word f g (text (codes "PROGRAM") refl) (text (codes "dir") refl) sizes ways draws) (text (codes "dir") refl) both
  where
    f : Say
    f = text_in m

    g : Say
    g name = said name items

    text : (name : Text) → bytes_eq (codes "both") name ≡ false → f name ≡ g name
    text name e = says.value name (plain_name word name e)

    sizes : (t : Task) → sizes_of t f ≡ sizes_of t g
    sizes t = sizes_same t f g (text (codes "parts") refl) (text (codes "iterations") refl) (text (codes "budget") refl) (text (codes "vertices") refl) (text (codes "max-edges") refl) (text (codes "max-bytes") refl)

    ways : (t : Task) → ways_of t f ≡ ways_of t g
    ways t = ways_same t f g (text (codes "mode") refl) (text (codes "show") refl) (text (codes "unit") refl) (text (codes "share") refl) (text (codes "from") refl) (text (codes "seeds") refl)

    draws : draws_of f ≡ draws_of g
    draws = draws_same f g (text (codes "seed") refl) (text (codes "edges") refl)

    both : is_set (f (codes "both")) ≡ is_set (g (codes "both"))
    both = rw (says.flag (codes "both") (flag_name word)) refl

-- ---- the whole answer

-- the first word names a command
pub behind_first : (words : List (String Global)) (first : String Global) (word : CommandWord) → Some first ≡ slice_get words 0 → Some word ≡ command_of (string_bytes first)
    → request (texts_of words) ≡ request_said word (understood (options_of word) (has_program word) (drop 1 (texts_of words)))
behind_first [] first word is named = cc
behind_first (w ∷ words) first word is named =
    let same : first ≡ w = cc in
    ap (λ (c : Option CommandWord). request_behind c (texts_of words)) (ap (λ (x : String Global). command_of (string_bytes x)) (sym same) ∙ sym named)

pub matched : (word : CommandWord) (i : Items) (m : ArgMatches) (r : Result Request WordsFault) → SaysAll (options_of word) i (Some m) → IsAnswer (asked word (text_in m)) r → IsAnswer (request_said word i) r
matched word None m r says answer = absurd says
matched word (Some items) m r says answer = subst (λ (wanted : Result Request UsageFault). IsAnswer wanted r) (says_asked word items m says) answer

pub unmatched : (word : CommandWord) (i : Items) → SaysAll (options_of word) i None → request_said word i ≡ Err (fault WordsNotUnderstood)
unmatched word None says = refl
unmatched word (Some items) says = absurd says
