-- A whole parse, in our words.
use Rattle.std.proofs.Common.{◌≡◌, ◌∙◌, Bool, true, false, not, refl, sym, ap, List, [], ◌∷◌, ◌++◌, cond, Option, Some, None, codes, unwrap_or, append-nil}
use Rattle.std.specs.Prelude.{is_some, ◌&&◌, fold, find, slice_get, option_and_then}
use Rattle.std.specs.Option.{option_or}
use Rattle.std.specs.List.{list_any}
use Rattle.std.specs.Str.{bytes_eq}
use Rattle.std.proofs.lemmas.List.Folds.{find-append}
use Rattle.std.proofs.lemmas.Slice.Eq.{bytes_eq-Decides}
use Rattle.clap.specs.Walk.{Row, Rule, first_of, finished, has_row, more_values, nothing_held, settled, walk, walk_from, with_default}
use Rattle.clap.specs.Simple.{Shape, entered, matches_of}
use Rattle.clap.specs.Kinds.{Kinds, or_else}
use Rattle.clap.specs.Faults.{check_fault, default_fault, built_fault, defaults_fault, entered_fault, fault_of, settle_fault, walk_fault}
use Rattle.clap.specs.Takes.{is_given}
use Rattle.clap.specs.declared.parser.matches.ValueSource.TheVariants.{DefaultValue}
use Rattle.clap.specs.declared.builder.value_parser.Reading.TheVariants.{AsWritten}
use Rattle.lumos_words.specs.Options.{Known, Text}
use Rattle.lumos_words.specs.Words.{AreTexts, HasOwnName, Item, Items, is_flag, is_once, key, named, once, reading, said, text_of, understood, valued, flagged}
use Rattle.lumos_words.specs.Matches.{app_for}
use Rattle.lumos_words.proofs.TableLemmas.{built_option, built_program, built_table, first_for, rules_for, shape_for}
use Rattle.lumos_words.proofs.Rows.{at_end, item_row, item_rows, item_values}
use Rattle.lumos_words.proofs.Walking.{Agree, agree, end_rows, ends_in, nothing_after}

-- ---- after the walk

default_passes : (rows : List Row) (k : Known) → default_fault rows (built_option k) ≡ []
default_passes rows k = go k.is_flag refl (has_row k.name rows) refl
  where
    go : (f : Bool) → k.is_flag ≡ f → (h : Bool) → has_row k.name rows ≡ h → default_fault rows (built_option k) ≡ []
    go true f true h = rw (f, h) refl
    go true f false h = rw (f, h) refl
    go false f true h = rw (f, h) refl
    go false f false h = rw (f, h) refl

program_default : (rows : List Row) → default_fault rows built_program ≡ []
program_default rows = go (has_row (codes "PROGRAM") rows) refl
  where
    go : (h : Bool) → has_row (codes "PROGRAM") rows ≡ h → default_fault rows built_program ≡ []
    go true h = rw h refl
    go false h = rw h refl

defaults_pass : (t : List Known) (p : Bool) (rows : List Row) → defaults_fault rows (rules_for t p) ≡ []
unfolding defaults_fault
defaults_pass [] true rows = rw program_default refl
defaults_pass [] false rows = refl
defaults_pass (k ∷ t) p rows = rw default_passes (defaults_pass t p (with_default rows (built_option k)))

none_required : (t : List Known) (p : Bool) (test : Rule → Bool) → list_any (λ a. a.required && test a) (rules_for t p) ≡ false
none_required [] true test = refl
none_required [] false test = refl
none_required (k ∷ t) p test = none_required t p test

abbrev level : List Text → Shape → Kinds
level words s = built_fault (record { top = s; subs = [] }) nothing_held words

nothing_entered : (s : Shape) (stop : Option (Text × List Text)) → entered (record { top = s; subs = [] }) stop ≡ None
nothing_entered s None = refl
nothing_entered s (Some x) = refl

no_entered_fault : (s : Shape) (stop : Option (Text × List Text)) → entered_fault (record { top = s; subs = [] }) stop ≡ []
no_entered_fault s None = refl
no_entered_fault s (Some x) = refl

no_check : (t : List Known) (p : Bool) (rows : List Row) → check_fault (shape_for (rules_for t p)) rows false ≡ []
no_check t p rows = rw (none_required t p (λ a. not (is_given a.id rows))) refl

-- the fault of a whole parse is the fault of the walk
whole_fault : (t : List Known) (p : Bool) (name : Text) (words : List Text) → fault_of (app_for t p) (name ∷ words) ≡ ends_in (rules_for t p) (walk_from nothing_held) words
whole_fault t p name words =
    let s = shape_for (rules_for t p) in
    let w = walk s.rules [] nothing_held words in
    let last : or_else (defaults_fault (settled s.rules w.held).rows s.rules) (check_fault s (finished s.rules w.held) false) ≡ [] = rw (defaults_pass t p (settled s.rules w.held).rows) (no_check t p (finished s.rules w.held)) in
    let end : level words s ≡ or_else (walk_fault s [] (walk_from nothing_held) words) (or_else (settle_fault s.rules false w.held) []) =
    (λ i. or_else (walk_fault s [] (walk_from nothing_held) words) (or_else (no_entered_fault s w.stopped i) (or_else (settle_fault s.rules false w.held) (or_else (defaults_fault (settled s.rules w.held).rows s.rules) (check_fault s (finished s.rules w.held) (is_some (nothing_entered s w.stopped i)))))))
    ∙ ap (λ (l : Kinds). or_else (walk_fault s [] (walk_from nothing_held) words) (or_else (settle_fault s.rules false w.held) l)) last in
    ap (level words) (built_table t p) ∙ (end ∙ ap (or_else (walk_fault s [] (walk_from nothing_held) words)) (nothing_after (settle_fault s.rules false w.held)))

whole_rows : (t : List Known) (p : Bool) (name : Text) (words : List Text) → matches_of (app_for t p) (name ∷ words) ≡ fold with_default (end_rows (rules_for t p) (walk_from nothing_held) words) (rules_for t p)
whole_rows t p name words = ap (λ (s : Shape). finished s.rules (walk s.rules [] nothing_held words).held) (built_table t p)

-- ---- what the rows say

abbrev rows_with_defaults : List Known → Bool → List Item → List Row
rows_with_defaults t p items = fold with_default (item_rows items) (rules_for t p)

item_text : (i : Item) → slice_get (item_values i) 0 ≡ Some (text_of i)
item_text (valued n v) = refl
item_text (flagged n) = refl
item_text (named w) = refl

said_first : (name : Text) (items : List Item) → first_of name (item_rows items) ≡ said name items
said_first name [] = refl
said_first name (i ∷ items) = go (bytes_eq (key i) name) refl (said_first name items)
  where
    go : (b : Bool) → bytes_eq (key i) name ≡ b → first_of name (item_rows items) ≡ said name items → first_of name (item_rows (i ∷ items)) ≡ said name (i ∷ items)
    go true e rest = rw e (item_text i)
    go false e rest = rw e rest

abbrev row_by : Text → List Row → Option Row
row_by name rows = find (λ r. bytes_eq r.id name) rows

abbrev unset_row : Text → Row
unset_row name = record { id = name; values = codes "false" ∷ []; count = None; source = Some DefaultValue; reading = AsWritten }

abbrev unset : Bool → Text → List Row
unset true name = unset_row name ∷ []
unset false name = []

-- a flag that wasn't given gets a row at the end
default_is : (rows : List Row) (k : Known) → with_default rows (built_option k) ≡ rows ++ unset (k.is_flag && not (has_row k.name rows)) k.name
default_is rows k = go k.is_flag refl (has_row k.name rows) refl
  where
    go : (f : Bool) → k.is_flag ≡ f → (h : Bool) → has_row k.name rows ≡ h → with_default rows (built_option k) ≡ rows ++ unset (k.is_flag && not (has_row k.name rows)) k.name
    go true f true h = rw (f, h) (sym (append-nil rows))
    go true f false h = rw (f, h) (at_end k.name (more_values DefaultValue (codes "false" ∷ [])) (unset_row k.name ∷ []) rows h)
    go false f true h = rw (f, h) (sym (append-nil rows))
    go false f false h = rw (f, h) (sym (append-nil rows))

program_unset : (rows : List Row) → with_default rows built_program ≡ rows
program_unset rows = go (has_row (codes "PROGRAM") rows) refl
  where
    go : (h : Bool) → has_row (codes "PROGRAM") rows ≡ h → with_default rows built_program ≡ rows
    go true h = rw h refl
    go false h = rw h refl

-- a row that is there stays the first
kept : (t : List Known) (p : Bool) (name : Text) (rows : List Row) (r : Row) → row_by name rows ≡ Some r → row_by name (fold with_default rows (rules_for t p)) ≡ Some r
kept [] true name rows r e = rw program_unset e
kept [] false name rows r e = e
kept (k ∷ t) p name rows r e =
    kept t p name (with_default rows (built_option k)) r (ap (row_by name) (default_is rows k) ∙ (find-append (λ r. bytes_eq r.id name) rows (unset (k.is_flag && not (has_row k.name rows)) k.name) ∙ rw e refl))

no_row : (name : Text) (rows : List Row) → row_by name rows ≡ None → has_row name rows ≡ false
no_row name [] e = refl
no_row name (r ∷ rows) e = go (bytes_eq r.id name) refl (no_row name rows)
  where
    go : (b : Bool) → bytes_eq r.id name ≡ b → (row_by name rows ≡ None → has_row name rows ≡ false) → has_row name (r ∷ rows) ≡ false
    go true h rest =
        let bad : Some r ≡ None = rw h at e in
        cc
    go false h rest = rw h (rest (rw h at e))

-- a row of another name changes nothing
others : (name : Text) (rows : List Row) (k : Known) → (k.is_flag && bytes_eq k.name name) ≡ false → row_by name (with_default rows (built_option k)) ≡ row_by name rows
others name rows k h = ap (row_by name) (default_is rows k) ∙ (find-append (λ r. bytes_eq r.id name) rows (unset (k.is_flag && not (has_row k.name rows)) k.name) ∙ go k.is_flag (not (has_row k.name rows)) (bytes_eq k.name name) refl h)
  where
    or_none : (o : Option Row) → option_or o None ≡ o
    or_none None = refl
    or_none (Some r) = refl

    go : (f u b : Bool) → bytes_eq k.name name ≡ b → (f && b) ≡ false → option_or (row_by name rows) (row_by name (unset (f && u) k.name)) ≡ row_by name rows
    go false u b e h = or_none _
    go true false b e h = or_none _
    go true true true e h = cc
    go true true false e h = rw e (or_none _)

-- an option that is no flag has the row that the words gave it
no_default : (t : List Known) (p : Bool) (name : Text) (rows : List Row) → is_flag t name ≡ false → row_by name (fold with_default rows (rules_for t p)) ≡ row_by name rows
no_default [] true name rows h = ap (row_by name) (program_unset rows)
no_default [] false name rows h = refl
no_default (k ∷ t) p name rows h = go (k.is_flag && bytes_eq k.name name) refl (no_default t p name (with_default rows (built_option k)))
  where
    go : (b : Bool) → (k.is_flag && bytes_eq k.name name) ≡ b → (is_flag t name ≡ false → row_by name (fold with_default (with_default rows (built_option k)) (rules_for t p)) ≡ row_by name (with_default rows (built_option k)))
        → row_by name (fold with_default rows (rules_for (k ∷ t) p)) ≡ row_by name rows
    go true e rest =
        let bad : true ≡ false = rw e at h in
        cc
    go false e rest = rest (rw e at h) ∙ others name rows k e

-- a flag that the words didn't give has the text `false`
unset_flag : (t : List Known) (p : Bool) (name : Text) (rows : List Row) → is_flag t name ≡ true → row_by name rows ≡ None → row_by name (fold with_default rows (rules_for t p)) ≡ Some (unset_row name)
unset_flag [] p name rows h none = cc
unset_flag (k ∷ t) p name rows h none = go k.is_flag (bytes_eq k.name name) refl refl (unset_flag t p name (with_default rows (built_option k)))
  where
    go : (f b : Bool) → k.is_flag ≡ f → bytes_eq k.name name ≡ b
        → (is_flag t name ≡ true → row_by name (with_default rows (built_option k)) ≡ None → row_by name (fold with_default (with_default rows (built_option k)) (rules_for t p)) ≡ Some (unset_row name))
        → row_by name (fold with_default rows (rules_for (k ∷ t) p)) ≡ Some (unset_row name)
    go true true f e rest =
        let same : k.name ≡ name = (bytes_eq-Decides k.name name).0 e in
        let fresh : has_row k.name rows ≡ false = ap (λ (n : Text). has_row n rows) same ∙ no_row name rows none in
        kept t p name (with_default rows (built_option k)) (unset_row name) (ap (row_by name) (default_is rows k)
        ∙ (find-append (λ r. bytes_eq r.id name) rows (unset (k.is_flag && not (has_row k.name rows)) k.name) ∙ rw (none, f, fresh, e) (ap (λ (n : Text). Some (unset_row n)) same)))
    go true false f e rest = rest (rw (f, e) at h) (others name rows k (rw (f, e) refl) ∙ none)
    go false b f e rest = rest (rw f at h) (others name rows k (rw f refl) ∙ none)

-- ---- the parse

row_has_text : (name : Text) (items : List Item) (r : Row) → row_by name (item_rows items) ≡ Some r → (x : Text) × (slice_get r.values 0 ≡ Some x)
row_has_text name [] r e = cc
row_has_text name (i ∷ items) r e = go (bytes_eq (key i) name) refl (row_has_text name items r)
  where
    go : (b : Bool) → bytes_eq (key i) name ≡ b → (row_by name (item_rows items) ≡ Some r → (x : Text) × (slice_get r.values 0 ≡ Some x)) → (x : Text) × (slice_get r.values 0 ≡ Some x)
    go true h rest =
        let found : Some (item_row i) ≡ Some r = rw h at e in
        let same : item_row i ≡ r = cc in
        (text_of i, ap (λ (r : Row). slice_get r.values 0) (sym same) ∙ item_text i)
    go false h rest = rest (rw h at e)

-- what the rows of the items say of a name
pub said_in : (t : List Known) (p : Bool) (name : Text) (items : List Item) → is_flag t name ≡ false → first_of name (rows_with_defaults t p items) ≡ said name items
said_in t p name items h = ap (option_and_then (λ (r : Row). slice_get r.values 0)) (no_default t p name (item_rows items) h) ∙ said_first name items

pub flag_in : (t : List Known) (p : Bool) (name : Text) (items : List Item) → is_flag t name ≡ true → first_of name (rows_with_defaults t p items) ≡ Some (unwrap_or (said name items) (codes "false"))
flag_in t p name items h = go (row_by name (item_rows items)) refl
  where
    go : (o : Option Row) → row_by name (item_rows items) ≡ o → first_of name (rows_with_defaults t p items) ≡ Some (unwrap_or (said name items) (codes "false"))
    go None e =
        let nothing : said name items ≡ None = sym (said_first name items) ∙ ap (option_and_then (λ (r : Row). slice_get r.values 0)) e in
        ap (option_and_then (λ (r : Row). slice_get r.values 0)) (unset_flag t p name (item_rows items) h e) ∙ ap (λ (o : Option Text). Some (unwrap_or o (codes "false"))) (sym nothing)
    go (Some r) e =
        let text = row_has_text name items r e in
        let some : said name items ≡ Some text.0 = sym (said_first name items) ∙ (ap (option_and_then (λ (r : Row). slice_get r.values 0)) e ∙ text.1) in
        ap (option_and_then (λ (r : Row). slice_get r.values 0)) (kept t p name (item_rows items) r e) ∙ (text.1 ∙ ap (λ (o : Option Text). Some (unwrap_or o (codes "false"))) (sym some))

-- clap takes exactly the words that are understood, and its matches are those of the items
abbrev pub Taken : List Known → Bool → Text → List Text → Items → Type 0
Taken t p name words None = fault_of (app_for t p) (name ∷ words) ≡ [] → ⊥
Taken t p name words (Some items) = (fault_of (app_for t p) (name ∷ words) ≡ []) × (matches_of (app_for t p) (name ∷ words) ≡ rows_with_defaults t p items)

pub taken : (t : List Known) (p : Bool) (name : Text) (words : List Text) → HasOwnName t → AreTexts words → Taken t p name words (understood t p words)
taken t p name words own texts = go (reading t p None words) (agree t p own None nothing_held 1 words [] texts (record { settles = refl; rows = refl; skip = refl }) (record { at_place = first_for t p ∙ ap (λ (b : Bool). cond b (Some built_program) None) (sym (and_true p)); first = λ h. refl }))
  where
    and_true : (b : Bool) → (b && true) ≡ b
    and_true true = refl
    and_true false = refl

    settled_as : (items : List Item) (b : Bool) → is_once [] items ≡ b → Agree t p (walk_from nothing_held) words [] (Some items) → Taken t p name words (once items)
    settled_as items true e h =
        let both = rw e at h in
        rw e (whole_fault t p name words ∙ both.0, whole_rows t p name words ∙ ap (λ (rows : List Row). fold with_default rows (rules_for t p)) both.1)
    settled_as items false e h =
        let never = rw e at h in
        rw e (λ nothing. never (sym (whole_fault t p name words) ∙ nothing))

    go : (i : Items) → Agree t p (walk_from nothing_held) words [] i → Taken t p name words (option_and_then once i)
    go None h = λ nothing. h (sym (whole_fault t p name words) ∙ nothing)
    go (Some items) h = settled_as items (is_once [] items) refl h
