-- clap's walk over the words, beside our reading of them.
use Rattle.std.proofs.Common.{◌≡◌, ◌∙◌, ℕ, Bool, true, false, not, refl, sym, ap, subst, List, [], ◌∷◌, ◌++◌, cond, Option, Some, None, codes, append_assoc, append-nil, suc, length, true≢false}
use Rattle.std.specs.Prelude.{◌&&◌, ◌||◌, fold, slice_get, option_map}
use Rattle.std.specs.Option.{option_map_or}
use Rattle.std.specs.Str.{bytes_eq, chars, IsUtf8}
use Rattle.std.proofs.lemmas.Slice.Eq.{bytes_eq-Decides}
use Rattle.clap.specs.Walk.{Held, Row, Rule, Waiting, Walk, arg_by_id, arg_by_index, arg_by_long, arg_by_short, idle, option, positional, reacted, settled, subcommand_met, to_positional, used, walked}
use Rattle.clap.specs.Kinds.{Kinds, or_else}
use Rattle.clap.specs.Faults.{flags_fault, positional_fault, react_fault, settle_fault, turn_fault, use_fault, walk_fault}
use Rattle.clap.specs.declared.error.kind.ErrorKind.TheVariants.{ArgumentConflict, TooManyValues, UnknownArgument}
use Rattle.lumos_words.specs.Options.{Known, Text}
use Rattle.lumos_words.specs.Words.{Item, Items, flagged, is_once, is_plain, key, known_by, continued, name_part, name_says, named, names_read, option_part, option_says, reading, stands, value_part, valued, with_item, AreTexts, HasOwnName}
use Rattle.lumos_words.proofs.TableLemmas.{built_option, built_program, found_name, id_for, long_for, program_for, rules_for, second_for, shape_for}
use Rattle.lumos_words.proofs.Forms.{LooksLong, LooksPlain, LooksShort, has_char, long_looks, long_not_plain, plain_looks, short_looks}
use Rattle.lumos_words.proofs.Rows.{flag_fault, flag_used, item_rows, missing_fault, program_fault, program_used, repeat_kinds, valued_fault, valued_used}

-- ---- truth values

and_false : (b : Bool) → (b && false) ≡ false
and_false true = refl
and_false false = refl

or_false : (b : Bool) → (b || false) ≡ b
or_false true = refl
or_false false = refl

or_true : (b : Bool) → (b || true) ≡ true
or_true true = refl
or_true false = refl

-- ---- kinds

none_first : (a b : Kinds) → or_else a b ≡ [] → a ≡ []
none_first [] b h = refl
none_first (k ∷ ks) b h = cc

none_next : (a b : Kinds) → or_else a b ≡ [] → b ≡ []
none_next [] b h = h
none_next (k ∷ ks) b h = cc

past : (a b : Kinds) → a ≡ [] → or_else a b ≡ b
past a b h = ap (λ (l : Kinds). or_else l b) h

pub nothing_after : (a : Kinds) → or_else a [] ≡ a
nothing_after [] = refl
nothing_after (k ∷ ks) = refl

joined : (a b c : Kinds) → or_else (or_else a b) c ≡ or_else a (or_else b c)
joined [] b c = refl
joined (k ∷ ks) b c = refl

-- ---- the walk

-- the kinds of one word
abbrev turn : List Rule → Walk → Text → Kinds
turn c w word = turn_fault (shape_for c) [] w word

-- the kinds of the walk and of what is pending at its end
abbrev pub ends_in : List Rule → Walk → List Text → Kinds
ends_in c w words = or_else (walk_fault (shape_for c) [] w words) (settle_fault c false (fold (walked c []) w words).held)

abbrev pub end_rows : List Rule → Walk → List Text → List Row
end_rows c w words = (settled c (fold (walked c []) w words).held).rows

step_ends : (c : List Rule) (w : Walk) (word : Text) (rest : List Text) → ends_in c w (word ∷ rest) ≡ or_else (turn c w word) (ends_in c (walked c [] w word) rest)
unfolding walk_fault
step_ends c w word rest = joined (turn c w word) (walk_fault (shape_for c) [] (walked c [] w word) rest) (settle_fault c false (fold (walked c []) w (word ∷ rest)).held)

no_words : (c : List Rule) (w : Walk) → ends_in c w [] ≡ settle_fault c false w.held
unfolding walk_fault
no_words c w = refl

abbrev held : List Row → Option (Text × List Text) → Held
held rows pending = record { rows = rows; pending = pending; skip = 0 }

abbrev at : Held → Waiting → ℕ → Bool → Walk
at h waiting position trailing = record { held = h; waiting = waiting; position = position; is_trailing = trailing; stopped = None }

-- ---- one word

pub same_text : (x : Text) → bytes_eq x x ≡ true
same_text x = (bytes_eq-Decides x x).1 refl

no_sub : (wait : Waiting) (word : Text) → subcommand_met [] wait word ≡ None
no_sub idle word = refl
no_sub (option id) word = refl
no_sub positional word = refl

end_turn : (c : List Rule) (h : Held) (wait : Waiting) (pos : ℕ) → turn c (at h wait pos false) (45 ∷ 45 ∷ []) ≡ []
end_turn c h wait pos = rw no_sub refl

end_walk : (c : List Rule) (h : Held) (wait : Waiting) (pos : ℕ) → walked c [] (at h wait pos false) (45 ∷ 45 ∷ []) ≡ at h wait pos true
unfolding walked
end_walk c h wait pos = rw no_sub refl

module _ (c : List Rule) (h : Held) (wait : Waiting) (pos : ℕ) (word part : Text) (l : LooksLong word part) where
  -- `--name` of no option
  unknown_turn : arg_by_long c (name_part part) ≡ None → turn c (at h wait pos false) word ≡ UnknownArgument ∷ []
  unknown_turn e = rw (no_sub, l.no_end, l.long, e) refl

  -- a flag with a value
  flag_value_turn : (k : Known) (value : Text) → k.is_flag ≡ true → arg_by_long c (name_part part) ≡ Some (built_option k) → value_part part ≡ Some value
      → turn c (at h wait pos false) word ≡ TooManyValues ∷ []
  flag_value_turn k value f e v = rw (no_sub, l.no_end, l.long, e, f, v) refl

  flag_turn : (k : Known) → k.is_flag ≡ true → arg_by_long c (name_part part) ≡ Some (built_option k) → value_part part ≡ None
      → turn c (at h wait pos false) word ≡ react_fault c false (built_option k) [] h
  flag_turn k f e v = rw (no_sub, l.no_end, l.long, e, f, v) (nothing_after _)

  flag_walk : (k : Known) → k.is_flag ≡ true → arg_by_long c (name_part part) ≡ Some (built_option k) → value_part part ≡ None
      → walked c [] (at h wait pos false) word ≡ at (reacted c (built_option k) [] h) idle pos false
  unfolding walked
  flag_walk k f e v = rw (no_sub, l.no_end, l.long, e, f, v) refl

  valued_turn : (k : Known) (value : Text) → k.is_flag ≡ false → arg_by_long c (name_part part) ≡ Some (built_option k) → value_part part ≡ Some value
      → turn c (at h wait pos false) word ≡ react_fault c false (built_option k) (value ∷ []) h
  valued_turn k value f e v = rw (no_sub, l.no_end, l.long, e, f, v) (nothing_after _)

  valued_walk : (k : Known) (value : Text) → k.is_flag ≡ false → arg_by_long c (name_part part) ≡ Some (built_option k) → value_part part ≡ Some value
      → walked c [] (at h wait pos false) word ≡ at (reacted c (built_option k) (value ∷ []) h) idle pos false
  unfolding walked
  valued_walk k value f e v = rw (no_sub, l.no_end, l.long, e, f, v) refl

  waiting_turn : (k : Known) → k.is_flag ≡ false → arg_by_long c (name_part part) ≡ Some (built_option k) → value_part part ≡ None
      → turn c (at h wait pos false) word ≡ settle_fault c false h
  waiting_turn k f e v = rw (no_sub, l.no_end, l.long, e, f, v) (nothing_after _)

  waiting_walk : (k : Known) → k.is_flag ≡ false → arg_by_long c (name_part part) ≡ Some (built_option k) → value_part part ≡ None
      → walked c [] (at h wait pos false) word ≡ at (record (settled c h) { pending = Some (k.name, []) }) (option k.name) pos false
  unfolding walked
  waiting_walk k f e v = rw (no_sub, l.no_end, l.long, e, f, v) refl

module _ (c : List Rule) (h : Held) (pos : ℕ) (word : Text) (l : LooksPlain word) where
  plain_turn : turn c (at h idle pos false) word ≡ option_map_or (λ a. positional_fault c false a h) (arg_by_index c pos) (UnknownArgument ∷ [])
  plain_turn = rw (l.no_end, l.no_long, l.no_short) refl

  plain_walk : walked c [] (at h idle pos false) word ≡ to_positional c (arg_by_index c pos) word (at h idle pos false) h
  unfolding walked
  plain_walk = rw (l.no_end, l.no_long, l.no_short) refl

  value_turn : (id : Text) → turn c (at h (option id) pos false) word ≡ []
  value_turn id = rw (l.no_end, l.no_long, l.no_short) refl

  value_walk : (k : Known) → k.is_flag ≡ false → arg_by_id c k.name ≡ Some (built_option k) → h.pending ≡ Some (k.name, [])
      → walked c [] (at h (option k.name) pos false) word ≡ at (record h { pending = Some (k.name, word ∷ []) }) idle pos false
  unfolding walked
  value_walk k f e p = rw (l.no_end, l.no_long, l.no_short, e, p, f, same_text) refl

trailing_turn : (c : List Rule) (h : Held) (wait : Waiting) (pos : ℕ) (word : Text)
    → turn c (at h wait pos true) word ≡ option_map_or (λ a. positional_fault c false a h) (arg_by_index c pos) (UnknownArgument ∷ [])
trailing_turn c h wait pos word = refl

trailing_walk : (c : List Rule) (h : Held) (wait : Waiting) (pos : ℕ) (word : Text)
    → walked c [] (at h wait pos true) word ≡ to_positional c (arg_by_index c pos) word (at h wait pos true) h
unfolding walked
trailing_walk c h wait pos word = refl

-- a word such as `-x`: no option has a short name
no_shorts : (t : List Known) (p : Bool) (x : ℕ) → arg_by_short (rules_for t p) x ≡ None
no_shorts [] true x = refl
no_shorts [] false x = refl
no_shorts (k ∷ t) p x = no_shorts t p x

unknown_short : (c : List Rule) (n : ℕ) (flags : Text) (x : ℕ) (h : Held) → slice_get (chars flags) 0 ≡ Some x → arg_by_short c x ≡ None → flags_fault c false (suc n) flags 0 h ≡ UnknownArgument ∷ []
unfolding flags_fault
unknown_short c n flags x h e none = rw (e, none) refl

short_turn : (t : List Known) (p : Bool) (h : Held) (wait : Waiting) (pos : ℕ) (word : Text) → h.skip ≡ 0 → IsUtf8 word → bytes_eq word (45 ∷ 45 ∷ []) ≡ false → LooksShort word
    → turn (rules_for t p) (at h wait pos false) word ≡ [] → ⊥
short_turn t p h wait pos word skip utf no_end l nothing =
    let char = has_char l.first l.rest (subst IsUtf8 l.is utf) in
    let flags : flags_fault (rules_for t p) false (length (l.first ∷ l.rest)) (l.first ∷ l.rest) 0 (record h { skip = 0 }) ≡ UnknownArgument ∷ [] = unknown_short (rules_for t p) (length l.rest) (l.first ∷ l.rest) char.0 (record h { skip = 0 }) char.1 (no_shorts t p char.0) in
    let first : flags_fault (rules_for t p) false (length (l.first ∷ l.rest)) (l.first ∷ l.rest) h.skip (record h { skip = 0 }) ≡ [] = none_first _ _ (rw (no_sub, no_end, l.long, l.short) at nothing) in
    let same : flags_fault (rules_for t p) false (length (l.first ∷ l.rest)) (l.first ∷ l.rest) 0 (record h { skip = 0 }) ≡ [] = rw skip at first in
    cc

-- ---- where a walk stands

module _ (t : List Known) (p : Bool) where
  abbrev c : List Rule
  c = rules_for t p

  -- clap doesn't understand the words; it stops at a word
  abbrev pub Refused : Walk → List Text → Type 0
  Refused w words = ends_in c w words ≡ [] → ⊥

  abbrev Stopped : Walk → Text → Type 0
  Stopped w word = turn c w word ≡ [] → ⊥

  -- what is pending doesn't pass
  abbrev Unsettled : Held → Type 0
  Unsettled h = settle_fault c false h ≡ [] → ⊥

  -- it does, and has the rows of these items, if each of them stands once
  abbrev pub Kept : Bool → Walk → List Text → List Item → Type 0
  Kept true w words items = (ends_in c w words ≡ []) × (end_rows c w words ≡ item_rows items)
  Kept false w words items = Refused w words

  -- clap makes of the words, behind the items so far, what our reading makes of them
  abbrev pub Agree : Walk → List Text → List Item → Items → Type 0
  Agree w words seen None = Refused w words
  Agree w words seen (Some items) = Kept (is_once seen items) w words (seen ++ items)

  -- nothing waits and what is pending passes: the rows are those of the items so far
  pub record IsReady (seen : List Item) (h : Held) : Type 0 where
    pub settles : settle_fault c false h ≡ []
    pub rows : (settled c h).rows ≡ item_rows seen
    pub skip : h.skip ≡ 0

  -- the next name goes to the program, or to nothing
  pub record IsPlace (pos : ℕ) (free : Bool) : Type 0 where
    pub at_place : arg_by_index c pos ≡ cond free (Some built_program) None
    pub first : free ≡ true → pos ≡ 1

  program_settles : (h : Held) → positional_fault c false built_program h ≡ settle_fault c false h
  program_settles h = rw and_false refl

  -- what doesn't settle is never understood: by no name
  name_fails : (h : Held) (a : Option Rule) (free : Bool) → a ≡ cond free (Some built_program) None → Unsettled h → option_map_or (λ a. positional_fault c false a h) a (UnknownArgument ∷ []) ≡ [] → ⊥
  name_fails h a true e bad none =
      let some : positional_fault c false built_program h ≡ [] = rw e at none in
      bad (sym (program_settles h) ∙ some)
  name_fails h a false e bad none =
      let some : UnknownArgument ∷ [] ≡ [] = rw e at none in
      cc

  stuck_trailing : (h : Held) (wait : Waiting) (pos : ℕ) (free : Bool) (words : List Text) → IsPlace pos free → Unsettled h → Refused (at h wait pos true) words
  stuck_trailing h wait pos free [] place bad nothing = bad (sym (no_words c (at h wait pos true)) ∙ nothing)
  stuck_trailing h wait pos free (word ∷ rest) place bad nothing =
      let first : turn c (at h wait pos true) word ≡ [] = none_first _ _ (sym (step_ends c (at h wait pos true) word rest) ∙ nothing) in
      name_fails h (arg_by_index c pos) free place.at_place bad (sym (trailing_turn c h wait pos word) ∙ first)

  -- a known option settles what is pending first
  long_stuck : (h : Held) (wait : Waiting) (pos : ℕ) (word part : Text) → LooksLong word part → Unsettled h → Stopped (at h wait pos false) word
  long_stuck h wait pos word part l bad nothing = go (known_by t (name_part part)) refl
    where
      known : (k : Known) (flag : Bool) (value : Option Text) → k.is_flag ≡ flag → arg_by_long c (name_part part) ≡ Some (built_option k) → value_part part ≡ value → ⊥
      known k true (Some v) f e v-is =
          let all : TooManyValues ∷ [] ≡ [] = sym (flag_value_turn c h wait pos word part l k v f e v-is) ∙ nothing in
          cc
      known k true None f e v-is = bad (none_first _ _ (sym (flag_turn c h wait pos word part l k f e v-is) ∙ nothing))
      known k false (Some v) f e v-is = bad (none_first _ _ (sym (valued_turn c h wait pos word part l k v f e v-is) ∙ nothing))
      known k false None f e v-is = bad (sym (waiting_turn c h wait pos word part l k f e v-is) ∙ nothing)

      go : (o : Option Known) → known_by t (name_part part) ≡ o → ⊥
      go None e =
          let none : arg_by_long c (name_part part) ≡ None = long_for t p (name_part part) ∙ ap (option_map built_option) e in
          let all : UnknownArgument ∷ [] ≡ [] = sym (unknown_turn c h wait pos word part l none) ∙ nothing in
          cc
      go (Some k) e = known k k.is_flag (value_part part) refl (long_for t p (name_part part) ∙ ap (option_map built_option) e) refl

  -- the shapes of a word
  pub data Form (word : Text) : Type 0 where
    ends : word ≡ 45 ∷ 45 ∷ [] → Form word
    long : (part : Text) → LooksLong word part → option_part word ≡ Some part → bytes_eq word (codes "--") ≡ false → Form word
    plain : LooksPlain word → is_plain word ≡ true → option_part word ≡ None → bytes_eq word (codes "--") ≡ false → Form word
    short : LooksShort word → is_plain word ≡ false → option_part word ≡ None → bytes_eq word (codes "--") ≡ false → Form word

  form_of : (word : Text) → Form word
  form_of word = go (bytes_eq word (codes "--")) (option_part word) (is_plain word) refl refl refl
    where
      go : (e : Bool) (o : Option Text) (q : Bool) → bytes_eq word (codes "--") ≡ e → option_part word ≡ o → is_plain word ≡ q → Form word
      go true o q e-is o-is q-is = ends ((bytes_eq-Decides word (codes "--")).0 e-is)
      go false (Some part) q e-is o-is q-is = long part (long_looks word part o-is) o-is e-is
      go false None true e-is o-is q-is = plain (plain_looks word q-is) q-is o-is e-is
      go false None false e-is o-is q-is = short (short_looks word q-is o-is e-is) q-is o-is e-is

  stuck_idle : (h : Held) (pos : ℕ) (free : Bool) (words : List Text) → h.skip ≡ 0 → IsPlace pos free → AreTexts words → Unsettled h → Refused (at h idle pos false) words
  stuck_idle h pos free [] skip place texts bad nothing = bad (sym (no_words c (at h idle pos false)) ∙ nothing)
  stuck_idle h pos free (word ∷ rest) skip place texts bad nothing =
      let whole : or_else (turn c (at h idle pos false) word) (ends_in c (walked c [] (at h idle pos false) word) rest) ≡ [] = sym (step_ends c (at h idle pos false) word rest) ∙ nothing in
      let first : turn c (at h idle pos false) word ≡ [] = none_first _ _ whole in
      let later : ends_in c (walked c [] (at h idle pos false) word) rest ≡ [] = none_next _ _ whole in
      elim (form_of word) [
        | ends is ↦
            let there : walked c [] (at h idle pos false) word ≡ at h idle pos true = ap (λ (x : Text). walked c [] (at h idle pos false) x) is ∙ end_walk c h idle pos in
            stuck_trailing h idle pos free rest place bad (rw there at later)
        | long part l o e ↦ long_stuck h idle pos word part l bad first
        | plain l q o e ↦ name_fails h (arg_by_index c pos) free place.at_place bad (sym (plain_turn c h pos word l) ∙ first)
        | short l q o e ↦ short_turn t p h idle pos word skip texts.0 e l first
      ]

  -- ---- agreement, item by item

  next_item : (w : Walk) (words : List Text) (seen : List Item) (i : Item) (rest : Items) → stands (key i) seen ≡ false → Agree w words (seen ++ i ∷ []) rest → Agree w words seen (with_item i rest)
  next_item w words seen i None fresh h = h
  next_item w words seen i (Some items) fresh h = rw (fresh, ← append_assoc seen (i ∷ []) items) h

  repeated_item : (w : Walk) (words : List Text) (seen : List Item) (i : Item) (rest : Items) → stands (key i) seen ≡ true → Refused w words → Agree w words seen (with_item i rest)
  repeated_item w words seen i None again h = h
  repeated_item w words seen i (Some items) again h = rw again h

  refused : (w : Walk) (words : List Text) (seen : List Item) (i : Items) → i ≡ None → Refused w words → Agree w words seen i
  refused w words seen i e h = rw e h

  read_as : (w : Walk) (words : List Text) (seen : List Item) (i j : Items) → i ≡ j → Agree w words seen j → Agree w words seen i
  read_as w words seen i j e h = subst (Agree w words seen) (sym e) h

  -- a turn that passes hands on to the rest
  turned : (w after : Walk) (word : Text) (rest : List Text) (seen : List Item) (i : Items) → turn c w word ≡ [] → walked c [] w word ≡ after
      → Agree after rest seen i → Agree w (word ∷ rest) seen i
  turned w after word rest seen i passes is h = go i h
    where
      kinds : ends_in c w (word ∷ rest) ≡ ends_in c after rest
      kinds = step_ends c w word rest ∙ (past _ _ passes ∙ ap (λ (x : Walk). ends_in c x rest) is)

      rows : end_rows c w (word ∷ rest) ≡ end_rows c after rest
      rows = ap (λ (x : Walk). end_rows c x rest) is

      kept : (b : Bool) (items : List Item) → Kept b after rest items → Kept b w (word ∷ rest) items
      kept true items h = (kinds ∙ h.0, rows ∙ h.1)
      kept false items h = λ nothing. h (sym kinds ∙ nothing)

      go : (i : Items) → Agree after rest seen i → Agree w (word ∷ rest) seen i
      go None h = λ nothing. h (sym kinds ∙ nothing)
      go (Some items) h = kept (is_once seen items) (seen ++ items) h

  stopped : (w : Walk) (word : Text) (rest : List Text) → Stopped w word → Refused w (word ∷ rest)
  stopped w word rest bad nothing = bad (none_first _ _ (sym (step_ends c w word rest) ∙ nothing))

  done : (w : Walk) (seen : List Item) → IsReady seen w.held → Agree w [] seen (Some [])
  done w seen ready = (no_words c w ∙ ready.settles, rw append-nil ready.rows)

  -- ---- names

  stands-after : (name : Text) (seen : List Item) (i : Item) → stands name (seen ++ i ∷ []) ≡ (stands name seen || bytes_eq (key i) name)
  stands-after name [] i = or_false (bytes_eq (key i) name)
  stands-after name (j ∷ seen) i = go (bytes_eq (key j) name) (stands-after name seen i)
    where
      go : (b : Bool) → stands name (seen ++ i ∷ []) ≡ (stands name seen || bytes_eq (key i) name) → (b || stands name (seen ++ i ∷ [])) ≡ ((b || stands name seen) || bytes_eq (key i) name)
      go true h = refl
      go false h = h

  abbrev is_free : List Item → Bool
  is_free seen = p && not (stands (codes "PROGRAM") seen)

  held_program : Held → Text → Held
  held_program h word = record (settled c h) { pending = Some (codes "PROGRAM", word ∷ []) }

  ready_program : (seen : List Item) (h : Held) (word : Text) → arg_by_id c (codes "PROGRAM") ≡ Some built_program → stands (codes "PROGRAM") seen ≡ false → IsReady seen h
      → IsReady (seen ++ named word ∷ []) (held_program h word)
  unfolding held_program
  ready_program seen h word id fresh ready = record {
    settles = rw (id, ready.rows) (program_fault word seen ∙ ap repeat_kinds fresh);
    rows = rw (id, ready.rows) (program_used word seen fresh);
    skip = ready.skip;
  }

  name_to_program : (word : Text) (h : Held) (wait : Waiting) (trailing : Bool) → to_positional c (Some built_program) word (at h wait 1 trailing) h ≡ at (held_program h word) idle 2 (trailing || false)
  unfolding held_program
  name_to_program word h wait trailing = rw and_false refl

  place_two : (free : Bool) → free ≡ false → IsPlace 2 free
  place_two free e = record { at_place = rw e (second_for t p); first = λ yes. absurd (true≢false (sym yes ∙ e)) }

  -- one option more leaves the program's place as it is
  still_free : (seen : List Item) (i : Item) → bytes_eq (key i) (codes "PROGRAM") ≡ false → is_free (seen ++ i ∷ []) ≡ is_free seen
  still_free seen i other = ap (λ (b : Bool). p && not b) (stands-after (codes "PROGRAM") seen i ∙ (ap (λ (b : Bool). stands (codes "PROGRAM") seen || b) other ∙ or_false (stands (codes "PROGRAM") seen)))

  taken_now : (seen : List Item) (word : Text) → is_free (seen ++ named word ∷ []) ≡ false
  taken_now seen word = rw (stands-after (codes "PROGRAM") seen (named word), or_true (stands (codes "PROGRAM") seen)) (and_false p)

  program_id : HasOwnName t → p ≡ true → arg_by_id c (codes "PROGRAM") ≡ Some built_program
  program_id own e = rw e (program_for t own)

  option_key : HasOwnName t → (name : Text) (k : Known) → known_by t name ≡ Some k → bytes_eq k.name (codes "PROGRAM") ≡ false
  option_key own name k found = go (bytes_eq k.name (codes "PROGRAM")) refl
    where
      go : (b : Bool) → bytes_eq k.name (codes "PROGRAM") ≡ b → b ≡ false
      go false e = refl
      go true e =
          let is : k.name ≡ codes "PROGRAM" = (bytes_eq-Decides k.name (codes "PROGRAM")).0 e in
          let same : k.name ≡ name = found_name t name k found in
          let bad : known_by t (codes "PROGRAM") ≡ Some k = ap (known_by t) (sym is ∙ same) ∙ found in
          let none : None ≡ Some k = sym own ∙ bad in
          cc

  -- a word that goes to the program
  name_step : HasOwnName t → (h : Held) (wait : Waiting) (pos : ℕ) (trailing : Bool) (word : Text) (rest : List Text) (seen : List Item) (next : Option Text → Items) → IsReady seen h → IsPlace pos (is_free seen)
      → turn c (at h wait pos trailing) word ≡ option_map_or (λ a. positional_fault c false a h) (arg_by_index c pos) (UnknownArgument ∷ [])
      → walked c [] (at h wait pos trailing) word ≡ to_positional c (arg_by_index c pos) word (at h wait pos trailing) h
      → (IsReady (seen ++ named word ∷ []) (held_program h word) → Agree (at (held_program h word) idle 2 (trailing || false)) rest (seen ++ named word ∷ []) (next None))
      → Agree (at h wait pos trailing) (word ∷ rest) seen (continued (name_says p word) next)
  name_step own h wait pos trailing word rest seen next ready place turn-is walk-is then = go p refl (stands (codes "PROGRAM") seen) refl
    where
      taken : is_free seen ≡ false → Stopped (at h wait pos trailing) word
      taken e nothing =
          let all : UnknownArgument ∷ [] ≡ [] = rw (turn-is, place.at_place, e) at nothing in
          cc

      go : (q : Bool) → p ≡ q → (s : Bool) → stands (codes "PROGRAM") seen ≡ s → Agree (at h wait pos trailing) (word ∷ rest) seen (continued (name_says p word) next)
      go false pe s se = refused (at h wait pos trailing) (word ∷ rest) seen (continued (name_says p word) next) (rw pe refl) (stopped (at h wait pos trailing) word rest (taken (rw pe refl)))
      go true pe true se =
          read_as (at h wait pos trailing) (word ∷ rest) seen _ (with_item (named word) (next None)) (ap (λ (q : Bool). continued (name_says q word) next) pe)
          (repeated_item (at h wait pos trailing) (word ∷ rest) seen (named word) (next None) se (stopped (at h wait pos trailing) word rest (taken (rw (se, pe) refl))))
      go true pe false se =
          let free : is_free seen ≡ true = rw (se, pe) refl in
          let there : arg_by_index c pos ≡ Some built_program = rw (place.at_place, free) refl in
          let one : pos ≡ 1 = place.first free in
          let passes : turn c (at h wait pos trailing) word ≡ [] = turn-is ∙ rw there (program_settles h ∙ ready.settles) in
          let goes : walked c [] (at h wait pos trailing) word ≡ at (held_program h word) idle 2 (trailing || false) = walk-is ∙ rw (there, one) (name_to_program word h wait trailing) in
          read_as (at h wait pos trailing) (word ∷ rest) seen _ (with_item (named word) (next None)) (ap (λ (q : Bool). continued (name_says q word) next) pe)
          (next_item (at h wait pos trailing) (word ∷ rest) seen (named word) (next None) se (turned _ _ word rest (seen ++ named word ∷ []) (next None) passes goes (then (ready_program seen h word (program_id own pe) se ready))))

  names_agree : HasOwnName t → (h : Held) (wait : Waiting) (pos : ℕ) (words : List Text) (seen : List Item) → IsReady seen h → IsPlace pos (is_free seen)
      → Agree (at h wait pos true) words seen (names_read p words)
  names_agree own h wait pos [] seen ready place = done (at h wait pos true) seen ready
  names_agree own h wait pos (word ∷ rest) seen ready place =
      name_step own h wait pos true word rest seen (λ waiting. names_read p rest) ready place (trailing_turn c h wait pos word) (trailing_walk c h wait pos word)
      (λ now. names_agree own (held_program h word) idle 2 rest (seen ++ named word ∷ []) now (place_two _ (taken_now seen word)))

  -- ---- the whole walk

  -- an option waits for its value
  pub record IsWaiting (name : Text) (seen : List Item) (h : Held) : Type 0 where
    pub known : Known
    pub named-so : known.name ≡ name
    pub found : arg_by_id c known.name ≡ Some (built_option known)
    pub takes-value : known.is_flag ≡ false
    pub other : bytes_eq known.name (codes "PROGRAM") ≡ false
    pub pending : h.pending ≡ Some (known.name, [])
    pub rows : h.rows ≡ item_rows seen
    pub skip : h.skip ≡ 0

  abbrev pub Stands : Option Text → List Item → Held → Type 0
  Stands None seen h = IsReady seen h
  Stands (Some name) seen h = IsWaiting name seen h

  abbrev pub waiting_for : Option Text → Waiting
  waiting_for None = idle
  waiting_for (Some name) = option name

  -- what holds of the words that follow
  abbrev Onward : List Text → Type 0
  Onward rest = (wait : Option Text) (h : Held) (pos : ℕ) (seen : List Item) → Stands wait seen h → IsPlace pos (is_free seen)
      → Agree (at h (waiting_for wait) pos false) rest seen (reading t p wait rest)

  -- a use that settles at once
  reacted_step : (h : Held) (pos : ℕ) (word : Text) (rest : List Text) (seen : List Item) (a : Rule) (values : List Text) (i : Item) → AreTexts rest → IsReady seen h → IsPlace pos (is_free seen) → Onward rest
      → bytes_eq (key i) (codes "PROGRAM") ≡ false
      → turn c (at h idle pos false) word ≡ react_fault c false a values h
      → walked c [] (at h idle pos false) word ≡ at (reacted c a values h) idle pos false
      → use_fault false a values (item_rows seen) ≡ repeat_kinds (stands (key i) seen)
      → (stands (key i) seen ≡ false → used a values (item_rows seen) ≡ item_rows (seen ++ i ∷ []))
      → Agree (at h idle pos false) (word ∷ rest) seen (with_item i (reading t p None rest))
  reacted_step h pos word rest seen a values i texts ready place onward other turn-is walk-is fault-is used-is = go (stands (key i) seen) refl
    where
      kinds : react_fault c false a values h ≡ repeat_kinds (stands (key i) seen)
      kinds = past _ _ ready.settles ∙ (ap (use_fault false a values) ready.rows ∙ fault-is)

      go : (b : Bool) → stands (key i) seen ≡ b → Agree (at h idle pos false) (word ∷ rest) seen (with_item i (reading t p None rest))
      go true e = repeated_item (at h idle pos false) (word ∷ rest) seen i (reading t p None rest) e (stopped (at h idle pos false) word rest (λ nothing. let all : ArgumentConflict ∷ [] ≡ [] = sym (turn-is ∙ (kinds ∙ ap repeat_kinds e)) ∙ nothing in cc))
      go false e =
          let passes : turn c (at h idle pos false) word ≡ [] = turn-is ∙ (kinds ∙ ap repeat_kinds e) in
          let rows : used a values (settled c h).rows ≡ item_rows (seen ++ i ∷ []) = ap (used a values) ready.rows ∙ used-is e in
          next_item (at h idle pos false) (word ∷ rest) seen i (reading t p None rest) e (turned _ _ word rest (seen ++ i ∷ []) (reading t p None rest) passes walk-is
          (onward None (reacted c a values h) pos (seen ++ i ∷ []) (record { settles = refl; rows = rows; skip = ready.skip }) (rw (still_free seen i other) place)))

  read_long : (word part : Text) (rest : List Text) → bytes_eq word (codes "--") ≡ false → option_part word ≡ Some part
      → reading t p None (word ∷ rest) ≡ continued (option_says (known_by t (name_part part)) (value_part part)) (λ waiting. reading t p waiting rest)
  unfolding reading
  read_long word part rest e o = rw (e, o) refl

  read_plain : (word : Text) (rest : List Text) → bytes_eq word (codes "--") ≡ false → option_part word ≡ None → is_plain word ≡ true → reading t p None (word ∷ rest) ≡ continued (name_says p word) (λ waiting. reading t p waiting rest)
  unfolding reading
  read_plain word rest e o q = rw (e, o, q) refl

  read_short : (word : Text) (rest : List Text) → bytes_eq word (codes "--") ≡ false → option_part word ≡ None → is_plain word ≡ false → reading t p None (word ∷ rest) ≡ None
  unfolding reading
  read_short word rest e o q = rw (e, o, q) refl

  read_end : (word : Text) (rest : List Text) → word ≡ 45 ∷ 45 ∷ [] → reading t p None (word ∷ rest) ≡ names_read p rest
  unfolding reading
  read_end word rest is = rw is refl

  long_step : HasOwnName t → (h : Held) (pos : ℕ) (word part : Text) (rest : List Text) (seen : List Item) → AreTexts rest → IsReady seen h → IsPlace pos (is_free seen) → Onward rest → LooksLong word part
      → Agree (at h idle pos false) (word ∷ rest) seen (continued (option_says (known_by t (name_part part)) (value_part part)) (λ waiting. reading t p waiting rest))
  long_step own h pos word part rest seen texts ready place onward l = go (known_by t (name_part part)) refl
    where
      known : (k : Known) (flag : Bool) (value : Option Text) → k.is_flag ≡ flag → known_by t (name_part part) ≡ Some k → arg_by_long c (name_part part) ≡ Some (built_option k) → value_part part ≡ value
          → Agree (at h idle pos false) (word ∷ rest) seen (continued (option_says (Some k) value) (λ waiting. reading t p waiting rest))
      known k true (Some v) f found e v-is = refused (at h idle pos false) (word ∷ rest) seen _ (rw f refl) (stopped (at h idle pos false) word rest (λ nothing.
          let all : TooManyValues ∷ [] ≡ [] = sym (flag_value_turn c h idle pos word part l k v f e v-is) ∙ nothing in cc))
      known k true None f found e v-is = rw f (reacted_step h pos word rest seen (built_option k) [] (flagged k.name) texts ready place onward (option_key own (name_part part) k found)
          (flag_turn c h idle pos word part l k f e v-is) (flag_walk c h idle pos word part l k f e v-is) (flag_fault k seen f) (flag_used k seen f))
      known k false (Some v) f found e v-is = rw f (reacted_step h pos word rest seen (built_option k) (v ∷ []) (valued k.name v) texts ready place onward (option_key own (name_part part) k found)
          (valued_turn c h idle pos word part l k v f e v-is) (valued_walk c h idle pos word part l k v f e v-is) (valued_fault k v seen f) (valued_used k v seen f))
      known k false None f found e v-is =
          let same : k.name ≡ name_part part = found_name t (name_part part) k found in
          let by_id : arg_by_id c k.name ≡ Some (built_option k) = id_for t p k.name k (ap (known_by t) same ∙ found) in
          rw f (turned _ _ word rest seen (reading t p (Some k.name) rest) (waiting_turn c h idle pos word part l k f e v-is ∙ ready.settles) (waiting_walk c h idle pos word part l k f e v-is)
          (onward (Some k.name) (record (settled c h) { pending = Some (k.name, []) }) pos seen (record {
            known = k;
            named-so = refl;
            found = by_id;
            takes-value = f;
            other = option_key own (name_part part) k found;
            pending = refl;
            rows = ready.rows;
            skip = ready.skip;
          }) place))

      go : (o : Option Known) → known_by t (name_part part) ≡ o
          → Agree (at h idle pos false) (word ∷ rest) seen (continued (option_says o (value_part part)) (λ waiting. reading t p waiting rest))
      go None e = stopped (at h idle pos false) word rest (λ nothing.
          let none : arg_by_long c (name_part part) ≡ None = long_for t p (name_part part) ∙ ap (option_map built_option) e in
          let all : UnknownArgument ∷ [] ≡ [] = sym (unknown_turn c h idle pos word part l none) ∙ nothing in cc)
      go (Some k) e = known k k.is_flag (value_part part) refl e (long_for t p (name_part part) ∙ ap (option_map built_option) e) refl

  idle_step : HasOwnName t → (h : Held) (pos : ℕ) (word : Text) (rest : List Text) (seen : List Item) → AreTexts (word ∷ rest) → IsReady seen h → IsPlace pos (is_free seen) → Onward rest
      → Agree (at h idle pos false) (word ∷ rest) seen (reading t p None (word ∷ rest))
  idle_step own h pos word rest seen texts ready place onward = elim (form_of word) [
    | ends is ↦ read_as (at h idle pos false) (word ∷ rest) seen _ (names_read p rest) (read_end word rest is) (turned _ _ word rest seen (names_read p rest) (ap (λ (x : Text). turn c (at h idle pos false) x) is ∙ end_turn c h idle pos)
        (ap (λ (x : Text). walked c [] (at h idle pos false) x) is ∙ end_walk c h idle pos) (names_agree own h idle pos rest seen ready place))
    | long part l o e ↦ read_as (at h idle pos false) (word ∷ rest) seen _ (continued (option_says (known_by t (name_part part)) (value_part part)) (λ waiting. reading t p waiting rest)) (read_long word part rest e o) (long_step own h pos word part rest seen texts.1 ready place onward l)
    | plain l q o e ↦ read_as (at h idle pos false) (word ∷ rest) seen _ (continued (name_says p word) (λ waiting. reading t p waiting rest)) (read_plain word rest e o q) (name_step own h idle pos false word rest seen (λ waiting. reading t p waiting rest) ready place (plain_turn c h pos word l) (plain_walk c h pos word l)
        (λ now. onward None (held_program h word) 2 (seen ++ named word ∷ []) now (place_two _ (taken_now seen word))))
    | short l q o e ↦ refused (at h idle pos false) (word ∷ rest) seen (reading t p None (word ∷ rest)) (read_short word rest e o q) (stopped (at h idle pos false) word rest (short_turn t p h idle pos word ready.skip texts.0 e l))
  ]

  no_value : (name : Text) (h : Held) (seen : List Item) → IsWaiting name seen h → Unsettled h
  no_value name h seen wait nothing =
      missing_fault wait.known h.rows wait.takes-value (rw (wait.pending, wait.found) at nothing)

  read_value : (name word : Text) (rest : List Text) (q : Bool) → is_plain word ≡ q → reading t p (Some name) (word ∷ rest) ≡ cond q (with_item (valued name word) (reading t p None rest)) None
  unfolding reading
  read_value name word rest true e = rw e refl
  read_value name word rest false e = rw e refl

  -- the value of the option that waits
  value_step : (name : Text) (h : Held) (pos : ℕ) (word : Text) (rest : List Text) (seen : List Item) → AreTexts rest → IsWaiting name seen h → IsPlace pos (is_free seen) → Onward rest → LooksPlain word
      → Agree (at h (option name) pos false) (word ∷ rest) seen (with_item (valued name word) (reading t p None rest))
  value_step name h pos word rest seen texts wait place onward l = go (stands name seen) refl
    where
      k : Known
      k = wait.known

      after : Held
      after = record h { pending = Some (k.name, word ∷ []) }

      walk-is : walked c [] (at h (option name) pos false) word ≡ at after idle pos false
      walk-is = ap (λ (n : Text). walked c [] (at h (option n) pos false) word) (sym wait.named-so) ∙ value_walk c h pos word l k wait.takes-value wait.found wait.pending

      settle-is : settle_fault c false after ≡ repeat_kinds (stands name seen)
      settle-is = rw (wait.found, wait.rows) (valued_fault k word seen wait.takes-value ∙ ap (λ (n : Text). repeat_kinds (stands n seen)) wait.named-so)

      go : (b : Bool) → stands name seen ≡ b → Agree (at h (option name) pos false) (word ∷ rest) seen (with_item (valued name word) (reading t p None rest))
      go true e = repeated_item (at h (option name) pos false) (word ∷ rest) seen (valued name word) (reading t p None rest) e (λ nothing.
          let later : ends_in c (walked c [] (at h (option name) pos false) word) rest ≡ [] = none_next (turn c (at h (option name) pos false) word) (ends_in c (walked c [] (at h (option name) pos false) word) rest) (sym (step_ends c (at h (option name) pos false) word rest) ∙ nothing) in
          stuck_idle after pos (is_free seen) rest wait.skip place texts (λ none. let all : ArgumentConflict ∷ [] ≡ [] = sym (settle-is ∙ ap repeat_kinds e) ∙ none in cc) (subst (λ (w : Walk). ends_in c w rest ≡ []) walk-is later))
      go false e =
          let fresh : stands k.name seen ≡ false = ap (λ (n : Text). stands n seen) wait.named-so ∙ e in
          let rows : (settled c after).rows ≡ item_rows (seen ++ valued name word ∷ []) = rw (wait.found, wait.rows) (valued_used k word seen wait.takes-value fresh ∙ ap (λ (n : Text). item_rows (seen ++ valued n word ∷ [])) wait.named-so) in
          let other : bytes_eq name (codes "PROGRAM") ≡ false = rw wait.named-so at wait.other in
          next_item (at h (option name) pos false) (word ∷ rest) seen (valued name word) (reading t p None rest) e (turned _ _ word rest (seen ++ valued name word ∷ []) (reading t p None rest) (value_turn c h pos word l name) walk-is
          (onward None after pos (seen ++ valued name word ∷ []) (record { settles = settle-is ∙ ap repeat_kinds e; rows = rows; skip = wait.skip }) (rw (still_free seen (valued name word) other) place)))

  waiting_step : (name : Text) (h : Held) (pos : ℕ) (word : Text) (rest : List Text) (seen : List Item) → AreTexts (word ∷ rest) → IsWaiting name seen h → IsPlace pos (is_free seen) → Onward rest
      → Agree (at h (option name) pos false) (word ∷ rest) seen (reading t p (Some name) (word ∷ rest))
  waiting_step name h pos word rest seen texts wait place onward = elim (form_of word) [
    | ends is ↦ no (rw is refl) (λ nothing.
        let later : ends_in c (walked c [] (at h (option name) pos false) word) rest ≡ [] = none_next _ _ (sym (step_ends c (at h (option name) pos false) word rest) ∙ nothing) in
        let there : walked c [] (at h (option name) pos false) word ≡ at h (option name) pos true = ap (λ (x : Text). walked c [] (at h (option name) pos false) x) is ∙ end_walk c h (option name) pos in
        stuck_trailing h (option name) pos (is_free seen) rest place (no_value name h seen wait) (rw there at later))
    | long part l o e ↦ no (long_not_plain word part o) (stopped (at h (option name) pos false) word rest (long_stuck h (option name) pos word part l (no_value name h seen wait)))
    | plain l q o e ↦ read_as (at h (option name) pos false) (word ∷ rest) seen _ (with_item (valued name word) (reading t p None rest)) (read_value name word rest true q)
        (value_step name h pos word rest seen texts.1 wait place onward l)
    | short l q o e ↦ no q (stopped (at h (option name) pos false) word rest (short_turn t p h (option name) pos word wait.skip texts.0 e l))
  ]
    where
      no : is_plain word ≡ false → (Refused (at h (option name) pos false) (word ∷ rest))
          → Agree (at h (option name) pos false) (word ∷ rest) seen (reading t p (Some name) (word ∷ rest))
      no q bad = refused (at h (option name) pos false) (word ∷ rest) seen _ (read_value name word rest false q) bad

  pub agree : HasOwnName t → (wait : Option Text) (h : Held) (pos : ℕ) (words : List Text) (seen : List Item) → AreTexts words → Stands wait seen h → IsPlace pos (is_free seen)
      → Agree (at h (waiting_for wait) pos false) words seen (reading t p wait words)
  unfolding reading
  agree own None h pos [] seen texts ready place = done (at h idle pos false) seen ready
  agree own (Some name) h pos [] seen texts ready place = λ nothing. no_value name h seen ready (sym (no_words c (at h (option name) pos false)) ∙ nothing)
  agree own None h pos (word ∷ rest) seen texts ready place =
      idle_step own h pos word rest seen texts ready place (λ wait h2 pos2 seen2 stands2 place2. agree own wait h2 pos2 rest seen2 texts.1 stands2 place2)
  agree own (Some name) h pos (word ∷ rest) seen texts ready place =
      waiting_step name h pos word rest seen texts ready place (λ wait h2 pos2 seen2 stands2 place2. agree own wait h2 pos2 rest seen2 texts.1 stands2 place2)
