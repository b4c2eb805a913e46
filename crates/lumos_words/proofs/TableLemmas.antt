-- What clap builds of a table.
use Rattle.std.proofs.Common.{◌≡◌, ℕ, Bool, true, false, refl, ap, List, [], ◌∷◌, ◌++◌, map, Some, None, codes, option_map, cond}
use Rattle.std.proofs.lemmas.Slice.Eq.{bytes_eq-Decides}
use Rattle.std.specs.List.{list_any, list_all}
use Rattle.std.specs.Str.{bytes_eq}
use Rattle.clap.specs.Walk.{Rule, Text, arg_by_id, arg_by_index, arg_by_long, is_early_multiple}
use Rattle.clap.specs.Simple.{Shape, filled, filled_from, new_shape, built, with_index}
use Rattle.clap.specs.Faults.{is_simple_and_free}
use Rattle.lumos_words.specs.Options.{Known}
use Rattle.lumos_words.specs.Words.{known_by}
use Rattle.lumos_words.specs.Matches.{app_for, option_rule, program_rule, program_rules}

abbrev pub built_option : Known → Rule
built_option known = filled (option_rule known)

abbrev pub built_program : Rule
built_program = with_index 1 (filled program_rule)

abbrev pub built_programs : Bool → List Rule
built_programs true = built_program ∷ []
built_programs false = []

abbrev pub rules_for : List Known → Bool → List Rule
rules_for table has_program = map built_option table ++ built_programs has_program

-- the command as it is built
abbrev pub shape_for : List Rule → Shape
shape_for rules = record (new_shape (codes "lumos")) { rules = rules; disable_help_flag = true; disable_help_subcommand = true; is_built = true }

filled_table : (table : List Known) (p : Bool) → filled_from 1 (map option_rule table ++ program_rules p) ≡ rules_for table p
filled_table [] true = refl
filled_table [] false = refl
filled_table (k ∷ table) p = ap (λ (l : List Rule). built_option k ∷ l) (filled_table table p)

pub built_table : (table : List Known) (p : Bool) → (built (app_for table p)).top ≡ shape_for (rules_for table p)
built_table table p = ap shape_for (filled_table table p)

pub built_leaf : (table : List Known) (p : Bool) → (built (app_for table p)).subs ≡ []
built_leaf table p = refl

pub long_for : (table : List Known) (p : Bool) (name : Text) → arg_by_long (rules_for table p) name ≡ option_map built_option (known_by table name)
long_for [] true name = refl
long_for [] false name = refl
long_for (k ∷ table) p name = go (bytes_eq k.name name) refl (long_for table p name)
  where
    go : (b : Bool) → bytes_eq k.name name ≡ b → arg_by_long (rules_for table p) name ≡ option_map built_option (known_by table name)
        → arg_by_long (rules_for (k ∷ table) p) name ≡ option_map built_option (known_by (k ∷ table) name)
    go true e rest = rw e refl
    go false e rest = rw e rest

pub id_for : (table : List Known) (p : Bool) (name : Text) (k : Known) → known_by table name ≡ Some k → arg_by_id (rules_for table p) name ≡ Some (built_option k)
id_for [] p name k h = cc
id_for (j ∷ table) p name k h = go (bytes_eq j.name name) refl (id_for table p name k)
  where
    go : (b : Bool) → bytes_eq j.name name ≡ b → (known_by table name ≡ Some k → arg_by_id (rules_for table p) name ≡ Some (built_option k))
        → arg_by_id (rules_for (j ∷ table) p) name ≡ Some (built_option k)
    go true e rest =
        let first : Some j ≡ Some k = rw e at h in
        let same : j ≡ k = cc in
        rw (e, same) refl
    go false e rest =
        let later : known_by table name ≡ Some k = rw e at h in
        rw e (rest later)

-- the name that was found is the name that was sought
pub found_name : (table : List Known) (name : Text) (k : Known) → known_by table name ≡ Some k → k.name ≡ name
found_name [] name k h = cc
found_name (j ∷ table) name k h = go (bytes_eq j.name name) refl (found_name table name k)
  where
    go : (b : Bool) → bytes_eq j.name name ≡ b → (known_by table name ≡ Some k → k.name ≡ name) → k.name ≡ name
    go true e rest =
        let first : Some j ≡ Some k = rw e at h in
        let same : j ≡ k = cc in
        let named : j.name ≡ name = (bytes_eq-Decides j.name name).0 e in
        cc
    go false e rest =
        let later : known_by table name ≡ Some k = rw e at h in
        rest later

-- no option has the program's id
pub program_for : (table : List Known) → known_by table (codes "PROGRAM") ≡ None → arg_by_id (rules_for table true) (codes "PROGRAM") ≡ Some built_program
program_for [] h = refl
program_for (j ∷ table) h = go (bytes_eq j.name (codes "PROGRAM")) refl (program_for table)
  where
    go : (b : Bool) → bytes_eq j.name (codes "PROGRAM") ≡ b → (known_by table (codes "PROGRAM") ≡ None → arg_by_id (rules_for table true) (codes "PROGRAM") ≡ Some built_program)
        → arg_by_id (rules_for (j ∷ table) true) (codes "PROGRAM") ≡ Some built_program
    go true e rest =
        let bad : Some j ≡ None = rw e at h in
        cc
    go false e rest =
        let later : known_by table (codes "PROGRAM") ≡ None = rw e at h in
        rw e (rest later)

pub first_for : (table : List Known) (p : Bool) → arg_by_index (rules_for table p) 1 ≡ cond p (Some built_program) None
first_for [] true = refl
first_for [] false = refl
first_for (k ∷ table) p = first_for table p

pub second_for : (table : List Known) (p : Bool) → arg_by_index (rules_for table p) 2 ≡ None
second_for [] true = refl
second_for [] false = refl
second_for (k ∷ table) p = second_for table p

each_simple : (table : List Known) (p : Bool) → list_all (λ a. a.is_simple) (map option_rule table ++ program_rules p) ≡ true
each_simple [] true = refl
each_simple [] false = refl
each_simple (k ∷ table) p = each_simple table p

built_simple : (table : List Known) (p : Bool) → list_all (λ a. a.is_simple) (rules_for table p) ≡ true
built_simple [] true = refl
built_simple [] false = refl
built_simple (k ∷ table) p = built_simple table p

built_free : (table : List Known) (p : Bool) → list_all (λ a. a.is_free) (rules_for table p) ≡ true
built_free [] true = refl
built_free [] false = refl
built_free (k ∷ table) p = built_free table p

in_order : (n : ℕ) (table : List Known) (p : Bool) → list_any (is_early_multiple n) (rules_for table p) ≡ false
in_order n [] true = refl
in_order n [] false = refl
in_order n (k ∷ table) p = in_order n table p

-- nothing in the table keeps clap from saying what it makes of the words
pub simple_for : (table : List Known) (p : Bool) → is_simple_and_free (app_for table p) ≡ true
simple_for table p = rw (filled_table, each_simple, built_simple, built_free, in_order) refl
