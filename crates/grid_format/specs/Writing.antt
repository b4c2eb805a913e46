-- A Meta that is being written: its first eight bytes come last.
use Rattle.std.specs.Prelude.{◌≡◌, ◌⊎◌, ℕ, false, nat_eq, List, ◌++◌, replicate, Option, None, MatchOption, IfSome}
use Rattle.std.specs.List.{flat_map, starts_with}
use Rattle.std.specs.Option.{option_map}
use Rattle.lumos_depot.specs.Files.{overwritten}
use Rattle.grid_format.specs.Heads.{field, head_fields, magic}
use Rattle.grid_format.specs.declared.head.GridInfo.{GridInfo}

-- Meta with zero bytes for the magic, with so many counts, and `left` zero bytes for the others
abbrev pub unfinished : GridInfo → List ℕ → ℕ → List ℕ
unfinished info counts left = (replicate 8 0 ++ head_fields info) ++ flat_map (field 8) counts ++ replicate left 0

-- where a Meta is told it has these bytes
abbrev pub IsMeta : Option (List ℕ) → List ℕ → Type 0
IsMeta told bytes = told ≡ option_map (λ _. bytes) told

-- what is told isn't a grid's Meta: it doesn't begin as one
abbrev pub Unmarked : Option (List ℕ) → Type 0
Unmarked told = IfSome told (λ meta. starts_with nat_eq meta magic ≡ false)

-- A write of the magic failed: Meta doesn't begin with it, or it was written whole.
abbrev pub MarkedWhole : Option (List ℕ) → Option (List ℕ) → Type 0
MarkedWhole old new = MatchOption old (new ≡ None) (λ file.
    IfSome new (λ meta. (starts_with nat_eq meta magic ≡ false) ⊎ (meta ≡ overwritten 0 magic file)))
