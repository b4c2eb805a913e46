-- Vertices from which classes spread.
use Rattle.std.specs.Prelude.{◌==◌, ℕ, if◌then◌else◌, nat_lt, List, [], ◌∷◌, length, Option, Some, None}
use Rattle.std.specs.Option.{is_some}
use Rattle.programs.specs.declared.seeds.Seed.{Seed}
use Rattle.programs.specs.declared.seeds.SeedFault.{SeedFault}
use Rattle.programs.specs.declared.seeds.SeedFault.TheVariants.{BadClass, Repeated, Full}

-- the class of a vertex, where it is a seed
abbrev pub class_of : List Seed → ℕ → Option ℕ
class_of [] v = None
class_of (seed ∷ seeds) v = if seed.vertex == v then Some seed.class else class_of seeds v

-- the first reason for which these seeds don't take another one, if there is any
abbrev pub seed_refusal : List Seed → Seed → Option SeedFault
seed_refusal seeds seed =
    if nat_lt 3 seed.class then Some BadClass
    else if is_some (class_of seeds seed.vertex) then Some Repeated
    else if nat_lt 63 (length seeds) then Some Full
    else None
