-- The head of a Meta, by what is read of it.
use Rattle.std.proofs.Common.{◌≡◌, ℕ, ◌<◌, ◌≤◌, true, false, nat_eq, nat_lt, List, length, Err, refl, sym, ap₂, arith}
use Rattle.std.specs.List.{starts_with}
use Rattle.std.proofs.lemmas.Bool.Decides.{nat_tests}
use Rattle.lumos_depot.specs.Files.{range_at}
use Rattle.lumos_depot.specs.declared.depot.FileKind.TheVariants.{Meta}
use Rattle.grid_format.specs.Checks.{fields_of, judged}
use Rattle.grid_format.specs.Heads.{head_at, magic, number_at}
use Rattle.grid_format.specs.declared.head.GridFault.TheVariants.{NotAGrid, BadLength}
use Rattle.grid_format.proofs.NumberLemmas.{length-magic, number_in_range, starts_with-short, starts_with-take}

pub begins_range : (meta : List ℕ) → starts_with nat_eq (range_at 0 8 meta) magic ≡ starts_with nat_eq meta magic
begins_range meta = starts_with-take 8 meta magic (omega (arith, length-magic))

pub head_in_range : (meta : List ℕ) → head_at 0 (range_at 8 24 meta) ≡ head_at 8 meta
head_in_range meta =
    let version = number_in_range 4 0 8 24 meta (omega arith) in
    let parts = number_in_range 4 4 8 24 meta (omega arith) in
    let vertices = number_in_range 4 8 8 24 meta (omega arith) in
    let edges = number_in_range 8 16 8 24 meta (omega arith) in
    λ i. record { version = version i; parts = parts i; vertices = vertices i; edges = edges i }

pub fields_few : (meta : List ℕ) → length meta < 8 → fields_of meta ≡ Err NotAGrid
fields_few meta few = rw (starts_with-short meta magic (omega (arith, length-magic))) refl

pub fields_other : (meta : List ℕ) → starts_with nat_eq meta magic ≡ false → fields_of meta ≡ Err NotAGrid
fields_other meta begins = rw begins refl

pub fields_short : (meta : List ℕ) → starts_with nat_eq meta magic ≡ true → length meta < 32 → fields_of meta ≡ Err (BadLength Meta 32 (length meta))
fields_short meta begins short =
    let test : nat_lt (length meta) 32 ≡ true = grind (arith, nat_tests) in rw (begins, test) refl

pub fields_whole : (meta : List ℕ) → starts_with nat_eq meta magic ≡ true → 32 ≤ length meta → fields_of meta ≡ judged (head_at 0 (range_at 8 24 meta)) (number_at 4 12 (range_at 8 24 meta))
fields_whole meta begins long =
    let test : nat_lt (length meta) 32 ≡ false = grind (arith, nat_tests) in
    rw (begins, test) (ap₂ judged (sym (head_in_range meta)) (sym (number_in_range 4 12 8 24 meta (omega arith))))
