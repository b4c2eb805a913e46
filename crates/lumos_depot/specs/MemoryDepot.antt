-- A depot in memory: what it holds, and what a call does.
use Rattle.std.specs.Prelude.{ℕ, Bool, List, [], Option, Some, slice_index, slice_index_or, slice_set, if◌then◌else◌}
use Rattle.lumos_depot.specs.Files.{raised}
use Rattle.lumos_depot.specs.Memory.{call_fails, one_more}
use Rattle.lumos_depot.specs.declared.depot.FileKind.{FileKind}
use Rattle.lumos_depot.specs.declared.depot.FileKind.TheVariants.{Meta, Primary, Secondary, Info, Values, Sums, Spool}

-- the number of a kind, by which files and counters are kept
abbrev pub file_number : FileKind → ℕ
file_number Meta = 0
file_number Primary = 1
file_number Secondary = 2
file_number Info = 3
file_number Values = 4
file_number Sums = 5
file_number Spool = 6

pub record DepotState : Type 0 where
  pub files : List (List ℕ)
  pub taken : List ℕ
  pub stored : List ℕ
  pub fails : List ℕ
  pub calls : ℕ
  pub faults : ℕ
  pub path : Option (List ℕ)

-- what a file holds
abbrev pub file_of : DepotState → FileKind → List ℕ
file_of depot kind = slice_index_or depot.files (file_number kind) []

-- the same, as a depot that tells
abbrev pub told_of : DepotState → FileKind → Option (List ℕ)
told_of depot kind = Some (file_of depot kind)

-- how many bytes were read from a file
abbrev pub taken_of : DepotState → FileKind → ℕ
taken_of depot kind = slice_index depot.taken (file_number kind)

-- how many bytes were written into a file
abbrev pub stored_of : DepotState → FileKind → ℕ
stored_of depot kind = slice_index depot.stored (file_number kind)

-- the next call is among those that fail
abbrev pub next_fails : DepotState → Bool
next_fails depot = call_fails depot.fails depot.calls

-- the depot after a call that did nothing but count itself, and its fault where it is one that fails
abbrev pub counted : DepotState → DepotState
counted depot = record depot { calls = one_more depot.calls; faults = if next_fails depot then one_more depot.faults else depot.faults }

-- the depot with another file in a file's place
abbrev pub with_file : DepotState → FileKind → List ℕ → DepotState
with_file depot kind file = record depot { files = slice_set depot.files (file_number kind) file }

-- the depot after n more bytes were read from a file
abbrev pub with_taken : DepotState → FileKind → ℕ → DepotState
with_taken depot kind n = record depot { taken = slice_set depot.taken (file_number kind) (raised (taken_of depot kind) n) }

-- the depot after n more bytes were written into a file
abbrev pub with_stored : DepotState → FileKind → ℕ → DepotState
with_stored depot kind n = record depot { stored = slice_set depot.stored (file_number kind) (raised (stored_of depot kind) n) }
