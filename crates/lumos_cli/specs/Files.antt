-- The files of a directory: what is counted for each, how often one failed, and the path that is attached.
use Rattle.std.specs.Prelude.{ℕ, List, ◌++◌, Option, codes, slice_index}
use Rattle.lumos_depot.specs.MemoryDepot.{file_number}
use Rattle.lumos_depot.specs.declared.depot.FileKind.{FileKind}
use Rattle.lumos_top.specs.Stops.{file_text}

pub record FilesView : Type 0 where
  pub taken : List ℕ
  pub stored : List ℕ
  pub faults : ℕ
  pub path : Option (List ℕ)

-- how many bytes were read from a file
abbrev pub taken_from : FilesView → FileKind → ℕ
taken_from depot kind = slice_index depot.taken (file_number kind)

-- how many bytes were written into a file
abbrev pub stored_into : FilesView → FileKind → ℕ
stored_into depot kind = slice_index depot.stored (file_number kind)

-- the name of a file in its directory
abbrev pub file_name : FileKind → List ℕ
file_name kind = codes "lumos." ++ file_text kind
