-- The checks of a grid's head, in their order, as functions of whole files.
use Rattle.std.specs.Prelude.{◌==◌, ◌||◌, ℕ, ◌+◌, ◌*◌, not, nat_eq, nat_lt, List, [], ◌∷◌, length, Result, Ok, Err, if◌then◌else◌}
use Rattle.std.specs.List.{starts_with}
use Rattle.lumos_depot.specs.declared.depot.FileKind.{FileKind}
use Rattle.lumos_depot.specs.declared.depot.FileKind.TheVariants.{Meta, Primary, Secondary, Info}
use Rattle.grid_format.specs.Heads.{counts_of, head_at, magic, meta_length, number_at}
use Rattle.grid_format.specs.Tables.{BlockCounts, low_edges}
use Rattle.grid_format.specs.declared.head.GridInfo.{GridInfo}
use Rattle.grid_format.specs.declared.head.GridFault.{GridFault}
use Rattle.grid_format.specs.declared.head.GridFault.TheVariants.{NotAGrid, WrongVersion, BadLength, BadMeta}
use Rattle.grid_format.specs.declared.counts.Mismatch.{Mismatch}

-- the bytes of the four files of a grid
pub record GridFiles : Type 0 where
  pub meta : List ℕ
  pub primary : List ℕ
  pub secondary : List ℕ
  pub info : List ℕ

-- the next check, where the one before found no fault
infixl 10 ◌>>=◌
abbrev pub ◌>>=◌ : {A B E : Type 0} → Result A E → (A → Result B E) → Result B E
(Ok x) >>= next = next x
(Err fault) >>= next = Err fault

-- the numbers of a head, and the word at place 20, judged in the order of their places
abbrev pub judged : GridInfo → ℕ → Result GridInfo GridFault
judged info word =
    if not (info.version == 1) then Err (WrongVersion info.version)
    else if (info.parts == 0) || nat_lt 256 info.parts then Err (BadMeta 12 info.parts)
    else if nat_lt 268435456 info.vertices then Err (BadMeta 16 info.vertices)
    else if not (word == 0) then Err (BadMeta 20 word)
    else if nat_lt 2147483648 info.edges then Err (BadMeta 24 info.edges)
    else Ok info

-- the head of a Meta, or its first fault: the magic, the length of the head, its numbers
abbrev pub fields_of : List ℕ → Result GridInfo GridFault
fields_of meta =
    if not (starts_with nat_eq meta magic) then Err NotAGrid
    else if nat_lt (length meta) 32 then Err (BadLength Meta 32 (length meta))
    else judged (head_at 8 meta) (number_at 4 20 meta)

-- a file has the length that is wanted
abbrev pub sized : FileKind → ℕ → ℕ → Result (Unit {0}) GridFault
sized kind want found = if found == want then Ok tt else Err (BadLength kind want found)

-- Counts from a place on, added to a total one after another. The first with which it would pass the edges doesn't fit.
abbrev pub added : ℕ → ℕ → ℕ → List ℕ → Result ℕ Mismatch
added edges place total [] = Ok total
added edges place total (count ∷ counts) =
    if nat_lt edges (total + count) then Err (record { place = place; found = count })
    else added edges (place + 8) (total + count) counts

-- a whole total below the edges doesn't fit either: then it is the number of edges that is wrong
abbrev pub reached : ℕ → ℕ → Result (Unit {0}) Mismatch
reached edges total = if nat_lt total edges then Err (record { place = 24; found = edges }) else Ok tt

-- the counts add up to the edges
abbrev pub counted : ℕ → List ℕ → Result (Unit {0}) Mismatch
counted edges counts = added edges 32 0 counts >>= reached edges

-- a number of Meta that doesn't fit, as a fault of the grid
abbrev pub in_meta : {A : Type 0} → Result A Mismatch → Result A GridFault
in_meta (Ok x) = Ok x
in_meta (Err mismatch) = Err (BadMeta mismatch.place mismatch.found)

-- how many edges the blocks have, as a Meta of p parts says
abbrev pub table_of : ℕ → List ℕ → BlockCounts
table_of p meta = record { parts = p; counts = counts_of p meta }

-- the lengths of the other files, behind a head
abbrev pub files_sized : GridInfo → GridFiles → Result (Unit {0}) GridFault
files_sized info files = do
  _ ← sized Primary (12 * info.edges) (length files.primary)
  _ ← sized Secondary (12 * low_edges (table_of info.parts files.meta) info.parts) (length files.secondary)
  sized Info (12 * info.vertices) (length files.info)

-- the head of a grid, or its first fault
abbrev pub head_of : GridFiles → Result GridInfo GridFault
head_of files = do
  info ← fields_of files.meta
  _ ← sized Meta (meta_length info.parts) (length files.meta)
  _ ← in_meta (counted info.edges (counts_of info.parts files.meta))
  _ ← files_sized info files
  Ok info
