-- What is copied from Primary into Secondary: the blocks on the diagonal and below it.
use Rattle.std.specs.Prelude.{◌≡◌, ◌≤◌, ◌-◌, ◌*◌, ℕ, List, flat_map, length, Option, IfSome}
use Rattle.std.specs.List.{range_with_len}
use Rattle.std.specs.Option.{option_map}
use Rattle.lumos_depot.specs.Files.{overwritten, range_at}
use Rattle.lumos_depot.specs.declared.depot.FileKind.{FileKind}
use Rattle.lumos_depot.specs.declared.depot.FileKind.TheVariants.{Primary, Secondary}
use Rattle.partition.specs.Parts.{Cut}
use Rattle.grid_format.specs.Tables.{BlockCounts, edges_in_rows, low_edges, primary_place_of}
use Rattle.lumos_depot.specs.Steps.{RoseBy}

-- the blocks of a cut, with these numbers of edges
abbrev pub cut_table : Cut → List ℕ → BlockCounts
cut_table cut counts = record { parts = cut.parts; counts = counts }

-- how many edges they have on the diagonal and below it
abbrev pub low_total_of : Cut → List ℕ → ℕ
low_total_of cut counts = low_edges (cut_table cut counts) cut.parts

-- the bytes in Primary of the blocks of column j on the diagonal and below it
abbrev pub low_range : BlockCounts → ℕ → List ℕ → List ℕ
low_range table j file = range_at (primary_place_of table j j) (12 * edges_in_rows table j j (table.parts - j)) file

-- those of the first n columns, one after the other
abbrev pub low_ranges : BlockCounts → ℕ → List ℕ → List ℕ
low_ranges table n file = flat_map (λ j. low_range table j file) (range_with_len 0 n)

-- So many bytes were written into a file from a place on; where the source is told they are this part of it.
pub record HasCopied (part : List ℕ → List ℕ) (place size : ℕ) (source before after : Option (List ℕ)) : Type 0 where
  pub bytes : List ℕ
  pub whole : length bytes ≡ size
  pub written : after ≡ option_map (overwritten place bytes) before
  pub same : IfSome source (λ file. bytes ≡ part file)

-- The bytes of some of so many edges, and no others, were taken of Primary and stored in Secondary, which has them where
-- it is told.
pub record CopiesAll (edges : ℕ) (taken taken_then stored stored_then : FileKind → ℕ) (secondary : Option (List ℕ)) : Type 0 where
  pub low : ℕ
  pub fewer : low ≤ edges
  pub taken_bytes : RoseBy (taken Primary) (taken_then Primary) (12 * low)
  pub stored_bytes : RoseBy (stored Secondary) (stored_then Secondary) (12 * low)
  pub long : IfSome secondary (λ file. length file ≡ 12 * low)
