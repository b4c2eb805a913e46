-- What stands between the steps of the builder.
use Rattle.std.specs.Prelude.{◌≡◌, ◌*◌, ℕ, List, [], flat_map, length, sum, Option, Some, IfSome}
use Rattle.std.specs.List.{range_with_len}
use Rattle.lumos_base.specs.Leaving.{out_info}
use Rattle.lumos_base.specs.Records.{edge_bytes, info_bytes}
use Rattle.lumos_base.specs.declared.records.Edge.{Edge}
use Rattle.lumos_depot.specs.declared.depot.FileKind.{FileKind}
use Rattle.lumos_depot.specs.declared.depot.FileKind.TheVariants.{Meta, Primary, Secondary, Info}
use Rattle.partition.specs.Blocks.{columns}
use Rattle.partition.specs.Parts.{Cut, chunk_of}
use Rattle.grid_format.specs.Grid.{low_columns}
use Rattle.grid_build.specs.Numbered.{AreCounts}
use Rattle.grid_build.specs.Passes.{IsSpool}

-- Spool, where it is told, has the edges of a list, so many.
pub record IsListed (n count : ℕ) (spool : Option (List ℕ)) : Type 0 where
  pub list : List Edge
  pub kept : IsSpool n spool list
  pub whole : length list ≡ count

-- The blocks have these numbers of edges, so many in all.
pub record IsCounted (cut : Cut) (count : ℕ) (spool : Option (List ℕ)) (counts : List ℕ) : Type 0 where
  pub blocks : length counts ≡ cut.parts * cut.parts
  pub adds_up : sum counts ≡ count
  pub told : (list : List Edge) → IsSpool cut.vertices spool list → length list ≡ count → AreCounts (chunk_of cut) cut.parts list counts

-- The files of the grid have their lengths, where they are told: there are so many vertices, edges, and edges on the
-- diagonal and below it.
pub record AreSized (n count low : ℕ) (told : FileKind → Option (List ℕ)) : Type 0 where
  pub meta_size : IfSome (told Meta) (λ file. file ≡ [])
  pub primary_size : IfSome (told Primary) (λ file. length file ≡ 12 * count)
  pub secondary_size : IfSome (told Secondary) (λ file. length file ≡ 12 * low)
  pub info_size : IfSome (told Info) (λ file. length file ≡ 12 * n)

-- Primary, Secondary and Info have the bytes of the grid of the edges in Spool.
pub record AreFilled (cut : Cut) (list : List Edge) (told : FileKind → Option (List ℕ)) : Type 0 where
  pub primary_bytes : told Primary ≡ Some (flat_map edge_bytes (columns list (chunk_of cut) cut.parts))
  pub secondary_bytes : told Secondary ≡ Some (flat_map edge_bytes (low_columns list (chunk_of cut) cut.parts))
  pub info_bytes_are : told Info ≡ Some (flat_map (λ v. info_bytes (out_info list v)) (range_with_len 0 cut.vertices))
