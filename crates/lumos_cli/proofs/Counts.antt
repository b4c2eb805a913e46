-- The counts of the files by the numbers of their kinds.
use Rattle.std.proofs.Common.{◌≡◌, ◌≢◌, ℕ, List, ◌∙◌}
use Rattle.std.proofs.lemmas.List.{get_or-set_other}
use Rattle.std.specs.Prelude.{slice_index, slice_set}
use Rattle.lumos_depot.proofs.FileKinds.{numbers_apart}
use Rattle.lumos_depot.specs.MemoryDepot.{file_number}
use Rattle.lumos_depot.specs.declared.depot.FileKind.{FileKind}

-- the count at i was put in another's place
pub other_count : (counts : List ℕ) (i n : ℕ) (j k : FileKind) → i ≡ file_number k → j ≢ k → slice_index (slice_set counts i n) (file_number j) ≡ slice_index counts (file_number j)
other_count counts i n j k is apart = get_or-set_other counts i (file_number j) n 0 (λ same. numbers_apart j k apart (same ∙ is))
