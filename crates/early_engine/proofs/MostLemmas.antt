-- The most bytes that an iteration takes.
use Rattle.std.proofs.Common.{◌≡◌, ◌≤◌, ℕ, ◌+◌, sum, take, refl, ap, ◌∙◌, arith, add-one}
use Rattle.std.specs.Prelude.{sum_by}
use Rattle.std.specs.List.{range_with_len}
use Rattle.std.proofs.lemmas.List.Sums.{sum_by-take-le, sum_by_push}
use Rattle.lumos_depot.specs.Steps.{SameOff}
use Rattle.lumos_depot.specs.declared.depot.FileKind.{FileKind}
use Rattle.lumos_depot.specs.declared.depot.FileKind.TheVariants.{Primary, Secondary}
use Rattle.partition.proofs.BucketLemmas.{range_more}
use Rattle.grid_format.specs.Tables.{BlockCounts, block_place, edges_in_rows}
use Rattle.grid_format.proofs.RangeLemmas.{sum-range-le}
use Rattle.grid_format.proofs.TableLemmas.{rows_behind}
use Rattle.lumos_report.specs.declared.records.Kind.{Kind}
use Rattle.lumos_report.specs.declared.records.Kind.TheVariants.{Full, Fed}
use Rattle.early_engine.specs.Files.{takes_of}
use Rattle.early_engine.specs.Grids.{bytes_in}
use Rattle.early_engine.specs.Passes.{file_of, kind_of}
use Rattle.early_engine.specs.Runs.{most_by, most_taken}
use Rattle.early_engine.specs.declared.options.Mode.{Mode}

-- how many edges the first n columns have
abbrev pub columns_have : BlockCounts → ℕ → ℕ
columns_have table n = sum (take (block_place table.parts 0 n) table.counts)

pub columns_next : (table : BlockCounts) (j p : ℕ) → table.parts ≡ p → columns_have table (j + 1) ≡ columns_have table j + edges_in_rows table j 0 p
columns_next table j p same =
    let place : block_place table.parts 0 (j + 1) ≡ block_place table.parts 0 j + table.parts = grind arith in
    ap (λ (k : ℕ). sum (take k table.counts)) place ∙ rows_behind table j 0 table.parts ∙ ap (λ (n : ℕ). columns_have table j + edges_in_rows table j 0 n) same

pub columns_few : (table : BlockCounts) (n : ℕ) → columns_have table n ≤ sum table.counts
columns_few table n = sum_by-take-le (λ x. x) table.counts (block_place table.parts 0 n)

-- an iteration takes no more than all blocks of its kind
pub most_one : (read kind : Kind) (table : BlockCounts) (old new : FileKind → ℕ) → new (file_of read) ≤ old (file_of read) + bytes_in read table → SameOff (takes_of read) old new → new (file_of kind) ≤ old (file_of kind) + most_by kind read table
most_one Full Full table old new most same = most
most_one Fed Fed table old new most same = most
most_one Full Fed table old new most same = let stays = same Secondary refl in omega (arith, stays)
most_one Fed Full table old new most same = let stays = same Primary refl in omega (arith, stays)

-- one iteration more
pub most_more : (kind : Kind) (mode m : Mode) (table t : BlockCounts) (done limit : ℕ) (first old new : FileKind → ℕ) → m ≡ mode → t ≡ table → done + 1 ≤ limit → old (file_of kind) ≤ first (file_of kind) + most_taken kind mode table done
    → new (file_of (kind_of m (done + 1))) ≤ old (file_of (kind_of m (done + 1))) + bytes_in (kind_of m (done + 1)) t → SameOff (takes_of (kind_of m (done + 1))) old new
    → (new (file_of kind) ≤ first (file_of kind) + most_taken kind mode table (done + 1)) × (new (file_of kind) ≤ first (file_of kind) + most_taken kind mode table limit)
most_more kind mode m table t done limit first old new same_mode same_table low before most same =
    let one = most_one (kind_of m (done + 1)) kind t old new most same in
    let other = ap (λ (k : Mode). most_by kind (kind_of k (done + 1)) t) same_mode ∙ ap (λ (b : BlockCounts). most_by kind (kind_of mode (done + 1)) b) same_table in
    let place : 1 + done ≡ done + 1 = omega arith in
    let more : most_taken kind mode table (done + 1) ≡ most_taken kind mode table done + most_by kind (kind_of mode (done + 1)) table =
    ap (λ (n : ℕ). most_taken kind mode table n) (add-one done) ∙ ap (sum_by (λ u. most_by kind (kind_of mode u) table)) (range_more 1 done) ∙ sum_by_push (λ u. most_by kind (kind_of mode u) table) (range_with_len 1 done) (1 + done)
    ∙ ap (λ (u : ℕ). most_taken kind mode table done + most_by kind (kind_of mode u) table) place in
    let few = sum-range-le (λ u. most_by kind (kind_of mode u) table) 1 (done + 1) limit low in
    (omega (arith, before, one, other, more), omega (arith, before, one, other, more, few))
