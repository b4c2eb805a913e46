-- Files by the numbers of their kinds.
use Rattle.std.proofs.Common.{◌≡◌, ◌≢◌, ◌<◌, ℕ, List, [], length, get_or, set, map, Vec, Global, refl, sym, ◌∙◌, ap, suc, zero}
use Rattle.std.proofs.lemmas.List.{map-set, get_or-set_other, get_or-set_same, get_or-map, length-map}
use Rattle.lumos_depot.specs.Files.{overwritten}
use Rattle.lumos_depot.specs.MemoryDepot.{file_number}
use Rattle.lumos_depot.specs.declared.depot.FileKind.{FileKind}
use Rattle.lumos_depot.specs.declared.depot.FileKind.TheVariants.{Meta, Primary, Secondary, Info, Values, Sums, Spool}

kind_of : ℕ → FileKind
kind_of zero = Meta
kind_of (suc zero) = Primary
kind_of (suc (suc zero)) = Secondary
kind_of (suc (suc (suc zero))) = Info
kind_of (suc (suc (suc (suc zero)))) = Values
kind_of (suc (suc (suc (suc (suc zero))))) = Sums
kind_of (suc (suc (suc (suc (suc (suc n)))))) = Spool

kind_of-file_number : (kind : FileKind) → kind_of (file_number kind) ≡ kind
unfolding kind_of
kind_of-file_number Meta = refl
kind_of-file_number Primary = refl
kind_of-file_number Secondary = refl
kind_of-file_number Info = refl
kind_of-file_number Values = refl
kind_of-file_number Sums = refl
kind_of-file_number Spool = refl

pub numbers_apart : (j k : FileKind) → j ≢ k → file_number j ≢ file_number k
numbers_apart j k apart same = apart (sym (kind_of-file_number j) ∙ ap kind_of same ∙ kind_of-file_number k)

abbrev pub items_of : List (Vec ℕ Global) → List (List ℕ)
items_of files = map (λ f. f.items) files

-- the file at i was put in another's place
pub other_file : (files : List (Vec ℕ Global)) (i : ℕ) (file : Vec ℕ Global) (j k : FileKind) → i ≡ file_number k → j ≢ k → get_or (items_of (set files i file)) (file_number j) [] ≡ get_or (items_of files) (file_number j) []
other_file files i file j k is apart =
    let other : file_number j ≢ i = λ same. numbers_apart j k apart (same ∙ is) in
    rw (map-set (λ f. f.items) files i file) (get_or-set_other (items_of files) i (file_number j) file.items [] other)

pub same_file : (files : List (Vec ℕ Global)) (i : ℕ) (file : Vec ℕ Global) (k : FileKind) → i ≡ file_number k → i < length files → get_or (items_of (set files i file)) (file_number k) [] ≡ file.items
same_file files i file k is inside =
    let there : i < length (items_of files) = rw length-map inside in
    rw (← is, map-set (λ f. f.items) files i file) (get_or-set_same (items_of files) i file.items [] there)

-- the file at i was written over at a place
pub written_file : (files : List (Vec ℕ Global)) (i : ℕ) (was file : Vec ℕ Global) (k : FileKind) (place : ℕ) (bytes : List ℕ) → i ≡ file_number k → i < length files → was ≡ get_or files i was → file.items ≡ overwritten place bytes was.items →
    get_or (items_of (set files i file)) (file_number k) [] ≡ overwritten place bytes (get_or (items_of files) (file_number k) [])
written_file files i was file k place bytes is inside read wrote =
    let before : get_or (items_of files) (file_number k) [] ≡ was.items = rw (← is, get_or-map (λ f. f.items) files i was [] inside) (ap (λ f. f.items) (sym read)) in
    same_file files i file k is inside ∙ wrote ∙ ap (overwritten place bytes) (sym before)
