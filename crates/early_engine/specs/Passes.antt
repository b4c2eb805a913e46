-- Which iterations are full, which blocks an iteration goes through, which of them it reads, and what that counts for.
use Rattle.std.specs.Prelude.{ℕ, ◌-◌, ◌*◌, ◌%◌, ◌==◌, ◌&&◌, ◌||◌, nat_lt, Bool, false, not, cond, List, map, flat_map, filter, length, count_by, sum_by}
use Rattle.std.specs.List.{list_any, range_with_len}
use Rattle.lumos_base.specs.declared.records.Edge.{Edge}
use Rattle.lumos_depot.specs.declared.depot.FileKind.{FileKind}
use Rattle.lumos_depot.specs.declared.depot.FileKind.TheVariants.{Primary, Secondary}
use Rattle.lumos_law.specs.Program.{Program}
use Rattle.lumos_law.specs.Sync.{values}
use Rattle.partition.specs.Blocks.{block}
use Rattle.partition.specs.Parts.{chunk_size, first_vertex, part_length}
use Rattle.flight_core.specs.Events.{prior}
use Rattle.io_account.specs.declared.Counts.{Counts}
use Rattle.lumos_report.specs.declared.records.Kind.{Kind}
use Rattle.lumos_report.specs.declared.records.Kind.TheVariants.{Full, Fed}
use Rattle.early_engine.specs.declared.options.Mode.{Mode}
use Rattle.early_engine.specs.declared.options.Mode.TheVariants as mode

-- the kind of iteration t: in plain mode every one is full; in fed mode the odd ones are, and the even ones are fed
abbrev pub kind_of : Mode → ℕ → Kind
kind_of mode.Plain t = Full
kind_of mode.Fed t = cond (t % 2 == 1) Full Fed

-- In a run of at most `limit` iterations, iteration t feeds the next one too where that one is fed, and comes.
abbrev pub feeds_ahead : Mode → ℕ → ℕ → Bool
feeds_ahead mode.Plain limit t = false
feeds_ahead mode.Fed limit t = (t % 2 == 1) && nat_lt t limit

-- the file from which iterations of a kind read
abbrev pub file_of : Kind → FileKind
file_of Full = Primary
file_of Fed = Secondary

-- a block's row and column
pub record Place : Type 0 where
  pub row : ℕ
  pub column : ℕ

abbrev pub place_at : ℕ → ℕ → Place
place_at i j = record { row = i; column = j }

-- the rows of column j that an iteration goes through: all p of them in a full one, those from j on in a fed one
abbrev pub rows_of : Kind → ℕ → ℕ → List ℕ
rows_of Full p j = range_with_len 0 p
rows_of Fed p j = range_with_len j (p - j)

-- the first of these
abbrev pub first_row : Kind → ℕ → ℕ
first_row Full j = 0
first_row Fed j = j

-- the blocks of column j that an iteration goes through
abbrev pub places : Kind → ℕ → ℕ → List Place
places kind p j = map (λ i. place_at i j) (rows_of kind p j)

-- those of the first n columns, in column order
abbrev pub places_below : Kind → ℕ → ℕ → List Place
places_below kind p n = flat_map (places kind p) (range_with_len 0 n)

-- all blocks that it goes through: each block in a full one, those on the diagonal and below it in a fed one
abbrev pub passes : Kind → ℕ → List Place
passes kind p = places_below kind p p

-- how many edges a block has
abbrev pub size_at : List Edge → ℕ → Place → ℕ
size_at edges c b = length (block edges c b.row b.column)

-- the blocks that it reads, where block b has `size b` edges: each that has edges and is needed
abbrev pub reads : (Place → ℕ) → (Place → Bool) → List Place → List Place
reads size need bs = filter (λ b. nat_lt 0 (size b) && need b) bs

-- how many bytes these take: twelve for each edge
abbrev pub bytes_of : (Place → ℕ) → (Place → Bool) → List Place → ℕ
bytes_of size need bs = sum_by (λ b. 12 * size b) (reads size need bs)

-- a number that counts for one layout alone: that from which iterations of a kind read
abbrev pub of_primary : Kind → ℕ → ℕ
of_primary Full k = k
of_primary Fed k = 0

abbrev pub of_secondary : Kind → ℕ → ℕ
of_secondary Full k = 0
of_secondary Fed k = k

-- what it counts where so many values moved in it: the blocks that it read, those with edges that aren't needed, and those
-- without edges
abbrev pub tally_of : Kind → (Place → ℕ) → (Place → Bool) → List Place → ℕ → Counts
tally_of kind size need bs moved = record {
  primary = of_primary kind (length (reads size need bs));
  secondary = of_secondary kind (length (reads size need bs));
  skipped = count_by (λ b. nat_lt 0 (size b) && not (need b)) bs;
  empty = count_by (λ b. size b == 0) bs;
  moved = moved;
}

-- which chunks are hot: whether chunk i is, in iteration t
abbrev pub Hot : Type 0
Hot = ℕ → ℕ → Bool

-- An iteration needs a block where its source chunk was hot in the iteration before; or where it feeds ahead, the block lies
-- above the diagonal, and its source chunk is hot in it.
abbrev pub need_by : (ℕ → Bool) → (ℕ → Bool) → Bool → Place → Bool
need_by was is ahead b = was b.row || (ahead && nat_lt b.row b.column && is b.row)

-- the blocks that iteration t needs
abbrev pub needed : Hot → Bool → ℕ → Place → Bool
needed hot ahead t b = need_by (hot (prior t)) (hot t) ahead b

module _ {V S : Type 0} (p : Program V S) (edges : List Edge) (n parts : ℕ) where
  -- a chunk is hot in iteration t where some vertex of it contributes
  abbrev pub is_hot : Hot
  is_hot t i =
      list_any (λ v. p.contributes (values p edges t v)) (range_with_len (first_vertex n (chunk_size n parts) i) (part_length n (chunk_size n parts) i))

  module _ (mode : Mode) (limit : ℕ) where
    -- the blocks that iteration t needs
    abbrev pub needs : ℕ → Place → Bool
    needs t = needed is_hot (feeds_ahead mode limit t) t

    -- what iteration t counts where so many values moved in it
    abbrev pub counts_in : ℕ → ℕ → Counts
    counts_in t moved = tally_of (kind_of mode t) (size_at edges (chunk_size n parts)) (needs t) (passes (kind_of mode t) parts) moved

    -- how many bytes it takes
    abbrev pub iteration_bytes : ℕ → ℕ
    iteration_bytes t = bytes_of (size_at edges (chunk_size n parts)) (needs t) (passes (kind_of mode t) parts)

    -- how many of Primary: none in a fed iteration; and of Secondary: none in a full one
    abbrev pub primary_bytes : ℕ → ℕ
    primary_bytes t = of_primary (kind_of mode t) (iteration_bytes t)

    abbrev pub secondary_bytes : ℕ → ℕ
    secondary_bytes t = of_secondary (kind_of mode t) (iteration_bytes t)

    -- how many bytes the first k iterations take of the two
    abbrev pub primary_taken : ℕ → ℕ
    primary_taken k = sum_by primary_bytes (range_with_len 1 k)

    abbrev pub secondary_taken : ℕ → ℕ
    secondary_taken k = sum_by secondary_bytes (range_with_len 1 k)
