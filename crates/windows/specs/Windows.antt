-- Windows over chunks of the vertices, and the chunks that they keep in memory.
use Rattle.std.specs.Prelude.{◌≡◌, ◌≤◌, ◌<◌, ℕ, ◌+◌, ◌*◌, ◌%◌, ◌==◌, nat_lt, cond, List, ◌++◌, length, take, drop, Option, IfSome}
use Rattle.lumos_depot.specs.declared.depot.FileKind.{FileKind}
use Rattle.lumos_depot.specs.declared.depot.FileKind.TheVariants.{Values, Sums}
use Rattle.partition.specs.Parts.{Cut, chunk_of, first_vertex, part_length}
use Rattle.windows.specs.Budget.{need_of, pinned_of}

-- what a depot tells of its files
abbrev pub Told : Type 0
Told = FileKind → Option (List ℕ)

-- Which value the bytes of a record stand for, and how many these are; and the same of sums.
pub record Coding (V S : Type 0) : Type 0 where
  pub value_of : List ℕ → Option V
  pub value_width : ℕ
  pub sum_of : List ℕ → Option S
  pub sum_width : ℕ

-- How the vertices are cut, the budget, how many chunks are kept in memory, how many values and how many sums there is room
-- for; the chunks that the two windows over values show, and their values; the chunk of the sums, and the two windows over
-- sums; and the values of the chunks in memory after even iterations and after odd ones.
pub record WindowState (V S : Type 0) : Type 0 where
  pub cut : Cut
  pub budget : ℕ
  pub pinned : ℕ
  pub value_room : ℕ
  pub sum_room : ℕ
  pub first_part : ℕ
  pub first : List V
  pub second_part : ℕ
  pub second : List V
  pub sums_part : ℕ
  pub sums : List S
  pub next_sums : List S
  pub even : List V
  pub odd : List V

-- the items of the vertices of chunk j, of a list with one for each vertex
abbrev pub chunk_in : {X : Type 0} → Cut → ℕ → List X → List X
chunk_in cut j items = take (part_length cut.vertices (chunk_of cut) j) (drop (first_vertex cut.vertices (chunk_of cut) j) items)

-- of two lists, that for even iterations and that for odd ones, the one for iteration t
abbrev pub turn_list : {X : Type 0} → ℕ → List X → List X → List X
turn_list t even odd = cond (t % 2 == 1) odd even

-- what a window shows of chunk j after iteration t: the values in memory where the chunk is among the first `pinned`, else
-- those that were brought into the window
abbrev pub shown_of : {X : Type 0} → Cut → ℕ → ℕ → ℕ → List X → List X → List X → List X
shown_of cut pinned j t items even odd = cond (nat_lt j pinned) (chunk_in cut j (turn_list t even odd)) (take (part_length cut.vertices (chunk_of cut) j) items)

-- a list with other items from a place on
abbrev pub put_in : {X : Type 0} → ℕ → List X → List X → List X
put_in place items xs = take place xs ++ items ++ drop (place + length items) xs

-- The numbers and the lengths of windows fit one another.
pub record IsWindows (cut : Cut) (value sum budget pinned first_part second_part sums_part first second sums next_sums even odd : ℕ) : Type 0 where
  pub vertices : cut.vertices ≤ 268435456
  pub parts : cut.parts ≤ 256
  pub enough : need_of cut value sum ≤ budget
  pub pinned_is : pinned ≡ pinned_of cut value sum budget
  pub first_in : first_part < cut.parts
  pub second_in : second_part < cut.parts
  pub sums_in : sums_part < cut.parts
  pub first_fits : first ≡ chunk_of cut
  pub second_fits : second ≡ chunk_of cut
  pub sums_fit : sums ≡ chunk_of cut
  pub next_fits : next_sums ≡ chunk_of cut
  pub even_fits : even ≡ pinned * chunk_of cut
  pub odd_fits : odd ≡ pinned * chunk_of cut

module _ {V S : Type 0} where
  -- the first vertex of chunk j
  abbrev pub chunk_first : WindowState V S → ℕ → ℕ
  chunk_first w j = first_vertex w.cut.vertices (chunk_of w.cut) j

  -- how many vertices chunk j has
  abbrev pub chunk_count : WindowState V S → ℕ → ℕ
  chunk_count w j = part_length w.cut.vertices (chunk_of w.cut) j

  -- The windows are the same ones: over the same vertices, with the same budget, chunks in memory and room.
  pub record IsSameRoom (old new : WindowState V S) : Type 0 where
    pub cut : new.cut ≡ old.cut
    pub budget : new.budget ≡ old.budget
    pub pinned : new.pinned ≡ old.pinned
    pub value_room : new.value_room ≡ old.value_room
    pub sum_room : new.sum_room ≡ old.sum_room

module _ {V S : Type 0} (coding : Coding V S) where
  -- Values has two records for each vertex and Sums has one, where they are told.
  pub record IsSized (w : WindowState V S) (told : Told) : Type 0 where
    pub values_size : IfSome (told Values) (λ file. length file ≡ 2 * w.cut.vertices * coding.value_width)
    pub sums_size : IfSome (told Sums) (λ file. length file ≡ w.cut.vertices * coding.sum_width)
