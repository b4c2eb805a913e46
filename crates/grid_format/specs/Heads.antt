-- The bytes of Meta: the head of a grid, and behind it the number of edges in each block.
use Rattle.std.specs.Prelude.{◌≤◌, ◌<◌, ℕ, zero, suc, ◌+◌, ◌*◌, List, [], ◌∷◌, ◌++◌, drop, codes}
use Rattle.std.specs.List.{flat_map}
use Rattle.byteorder.specs.Endian.{little_bytes, little_number}
use Rattle.grid_format.specs.declared.head.GridInfo.{GridInfo}

-- a number in n bytes, the least byte first
unfoldable pub field : ℕ → ℕ → List ℕ
field n x = little_bytes n x

-- the number in the n bytes from a place on
unfoldable pub number_at : ℕ → ℕ → List ℕ → ℕ
number_at n place bytes = little_number n (drop place bytes)

-- the n numbers of eight bytes each from a place on
abbrev pub numbers : ℕ → ℕ → List ℕ → List ℕ
numbers place zero bytes = []
numbers place (suc n) bytes = number_at 8 place bytes ∷ numbers (place + 8) n bytes

-- the first eight bytes of a grid
unfoldable pub magic : List ℕ
magic = codes "LUMOSGRD"

-- the head behind the magic: version, parts, vertices, a word of 0, edges
abbrev pub head_fields : GridInfo → List ℕ
head_fields info =
    field 4 info.version ++ field 4 info.parts ++ field 4 info.vertices ++ field 4 0 ++ field 8 info.edges

-- the numbers of a head whose version stands at a place: 8 in Meta
abbrev pub head_at : ℕ → List ℕ → GridInfo
head_at place bytes = record {
  version = number_at 4 place bytes;
  parts = number_at 4 (place + 4) bytes;
  vertices = number_at 4 (place + 8) bytes;
  edges = number_at 8 (place + 16) bytes;
}

-- the bytes of Meta, where the blocks have these numbers of edges in column order
abbrev pub meta_bytes : GridInfo → List ℕ → List ℕ
meta_bytes info counts = magic ++ head_fields info ++ flat_map (field 8) counts

-- how many bytes Meta has where there are p parts
abbrev pub meta_length : ℕ → ℕ
meta_length p = 32 + 8 * (p * p)

-- the numbers of edges of the blocks of p parts, in column order, as Meta has them
abbrev pub counts_of : ℕ → List ℕ → List ℕ
counts_of p meta = numbers 32 (p * p) meta

-- The numbers of a head lie within the limits of a grid.
pub record IsHead (info : GridInfo) : Type 0 where
  pub some_parts : 0 < info.parts
  pub few_parts : info.parts ≤ 256
  pub vertices : info.vertices ≤ 268435456
  pub edges : info.edges ≤ 2147483648
