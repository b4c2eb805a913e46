-- What windows show: the values of a state, and the sums of what edges give by it.
use Rattle.std.specs.Prelude.{◌≡◌, ◌≤◌, ℕ, ◌*◌, List, length, take, drop}
use Rattle.lumos_base.specs.Records.{info_from}
use Rattle.lumos_base.specs.declared.records.Edge.{Edge}
use Rattle.lumos_law.specs.Program.{Program}
use Rattle.lumos_law.specs.Sync.{sum_at, IsChunk}
use Rattle.windows.specs.Kept.{StoresList}
use Rattle.windows.specs.Windows.{Coding, Told, WindowState, chunk_count, chunk_first}

module _ {V S : Type 0} where
  -- the first window over values shows those of a state in chunk i
  pub record IsFirst (w : WindowState V S) (i : ℕ) (state : ℕ → V) : Type 0 where
    pub part : w.first_part ≡ i
    pub long : length w.first ≡ chunk_count w i
    pub chunk : IsChunk state (chunk_first w i) w.first

  -- the second one does
  pub record IsSecond (w : WindowState V S) (i : ℕ) (state : ℕ → V) : Type 0 where
    pub part : w.second_part ≡ i
    pub long : length w.second ≡ chunk_count w i
    pub chunk : IsChunk state (chunk_first w i) w.second

  -- the first window over sums has, for each vertex of chunk j, what these edges give it by a state
  pub record HasSums (p : Program V S) (w : WindowState V S) (j : ℕ) (state : ℕ → V) (edges : List Edge) : Type 0 where
    pub part : w.sums_part ≡ j
    pub long : chunk_count w j ≤ length w.sums
    pub chunk : IsChunk (sum_at p edges state) (chunk_first w j) (take (chunk_count w j) w.sums)

  -- the second one has
  pub record HasNext (p : Program V S) (w : WindowState V S) (j : ℕ) (state : ℕ → V) (edges : List Edge) : Type 0 where
    pub part : w.sums_part ≡ j
    pub long : chunk_count w j ≤ length w.next_sums
    pub chunk : IsChunk (sum_at p edges state) (chunk_first w j) (take (chunk_count w j) w.next_sums)

-- Sums has, for each vertex of chunk j, what these edges give it by a state
pub record StoresEarly {V S : Type 0} (coding : Coding V S) (p : Program V S) (w : WindowState V S) (told : Told) (j : ℕ) (state : ℕ → V) (edges : List Edge) : Type 0 where
  pub items : List S
  pub stored : StoresList coding w told j items
  pub chunk : IsChunk (sum_at p edges state) (chunk_first w j) items

-- the values at first, by the records of the file Info
abbrev pub given_values : {V S : Type 0} → Program V S → List ℕ → ℕ → V
given_values p file v = p.init v (info_from (drop (12 * v) file))
