-- What was tallied in a pass over Spool so far, for vertices that follow one another, and what was written of it.
use Rattle.std.specs.Prelude.{◌≡◌, ◌≤◌, ◌<◌, ◌+◌, ◌==◌, ◌^◌, ℕ, List, All, Option, flat_map, length, map, slice_index_or, if◌then◌else◌}
use Rattle.std.specs.List.{range_with_len}
use Rattle.std.specs.Option.{option_map}
use Rattle.lumos_base.specs.Leaving.{no_info, out_info}
use Rattle.lumos_base.specs.Records.{info_bytes}
use Rattle.lumos_base.specs.declared.records.Edge.{Edge}
use Rattle.lumos_base.specs.declared.records.OutInfo.{OutInfo}
use Rattle.lumos_depot.specs.Files.{overwritten}
use Rattle.grid_build.specs.Passes.{IsPass, IsSpool}

-- what leads out of v, with one edge more
abbrev pub with_edge : ℕ → Edge → OutInfo → OutInfo
with_edge v e info =
    if e.source.0 == v then record { degree = info.degree + 1; weight = info.weight + e.weight.0 } else info

-- one edge more can be added
pub record HasSpace (info : OutInfo) : Type 0 where
  pub degree : info.degree < 2 ^ 31
  pub weight : info.weight < 2 ^ 63

-- a weight that fits its type
abbrev pub IsLight : Edge → Type 0
IsLight e = e.weight.0 < 2 ^ 32

-- this is what leads out of each vertex from `first` on by these edges
pub record AreTallies (first : ℕ) (edges : List Edge) (infos : List OutInfo) : Type 0 where
  pub light : All IsLight edges
  pub each : (k : ℕ) → k < length infos → slice_index_or infos k no_info ≡ out_info edges (first + k)

-- it is that of some edges, and so many more can be added
pub record HasTallies (first room : ℕ) (infos : List OutInfo) : Type 0 where
  pub before : List Edge
  pub few : length before + room ≤ 2147483648
  pub tallies : AreTallies first before infos

-- a pass over Spool gave so many edges, and this is what leads out by them
pub record HasTallied (n : ℕ) (spool : Option (List ℕ)) (count first : ℕ) (infos : List OutInfo) : Type 0 where
  pub given : List Edge
  pub passed : IsPass n spool count given
  pub tallies : AreTallies first given infos

-- What leads out of each vertex below `first` is written, where Spool is told by the edges of its list.
pub record HasWritten (n : ℕ) (spool : Option (List ℕ)) (count first : ℕ) (before after : Option (List ℕ)) : Type 0 where
  pub infos : List OutInfo
  pub whole : length infos ≡ first
  pub written : after ≡ option_map (overwritten 0 (flat_map info_bytes infos)) before
  pub told : (list : List Edge) → IsSpool n spool list → length list ≡ count → infos ≡ map (out_info list) (range_with_len 0 first)
