-- A stream of the system behind a buffer: what the buffer holds, what the stream behind it tells, and how often it
-- failed.
use Rattle.std.specs.Prelude.{◌≡◌, ℕ, List, [], Option, Result, OnOk, take}
use Rattle.std.specs.Io.KnownBytes.{Appends, append_known, prepend_known}
use Rattle.lumos_depot.specs.Causes.{Rose}

pub record SourceView : Type 0 where
  pub held : List ℕ
  pub left : Option (List ℕ)
  pub faults : ℕ

-- what a source will give: what the buffer holds, and then what the reader has left
abbrev pub all_left : SourceView → Option (List ℕ)
all_left source = prepend_known source.held source.left

pub record SinkView : Type 0 where
  pub waiting : List ℕ
  pub taken : Option (List ℕ)
  pub faults : ℕ

-- what a sink was given: what the writer took, and then what waits
abbrev pub all_given : SinkView → Option (List ℕ)
all_given sink = append_known sink.taken sink.waiting

-- A front of the bytes came behind what was there.
pub record PutsFront (old new : Option (List ℕ)) (bytes : List ℕ) : Type 0 where
  pub count : ℕ
  pub front : Appends old new (take count bytes)

-- A front of the bytes came behind what was there, and all of them at `Ok`.
pub record AppendsSome {E : Type 0} (old new : Option (List ℕ)) (result : Result (Unit {0}) E) (bytes : List ℕ) : Type 0 where
  pub front : PutsFront old new bytes
  pub whole : OnOk result (Appends old new bytes)

-- A front of the line came behind what was there; and the whole line, with nothing that waits on, where no fault was counted.
pub record EndsWith (old new : SinkView) (line : List ℕ) : Type 0 where
  pub front : PutsFront (all_given old) (all_given new) line
  pub whole : (Rose old.faults new.faults → ⊥) → Appends (all_given old) (all_given new) line × (new.waiting ≡ [])
