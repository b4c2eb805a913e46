-- The outcome of words, an input and the files at entry.
use Rattle.std.specs.Prelude.{ℕ, Bool, false, List, [], Option, None, Result, Ok, Err}
use Rattle.lumos_depot.specs.declared.depot.FileKind.{FileKind}
use Rattle.lumos_top.specs.Answers.{Built, Did, Halted, Moved, RunOn, answer, taken_blocks}
use Rattle.lumos_top.specs.Stops.{stop_line, stop_status}
use Rattle.lumos_top.specs.declared.status.Status.{Status}

-- A status, what is written to `out`, a fault line, whether the input is read to its end, and the grid that is built, if one is;
-- else the grid's files stay. The text of a run is made of what the files of its grid give back. So many bytes are moved.
pub record Outcome : Type 0 where
  pub status : Status
  pub out : List ℕ
  pub err : List ℕ
  pub reads : Bool
  pub built : Option Built
  pub run : Option RunOn
  pub moved : Moved

abbrev pub outcome_of : Result Did Halted → Outcome
outcome_of (Ok did) = record { status = did.status; out = did.text; err = did.line; reads = did.reads; built = did.built; run = did.run; moved = did.moved }
outcome_of (Err halt) = record { status = stop_status halt.why; out = []; err = stop_line halt.why; reads = false; built = halt.built; run = None; moved = taken_blocks 0 0 }

-- the outcome of words, an input and the files at entry
abbrev pub outcome : List (List ℕ) → List ℕ → (FileKind → List ℕ) → Outcome
outcome words input files = outcome_of (answer words input files)
