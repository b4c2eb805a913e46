-- What a call of the program comes to, by its status.
use Rattle.std.specs.Prelude.{◌≡◌, ◌≢◌, ◌⊎◌, ℕ, List, [], Option, Some, None, IfSome}
use Rattle.lumos_depot.specs.Streams.{AppendsFront, after_told}
use Rattle.lumos_depot.specs.declared.depot.FileKind.{FileKind}
use Rattle.lumos_depot.specs.declared.depot.FileKind.TheVariants as file
use Rattle.lumos_law.specs.Sync.{over_in}
use Rattle.lumos_report.specs.declared.records.Ending.{Ending as EndingRecord}
use Rattle.lumos_top.specs.Answers.{RunOn, built_head}
use Rattle.lumos_top.specs.Ends.{IsUnread}
use Rattle.lumos_top.specs.Outcome.{Outcome, outcome}
use Rattle.lumos_top.specs.Running.{IsOverAt, IsOverIn, IsReportOf, IsWrongOf}
use Rattle.lumos_top.specs.Sides.{FilesAre, GetsLine, IfTold, InputEnds, IsEntry, IsMoved, NoMeta, Sides}
use Rattle.lumos_top.specs.Stops.{damage_line, ending_line, outside_line, refusal_line, refusal_status}
use Rattle.lumos_top.specs.declared.status.Damage.{Damage}
use Rattle.lumos_top.specs.declared.status.Outside.TheVariants as outside
use Rattle.lumos_top.specs.declared.status.Refusal.{Refusal}
use Rattle.lumos_top.specs.declared.status.Status.{Status}
use Rattle.lumos_top.specs.declared.status.Status.TheVariants as status

-- The status, the text behind what was held, the fault line and the files are those of an outcome.
pub record IsOutcome (o : Outcome) (result : Status) (err : List ℕ) (sides : Sides) : Type 0 where
  pub status : result ≡ o.status
  pub out : sides.new_out ≡ after_told sides.old_out o.out
  pub line : err ≡ o.err
  pub files : FilesAre o.built sides.was sides.is

-- The files are, and the others unless it is a run over files that aren't told.
pub record IsToldOutcome (o : Outcome) (result : Status) (err : List ℕ) (sides : Sides) : Type 0 where
  pub exact : IfTold o.run sides.was (IsOutcome o result err sides)
  pub files : FilesAre o.built sides.was sides.is

-- A run's report was written whole over every depot: the head of the list that was read, the lines of each finished
-- iteration, and the line of its ending.
abbrev pub IsReported : Outcome → Sides → Type 0
IsReported o sides = IfSome o.run (λ run. (end : EndingRecord) × IsReportOf run.program run.iterate (built_head run.own) sides.old_out sides.new_out end)

-- A run ended with a vertex that is over in its program, which the line tells.
pub record IsOverRun (o : Outcome) (err : List ℕ) (sides : Sides) : Type 0 where
  pub run : RunOn
  pub is_run : o.run ≡ Some run
  pub outcome : IsToldOutcome o status.Range err sides
  pub iteration : ℕ
  pub vertex : ℕ
  pub is_over : IsOverAt run.iterate.iterations (built_head run.own) (IsOverIn run.program) iteration vertex
  pub line : err ≡ ending_line (over_in iteration vertex)

-- A run stopped at a number that can't stand where it stood in the files of the grid of the list that was read, or in Values or
-- Sums, which the line tells; the files aren't told, and those of the grid are those that were built.
pub record IsWrongRun (o : Outcome) (err : List ℕ) (sides : Sides) : Type 0 where
  pub run : RunOn
  pub is_run : o.run ≡ Some run
  pub untold : sides.was file.Meta ≡ None
  pub files : FilesAre o.built sides.was sides.is
  pub damage : Damage
  pub wrong : IsWrongOf run.program run.iterate (built_head run.own) damage
  pub line : err ≡ damage_line damage

-- A front of the text was written, and the files are the outcome's.
pub record IsCutOutcome (o : Outcome) (sides : Sides) : Type 0 where
  pub front : IfTold o.run sides.was (AppendsFront sides.old_out sides.new_out o.out)
  pub files : FilesAre o.built sides.was sides.is

-- What is done: the status and the text are the outcome's, or the report of a run that was written whole; the input was read to
-- its end by a command that reads it, and the counters of bytes rose by what is moved.
pub record IsDone (o : Outcome) (err : List ℕ) (sides : Sides) : Type 0 where
  pub line : err ≡ []
  pub outcome : IsToldOutcome o status.Done err sides
  pub reported : IsReported o sides
  pub input : InputEnds o.reads sides
  pub moved : IsMoved o.run o.moved sides

-- Memory was wanting, before anything was written: before anything was stored in Meta, or where the grid was whole, which then
-- stays whole.
pub record IsWant (o : Outcome) (err : List ℕ) (sides : Sides) : Type 0 where
  pub line : err ≡ outside_line outside.Memory
  pub same : sides.new_out ≡ sides.old_out
  pub files : NoMeta sides ⊎ FilesAre o.built sides.was sides.is

-- What a status comes to, with this fault line, where words, input and files have this outcome. A status that is made of these is
-- the outcome's, whatever the files give back; only a run may end otherwise than its outcome, by Done, Range or Grid, and only over
-- files that aren't told.
abbrev pub Comes : Outcome → Status → List ℕ → Sides → Type 0
Comes o status.Done err sides = IsDone o err sides
Comes o status.Usage err sides = IsOutcome o status.Usage err sides
Comes o status.Input err sides = IsOutcome o status.Input err sides
Comes o status.Limit err sides = IsOutcome o status.Limit err sides
Comes o status.Schedule err sides = IsOutcome o status.Schedule err sides
Comes o status.Range err sides = IsOverRun o err sides
Comes o status.Grid err sides = IsWrongRun o err sides
Comes o status.Memory err sides = IsWant o err sides
Comes o status.ReadFault err sides = (err ≡ outside_line outside.Read) × IsUnread sides
Comes o status.DepotFault err sides = (err ≡ outside_line outside.Depot) × ((sides.new_out ≡ sides.old_out) ⊎ IsCutOutcome o sides)
Comes o status.WriteFault err sides = (err ≡ outside_line outside.Write) × IsCutOutcome o sides

-- There are an input and files, those at entry where they are told, and a fault line, to which a call of the program came; the
-- line was put behind what `err` held.
pub record HasOutcome (words : List (List ℕ)) (result : Status) (sides : Sides) (old_err new_err : Option (List ℕ)) (before now : ℕ) : Type 0 where
  pub input : List ℕ
  pub files : FileKind → List ℕ
  pub entry : IsEntry input files sides
  pub err : List ℕ
  pub comes : Comes (outcome words input files) result err sides
  pub tells : GetsLine old_err new_err before now err

-- The status is that of words that are refused for this reason, with its line, or memory was wanting.
pub record IsRefusedFor (why : Refusal) (result : Status) (old_err new_err : Option (List ℕ)) (before now : ℕ) : Type 0 where
  pub answers : (result ≡ status.Memory) ⊎ (result ≡ refusal_status why)
  pub tells : result ≢ status.Memory → GetsLine old_err new_err before now (refusal_line why)
