-- How a command ends over the outside.
use Rattle.std.specs.Prelude.{◌≡◌, ◌⊎◌, ◌≤◌, ⊤, ℕ, Bool, true, false, List, [], Option, Some, Result, Ok, Err, is_some}
use Rattle.lumos_depot.specs.Causes.{Rose}
use Rattle.lumos_depot.specs.Streams.{AppendsFront, after_told}
use Rattle.lumos_depot.specs.declared.depot.FileKind.{FileKind}
use Rattle.edge_text.specs.Reading.{Listed, reading}
use Rattle.edge_text.specs.declared.fault.TextLimits.{TextLimits}
use Rattle.lumos_top.specs.Answers.{Built, Did, Halted, RunOn, built_head, done_with}
use Rattle.lumos_top.specs.Running.{DoneShown, IsWrongOf, ending_told}
use Rattle.lumos_top.specs.Sides.{FilesAre, IfTold, InputEnds, IsEntry, IsMoved, NoMeta, SameGrid, Sides, WhereTold}
use Rattle.lumos_top.specs.Stops.{ending_line, ending_status, stop_line, stop_status}
use Rattle.lumos_top.specs.declared.status.Completed.{Completed}
use Rattle.lumos_top.specs.declared.status.Completed.TheVariants.{Run, Build, Replay}
use Rattle.lumos_top.specs.declared.status.Damage.{Damage}
use Rattle.lumos_top.specs.declared.status.Outside.{Outside}
use Rattle.lumos_top.specs.declared.status.Outside.TheVariants as outside
use Rattle.lumos_top.specs.declared.status.Refusal.{Refusal}
use Rattle.lumos_top.specs.declared.status.Refusal.TheVariants as refuse
use Rattle.lumos_top.specs.declared.status.Status.{Status}
use Rattle.lumos_top.specs.declared.status.Status.TheVariants as status
use Rattle.lumos_top.specs.declared.status.Stop.{Stop}
use Rattle.lumos_top.specs.declared.status.Stop.TheVariants as stop
use Rattle.lumos_words.specs.declared.faults.UsageFault.{UsageFault}
use Rattle.lumos_words.specs.declared.request.Request.{Request}
use Rattle.lumos_words.specs.declared.request.Request.TheVariants as ask

-- the status and the fault line of what was done
abbrev pub done_status : Completed → Status
done_status (Run ended) = ending_status (ending_told ended)
done_status Build = status.Done
done_status Replay = status.Done

abbrev pub done_line : Completed → List ℕ
done_line (Run ended) = ending_line (ending_told ended)
done_line Build = []
done_line Replay = []

-- the same of a command
abbrev pub end_status : Result Completed Stop → Status
end_status (Ok completed) = done_status completed
end_status (Err why) = stop_status why

abbrev pub end_line : Result Completed Stop → List ℕ
end_line (Ok completed) = done_line completed
end_line (Err why) = stop_line why

-- a run was done, and no other command
abbrev pub is_of_run : Completed → Bool
is_of_run (Run ended) = true
is_of_run Build = false
is_of_run Replay = false

-- what was done is what the definition says
pub record IsExact (did : Did) (sides : Sides) (completed : Completed) : Type 0 where
  pub status : done_status completed ≡ did.status
  pub line : done_line completed ≡ did.line
  pub written : sides.new_out ≡ after_told sides.old_out did.text

-- all that is asked for was done
pub record IsWritten (answer : Result Did Halted) (sides : Sides) (completed : Completed) : Type 0 where
  pub did : Did
  pub gives : answer ≡ Ok did
  pub kind : is_some did.run ≡ is_of_run completed
  pub input : InputEnds did.reads sides
  pub shown : DoneShown did.run sides.old_out sides.new_out completed
  pub exact : IfTold did.run sides.was (IsExact did sides completed)
  pub files : FilesAre did.built sides.was sides.is
  pub moved : done_status completed ≡ status.Done → IsMoved did.run did.moved sides

-- only a front of the text was written
pub record IsCut (answer : Result Did Halted) (sides : Sides) : Type 0 where
  pub did : Did
  pub gives : answer ≡ Ok did
  pub front : IfTold did.run sides.was (AppendsFront sides.old_out sides.new_out did.text)
  pub files : FilesAre did.built sides.was sides.is

-- the depot failed before anything was written, or a front of the text was written
abbrev pub IsStopped : Result Did Halted → Sides → Type 0
IsStopped answer sides = (sides.new_out ≡ sides.old_out) ⊎ IsCut answer sides

-- the files are those that were asked for
pub record IsMade (answer : Result Did Halted) (sides : Sides) : Type 0 where
  pub did : Did
  pub gives : answer ≡ Ok did
  pub files : FilesAre did.built sides.was sides.is

-- Memory was wanting before anything was written: before anything was stored in Meta, or where the grid was whole, which then
-- stays whole.
pub record IsWanting (answer : Result Did Halted) (sides : Sides) : Type 0 where
  pub same : sides.new_out ≡ sides.old_out
  pub files : NoMeta sides ⊎ IsMade answer sides

-- nothing was written, and the input failed
pub record IsUnread (sides : Sides) : Type 0 where
  pub same : sides.new_out ≡ sides.old_out
  pub files : SameGrid sides.was sides.is

-- a number of the grid that was built, or of a run over it, is damaged, which doesn't happen where the files are told
pub record IsDamaged (answer : Result Did Halted) (sides : Sides) (damage : Damage) : Type 0 where
  pub did : Did
  pub gives : answer ≡ Ok did
  pub untold : WhereTold sides.was ⊥
  pub files : FilesAre did.built sides.was sides.is
  pub run : RunOn
  pub is_run : did.run ≡ Some run
  pub wrong : IsWrongOf run.program run.iterate (built_head run.own) damage

-- Nothing was written, as the answer says, and the files are those that it leaves.
pub record IsRefused (answer : Result Did Halted) (why : Refusal) (sides : Sides) : Type 0 where
  pub built : Option Built
  pub gives : answer ≡ Err (record { why = stop.Refused why; built = built })
  pub same : sides.new_out ≡ sides.old_out
  pub files : FilesAre built sides.was sides.is

-- What a command with this answer leaves, where the outside stops it, and in any case.
abbrev pub StopsOutside : Result Did Halted → Sides → Outside → Type 0
StopsOutside answer sides outside.Memory = IsWanting answer sides
StopsOutside answer sides outside.Read = IsUnread sides
StopsOutside answer sides outside.Depot = IsStopped answer sides
StopsOutside answer sides outside.Write = IsCut answer sides

abbrev pub Ends : Result Did Halted → Sides → Result Completed Stop → Type 0
Ends answer sides (Ok completed) = IsWritten answer sides completed
Ends answer sides (Err (stop.Outside why)) = StopsOutside answer sides why
Ends answer sides (Err (stop.Damaged damage)) = IsDamaged answer sides damage
Ends answer sides (Err (stop.Refused why)) = IsRefused answer why sides

-- There are an input and files, those at entry where they are told, of which a command with this answer ends so.
pub record EndsOn (answer_on : List ℕ → (FileKind → List ℕ) → Result Did Halted) (sides : Sides) (result : Result Completed Stop) : Type 0 where
  pub input : List ℕ
  pub files : FileKind → List ℕ
  pub entry : IsEntry input files sides
  pub ends : Ends (answer_on input files) sides result

-- the same of a command over a list that is read within limits
abbrev pub HasDone : (Listed → Result Did Halted) → TextLimits → Sides → Result Completed Stop → Type 0
HasDone command limits sides result = EndsOn (λ input files. done_with command (reading limits input)) sides result

-- No count of faults fell, and a fault of the outside stops a command only where its count rose.
pub record HasCauses {I D O : Type 0} (input : I → ℕ) (depot : D → ℕ) (out : O → ℕ) (source source_new : I) (files files_new : D) (sink sink_new : O) (result : Result Completed Stop) : Type 0 where
  pub input_later : input source ≤ input source_new
  pub depot_later : depot files ≤ depot files_new
  pub out_later : out sink ≤ out sink_new
  pub read : result ≡ Err (stop.Outside outside.Read) → Rose (input source) (input source_new)
  pub failed : result ≡ Err (stop.Outside outside.Depot) → Rose (depot files) (depot files_new)
  pub written : result ≡ Err (stop.Outside outside.Write) → Rose (out sink) (out sink_new)

-- Memory was wanting, or the words were refused for this reason.
abbrev pub RefusedOr : Result Completed Stop → Refusal → Type 0
RefusedOr result why = (result ≡ Err (stop.Outside outside.Memory)) ⊎ (result ≡ Err (stop.Refused why))

-- A command stops at words that ask for nothing, unless memory is wanting, and at no others.
abbrev pub StopsAtWords : Result Request UsageFault → Result Completed Stop → Type 0
StopsAtWords (Ok asked) result = (fault : UsageFault) → result ≡ Err (stop.Refused (refuse.Usage fault)) → ⊥
StopsAtWords (Err fault) result = RefusedOr result (refuse.Usage fault)

-- a run with this status stopped before its engine was opened
abbrev pub IsBeforeRun : Status → Type 0
IsBeforeRun status.Done = ⊥
IsBeforeRun status.Memory = ⊥
IsBeforeRun status.Usage = ⊤
IsBeforeRun status.Input = ⊤
IsBeforeRun status.Limit = ⊤
IsBeforeRun status.Range = ⊥
IsBeforeRun status.ReadFault = ⊤
IsBeforeRun status.DepotFault = ⊥
IsBeforeRun status.WriteFault = ⊥
IsBeforeRun status.Grid = ⊥
IsBeforeRun status.Schedule = ⊤

-- a fact that is owed where the words ask for no run, or where it stopped before its engine was opened
abbrev pub UnlessRun : Result Request UsageFault → Status → Type 0 → Type 0
UnlessRun (Ok (ask.Run program grid iterate)) result fact = IsBeforeRun result → fact
UnlessRun (Ok (ask.Build grid)) result fact = fact
UnlessRun (Ok (ask.Sample program grid iterate seed edges)) result fact = IsBeforeRun result → fact
UnlessRun (Ok (ask.Replay program parts vertices both)) result fact = fact
UnlessRun (Err fault) result fact = fact

-- a fact that is owed where the words ask for no grid
abbrev pub UnlessGrid : Result Request UsageFault → Type 0 → Type 0
UnlessGrid (Ok (ask.Run program grid iterate)) fact = Unit {0}
UnlessGrid (Ok (ask.Build grid)) fact = Unit {0}
UnlessGrid (Ok (ask.Sample program grid iterate seed edges)) fact = Unit {0}
UnlessGrid (Ok (ask.Replay program parts vertices both)) fact = fact
UnlessGrid (Err fault) fact = fact

-- a fact that is owed of a sample
abbrev pub OfSample : Result Request UsageFault → Type 0 → Type 0
OfSample (Ok (ask.Run program grid iterate)) fact = Unit {0}
OfSample (Ok (ask.Build grid)) fact = Unit {0}
OfSample (Ok (ask.Sample program grid iterate seed edges)) fact = fact
OfSample (Ok (ask.Replay program parts vertices both)) fact = Unit {0}
OfSample (Err fault) fact = Unit {0}
