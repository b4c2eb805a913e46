-- The statuses and the fault lines.
use Rattle.std.specs.Prelude.{ℕ, List, [], ◌++◌, Option, Some, None, codes}
use Rattle.std.specs.Fmt.{decimal}
use Rattle.edge_text.specs.declared.fault.InputWhat.{InputWhat}
use Rattle.edge_text.specs.declared.fault.InputWhat.TheVariants.{NotANumber, MissingTarget, TooManyFields, NumberTooLarge, VertexTooLarge, WeightTooLarge, VertexBeyond}
use Rattle.edge_text.specs.declared.fault.TextFault.{TextFault}
use Rattle.edge_text.specs.declared.fault.TextFault.TheVariants.{Input, TooManyEdges, InputTooLong}
use Rattle.flight_core.specs.declared.event.Illegal.{Illegal}
use Rattle.flight_core.specs.declared.event.Illegal.TheVariants.{Bounds, ColumnFinal, AlreadyDone, SourceNotFinal, NotSkippable, OldNotFinal, ColumnOpen}
use Rattle.lumos_depot.specs.declared.depot.FileKind.{FileKind}
use Rattle.lumos_depot.specs.declared.depot.FileKind.TheVariants as file
use Rattle.lumos_law.specs.Sync.{Ending, over_in, still_in, limit_at}
use Rattle.lumos_top.specs.declared.status.Damage.{Damage}
use Rattle.lumos_top.specs.declared.status.Outside.{Outside}
use Rattle.lumos_top.specs.declared.status.Outside.TheVariants as outside
use Rattle.lumos_top.specs.declared.status.Refusal.{Refusal}
use Rattle.lumos_top.specs.declared.status.Refusal.TheVariants as refuse
use Rattle.lumos_top.specs.declared.status.Status.{Status}
use Rattle.lumos_top.specs.declared.status.Status.TheVariants as status
use Rattle.lumos_top.specs.declared.status.Stop.{Stop}
use Rattle.lumos_top.specs.declared.status.Stop.TheVariants as stop
use Rattle.lumos_top.specs.declared.status.TooMany.TheVariants.{Parts, Vertices}
use Rattle.lumos_top.specs.declared.stream.StreamStop.{StreamStop}
use Rattle.lumos_top.specs.declared.stream.StreamStop.TheVariants as stream
use Rattle.lumos_words.specs.Faults.{name_of}
use Rattle.lumos_words.specs.declared.faults.OptionName.{OptionName}
use Rattle.lumos_words.specs.declared.faults.UsageWhat.{UsageWhat}
use Rattle.lumos_words.specs.declared.faults.UsageWhat.TheVariants as usage

-- why a command stops where its events or their list aren't read
abbrev pub stream_stop : StreamStop → Stop
stream_stop stream.Memory = stop.Outside outside.Memory
stream_stop stream.Read = stop.Outside outside.Read
stream_stop (stream.Text fault) = stop.Refused (refuse.Text fault)
stream_stop (stream.BadSchedule line) = stop.Refused (refuse.BadSchedule line)
stream_stop (stream.ScheduleEnded line) = stop.Refused (refuse.ScheduleEnded line)
stream_stop (stream.TooManyEvents limit) = stop.Refused (refuse.TooManyEvents limit)

-- ---- statuses

abbrev pub text_status : TextFault → Status
text_status (Input fault) = status.Input
text_status (TooManyEdges limit) = status.Limit
text_status (InputTooLong limit) = status.Limit

abbrev pub outside_status : Outside → Status
outside_status outside.Memory = status.Memory
outside_status outside.Read = status.ReadFault
outside_status outside.Depot = status.DepotFault
outside_status outside.Write = status.WriteFault

abbrev pub refusal_status : Refusal → Status
refusal_status (refuse.Usage fault) = status.Usage
refusal_status (refuse.TooMany many) = status.Limit
refusal_status (refuse.Text fault) = text_status fault
refusal_status (refuse.BudgetTooSmall need given) = status.Limit
refusal_status (refuse.BadSchedule line) = status.Input
refusal_status (refuse.ScheduleEnded line) = status.Input
refusal_status (refuse.TooManyEvents limit) = status.Limit
refusal_status (refuse.Illegal event why) = status.Schedule

abbrev pub stop_status : Stop → Status
stop_status (stop.Outside why) = outside_status why
stop_status (stop.Damaged damage) = status.Grid
stop_status (stop.Refused why) = refusal_status why

abbrev pub ending_status : Ending → Status
ending_status (over_in t v) = status.Range
ending_status (still_in t) = status.Done
ending_status (limit_at t) = status.Done

-- ---- fault lines

-- that of a run that ended, where it has one
abbrev pub ending_line : Ending → List ℕ
ending_line (over_in t v) = codes "lumos: range: iteration " ++ decimal t ++ codes " vertex " ++ decimal v ++ codes "\n"
ending_line (still_in t) = []
ending_line (limit_at t) = []

abbrev pub usage_text : UsageWhat → List ℕ
usage_text usage.NoCommand = codes "no command"
usage_text usage.UnknownCommand = codes "unknown command"
usage_text usage.WordsNotUnderstood = codes "words not understood"
usage_text usage.NoProgram = codes "no program"
usage_text usage.UnknownProgram = codes "unknown program"
usage_text usage.EmptyDirectory = codes "empty directory"
usage_text usage.BadNumber = codes "bad number"
usage_text usage.NumberOutside = codes "number outside its range"
usage_text usage.BadMode = codes "bad mode"
usage_text usage.BadShow = codes "bad show"
usage_text usage.BadSeeds = codes "bad seeds"

abbrev pub option_text : Option OptionName → List ℕ
option_text None = []
option_text (Some name) = codes " for --" ++ name_of name

abbrev pub input_text : InputWhat → List ℕ
input_text NotANumber = codes "not a number"
input_text MissingTarget = codes "missing target"
input_text TooManyFields = codes "too many fields"
input_text NumberTooLarge = codes "number too large"
input_text VertexTooLarge = codes "vertex too large"
input_text WeightTooLarge = codes "weight too large"
input_text VertexBeyond = codes "vertex beyond"

abbrev pub text_line : TextFault → List ℕ
text_line (Input fault) = codes "lumos: input: line " ++ decimal fault.line ++ codes ": " ++ input_text fault.what ++ codes "\n"
text_line (TooManyEdges limit) = codes "lumos: limit: edges " ++ decimal limit ++ codes "\n"
text_line (InputTooLong limit) = codes "lumos: limit: bytes " ++ decimal limit ++ codes "\n"

abbrev pub illegal_text : Illegal → List ℕ
illegal_text Bounds = codes "bounds"
illegal_text ColumnFinal = codes "column final"
illegal_text AlreadyDone = codes "already done"
illegal_text SourceNotFinal = codes "source not final"
illegal_text (NotSkippable vertex) = codes "vertex " ++ decimal vertex ++ codes " contributes"
illegal_text OldNotFinal = codes "old not final"
illegal_text (ColumnOpen row) = codes "row " ++ decimal row ++ codes " not done"

-- a file of a grid or a run, by its word
abbrev pub file_text : FileKind → List ℕ
file_text file.Meta = codes "meta"
file_text file.Primary = codes "primary"
file_text file.Secondary = codes "secondary"
file_text file.Info = codes "info"
file_text file.Values = codes "values"
file_text file.Sums = codes "sums"
file_text file.Spool = codes "spool"

-- the line of what the outside did
abbrev pub outside_line : Outside → List ℕ
outside_line outside.Memory = codes "lumos: memory\n"
outside_line outside.Read = codes "lumos: read fault\n"
outside_line outside.Depot = codes "lumos: depot fault\n"
outside_line outside.Write = codes "lumos: write fault\n"

-- of a number that can't stand where it stands
abbrev pub damage_line : Damage → List ℕ
damage_line damage = codes "lumos: damaged: " ++ file_text damage.file ++ codes " at " ++ decimal damage.place ++ codes " found " ++ decimal damage.found ++ codes "\n"

-- of what is refused
abbrev pub refusal_line : Refusal → List ℕ
refusal_line (refuse.Usage fault) = codes "lumos: usage: " ++ usage_text fault.what ++ option_text fault.option ++ codes "\n"
refusal_line (refuse.TooMany (Parts given limit)) = codes "lumos: limit: parts " ++ decimal given ++ codes " over " ++ decimal limit ++ codes "\n"
refusal_line (refuse.TooMany (Vertices given limit)) = codes "lumos: limit: vertices " ++ decimal given ++ codes " over " ++ decimal limit ++ codes "\n"
refusal_line (refuse.Text fault) = text_line fault
refusal_line (refuse.BudgetTooSmall need given) = codes "lumos: limit: budget needs " ++ decimal need ++ codes " given " ++ decimal given ++ codes "\n"
refusal_line (refuse.BadSchedule line) = codes "lumos: schedule: line " ++ decimal line ++ codes ": bad\n"
refusal_line (refuse.ScheduleEnded line) = codes "lumos: schedule: line " ++ decimal line ++ codes ": ended\n"
refusal_line (refuse.TooManyEvents limit) = codes "lumos: limit: events " ++ decimal limit ++ codes "\n"
refusal_line (refuse.Illegal event why) = codes "lumos: illegal: event " ++ decimal event ++ codes ": " ++ illegal_text why ++ codes "\n"

-- of a command that stopped
abbrev pub stop_line : Stop → List ℕ
stop_line (stop.Outside why) = outside_line why
stop_line (stop.Damaged damage) = damage_line damage
stop_line (stop.Refused why) = refusal_line why
