-- The exit status of a status.
use Rattle.std.specs.Prelude.{ℕ}
use Rattle.lumos_top.specs.declared.status.Status.{Status}
use Rattle.lumos_top.specs.declared.status.Status.TheVariants.{Done, Memory, Usage, Input, Limit, Range, ReadFault, DepotFault, WriteFault, Grid, Schedule}

abbrev pub code_of : Status → ℕ
code_of Done = 0
code_of Memory = 1
code_of Usage = 2
code_of Input = 3
code_of Limit = 4
code_of Range = 5
code_of ReadFault = 6
code_of DepotFault = 7
code_of WriteFault = 8
code_of Grid = 9
code_of Schedule = 10
