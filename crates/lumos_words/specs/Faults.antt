-- The faults of words, and the names of options with numbers.
use Rattle.std.specs.Prelude.{ℕ, List, Some, None, codes}
use Rattle.lumos_words.specs.declared.faults.OptionName.{OptionName}
use Rattle.lumos_words.specs.declared.faults.OptionName.TheVariants as option
use Rattle.lumos_words.specs.declared.faults.UsageWhat.{UsageWhat}
use Rattle.lumos_words.specs.declared.faults.UsageFault.{UsageFault}

-- a fault of no option, and one of an option's number
abbrev pub fault : UsageWhat → UsageFault
fault what = record { what = what; option = None }

abbrev pub fault_for : UsageWhat → OptionName → UsageFault
fault_for what name = record { what = what; option = Some name }

-- the name of an option, without its hyphens
abbrev pub name_of : OptionName → List ℕ
name_of option.Parts = codes "parts"
name_of option.Iterations = codes "iterations"
name_of option.Budget = codes "budget"
name_of option.Vertices = codes "vertices"
name_of option.MaxEdges = codes "max-edges"
name_of option.MaxBytes = codes "max-bytes"
name_of option.Unit = codes "unit"
name_of option.Share = codes "share"
name_of option.From = codes "from"
name_of option.Seed = codes "seed"
name_of option.Edges = codes "edges"
