-- Which files a run takes bytes of, and in which it stores some.
use Rattle.std.specs.Prelude.{ℕ, ◌||◌, Bool, true, false}
use Rattle.std.specs.List.{list_any, range_with_len}
use Rattle.lumos_depot.specs.declared.depot.FileKind.{FileKind}
use Rattle.lumos_depot.specs.declared.depot.FileKind.TheVariants.{Meta, Primary, Secondary, Info, Values, Sums, Spool}
use Rattle.lumos_report.specs.declared.records.Kind.{Kind}
use Rattle.lumos_report.specs.declared.records.Kind.TheVariants.{Full, Fed}
use Rattle.early_engine.specs.Passes.{feeds_ahead, kind_of}
use Rattle.early_engine.specs.declared.options.Mode.{Mode}

abbrev pub is_full : Kind → Bool
is_full Full = true
is_full Fed = false

abbrev pub is_fed : Kind → Bool
is_fed Full = false
is_fed Fed = true

-- an iteration of a kind takes the blocks of its file, the values, and, where it is fed, the early sums
abbrev pub takes_of : Kind → FileKind → Bool
takes_of kind Meta = false
takes_of kind Primary = is_full kind
takes_of kind Secondary = is_fed kind
takes_of kind Info = false
takes_of kind Values = true
takes_of kind Sums = is_fed kind
takes_of kind Spool = false

-- it stores the values, and, where it feeds ahead, early sums
abbrev pub stores_of : Bool → FileKind → Bool
stores_of ahead Meta = false
stores_of ahead Primary = false
stores_of ahead Secondary = false
stores_of ahead Info = false
stores_of ahead Values = true
stores_of ahead Sums = ahead
stores_of ahead Spool = false

-- reading alone stores nothing
abbrev pub stores_none : FileKind → Bool
stores_none kind = false

-- the beginning of a run takes what leads out of the vertices and the values, and stores the values
abbrev pub start_takes : FileKind → Bool
start_takes Meta = false
start_takes Primary = false
start_takes Secondary = false
start_takes Info = true
start_takes Values = true
start_takes Sums = false
start_takes Spool = false

-- what the beginning and the first `limit` iterations take
abbrev pub run_takes : Mode → ℕ → FileKind → Bool
run_takes mode limit kind = start_takes kind || list_any (λ t. takes_of (kind_of mode t) kind) (range_with_len 1 limit)

-- and store
abbrev pub run_stores : Mode → ℕ → FileKind → Bool
run_stores mode limit kind = stores_of false kind || list_any (λ t. stores_of (feeds_ahead mode limit t) kind) (range_with_len 1 limit)

-- making files as long as they have to be takes nothing
abbrev pub takes_none : FileKind → Bool
takes_none kind = false

-- opening an engine takes the numbers of edges of the blocks
abbrev pub open_takes : FileKind → Bool
open_takes Meta = true
open_takes Primary = false
open_takes Secondary = false
open_takes Info = false
open_takes Values = false
open_takes Sums = false
open_takes Spool = false
