-- How the reading of a list into Spool ends.
use Rattle.std.specs.Prelude.{◌≡◌, ℕ, List, [], flat_map, length, Option, Some, IfSome, Result, Ok, Err}
use Rattle.lumos_base.specs.Records.{edge_bytes}
use Rattle.edge_text.specs.Reading.{Listed, reading}
use Rattle.edge_text.specs.declared.fault.TextFault.TheVariants as text
use Rattle.edge_text.specs.declared.fault.TextLimits.{TextLimits}
use Rattle.grid_build.specs.declared.options.BuildFault.{BuildFault}
use Rattle.grid_build.specs.declared.options.BuildFault.TheVariants.{Input, TooManyEdges, InputTooLong, BudgetTooSmall, Read, Depot, NoMemory}
use Rattle.grid_build.specs.declared.spool.Spooled.{Spooled}

-- The text reads as a list that was counted, and Spool, where it is told, has its edges.
pub record IsSpooled (limits : TextLimits) (bytes : List ℕ) (spool : Option (List ℕ)) (spooled : Spooled) : Type 0 where
  pub list : Listed
  pub is : reading limits bytes ≡ Ok list
  pub edges : spooled.edges ≡ length list.edges
  pub vertices : spooled.vertices ≡ list.vertices
  pub kept : IfSome spool (λ file. file ≡ flat_map edge_bytes list.edges)

-- The answer is that of the bytes, which were read to their end, or a fault of theirs; else the outside stopped it.
abbrev pub SpoolsAs : TextLimits → List ℕ → Option (List ℕ) → Option (List ℕ) → Option (List ℕ) → Result Spooled BuildFault → Type 0
SpoolsAs limits bytes old new spool (Ok spooled) = IsSpooled limits bytes spool spooled × (old ≡ Some bytes → new ≡ Some [])
SpoolsAs limits bytes old new spool (Err (Input fault)) = reading limits bytes ≡ Err (text.Input fault)
SpoolsAs limits bytes old new spool (Err (TooManyEdges limit)) = reading limits bytes ≡ Err (text.TooManyEdges limit)
SpoolsAs limits bytes old new spool (Err (InputTooLong limit)) = reading limits bytes ≡ Err (text.InputTooLong limit)
SpoolsAs limits bytes old new spool (Err (BudgetTooSmall need given)) = ⊥
SpoolsAs limits bytes old new spool (Err Read) = Unit {0}
SpoolsAs limits bytes old new spool (Err Depot) = Unit {0}
SpoolsAs limits bytes old new spool (Err NoMemory) = Unit {0}

-- There are bytes, those that were left where the source tells them, that were read into Spool.
pub record HasSpooled (limits : TextLimits) (old new : Option (List ℕ)) (spool : Option (List ℕ)) (result : Result Spooled BuildFault) : Type 0 where
  pub bytes : List ℕ
  pub told : (all : List ℕ) → old ≡ Some all → bytes ≡ all
  pub reads : SpoolsAs limits bytes old new spool result
