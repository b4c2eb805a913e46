-- Passes over Spool, from their beginning to their end.
use Rattle.std.proofs.Common.{◌≡◌, ◌≤◌, ℕ, List, [], length, Option, Ok, refl, ◌∙◌, arith}
use Rattle.std.proofs.lemmas.List.{take_all}
use Rattle.std.proofs.lemmas.List.Elements.{All-nil}
use Rattle.lumos_base.specs.declared.records.Edge.{Edge}
use Rattle.lumos_depot.specs.Files.{HasDepotCause}
use Rattle.partition.specs.Blocks.{IsBelow}
use Rattle.grid_build.specs.Passes.{IsPass, IsSpool}

pub pass_none : (n : ℕ) (spool : Option (List ℕ)) → IsPass n spool 0 []
pass_none n spool = record { whole = refl; below = All-nil (IsBelow n); told = λ list is room. refl }

-- a pass over all of a Spool that is told gave its list
pub pass_whole : (n : ℕ) (spool : Option (List ℕ)) (count : ℕ) (given list : List Edge) → IsPass n spool count given → IsSpool n spool list → length list ≡ count → given ≡ list
pass_whole n spool count given list passed told many = passed.told list told (omega arith) ∙ take_all count list (omega arith)

-- a step that didn't fail owes no cause
pub cause_ok : {T : Type 0} (before now : ℕ) (x : T) → before ≤ now → HasDepotCause before now (Ok x)
cause_ok before now x later = record { later = later; failed = λ failed. absurd (cc) }
