-- What follows of an answer.
use Rattle.std.proofs.Common.{◌≡◌, ℕ, List, length, map, Option, Some, None, Result, Ok, Err, sym, ap, ◌∙◌}
use Rattle.std.specs.Prelude.{IfSome, IfErr, IfOk, OnOk}
use Rattle.lumos_depot.specs.Steps.{Moves, Stores}
use Rattle.lumos_depot.specs.declared.depot.FileKind.{FileKind}
use Rattle.lumos_depot.proofs.StepLemmas.{same_all_but}
use Rattle.value_files.specs.declared.fault.FileFault.{FileFault}
use Rattle.value_files.specs.declared.fault.FileFault.TheVariants.{Depot, Damaged}
use Rattle.value_files.specs.Records.{AreTold, FaultIs, IsIntact, damage_at, records_at}
use Rattle.value_files.proofs.DamageLemmas.{sound}

pub on_ok_more : {T E : Type 0} (result : Result T E) (P Q : Type 0) → (P → Q) → OnOk result P → OnOk result Q
on_ok_more (Ok x) P Q step h = step h
on_ok_more (Err e) P Q step h = tt

intact_of : {T : Type 0} (result : Result T FileFault) (fault : Option FileFault) → FaultIs result fault → fault ≡ None → IfErr result IsIntact
intact_of (Ok x) fault is none = tt
intact_of (Err Depot) fault is none = tt
intact_of (Err (Damaged file place found)) fault is none = absurd (cc)

-- records that stand for values aren't damaged
pub intact_told : {T V : Type 0} (value_of : List ℕ → Option V) (w : ℕ) (file : FileKind) (place n : ℕ) (xs : List V) (told : Option (List ℕ)) (result : Result T FileFault) → length xs ≡ n → AreTold value_of w place xs told
    → IfSome told (λ held. FaultIs result (damage_at value_of w file place n held)) → IfErr result IsIntact
intact_told value_of w file place n xs None result long are fault = absurd are
intact_told value_of w file place n xs (Some held) result long are fault =
    intact_of result (damage_at value_of w file place n held) fault (sound value_of w file place (records_at w place n held) xs (ap (λ (k : ℕ). map value_of (records_at w place k held)) (sym long) ∙ are))

module _ {D : Type 0} (h : D → FileKind → Option (List ℕ)) (t s : D → FileKind → ℕ) (f : D → ℕ) (a : D → Option (List ℕ)) where
  -- a step that changes one file reads none
  pub stores_moves : (from to : FileKind) (x y : D) → Stores h t s f a to x y → Moves h t s f a from to x y
  stores_moves from to x y stores = record {
    attached = stores.attached;
    contents = stores.contents;
    taken = same_all_but from (t x) (t y) stores.taken;
    stored = stores.stored;
    later = stores.later;
  }

pub if_ok_more : {T E : Type 0} (result : Result T E) (P Q : T → Type 0) → ((x : T) → P x → Q x) → IfOk result P → IfOk result Q
if_ok_more (Ok x) P Q step h = step x h
if_ok_more (Err e) P Q step h = tt
