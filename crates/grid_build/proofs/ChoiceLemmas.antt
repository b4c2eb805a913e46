-- A choice of parts refuses for the budget alone.
use Rattle.std.proofs.Common.{◌≡◌, ℕ, true, false, List, [], Option, Some, None, Err, refl, ap, subst}
use Rattle.std.specs.Prelude.{IfSome, is_some}
use Rattle.std.specs.Option.{ok_or, option_map}
use Rattle.lumos_depot.specs.declared.depot.FileKind.{FileKind}
use Rattle.edge_text.specs.declared.fault.TextLimits.{TextLimits}
use Rattle.partition.specs.Fitting.{least_parts, need_at}
use Rattle.grid_build.specs.Built.{BuildsAs, IsUnfit}
use Rattle.grid_build.specs.Chosen.{parts_for}
use Rattle.grid_build.specs.Growing.{StopsAt}
use Rattle.grid_build.specs.declared.options.BuildFault.{BuildFault}
use Rattle.grid_build.specs.declared.options.BuildFault.TheVariants.{Input, TooManyEdges, InputTooLong, BudgetTooSmall, Read, Depot, NoMemory}
use Rattle.grid_build.specs.declared.options.PartsChoice.{PartsChoice}
use Rattle.grid_build.specs.declared.options.PartsChoice.TheVariants.{Stated, Fitted}

abbrev pub IsTooSmall : BuildFault → Type 0
IsTooSmall (Input fault) = ⊥
IsTooSmall (TooManyEdges limit) = ⊥
IsTooSmall (InputTooLong limit) = ⊥
IsTooSmall (BudgetTooSmall need given) = Unit {0}
IsTooSmall Read = ⊥
IsTooSmall Depot = ⊥
IsTooSmall NoMemory = ⊥

fault_is : {A E : Type 0} (o : Option A) (e f : E) → ok_or o e ≡ Err f → e ≡ f
fault_is None e f h = cc
fault_is (Some a) e f h = absurd (cc)

pub too_small : (choice : PartsChoice) (n : ℕ) (fault : BuildFault) → parts_for choice n ≡ Err fault → IsTooSmall fault
too_small (Stated parts) n fault h = absurd (cc)
too_small (Fitted w budget) n fault h = subst IsTooSmall (fault_is (least_parts n w budget 16) (BudgetTooSmall (need_at n w 256) budget) fault h) tt

pub not_outside : (fault other : BuildFault) → IsTooSmall fault → (IsTooSmall other → ⊥) → fault ≡ other → ⊥
not_outside fault other small apart same = apart (subst IsTooSmall same small)

-- so it stops the source nowhere, and its answer is that of the bytes that were read
pub stops_small : (limits : TextLimits) (old new : Option (List ℕ)) (fault : BuildFault) → IsTooSmall fault → StopsAt limits old new fault
stops_small limits old new (Input fault) small = absurd small
stops_small limits old new (TooManyEdges limit) small = absurd small
stops_small limits old new (InputTooLong limit) small = absurd small
stops_small limits old new (BudgetTooSmall need given) small = tt
stops_small limits old new Read small = absurd small
stops_small limits old new Depot small = absurd small
stops_small limits old new NoMemory small = absurd small

pub builds_small : (limits : TextLimits) (choice : PartsChoice) (bytes : List ℕ) (old new : Option (List ℕ)) (before after : FileKind → Option (List ℕ)) (fault : BuildFault) → IsTooSmall fault → IsUnfit limits choice bytes before after fault → (old ≡ Some bytes → new ≡ Some []) → BuildsAs limits choice bytes old new before after (Err fault)
builds_small limits choice bytes old new before after (Input fault) small unfit read = absurd small
builds_small limits choice bytes old new before after (TooManyEdges limit) small unfit read = absurd small
builds_small limits choice bytes old new before after (InputTooLong limit) small unfit read = absurd small
builds_small limits choice bytes old new before after (BudgetTooSmall need given) small unfit read = (unfit, read)
builds_small limits choice bytes old new before after Read small unfit read = absurd small
builds_small limits choice bytes old new before after Depot small unfit read = absurd small
builds_small limits choice bytes old new before after NoMemory small unfit read = absurd small

-- a file that was filled between two depots that tell the same
pub kept_file : (before after : Option (List ℕ)) (bytes : List ℕ) → is_some after ≡ is_some before → IfSome after (λ file. file ≡ bytes) → after ≡ option_map (λ _. bytes) before
kept_file None None bytes same h = refl
kept_file None (Some file) bytes same h = absurd (let e : true ≡ false = same in cc)
kept_file (Some old) None bytes same h = absurd (let e : false ≡ true = same in cc)
kept_file (Some old) (Some file) bytes same h = ap Some h
