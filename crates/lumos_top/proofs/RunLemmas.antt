-- What a run comes to.
use Rattle.std.proofs.Common.{◌≡◌, ◌==◌, ℕ, Bool, true, false, nat_lt, List, [], Option, Some, None, Result, Ok, Err, refl, sym, ap, subst, ◌∙◌}
use Rattle.std.specs.Prelude.{if◌then◌else◌, unwrap_or}
use Rattle.partition.specs.Fitting.{need_at}
use Rattle.partition.specs.Parts.{Cut, cut_of}
use Rattle.partition.specs.declared.records.PartFault.TheVariants.{ZeroParts, TooManyParts, TooManyVertices}
use Rattle.lumos_depot.specs.declared.depot.FileKind.{FileKind}
use Rattle.edge_text.specs.Reading.{Listed, reading}
use Rattle.edge_text.specs.declared.fault.TextFault.{TextFault}
use Rattle.edge_text.specs.declared.fault.TextLimits.{TextLimits}
use Rattle.lumos_top.specs.Answers.{Built, Did, Halted, answer, answer_to, built_head, built_on, did_run, done_with, done_within, halted, need_in, ran_on, ran_parts, run_parts, window_bytes}
use Rattle.lumos_top.specs.Ends.{Ends, EndsOn, HasDone}
use Rattle.lumos_top.specs.Sides.{IsEntry, SameGrid, Sides}
use Rattle.lumos_law.specs.Program.{Program}
use Rattle.lumos_law.specs.declared.combines.Total4.{Total4}
use Rattle.programs.specs.Spreading.{spreading_program}
use Rattle.programs.specs.declared.seeds.Seed.{Seed}
use Rattle.programs.specs.declared.spreading.Scores.{Scores}
use Rattle.lumos_words.specs.Requests.{IsAnswer, request}
use Rattle.lumos_words.specs.declared.faults.WordsFault.{WordsFault}
use Rattle.lumos_words.specs.declared.faults.WordsFault.TheVariants.{Usage}
use Rattle.lumos_words.specs.declared.faults.UsageFault.{UsageFault}
use Rattle.lumos_words.specs.declared.request.BuildWords.{BuildWords}
use Rattle.lumos_words.specs.declared.request.IterWords.{IterWords}
use Rattle.lumos_words.specs.declared.request.ProgramWords.{ProgramWords}
use Rattle.lumos_words.specs.declared.request.Request.{Request}
use Rattle.lumos_top.specs.declared.status.Completed.{Completed}
use Rattle.lumos_top.specs.declared.status.Refusal.TheVariants as refuse
use Rattle.lumos_top.specs.declared.status.Stop.{Stop}
use Rattle.lumos_top.specs.declared.status.Stop.TheVariants as stop
use Rattle.lumos_top.specs.declared.status.TooMany.{TooMany}

cut_by : (a b d : Bool) (n p : ℕ) (cut : Cut) → (if a then Err ZeroParts else (if b then Err (TooManyParts p) else (if d then Err (TooManyVertices n) else Ok (record { vertices = n; parts = p })))) ≡ Ok cut → cut ≡ record { vertices = n; parts = p }
cut_by true b d n p cut h = absurd (cc)
cut_by false true d n p cut h = absurd (cc)
cut_by false false true n p cut h = absurd (cc)
cut_by false false false n p cut h = cc

-- a cut that was made is that of its numbers
pub cut_is : (n p : ℕ) (cut : Cut) → cut_of n p ≡ Ok cut → cut ≡ record { vertices = n; parts = p }
cut_is n p cut h = cut_by (p == 0) (nat_lt 256 p) (nat_lt 268435456 n) n p cut h

pub all_told : (left : Option (List ℕ)) (all : List ℕ) → left ≡ Some all → unwrap_or left [] ≡ all
all_told None all h = absurd (cc)
all_told (Some bytes) all h = cc

pub same_grid : (told : FileKind → Option (List ℕ)) → SameGrid told told
same_grid told = record { meta_file = refl; primary_file = refl; secondary_file = refl; info_file = refl }

-- what files hold, where they are told
abbrev pub contents : (FileKind → Option (List ℕ)) → FileKind → List ℕ
contents files kind = unwrap_or (files kind) []

pub entry_of : (input : List ℕ) (sides : Sides) → ((all : List ℕ) → sides.left_old ≡ Some all → input ≡ all) → IsEntry input (contents sides.was) sides
entry_of input sides left = record { left = left; holds = λ kind file is. all_told (sides.was kind) file is }

-- a command that was refused before it read anything
pub refused : (answer_on : List ℕ → (FileKind → List ℕ) → Result Did Halted) (why : Stop) (sides : Sides) → ((input : List ℕ) (files : FileKind → List ℕ) → Ends (answer_on input files) sides (Err why)) → EndsOn answer_on sides (Err why)
refused answer_on why sides ends = record {
  input = unwrap_or sides.left_old [];
  files = contents sides.was;
  entry = entry_of (unwrap_or sides.left_old []) sides (λ all h. all_told sides.left_old all h);
  ends = ends (unwrap_or sides.left_old []) (contents sides.was);
}

-- a command over a list that was read isn't refused for its words
abbrev pub AsksAll : (Listed → Result Did Halted) → Type 0
AsksAll command = (list : Listed) (fault : UsageFault) (halt : Halted) → halt.why ≡ stop.Refused (refuse.Usage fault) → command list ≡ Err halt → ⊥

asks_by : (b : Bool) (small halt : Halted) (did : Did) (need given : ℕ) (fault : UsageFault) → small.why ≡ stop.Refused (refuse.BudgetTooSmall need given) → halt.why ≡ stop.Refused (refuse.Usage fault) → (if b then Err small else Ok did) ≡ Err halt → ⊥
asks_by true small halt did need given fault is why h =
    let same : small ≡ halt = cc in
    let other : stop.Refused (refuse.BudgetTooSmall need given) ≡ stop.Refused (refuse.Usage fault) = sym is ∙ ap (λ (x : Halted). x.why) same ∙ why in cc
asks_by false small halt did need given fault is why h = cc

asks_over : (program : ProgramWords) (iterate : IterWords) (list : Listed) (parts : Option ℕ) (fault : UsageFault) (halt : Halted) → halt.why ≡ stop.Refused (refuse.Usage fault) → ran_parts program iterate list parts ≡ Err halt → ⊥
asks_over program iterate list (Some parts) fault halt why h =
    let own : Built = record { list = list; parts = parts } in
    let need = need_in program (built_head own) in
    asks_by (nat_lt iterate.budget need) (record { why = stop.Refused (refuse.BudgetTooSmall need iterate.budget); built = Some own }) halt (did_run program iterate own) need iterate.budget fault refl why h
asks_over program iterate list None fault halt why h =
    let need = need_at list.vertices (window_bytes program) 256 in
    let same : halted (refuse.BudgetTooSmall need iterate.budget) ≡ halt = cc in
    let other : stop.Refused (refuse.BudgetTooSmall need iterate.budget) ≡ stop.Refused (refuse.Usage fault) = ap (λ (x : Halted). x.why) same ∙ why in cc

pub run_asks : (program : ProgramWords) (words : BuildWords) (iterate : IterWords) → AsksAll (ran_on program words iterate)
run_asks program words iterate = λ list fault halt why h. asks_over program iterate list (run_parts program words iterate list.vertices) fault halt why h

pub build_asks : (words : BuildWords) → AsksAll (built_on words)
build_asks words = λ list fault halt why h. cc

no_usage : (command : Listed → Result Did Halted) (r : Result Listed TextFault) (fault : UsageFault) (halt : Halted) → AsksAll command → halt.why ≡ stop.Refused (refuse.Usage fault) → done_with command r ≡ Err halt → ⊥
no_usage command (Ok list) fault halt asks why h = asks list fault halt why h
no_usage command (Err text) fault halt asks why h =
    let same : halted (refuse.Text text) ≡ halt = cc in
    let other : stop.Refused (refuse.Text text) ≡ stop.Refused (refuse.Usage fault) = ap (λ (x : Halted). x.why) same ∙ why in cc

no_usage_at : (command : Listed → Result Did Halted) (r : Result Listed TextFault) (sides : Sides) (result : Result Completed Stop) (fault : UsageFault) → AsksAll command → result ≡ Err (stop.Refused (refuse.Usage fault)) → Ends (done_with command r) sides result → ⊥
no_usage_at command r sides result fault asks is h =
    let refused : Ends (done_with command r) sides (Err (stop.Refused (refuse.Usage fault))) = subst (Ends (done_with command r) sides) is h in
    no_usage command r fault (record { why = stop.Refused (refuse.Usage fault); built = refused.built }) asks refl refused.gives

-- a command over a list that is read within its limits
pub within_limits : (command : Listed → Result Did Halted) (r : Result TextLimits TooMany) (limits : TextLimits) (sides : Sides) (result : Result Completed Stop) → r ≡ Ok limits → HasDone command limits sides result → EndsOn (λ input files. done_within command r input) sides result
within_limits command r limits sides result is h = subst (λ l. EndsOn (λ input files. done_within command l input) sides result) (sym is) h

-- a command that words ask for
pub asked_for : (words : List (List ℕ)) (r : Result Request UsageFault) (sides : Sides) (result : Result Completed Stop) → request words ≡ r → EndsOn (answer_to r) sides result → EndsOn (answer words) sides result
asked_for words r sides result is h = subst (λ q. EndsOn (answer_to q) sides result) (sym is) h

-- a command that began doesn't stop at the words
pub began : (command : Listed → Result Did Halted) (limits : TextLimits) (sides : Sides) (result : Result Completed Stop) (fault : UsageFault) → AsksAll command → HasDone command limits sides result → result ≡ Err (stop.Refused (refuse.Usage fault)) → ⊥
began command limits sides result fault asks h is = no_usage_at command (reading limits h.input) sides result fault asks is h.ends

-- the same program by other names of its numbers and seeds
pub spread_as : (Q : Program Scores Total4 → Type 0) (unit own share other : ℕ) (seeds words : List Seed) → unit ≡ own → share ≡ other → seeds ≡ words → Q (spreading_program unit share seeds) → Q (spreading_program own other words)
spread_as Q unit own share other seeds words unit_is share_is seeds_are h =
    subst (λ (xs : List Seed). Q (spreading_program own other xs)) seeds_are
    (subst (λ (s : ℕ). Q (spreading_program own s seeds)) share_is
    (subst (λ (u : ℕ). Q (spreading_program u share seeds)) unit_is h))

-- words that were read, with a fault of theirs
pub is_usage : (wanted : Result Request UsageFault) (fault : WordsFault) (why : UsageFault) → fault ≡ Usage why → IsAnswer wanted (Err fault) → wanted ≡ Err why
is_usage wanted fault why is h = let told : IsAnswer wanted (Err (Usage why)) = subst (λ f. IsAnswer wanted (Err f)) is h in told
