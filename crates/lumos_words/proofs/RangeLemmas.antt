-- A run or a sample that words ask for has at most a million iterations.
use Rattle.std.proofs.Common.{◌≡◌, ◌≤◌, ℕ, Bool, true, false, nat_le, Option, Some, None, Result, Ok, Err, codes, refl, ap, subst, arith}
use Rattle.std.specs.Prelude.{⊤, ◌&&◌, List, [], ◌∷◌, IfSome, unwrap_or, if◌then◌else◌}
use Rattle.std.proofs.lemmas.Bool.{leb-true}
use Rattle.lumos_words.specs.Faults.{fault_for, name_of}
use Rattle.lumos_words.specs.Numbers.{number_of}
use Rattle.lumos_words.specs.Options.{Text, command_of, has_program, options_of}
use Rattle.lumos_words.specs.Requests.{asked, request, request_behind, request_for, request_said, request_with}
use Rattle.lumos_words.specs.Settings.{Say, directory, draws_of, greatest, if_good, is_set, least_vertices, non_empty, number_in, number_or, number_said, plan_of, ranged, sizes_of, task_of, ways_of}
use Rattle.lumos_words.specs.Words.{Items, said, understood}
use Rattle.lumos_words.specs.declared.faults.OptionName.{OptionName}
use Rattle.lumos_words.specs.declared.faults.OptionName.TheVariants as option
use Rattle.lumos_words.specs.declared.faults.UsageFault.{UsageFault}
use Rattle.lumos_words.specs.declared.faults.UsageWhat.TheVariants as what
use Rattle.lumos_words.specs.declared.request.Request.{Request}
use Rattle.lumos_words.specs.declared.request.Request.TheVariants as requested
use Rattle.lumos_words.specs.declared.settings.Draws.{Draws}
use Rattle.lumos_words.specs.declared.settings.Plan.{Plan}
use Rattle.lumos_words.specs.declared.settings.Sizes.{Sizes}
use Rattle.lumos_words.specs.declared.settings.Task.{Task}
use Rattle.lumos_words.specs.declared.settings.Task.TheVariants as task
use Rattle.lumos_words.specs.declared.settings.Ways.{Ways}
use Rattle.lumos_words.specs.declared.table.CommandWord.{CommandWord}

-- a run or a sample has at most a million iterations
abbrev pub IsFew : Request → Type 0
IsFew (requested.Run program grid iterate) = iterate.iterations ≤ 1000000
IsFew (requested.Build grid) = ⊤
IsFew (requested.Replay program parts vertices both) = ⊤
IsFew (requested.Sample program grid iterate seed edges) = iterate.iterations ≤ 1000000

-- a good answer, and what follows it
record IsGood {A B : Type 0} (r : Result A UsageFault) (next : A → Result B UsageFault) (x : B) : Type 0 where
  first : A
  is : r ≡ Ok first
  rest : next first ≡ Ok x

good : {A B : Type 0} (r : Result A UsageFault) (next : A → Result B UsageFault) (x : B) → if_good r next ≡ Ok x → IsGood r next x
good (Ok first) next x is = record { first = first; is = refl; rest = is }
good (Err why) next x is = absurd (cc)

-- a number that is taken lies in its range
tested_low : (low high : Bool) (n most : ℕ) (why : UsageFault) (m : Option ℕ) → nat_le n most ≡ high → (if low && high then Ok (Some n) else Err why) ≡ Ok m → IfSome m (λ k. k ≤ most)
tested_low true true n most why m test is =
    let same : Some n ≡ m = cc in
    subst (λ (o : Option ℕ). IfSome o (λ k. k ≤ most)) same (leb-true n most test)
tested_low true false n most why m test is = absurd (cc)
tested_low false true n most why m test is = absurd (cc)
tested_low false false n most why m test is = absurd (cc)

ranged_low : (name : OptionName) (low high : ℕ) (given m : Option ℕ) → ranged name low high given ≡ Ok m → IfSome m (λ k. k ≤ high)
ranged_low name low high None m is = absurd (cc)
ranged_low name low high (Some n) m is = tested_low (nat_le low n) (nat_le n high) n high (fault_for what.NumberOutside name) m refl is

said_low : (name : OptionName) (low high : ℕ) (text : Option Text) (m : Option ℕ) → number_said name low high text ≡ Ok m → IfSome m (λ k. k ≤ high)
said_low name low high None m is =
    let same : None ≡ m = cc in
    subst (λ (o : Option ℕ). IfSome o (λ k. k ≤ high)) same tt
said_low name low high (Some text) m is = ranged_low name low high (number_of text) m is

or_low : (m : Option ℕ) (absent high : ℕ) → absent ≤ high → IfSome m (λ k. k ≤ high) → unwrap_or m absent ≤ high
or_low None absent high few h = few
or_low (Some n) absent high few h = h

number_low : (name : OptionName) (low high absent : ℕ) (say : Say) (n : ℕ) → absent ≤ high → number_or name low high absent say ≡ Ok n → n ≤ high
number_low name low high absent say n few is =
    let h = good (number_in name low high say) (λ m. Ok (unwrap_or m absent)) n is in
    let rest = h.rest in
    let same : unwrap_or h.first absent ≡ n = cc in
    subst (λ k. k ≤ high) same (or_low h.first absent high few (said_low name low high (say (name_of name)) h.first h.is))

abbrev iterations_in : Result Sizes UsageFault → ℕ
iterations_in (Ok sizes) = sizes.iterations
iterations_in (Err why) = 0

sizes_few : (t : Task) (say : Say) (sizes : Sizes) → sizes_of t say ≡ Ok sizes → sizes.iterations ≤ 1000000
sizes_few t say sizes is =
    let parts = good (number_in option.Parts 1 greatest say) _ _ is in
    let iterations = good (number_or option.Iterations 1 1000000 10 say) _ _ parts.rest in
    let budget = good (number_or option.Budget 1 1099511627776 1073741824 say) _ _ iterations.rest in
    let vertices = good (number_in option.Vertices (least_vertices t) greatest say) _ _ budget.rest in
    let edges = good (number_or option.MaxEdges 0 2147483648 2147483648 say) _ _ vertices.rest in
    let bytes = good (number_or option.MaxBytes 0 1099511627776 1099511627776 say) _ _ edges.rest in
    let same : iterations.first ≡ sizes.iterations = ap iterations_in bytes.rest in
    let few = number_low option.Iterations 1 1000000 10 say iterations.first (omega arith) iterations.is in
    omega arith

plan_few : (command : CommandWord) (say : Say) (plan : Plan) → plan_of command say ≡ Ok plan → plan.sizes.iterations ≤ 1000000
plan_few command say plan is =
    let made = good (task_of command (say (codes "PROGRAM"))) _ _ is in
    let dir = good (non_empty (directory (say (codes "dir")))) _ _ made.rest in
    let sizes = good (sizes_of made.first say) _ _ dir.rest in
    let ways = good (ways_of made.first say) _ _ sizes.rest in
    let draws = good (draws_of say) _ _ ways.rest in
    let rest = draws.rest in
    let same : sizes.first ≡ plan.sizes = cc in
    subst (λ (s : Sizes). s.iterations ≤ 1000000) same (sizes_few made.first say sizes.first sizes.is)

with_few : (t : Task) (sizes : Sizes) (ways : Ways) (draws : Draws) (dir : Text) (both : Bool) → sizes.iterations ≤ 1000000 → IsFew (request_with t sizes ways draws dir both)
with_few (task.Run program) sizes ways draws dir both few = few
with_few task.Build sizes ways draws dir both few = tt
with_few (task.Replay program) sizes ways draws dir both few = tt
with_few (task.Sample program) sizes ways draws dir both few = few

asked_few : (command : CommandWord) (say : Say) (r : Request) → asked command say ≡ Ok r → IsFew r
asked_few command say r is =
    let plan = good (plan_of command say) _ _ is in
    let rest = plan.rest in
    let dir = directory (say (codes "dir")) in
    let both = is_set (say (codes "both")) in
    let same : request_for plan.first dir both ≡ r = cc in
    subst IsFew same (with_few plan.first.task plan.first.sizes plan.first.ways plan.first.draws dir both (plan_few command say plan.first plan.is))

said_few : (command : CommandWord) (items : Items) (r : Request) → request_said command items ≡ Ok r → IsFew r
said_few command None r is = absurd (cc)
said_few command (Some items) r is = asked_few command (λ name. said name items) r is

behind_few : (command : Option CommandWord) (rest : List Text) (r : Request) → request_behind command rest ≡ Ok r → IsFew r
behind_few None rest r is = absurd (cc)
behind_few (Some command) rest r is = said_few command (understood (options_of command) (has_program command) rest) r is

-- a run or a sample that words ask for has at most a million iterations
pub request_few : (words : List Text) (r : Request) → request words ≡ Ok r → IsFew r
request_few [] r is = absurd (cc)
request_few (word ∷ rest) r is = behind_few (command_of word) rest r is
