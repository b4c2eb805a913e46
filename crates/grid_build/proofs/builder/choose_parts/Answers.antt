use Rattle.std.proofs.Common.{◌≡◌, ◌≤◌, ◌*◌, ◌∙◌, ℕ, Result, Err, refl, sym, ap, subst, arith}
use Rattle.std.proofs.lemmas.Nat.{mul-le}
use Rattle.partition.specs.Parts.{chunk_of, chunk_size}
use Rattle.grid_build.specs.Chosen.{MayChoose}
use Rattle.grid_build.specs.declared.options.BuildFault.{BuildFault}
use Rattle.grid_build.specs.declared.options.BuildFault.TheVariants.{BudgetTooSmall}
use Rattle.grid_build.proofs.builder.choose_parts.Goals as goal

pub overflow_mul-result : goal.overflow_mul-result
overflow_mul-result c =
    let narrow : c.in-Fitted.per_vertex ≤ 256 = subst MayChoose c.in-Fitted.is c.requires.choice in
    let few : c.from.result ≤ 268435456 = omega (arith, c.from.ensures, c.chunk.ensures.few) in
    let most = mul-le c.from.result c.in-Fitted.per_vertex 268435456 256 few narrow in
    omega (arith, most)

pub returns-in-Some-clause-value : goal.returns-in-Some-clause-value
returns-in-Some-clause-value c = rw (c.in-Fitted.is, sym c.in-Some.ensures.value) refl

pub returns-in-None-clause-value : goal.returns-in-None-clause-value
returns-in-None-clause-value c =
    let chunk : c.from.result ≡ chunk_size c.args.vertices 256 = c.from.ensures ∙ c.chunk.ensures.value ∙ ap chunk_of c.cut.ensures in
    let told : ℕ → Result ℕ BuildFault = λ size. Err (BudgetTooSmall (size * c.in-Fitted.per_vertex) c.in-Fitted.budget) in
    rw (c.in-Fitted.is, sym c.in-None.ensures.value) (ap told chunk)
