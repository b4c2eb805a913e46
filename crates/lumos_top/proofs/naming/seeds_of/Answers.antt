use Rattle.std.proofs.Common.{◌≡◌, ◌<◌, ◌++◌, ◌∷◌, [], ℕ, List, None, Some, length, take, get_or, sym, ap, subst, ◌∙◌, arith}
use Rattle.std.proofs.Math.Seq.{take-length}
use Rattle.programs.specs.Seeds.{seed_refusal}
use Rattle.lumos_words.specs.declared.request.SeedWord.{SeedWord}
use Rattle.lumos_top.specs.Programs.{seed_from, seeds_from}
use Rattle.lumos_top.proofs.SeedLemmas.{seed_taken, seeds_next}
use Rattle.lumos_top.proofs.naming.seeds_of.Goals as goal

pub loop-k-init : goal.loop-k-init
loop-k-init c = c.new-seeds.ensures

pub unreachable-requires : goal.unreachable-requires
unreachable-requires c =
    let words = c.args.words.now in
    let k = c.loop-k.k in
    let d : SeedWord = record { vertex = 0; class = 0 } in
    let some = subst (λ (ws : List SeedWord). k < length ws) c.items-items.ensures c.loop-k-test.true in
    let refused : seed_refusal (seeds_from (take k words)) (seed_from (get_or words k d)) ≡ Some c.in_default.field-0 =
    subst (λ (ws : List SeedWord). seed_refusal (seeds_from (take k words)) (seed_from (get_or ws k d)) ≡ Some c.in_default.field-0) c.items-items.ensures
    (subst (λ seeds. seed_refusal seeds (seed_from (get_or c.items-items.result.now k d)) ≡ Some c.in_default.field-0) c.loop-k.invariant c.in_default.ensures.0) in
    let both : None ≡ Some c.in_default.field-0 = sym (seed_taken words k d c.requires some) ∙ refused in cc

pub loop-k-preserved : goal.loop-k-preserved
loop-k-preserved c =
    let words = c.args.words.now in
    let k = c.loop-k.k in
    let d : SeedWord = record { vertex = 0; class = 0 } in
    let some = subst (λ (ws : List SeedWord). k < length ws) c.items-items.ensures c.loop-k-test.true in
    c.in-Ok.ensures.1
    ∙ ap (λ seeds. seeds ++ seed_from (get_or c.items-items.result.now k d) ∷ []) c.loop-k.invariant
    ∙ ap (λ (ws : List SeedWord). seeds_from (take k words) ++ seed_from (get_or ws k d) ∷ []) c.items-items.ensures
    ∙ seeds_next words k d some

pub returns : goal.returns
returns c =
    let words = c.args.words.now in
    let long : length c.items-items.result.now ≡ length words = ap length c.items-items.ensures in
    let all : c.loop-k.k ≡ length words = omega (arith, long, c.loop-k.auto, c.loop-k-test.false) in
    c.loop-k.invariant ∙ ap (λ (n : ℕ). seeds_from (take n words)) all ∙ ap seeds_from (take-length words)
