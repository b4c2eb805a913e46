use Rattle.std.proofs.Common.{◌≡◌, suc, ◌+◌, None, take, sym, subst, arith}
use Rattle.programs.specs.Seeds.{class_of}
use Rattle.programs.specs.SeedLaws.{class_hit, class_miss}
use Rattle.programs.specs.declared.seeds.Seed.{Seed}
use Rattle.programs.proofs.seeds.class_in.Goals as goal

-- read where there is no other seed
abbrev no_seed : Seed
no_seed = record { vertex = 0; class = 0 }

pub returns-then-seed-vertex : goal.returns-then-seed-vertex
returns-then-seed-vertex c =
    sym (class_hit c.args.vertex c.args.seeds.now c.loop-seed.seed-index no_seed c.loop-seed-test.true c.loop-seed.invariant c.if-seed-vertex.true)

pub loop-seed-preserved : goal.loop-seed-preserved
loop-seed-preserved c =
    let next : suc c.loop-seed.seed-index ≡ c.loop-seed.seed-index + 1 = omega arith in
    subst (λ k. class_of (take k c.args.seeds.now) c.args.vertex ≡ None) next
    (class_miss c.args.vertex c.args.seeds.now c.loop-seed.seed-index no_seed c.loop-seed-test.true c.loop-seed.invariant c.if-seed-vertex.false)
