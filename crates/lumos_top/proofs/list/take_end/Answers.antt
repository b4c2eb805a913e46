use Rattle.std.proofs.Common.{◌≤◌, ℕ, Option, sym, subst}
use Rattle.std.specs.Prelude.{IfSome}
use Rattle.lumos_top.proofs.ListLemmas.{greatest_low}
use Rattle.lumos_top.proofs.list.take_end.Goals as goal

pub vertices_of-requires : goal.vertices_of-requires
vertices_of-requires c =
    let read = c.requires.read in
    let end = c.in-Ok.ensures.reads read.0 c.args.edges.items read.1 in
    let low = subst (λ l. l.max_vertex ≤ 268435455) (sym c.requires.limits) c.requires.vertex in
    subst (λ (o : Option ℕ). IfSome o (λ vertex. vertex ≤ 268435455)) (sym end.2) (greatest_low c.args.reader.limits read.0 _ low end.0)
