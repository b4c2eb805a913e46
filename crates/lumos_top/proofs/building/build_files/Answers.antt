use Rattle.std.proofs.Common.{◌∙◌}
use Rattle.lumos_depot.specs.declared.depot.FileKind.TheVariants.{Primary, Secondary}
use Rattle.grid_build.proofs.CopyLemmas.{copies_long}
use Rattle.lumos_top.proofs.GridEnds.{build_leaves, copied_by, leaves_then, not_built, on_ok_by, same_leaves}
use Rattle.lumos_top.proofs.building.build_files.Goals as goal

pub returns-in-Failed-clause-leaves : goal.returns-in-Failed-clause-leaves
returns-in-Failed-clause-leaves g c = same_leaves g.D.Depot.holds g.D.Depot.taken g.D.Depot.stored _ _ c.attach.ensures.contents c.attach.ensures.taken c.attach.ensures.stored

pub returns-in-NoMemory-clause-leaves : goal.returns-in-NoMemory-clause-leaves
returns-in-NoMemory-clause-leaves g c = same_leaves g.D.Depot.holds g.D.Depot.taken g.D.Depot.stored _ _ c.attach.ensures.contents c.attach.ensures.taken c.attach.ensures.stored

pub returns-clause-leaves : goal.returns-clause-leaves
returns-clause-leaves g c =
    let h = g.D.Depot.holds in
    let t = g.D.Depot.taken in
    let s = g.D.Depot.stored in
    leaves_then h t s _ _ _ (same_leaves h t s _ _ c.attach.ensures.contents c.attach.ensures.taken c.attach.ensures.stored) (build_leaves h t s g.D.Depot.faults g.D.Depot.attached _ _ c.build.ensures.leaves)

pub returns-clause-copied : goal.returns-clause-copied
returns-clause-copied g c = on_ok_by c.build.result _ _ c.build.ensures.copied (λ info h. copied_by _ _ _ _ _ (c.attach.ensures.taken Primary) (copies_long _ _ _ _ _ _ h))

pub returns-clause-unread : goal.returns-clause-unread
returns-clause-unread g c = c.build.ensures.leaves.taken Secondary (λ e. cc) (λ e. cc) ∙ c.attach.ensures.taken Secondary

pub returns-in-Failed-clause-built : goal.returns-in-Failed-clause-built
returns-in-Failed-clause-built g c = not_built _ _ _ _ _ _ (λ bytes. tt)

pub returns-in-NoMemory-clause-built : goal.returns-in-NoMemory-clause-built
returns-in-NoMemory-clause-built g c = not_built _ _ _ _ _ _ (λ bytes. tt)
