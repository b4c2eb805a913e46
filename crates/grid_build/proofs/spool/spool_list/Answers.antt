use Rattle.lumos_depot.specs.declared.depot.FileKind.{FileKind}
use Rattle.std.proofs.Common.{refl}
use Rattle.grid_build.proofs.Growing.{grown_none}
use Rattle.grid_build.proofs.SpoolEnds.{spool_none}
use Rattle.grid_build.proofs.spool.spool_list.Goals as goal

pub returns-in_default-clause-list : goal.returns-in_default-clause-list
returns-in_default-clause-list g c = spool_none c.args.limits (g.I.Source.left c.args.input.now) (g.D.Depot.holds c.args.depot.now FileKind.Spool)

pub returns-in_default-vec-clause-list : goal.returns-in_default-vec-clause-list
returns-in_default-vec-clause-list g c = spool_none c.args.limits (g.I.Source.left c.args.input.now) (g.D.Depot.holds c.args.depot.now FileKind.Spool)

pub returns-in_default-vec-2-clause-list : goal.returns-in_default-vec-2-clause-list
returns-in_default-vec-2-clause-list g c = spool_none c.args.limits (g.I.Source.left c.args.input.now) (g.D.Depot.holds c.args.depot.now FileKind.Spool)

pub returns-in_default-clause-grown : goal.returns-in_default-clause-grown
returns-in_default-clause-grown g c = grown_none c.args.limits (g.I.Source.left c.args.input.now) _ _ refl

pub returns-in_default-vec-clause-grown : goal.returns-in_default-vec-clause-grown
returns-in_default-vec-clause-grown g c = grown_none c.args.limits (g.I.Source.left c.args.input.now) _ _ refl

pub returns-in_default-vec-2-clause-grown : goal.returns-in_default-vec-2-clause-grown
returns-in_default-vec-2-clause-grown g c = grown_none c.args.limits (g.I.Source.left c.args.input.now) _ _ refl
