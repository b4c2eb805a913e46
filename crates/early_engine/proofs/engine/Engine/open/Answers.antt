use Rattle.std.proofs.Common.{◌≡◌, ◌*◌, length, refl}
use Rattle.lumos_depot.specs.declared.depot.FileKind.TheVariants.{Info}
use Rattle.lumos_depot.proofs.StepLemmas.{told_same}
use Rattle.early_engine.proofs.OpenLemmas.{infos_fit}
use Rattle.early_engine.proofs.engine.Engine.open.Goals as goal

pub returns-in-Ok-clause-told : goal.returns-in-Ok-clause-told
returns-in-Ok-clause-told g c edges numbers limits held =
    let read = c.in-Ok.ensures.told edges numbers limits held in
    record { grid = read.0; head = read.1; phase = refl }

pub returns-in-Ok-clause-files : goal.returns-in-Ok-clause-files
returns-in-Ok-clause-files g c =
    let told = g.D.Depot.holds c.args.depot.now in
    let fits = c.in-Ok.ensures.fits in
    record {
      infos =
          told_same (told Info) (g.D.Depot.holds c.open_parts.new.depot Info) (λ file. length file ≡ 12 * c.args.info.vertices) (c.in-Ok.ensures.touches.contents Info refl)
          (infos_fit told (g.D.Depot.tells_all c.args.depot.now) c.args.info c.requires.accepted);
      blocks = fits.blocks;
      sized = fits.sized;
    }
