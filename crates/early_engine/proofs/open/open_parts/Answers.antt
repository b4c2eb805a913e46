use Rattle.std.proofs.Common.{◌≡◌, ◌*◌, ℕ, true, length, refl, sym, ap, subst, ◌∙◌, arith}
use Rattle.lumos_depot.specs.declared.depot.FileKind.TheVariants.{Primary, Secondary}
use Rattle.lumos_depot.proofs.StepLemmas.{same_then}
use Rattle.partition.specs.Parts.{Cut}
use Rattle.early_engine.specs.Engines.{cut_in}
use Rattle.early_engine.specs.Files.{stores_of}
use Rattle.early_engine.proofs.KeepLemmas.{blocks_on, grid_off}
use Rattle.early_engine.proofs.open.open_parts.Goals as goal

pub returns-in-Ok-size_files-clause-fits : goal.returns-in-Ok-size_files-clause-fits
returns-in-Ok-size_files-clause-fits g c =
    let layout = c.in-Ok-read_layout.layout in
    let read = c.in-Ok-read_layout.ensures in
    let head = c.requires.head in
    let is : layout.parts ≡ cut_in c.args.info = read.cut ∙ c.parts_of-parts.ensures in
    let vertices = ap (λ (k : Cut). k.vertices) is in
    let parts = ap (λ (k : Cut). k.parts) is in
    let same = c.in-Ok-size_files.ensures.touches.contents in
    record {
      cut_is = c.in-Ok.ensures.cut ∙ sym read.cut;
      laid = record {
        parts = omega (arith, read.parts, parts);
        vertices = omega (arith, vertices, head.vertices);
        blocks = subst (λ (n : ℕ). length layout.table.counts ≡ n * n) (sym parts) read.blocks;
        few = omega (arith, read.whole, head.edges);
      };
      blocks = blocks_on layout.table (g.D.Depot.holds c.read_layout.new.depot) (g.D.Depot.holds c.size_files.new.depot) (same Primary refl) (same Secondary refl) read.blocks_fit;
      sized = c.in-Ok-size_files.ensures.sized;
    }

pub returns-in-Ok-size_files-clause-told : goal.returns-in-Ok-size_files-clause-told
returns-in-Ok-size_files-clause-told g c edges numbers limits held =
    let read = c.in-Ok-read_layout.ensures in (
      grid_off (stores_of true) edges (cut_in c.args.info) c.in-Ok-read_layout.layout.table (g.D.Depot.holds c.read_layout.new.depot) (g.D.Depot.holds c.size_files.new.depot) refl refl refl refl
          c.in-Ok-size_files.ensures.touches.contents (read.told edges numbers limits held),
      read.head edges limits held,
    )

pub returns-in-Err-size_files-clause-counted : goal.returns-in-Err-size_files-clause-counted
returns-in-Err-size_files-clause-counted g c =
    let stored = g.D.Depot.stored in
    same_then (stored c.args.depot.now) (stored c.read_layout.new.depot) (stored c.size_files.new.depot) c.in-Ok-read_layout.ensures.reads.stored c.in-Err-size_files.ensures.counted
