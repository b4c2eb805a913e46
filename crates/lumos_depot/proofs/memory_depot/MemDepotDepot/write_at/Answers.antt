use Rattle.std.proofs.Common.{◌∙◌, ap, Some, ◌<◌, length, arith}
use Rattle.lumos_depot.specs.Files.{overwritten}
use Rattle.lumos_depot.specs.MemoryDepot.{file_of}
use Rattle.lumos_depot.proofs.FileKinds.{other_file, written_file}
use Rattle.lumos_depot.proofs.memory_depot.MemDepotDepot.write_at.Goals as goal

pub returns-clause-contents : goal.returns-clause-contents
returns-clause-contents c = λ kind apart.
    ap Some (other_file c.self.inside.files.items c.index_of-index.result c.overwrite.new.file kind c.args.kind c.index_of-index.ensures.value apart
    ∙ ap (λ d. file_of d kind) c.self.view_is)

pub returns-clause-value : goal.returns-clause-value
returns-clause-value c =
    let inside : c.index_of-index.result < length c.self.inside.files.items = omega arith in
    ap Some (written_file c.self.inside.files.items c.index_of-index.result c.index_mut.result.now c.overwrite.new.file c.args.kind c.args.place c.args.bytes.now c.index_of-index.ensures.value inside c.index_mut.ensures.value c.overwrite.ensures
    ∙ ap (λ d. overwritten c.args.place c.args.bytes.now (file_of d c.args.kind)) c.self.view_is)
