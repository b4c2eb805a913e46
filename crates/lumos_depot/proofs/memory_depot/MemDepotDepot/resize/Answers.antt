use Rattle.std.proofs.Common.{◌∙◌, ap, Some}
use Rattle.lumos_depot.specs.MemoryDepot.{file_of}
use Rattle.lumos_depot.proofs.FileKinds.{other_file}
use Rattle.lumos_depot.proofs.memory_depot.MemDepotDepot.resize.Goals as goal

pub returns-clause-contents : goal.returns-clause-contents
returns-clause-contents c = λ kind apart.
    ap Some (other_file c.self.inside.files.items c.index_of.result c.resize.new.self kind c.args.kind c.index_of.ensures.value apart
    ∙ ap (λ d. file_of d kind) c.self.view_is)
