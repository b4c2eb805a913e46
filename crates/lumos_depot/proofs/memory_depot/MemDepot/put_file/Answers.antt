use Rattle.std.proofs.Common.{refl}
use Rattle.std.proofs.lemmas.List.{map-set}
use Rattle.lumos_depot.proofs.memory_depot.MemDepot.put_file.Goals as goal

pub returns-clause-ok : goal.returns-clause-ok
returns-clause-ok c =
    let files = map-set (λ f. f.items) c.self.inside.files.items c.index_of.result c.in-Ok.file in
    rw (← c.self.view_is, files, c.index_of.ensures.value, c.in-Ok.ensures.items) refl
