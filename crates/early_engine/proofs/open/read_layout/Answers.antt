use Rattle.std.proofs.Common.{◌≤◌, length, sym, ◌∙◌}
use Rattle.lumos_depot.proofs.StepLemmas.{told_same}
use Rattle.grid_format.specs.Grid.{grid}
use Rattle.early_engine.specs.Engines.{cut_in}
use Rattle.early_engine.specs.Grids.{bytes_in}
use Rattle.early_engine.specs.Passes.{file_of}
use Rattle.early_engine.proofs.GridLemmas.{on_grid_same}
use Rattle.early_engine.proofs.OpenLemmas.{blocks_fit}
use Rattle.early_engine.proofs.open.read_layout.Goals as goal

pub returns-in-Ok-clause-told : goal.returns-in-Ok-clause-told
returns-in-Ok-clause-told g c edges numbers limits held =
    let info = c.args.info in
    let read = c.grids_are_read.ensures edges info.vertices info.parts limits in
    let counts = c.in-Ok.ensures.told (grid edges info.vertices info.parts) held ∙ read.counts in
    let parts = c.in-Ok.ensures.parts in
    on_grid_same edges (cut_in info) c.in-Ok.table _ _ c.in-Ok.ensures.reads.contents
    (record { numbers = numbers; limits = limits; files = held; counts = λ i. record { parts = parts i; counts = counts i } })

pub returns-in-Ok-clause-head : goal.returns-in-Ok-clause-head
returns-in-Ok-clause-head g c edges limits held =
    let info = c.args.info in
    let read = c.grids_are_read.ensures edges info.vertices info.parts limits in
    let same = sym (c.requires.accepted (grid edges info.vertices info.parts) held) ∙ read.head in
    cc

pub returns-in-Err-clause-head : goal.returns-in-Err-clause-head
returns-in-Err-clause-head g c edges limits held =
    let info = c.args.info in
    let read = c.grids_are_read.ensures edges info.vertices info.parts limits in
    let same = sym (c.requires.accepted (grid edges info.vertices info.parts) held) ∙ read.head in
    cc

pub returns-in-Ok-clause-blocks_fit : goal.returns-in-Ok-clause-blocks_fit
returns-in-Ok-clause-blocks_fit g c kind =
    let told = g.D.Depot.holds c.args.depot.now in
    told_same (told (file_of kind)) (g.D.Depot.holds c.read.new.depot (file_of kind)) (λ file. bytes_in kind c.in-Ok.table ≤ length file) (c.in-Ok.ensures.reads.contents (file_of kind))
    (blocks_fit told (g.D.Depot.tells_all c.args.depot.now) c.args.info c.requires.accepted c.in-Ok.table c.in-Ok.ensures.parts c.in-Ok.ensures.sum c.in-Ok.ensures.told kind)
