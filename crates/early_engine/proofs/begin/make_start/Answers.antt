use Rattle.std.proofs.Common.{◌≡◌, ◌<◌, ◌++◌, ℕ, sum_by, refl, ap, ◌∙◌, subst, arith}
use Rattle.std.specs.Prelude.{IfSome}
use Rattle.std.specs.List.{list_any, range_with_len}
use Rattle.active_sets.specs.Active.{hot_at}
use Rattle.lumos_depot.specs.Steps.{RoseBy}
use Rattle.lumos_depot.specs.declared.depot.FileKind.TheVariants.{Info, Values}
use Rattle.lumos_law.specs.Sync.{values}
use Rattle.lumos_report.specs.Report.{head_line, zero_line}
use Rattle.partition.specs.Parts.{Cut}
use Rattle.windows.specs.Kept.{load_bytes}
use Rattle.windows.specs.Sums.{given_values}
use Rattle.windows.specs.Windows.{chunk_count, chunk_first}
use Rattle.windows.proofs.FrameLemmas.{stays_keeps}
use Rattle.windows.proofs.MadeLemmas.{on_ok_always}
use Rattle.windows.proofs.ResultLemmas.{on_ok_more}
use Rattle.windows.proofs.StayLemmas.{coding}
use Rattle.early_engine.specs.Engines.{cut_in}
use Rattle.early_engine.specs.Report.{opening_lines, shown_lines}
use Rattle.early_engine.specs.Runs.{RoseAll, shown_bytes, stored_first, taken_first}
use Rattle.early_engine.proofs.StartLemmas.{first_hot, first_is, first_kept, loads_loose, shown_as, start_comes, start_stored, start_taken}
use Rattle.early_engine.proofs.begin.make_start.Goals as goal

pub returns-in-Ok-clause-told : goal.returns-in-Ok-clause-told
returns-in-Ok-clause-told g c edges grid head =
    let p = g.G.VertexProgram.model c.args.program.now in
    let name = g.G.VertexProgram.name_text c.args.program.now in
    let code = coding g.G.Value.Fixed.value_of g.G.Value.Fixed.WIDTH g.G.Sum.Fixed.value_of g.G.Sum.Fixed.WIDTH in
    let cut = cut_in c.args.info in
    let mid = c.set_first.new.room.windows in
    let between = g.D.Depot.holds c.set_first.new.depot in
    let same = c.set_first.ensures.room.cut ∙ c.requires.fits.cut_is ∙ c.requires.cut in
    let kept = first_kept p edges cut c.args.layout.now.table (g.D.Depot.holds c.args.depot.now) grid code mid between same c.in-Ok.ensures.kept in
    let room = ap (λ (k : Cut). k.parts) c.write_first.ensures.stays.room.cut in
    start_comes code p name c.args.show edges cut c.write_first.new.windows (g.D.Depot.holds c.write_first.new.depot) _ _ c.write_first.result
    (head_line name c.args.info ++ (zero_line ++ shown_lines p c.args.show (values p edges 0) c.args.layout.now.parts.vertices))
    (first_is p name c.args.show edges c.args.info c.args.layout.now.parts.vertices head (ap (λ (k : Cut). k.vertices) c.requires.cut))
    (c.write_first.ensures.intact (values p edges 0) kept)
    (λ j low. stays_keeps code mid c.write_first.new.windows between (g.D.Depot.holds c.write_first.new.depot) 0 j (values p edges 0) c.write_first.ensures.stays (kept j (omega (arith, low, room))))
    (c.write_first.ensures.told (values p edges 0) kept)

pub returns-in-Ok-clause-hot : goal.returns-in-Ok-clause-hot
returns-in-Ok-clause-hot g c edges grid =
    let p = g.G.VertexProgram.model c.args.program.now in
    on_ok_always c.write_first.result _ (first_hot p edges (cut_in c.args.info) c.args.layout.now.table (g.D.Depot.holds c.args.depot.now) grid c.args.room.now.windows c.set_first.new.room.active.was_hot (c.requires.fits.cut_is ∙ c.requires.cut)
    (subst (λ (k : Cut). IfSome (g.D.Depot.holds c.args.depot.now Info) (λ file. (i : ℕ) → i < k.parts → hot_at c.set_first.new.room.active.was_hot i ≡ list_any (λ v. p.contributes (given_values p file v))
    (range_with_len (chunk_first c.args.room.now.windows i) (chunk_count c.args.room.now.windows i)))) c.requires.cut c.in-Ok.ensures.hot))

pub returns-in-Ok-clause-opened : goal.returns-in-Ok-clause-opened
returns-in-Ok-clause-opened g c =
    let p = g.G.VertexProgram.model c.args.program.now in
    let name = g.G.VertexProgram.name_text c.args.program.now in
    let code = coding g.G.Value.Fixed.value_of g.G.Value.Fixed.WIDTH g.G.Sum.Fixed.value_of g.G.Sum.Fixed.WIDTH in
    shown_as code c.write_first.new.windows (g.D.Depot.holds c.write_first.new.depot) 0
    (λ state. head_line name c.args.info ++ (zero_line ++ shown_lines p c.args.show state c.args.layout.now.parts.vertices)) (opening_lines p name c.args.show c.args.info) _ _ c.write_first.result
    (λ state. ap (λ (k : Cut). head_line name c.args.info ++ (zero_line ++ shown_lines p c.args.show state k.vertices)) c.requires.cut) c.write_first.ensures.shown

pub returns-in-Ok-clause-taken : goal.returns-in-Ok-clause-taken
returns-in-Ok-clause-taken g c =
    let code = coding g.G.Value.Fixed.value_of g.G.Value.Fixed.WIDTH g.G.Sum.Fixed.value_of g.G.Sum.Fixed.WIDTH in
    let cut = c.args.layout.now.parts in
    let w = c.args.room.now.windows in
    let mid = c.set_first.new.room.windows in
    let had = c.set_first.ensures.room in
    let loads = loads_loose code mid cut w.pinned (had.cut ∙ c.requires.fits.cut_is) had.pinned c.set_first.ensures.some in
    on_ok_more c.write_first.result (RoseBy (g.D.Depot.taken c.set_first.new.depot Values) (g.D.Depot.taken c.write_first.new.depot Values) (shown_bytes c.args.show (sum_by (load_bytes code mid) (range_with_len 0 cut.parts)))) _
    (λ rose. subst (λ (k : Cut). RoseAll (g.D.Depot.taken c.args.depot.now) (g.D.Depot.taken c.write_first.new.depot) (taken_first k g.G.Value.Fixed.WIDTH w.pinned c.args.show)) c.requires.cut
    (start_taken g.D.Depot.holds g.D.Depot.taken g.D.Depot.stored g.D.Depot.faults g.D.Depot.attached c.args.depot.now c.set_first.new.depot c.write_first.new.depot c.set_first.ensures.moves c.write_first.ensures.reads
    cut g.G.Value.Fixed.WIDTH w.pinned c.args.show c.in-Ok.ensures.taken
    (subst (λ (n : ℕ). RoseBy (g.D.Depot.taken c.set_first.new.depot Values) (g.D.Depot.taken c.write_first.new.depot Values) (shown_bytes c.args.show n)) loads rose))) c.write_first.ensures.taken

pub returns-in-Ok-clause-stored : goal.returns-in-Ok-clause-stored
returns-in-Ok-clause-stored g c =
    let code = coding g.G.Value.Fixed.value_of g.G.Value.Fixed.WIDTH g.G.Sum.Fixed.value_of g.G.Sum.Fixed.WIDTH in
    let cut = c.args.layout.now.parts in
    let w = c.args.room.now.windows in
    let loads = loads_loose code w cut w.pinned c.requires.fits.cut_is refl c.set_first.ensures.some in
    on_ok_always c.write_first.result _
    (subst (λ (k : Cut). RoseAll (g.D.Depot.stored c.args.depot.now) (g.D.Depot.stored c.write_first.new.depot) (stored_first k g.G.Value.Fixed.WIDTH w.pinned)) c.requires.cut
    (start_stored g.D.Depot.holds g.D.Depot.taken g.D.Depot.stored g.D.Depot.faults g.D.Depot.attached c.args.depot.now c.set_first.new.depot c.write_first.new.depot c.set_first.ensures.moves c.write_first.ensures.reads
    cut g.G.Value.Fixed.WIDTH w.pinned
    (subst (λ (n : ℕ). RoseBy (g.D.Depot.stored c.args.depot.now Values) (g.D.Depot.stored c.set_first.new.depot Values) n) loads c.in-Ok.ensures.stored)))
