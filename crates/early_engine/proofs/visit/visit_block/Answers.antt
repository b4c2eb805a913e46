use Rattle.std.proofs.Common.{◌≡◌, ◌+◌, ◌*◌, ◌||◌, Bool, false, [], refl, sym, ap, ◌∙◌, subst, arith}
use Rattle.std.proofs.lemmas.List.{nil_from_length}
use Rattle.lumos_depot.specs.declared.depot.FileKind.TheVariants.{Values}
use Rattle.lumos_depot.proofs.StepLemmas.{reads_touches, same_then, touches_then}
use Rattle.partition.specs.Blocks.{block}
use Rattle.partition.specs.Parts.{chunk_of}
use Rattle.windows.specs.Kept.{Stays}
use Rattle.windows.specs.Sums.{HasNext, HasSums}
use Rattle.windows.specs.Windows.{Coding, WindowState}
use Rattle.windows.proofs.FrameLemmas.{has_next_stays, has_sums_stays, stays_then}
use Rattle.grid_format.specs.Tables.{count_at}
use Rattle.early_engine.specs.Files.{stores_none, takes_of}
use Rattle.early_engine.specs.Gone.{none_beside}
use Rattle.early_engine.specs.Passes.{file_of, place_at}
use Rattle.early_engine.proofs.BytesLemmas.{blocks_read, moved_then, of_values, values_read}
use Rattle.early_engine.proofs.GridLemmas.{fits_stays, on_grid_same, size_is, stays_told, takes_blocks}
use Rattle.early_engine.proofs.PassLemmas.{gone_read, gone_skipped}
use Rattle.early_engine.proofs.PieceLemmas.{fed_empty}
use Rattle.early_engine.proofs.visit.visit_block.Goals as goal
use Rattle.early_engine.proofs.visit.visit_block.Goals.{After-count_read, Joined-visit, then-visit, else-visit}

-- whether the block is fed at all
either : (g : _) (c : Joined-visit g) → c.if-visit.value ≡ c.args.visit.now || c.args.visit.ahead
either g c =
    elim c.if-visit.branch [
      | then-visit w ↦ w.value-is ∙ w.if-visit.true ∙ ap (λ (b : Bool). b || c.args.visit.ahead) (sym w.if-visit.true)
      | else-visit w ↦ w.value-is ∙ ap (λ (b : Bool). b || c.args.visit.ahead) (sym w.if-visit.false)
    ]

pub returns-then-count-eq0-clause-fed : goal.returns-then-count-eq0-clause-fed
returns-then-count-eq0-clause-fed g c edges state before grid keeps has =
    let cut = c.args.layout.now.parts in
    let i = c.args.visit.row in
    let j = c.args.visit.column in
    let es = block edges (chunk_of cut) i j in
    let none : es ≡ [] = nil_from_length es (omega (arith, size_is edges cut c.args.layout.now.table (g.D.Depot.holds c.args.depot.now) i j c.requires.row c.requires.column grid, c.count.ensures, c.if-count-eq0.true)) in
    subst (HasSums (g.G.VertexProgram.model c.args.program.now) c.args.windows.now j state) (fed_empty c.args.visit.now before es none) has

pub returns-then-count-eq0-clause-ahead : goal.returns-then-count-eq0-clause-ahead
returns-then-count-eq0-clause-ahead g c edges state before grid keeps has =
    let cut = c.args.layout.now.parts in
    let i = c.args.visit.row in
    let j = c.args.visit.column in
    let es = block edges (chunk_of cut) i j in
    let none : es ≡ [] = nil_from_length es (omega (arith, size_is edges cut c.args.layout.now.table (g.D.Depot.holds c.args.depot.now) i j c.requires.row c.requires.column grid, c.count.ensures, c.if-count-eq0.true)) in
    subst (HasNext (g.G.VertexProgram.model c.args.program.now) c.args.windows.now j state) (fed_empty c.args.visit.ahead before es none) has

pub returns-then-not-visit-clause-gone : goal.returns-then-not-visit-clause-gone
returns-then-not-visit-clause-gone g c size need loads bs beside taken stored sized needed loaded gone =
    let off : (c.args.visit.now || c.args.visit.ahead) ≡ false = sym (either g (goal.at.returns-then-not-visit-clause-gone g c).Joined-visit) ∙ c.if-not-visit.true in
    gone_skipped size need c.args.kind loads bs (place_at c.args.visit.row c.args.visit.column) beside taken stored (g.D.Depot.taken c.args.depot.now) (g.D.Depot.stored c.args.depot.now) c.args.counts.now c.add_skipped.new.self
    (omega (arith, sized, c.count.ensures, c.if-count-eq0.false)) (sym needed ∙ off) c.add_skipped.ensures gone

pub returns-clause-fed : goal.returns-clause-fed
returns-clause-fed g c edges state before grid keeps has =
    let old = c.args.windows.now in
    let mid = c.load_sources.new.windows in
    let alone = c.load_sources.ensures.alone in
    let same = on_grid_same edges c.args.layout.now.parts c.args.layout.now.table (g.D.Depot.holds c.args.depot.now) (g.D.Depot.holds c.load_sources.new.depot) c.load_sources.ensures.reads.contents grid in
    c.in-Ok-feed_block.ensures.fed edges state before same (c.in-Ok.ensures.first state keeps)
    (has_sums_stays (g.G.VertexProgram.model c.args.program.now) old mid c.args.visit.column state before (ap (λ (w : WindowState _ _). w.cut) alone) (ap (λ (w : WindowState _ _). w.sums_part) alone) (ap (λ (w : WindowState _ _). w.sums) alone) has)

pub returns-clause-ahead : goal.returns-clause-ahead
returns-clause-ahead g c edges state before grid keeps has =
    let old = c.args.windows.now in
    let mid = c.load_sources.new.windows in
    let alone = c.load_sources.ensures.alone in
    let same = on_grid_same edges c.args.layout.now.parts c.args.layout.now.table (g.D.Depot.holds c.args.depot.now) (g.D.Depot.holds c.load_sources.new.depot) c.load_sources.ensures.reads.contents grid in
    c.in-Ok-feed_block.ensures.ahead edges state before same (c.in-Ok.ensures.second state keeps)
    (has_next_stays (g.G.VertexProgram.model c.args.program.now) old mid c.args.visit.column state before (ap (λ (w : WindowState _ _). w.cut) alone) (ap (λ (w : WindowState _ _). w.sums_part) alone) (ap (λ (w : WindowState _ _). w.next_sums) alone) has)

-- what is kept stays
stays : (g : _) (c : After-count_read g) → Stays (record { value_of = g.G.Value.Fixed.value_of; value_width = g.G.Value.Fixed.WIDTH; sum_of = g.G.Sum.Fixed.value_of; sum_width = g.G.Sum.Fixed.WIDTH }) c.args.windows.now (g.D.Depot.holds c.args.depot.now) c.feed_block.new.windows (g.D.Depot.holds c.feed_block.new.depot)
stays g c =
    let coding : Coding g.row.G-Value.Denot g.row.G-Sum.Denot = record { value_of = g.G.Value.Fixed.value_of; value_width = g.G.Value.Fixed.WIDTH; sum_of = g.G.Sum.Fixed.value_of; sum_width = g.G.Sum.Fixed.WIDTH } in
    let mid = c.load_sources.new.windows in
    let new = c.feed_block.new.windows in
    let before = g.D.Depot.holds c.args.depot.now in
    let then = g.D.Depot.holds c.load_sources.new.depot in
    let after = g.D.Depot.holds c.feed_block.new.depot in
    stays_then coding c.args.windows.now mid new before then after c.load_sources.ensures.stays
    (stays_then coding mid new new then then after (c.feed_block.ensures.stays then) (stays_told coding new then after c.feed_block.ensures.reads.contents))

pub returns-clause-stays : goal.returns-clause-stays
returns-clause-stays g c = stays g (goal.at.returns-clause-stays g c).After-count_read

pub returns-clause-fits : goal.returns-clause-fits
returns-clause-fits g c =
    let before = g.D.Depot.holds c.args.depot.now in
    let then = g.D.Depot.holds c.load_sources.new.depot in
    let after = g.D.Depot.holds c.feed_block.new.depot in
    fits_stays _ c.args.layout.now.parts c.args.layout.now.table c.args.windows.now c.feed_block.new.windows before after (stays g (goal.at.returns-clause-fits g c).After-count_read).room
    (same_then before then after c.load_sources.ensures.reads.contents c.feed_block.ensures.reads.contents) c.requires.fits

pub returns-clause-gone : goal.returns-clause-gone
returns-clause-gone g c size need loads bs beside taken stored sized needed loaded gone =
    let kind = c.args.kind in
    let b = place_at c.args.visit.row c.args.visit.column in
    let count = count_at c.args.layout.now.table c.args.visit.row c.args.visit.column in
    let t = g.D.Depot.taken in
    let s = g.D.Depot.stored in
    let old = c.args.depot.now in
    let mid = c.load_sources.new.depot in
    let new = c.feed_block.new.depot in
    let one = values_read g.D.Depot.holds t s g.D.Depot.faults g.D.Depot.attached kind old mid _ c.in-Ok.ensures.taken c.load_sources.ensures.reads in
    let two = blocks_read g.D.Depot.holds t s g.D.Depot.faults g.D.Depot.attached kind mid new (12 * count) c.in-Ok-feed_block.ensures.taken c.feed_block.ensures.reads in
    let blocks : 12 * size b ≡ 0 + 12 * count = omega (arith, sized) in
    let on = sym (either g (goal.at.returns-clause-gone g c).Joined-visit) ∙ c.if-not-visit.false in
    gone_read size need kind loads bs b beside taken stored (t old) (s old) (t new) (s new) c.args.counts.now c.count_read.new.counts (omega (arith, sized, c.count.ensures, c.if-count-eq0.false)) (sym needed ∙ on) c.count_read.ensures.value c.count_read.ensures.moved
    (moved_then kind 0 (12 * count) (12 * size b) _ none_beside (of_values (loads b)) (t old) (s old) (t mid) (s mid) (t new) (s new) blocks (ap of_values (sym loaded ∙ omega arith)) one two) gone

pub returns-clause-touches : goal.returns-clause-touches
returns-clause-touches g c =
    let kind = c.args.kind in
    touches_then g.D.Depot.holds g.D.Depot.taken g.D.Depot.stored g.D.Depot.faults g.D.Depot.attached (takes_of kind) stores_none c.args.depot.now c.load_sources.new.depot c.feed_block.new.depot
    (reads_touches g.D.Depot.holds g.D.Depot.taken g.D.Depot.stored g.D.Depot.faults g.D.Depot.attached (takes_of kind) stores_none Values c.args.depot.now c.load_sources.new.depot refl c.load_sources.ensures.reads)
    (reads_touches g.D.Depot.holds g.D.Depot.taken g.D.Depot.stored g.D.Depot.faults g.D.Depot.attached (takes_of kind) stores_none (file_of kind) c.load_sources.new.depot c.feed_block.new.depot (takes_blocks kind) c.feed_block.ensures.reads)
