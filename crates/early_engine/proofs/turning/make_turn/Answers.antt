use Rattle.std.proofs.Common.{◌<◌, ◌++◌, ℕ, suc, Err, refl, sym, ap, ◌∙◌, subst, arith}
use Rattle.std.specs.Prelude.{OnOk, sum_by}
use Rattle.std.specs.List.{range_with_len}
use Rattle.active_sets.specs.Active.{hot_at}
use Rattle.lumos_depot.specs.Steps.{RoseBy}
use Rattle.lumos_depot.specs.declared.depot.FileKind.TheVariants.{Values}
use Rattle.lumos_depot.proofs.StepLemmas.{reads_touches, touches_then}
use Rattle.lumos_law.specs.Sync.{values}
use Rattle.lumos_report.specs.Report.{counts_line}
use Rattle.lumos_report.specs.declared.records.Kind.{Kind}
use Rattle.partition.specs.Parts.{Cut, chunk_of}
use Rattle.flight_core.specs.Events.{prior}
use Rattle.windows.specs.Kept.{Keeps, load_bytes, load_of}
use Rattle.windows.specs.Windows.{Coding}
use Rattle.windows.proofs.ResultLemmas.{on_ok_more}
use Rattle.early_engine.specs.Files.{stores_of, takes_of}
use Rattle.early_engine.specs.Gone.{HasGone, HasPassed, IsTallied, and_shown, beside_of, loads_by, loads_of, size_in}
use Rattle.early_engine.specs.Passes.{bytes_of, feeds_ahead, is_hot, kind_of, need_by, needed, passes, size_at}
use Rattle.early_engine.specs.Report.{shown_lines, turn_line, turn_of}
use Rattle.early_engine.specs.Runs.{RoseAll, loose_bytes, shown_bytes, stored_in, taken_in}
use Rattle.early_engine.specs.Shown.{ShowsKept}
use Rattle.early_engine.specs.Turns.{TurnComes}
use Rattle.early_engine.specs.declared.options.RunFault.{RunFault}
use Rattle.early_engine.proofs.HotLemmas.{of_same, told_of}
use Rattle.early_engine.proofs.KeepLemmas.{kept_stays}
use Rattle.early_engine.proofs.StartLemmas.{loads_loose}
use Rattle.early_engine.proofs.TurnBytes.{gone_shown, turn_stored, turn_taken}
use Rattle.early_engine.proofs.TurnLemmas.{turned, turned_stop}
use Rattle.early_engine.proofs.TurnReport.{has_passed, reported, tallied}
use Rattle.early_engine.proofs.turning.make_turn.Goals as goal

pub returns-in-Err-clause-told : goal.returns-in-Err-clause-told
returns-in-Err-clause-told g c edges u grid kept at low is =
    let p = g.G.VertexProgram.model c.args.program.now in
    let coding : Coding _ _ = record { value_of = g.G.Value.Fixed.value_of; value_width = g.G.Value.Fixed.WIDTH; sum_of = g.G.Sum.Fixed.value_of; sum_width = g.G.Sum.Fixed.WIDTH } in
    let cut = c.args.layout.now.parts in
    let show = c.args.options.show in
    let mode = c.args.options.mode in
    let limit = c.args.options.iterations in
    let windows = c.advance.new.room.windows in
    let told = g.D.Depot.holds c.advance.new.depot in
    let flags = c.advance.new.room.active.was_hot in
    let old = g.O.Sink.written c.args.out.now in
    subst (λ (f : RunFault). TurnComes p show mode edges cut limit u coding windows told flags old old (Err f)) (sym c.fault_of.ensures)
    (turned_stop p show mode edges cut limit u low is coding windows told flags c.args.t c.in-Err.stop old at (c.in-Err.ensures.made edges u grid at kept))

pub returns-clause-told : goal.returns-clause-told
returns-clause-told g c edges u grid kept at low is =
    let p = g.G.VertexProgram.model c.args.program.now in
    let coding : Coding _ _ = record { value_of = g.G.Value.Fixed.value_of; value_width = g.G.Value.Fixed.WIDTH; sum_of = g.G.Sum.Fixed.value_of; sum_width = g.G.Sum.Fixed.WIDTH } in
    let cut = c.args.layout.now.parts in
    let show = c.args.options.show in
    let mode = c.args.options.mode in
    let limit = c.args.options.iterations in
    let w1 = c.advance.new.room.windows in
    let w2 = c.write_turn.new.windows in
    let d1 = g.D.Depot.holds c.advance.new.depot in
    let d2 = g.D.Depot.holds c.write_turn.new.depot in
    let flags = c.advance.new.room.active.was_hot in
    let made = c.in-Ok.ensures.made edges u grid at kept in
    let parts = ap (λ (k : Cut). k.parts) c.in-Ok.ensures.fits.cut_is in
    let keeps : (j : ℕ) → j < w1.cut.parts → Keeps coding w1 d1 c.args.t j (values p edges (suc u)) = λ j row. subst (λ (n : ℕ). Keeps coding w1 d1 n j (values p edges (suc u))) (sym at) (made.kept.holds j (omega (arith, row, parts))) in
    turned p show mode edges cut limit u low is coding w1 d1 flags c.in-Ok.counts made c.args.t cut.vertices c.kind_of-kind.result at refl c.kind_of-kind.ensures w2 d2 (g.O.Sink.written c.args.out.now) (g.O.Sink.written c.write_turn.new.out) c.write_turn.result
    (kept_stays coding p edges cut w1 w2 d1 d2 c.write_turn.ensures.stays mode limit (suc u) flags made.kept) c.write_turn.ensures.turn (c.write_turn.ensures.intact (values p edges (suc u)) keeps) (c.write_turn.ensures.told (values p edges (suc u)) keeps)

pub returns-clause-reported : goal.returns-clause-reported
returns-clause-reported g c =
    let p = g.G.VertexProgram.model c.args.program.now in
    let coding : Coding _ _ = record { value_of = g.G.Value.Fixed.value_of; value_width = g.G.Value.Fixed.WIDTH; sum_of = g.G.Sum.Fixed.value_of; sum_width = g.G.Sum.Fixed.WIDTH } in
    let cut = c.args.layout.now.parts in
    let table = c.args.layout.now.table in
    let show = c.args.options.show in
    let mode = c.args.options.mode in
    let limit = c.args.options.iterations in
    let t = c.args.t in
    let counts = c.in-Ok.counts in
    let w0 = c.args.room.now.windows in
    let w1 = c.advance.new.room.windows in
    let w2 = c.write_turn.new.windows in
    let d2 = g.D.Depot.holds c.write_turn.new.depot in
    let t0 = g.D.Depot.taken c.args.depot.now in
    let s0 = g.D.Depot.stored c.args.depot.now in
    let t1 = g.D.Depot.taken c.advance.new.depot in
    let s1 = g.D.Depot.stored c.advance.new.depot in
    let t2 = g.D.Depot.taken c.write_turn.new.depot in
    let s2 = g.D.Depot.stored c.write_turn.new.depot in
    let were = c.args.room.now.active.was_hot in
    let are = c.advance.new.room.active.was_hot in
    let load = load_bytes coding w0 in
    let ahead = feeds_ahead mode limit t in
    let beside = beside_of cut g.G.Value.Fixed.WIDTH g.G.Sum.Fixed.WIDTH w0.pinned (kind_of mode t) ahead cut.parts in
    let loose = loose_bytes cut g.G.Value.Fixed.WIDTH w0.pinned in
    let old = g.O.Sink.written c.args.out.now in
    let new = g.O.Sink.written c.write_turn.new.out in
    let result = c.write_turn.result in
    let passed = has_passed mode limit t cut table load were are beside t0 s0 t1 s1 counts c.requires.fits.laid.parts c.in-Ok.ensures.gone in
    let rose = subst (λ (n : ℕ). OnOk result (RoseBy (t1 Values) (t2 Values) (shown_bytes show n))) (loads_loose coding w1 cut w0.pinned c.in-Ok.ensures.fits.cut_is c.in-Ok.ensures.room.pinned c.in-Ok.ensures.some) c.write_turn.ensures.taken in
    let counted = gone_shown g.D.Depot.holds g.D.Depot.taken g.D.Depot.stored g.D.Depot.faults g.D.Depot.attached result (kind_of mode t) (size_in table) (need_by (hot_at were) (hot_at are) ahead) (loads_by load (hot_at were) (hot_at are) ahead)
    (passes (kind_of mode t) table.parts) beside (shown_bytes show loose) t0 s0 c.advance.new.depot c.write_turn.new.depot counts passed rose c.write_turn.ensures.reads in
    reported coding p show mode limit cut.vertices (λ u k. HasPassed mode limit table load were are u (and_shown (shown_bytes show loose) beside) t0 s0 t2 s2 k) (IsTallied mode table) w1 t counts w2 d2 old new result counted
    (tallied mode limit t table load were are beside t0 s0 t1 s1 counts passed) c.write_turn.ensures.turn c.write_turn.ensures.shows
    (subst (λ (k : Kind). ShowsKept coding w2 d2 t (λ state. (counts_line t k counts ++ shown_lines p show state cut.vertices) ++ turn_line (turn_of t limit counts.moved)) old new result) c.kind_of-kind.ensures c.write_turn.ensures.shown)

pub returns-clause-taken : goal.returns-clause-taken
returns-clause-taken g c edges u grid at kept =
    let p = g.G.VertexProgram.model c.args.program.now in
    let coding : Coding _ _ = record { value_of = g.G.Value.Fixed.value_of; value_width = g.G.Value.Fixed.WIDTH; sum_of = g.G.Sum.Fixed.value_of; sum_width = g.G.Sum.Fixed.WIDTH } in
    let cut = c.args.layout.now.parts in
    let table = c.args.layout.now.table in
    let show = c.args.options.show in
    let mode = c.args.options.mode in
    let limit = c.args.options.iterations in
    let t = c.args.t in
    let counts = c.in-Ok.counts in
    let w0 = c.args.room.now.windows in
    let w1 = c.advance.new.room.windows in
    let v = g.G.Value.Fixed.WIDTH in
    let s = g.G.Sum.Fixed.WIDTH in
    let pinned = w0.pinned in
    let d0 = g.D.Depot.holds c.args.depot.now in
    let t0 = g.D.Depot.taken c.args.depot.now in
    let s0 = g.D.Depot.stored c.args.depot.now in
    let t1 = g.D.Depot.taken c.advance.new.depot in
    let t2 = g.D.Depot.taken c.write_turn.new.depot in
    let s2 = g.D.Depot.stored c.write_turn.new.depot in
    let were = c.args.room.now.active.was_hot in
    let are = c.advance.new.room.active.was_hot in
    let kind = kind_of mode t in
    let ahead = feeds_ahead mode limit t in
    let beside = beside_of cut v s pinned kind ahead cut.parts in
    let loose = loose_bytes cut v pinned in
    let hots = is_hot p edges cut.vertices cut.parts in
    let size = size_at edges (chunk_of cut) in
    let need = needed hots ahead t in
    let loads = loads_by (load_of cut v pinned) (hots (prior t)) (hots t) ahead in
    let cut_is = c.requires.fits.cut_is in
    let some = c.in-Ok.ensures.some in
    let made = c.in-Ok.ensures.made edges u grid at kept in
    let gone = c.in-Ok.ensures.gone size need loads
    (λ i j row column. of_same table (load_of cut v pinned) (load_bytes coding w0) were were are are ahead size need loads i j (ap (λ (k : Cut). load_of k v pinned i) cut_is) refl (λ low. refl)
    (told_of p edges cut table d0 (load_of cut v pinned) were are ahead u t i j at row column grid kept.active made.kept.active)) in
    let rose = subst (λ (n : ℕ). OnOk c.write_turn.result (RoseBy (t1 Values) (t2 Values) (shown_bytes show n))) (loads_loose coding w1 cut pinned c.in-Ok.ensures.fits.cut_is c.in-Ok.ensures.room.pinned some) c.write_turn.ensures.taken in
    let all = gone_shown g.D.Depot.holds g.D.Depot.taken g.D.Depot.stored g.D.Depot.faults g.D.Depot.attached c.write_turn.result kind size need loads (passes kind cut.parts) beside (shown_bytes show loose) t0 s0 c.advance.new.depot c.write_turn.new.depot counts
    gone rose c.write_turn.ensures.reads in
    let loose_is = ap (λ (k : Cut). sum_by (load_of k v pinned) (range_with_len 0 cut.parts)) (sym cut_is) ∙ loads_loose coding w0 cut pinned cut_is refl some in
    let touches = touches_then g.D.Depot.holds g.D.Depot.taken g.D.Depot.stored g.D.Depot.faults g.D.Depot.attached (takes_of kind) (stores_of ahead) c.args.depot.now c.advance.new.depot c.write_turn.new.depot c.advance.ensures.touches
    (reads_touches g.D.Depot.holds g.D.Depot.taken g.D.Depot.stored g.D.Depot.faults g.D.Depot.attached (takes_of kind) (stores_of ahead) Values c.advance.new.depot c.write_turn.new.depot refl c.write_turn.ensures.reads) in
    on_ok_more c.write_turn.result (HasGone kind size need loads (passes kind cut.parts) (and_shown (shown_bytes show loose) beside) t0 s0 t2 s2 counts) (RoseAll t0 t2 (taken_in cut v s pinned p edges show mode limit t))
    (λ (h : HasGone kind size need loads (passes kind cut.parts) (and_shown (shown_bytes show loose) beside) t0 s0 t2 s2 counts).
    turn_taken g.D.Depot.holds g.D.Depot.taken g.D.Depot.stored g.D.Depot.faults g.D.Depot.attached c.args.depot.now c.write_turn.new.depot cut v s pinned kind ahead (bytes_of size need (passes kind cut.parts)) (loads_of size need loads (passes kind cut.parts))
    (shown_bytes show loose) loose some loose_is h.moved touches (taken_in cut v s pinned p edges show mode limit t) refl refl refl refl refl refl refl) all

pub returns-clause-stored : goal.returns-clause-stored
returns-clause-stored g c =
    let coding : Coding _ _ = record { value_of = g.G.Value.Fixed.value_of; value_width = g.G.Value.Fixed.WIDTH; sum_of = g.G.Sum.Fixed.value_of; sum_width = g.G.Sum.Fixed.WIDTH } in
    let cut = c.args.layout.now.parts in
    let table = c.args.layout.now.table in
    let show = c.args.options.show in
    let mode = c.args.options.mode in
    let limit = c.args.options.iterations in
    let t = c.args.t in
    let counts = c.in-Ok.counts in
    let w0 = c.args.room.now.windows in
    let w1 = c.advance.new.room.windows in
    let v = g.G.Value.Fixed.WIDTH in
    let s = g.G.Sum.Fixed.WIDTH in
    let pinned = w0.pinned in
    let t0 = g.D.Depot.taken c.args.depot.now in
    let s0 = g.D.Depot.stored c.args.depot.now in
    let t1 = g.D.Depot.taken c.advance.new.depot in
    let s1 = g.D.Depot.stored c.advance.new.depot in
    let t2 = g.D.Depot.taken c.write_turn.new.depot in
    let s2 = g.D.Depot.stored c.write_turn.new.depot in
    let were = c.args.room.now.active.was_hot in
    let are = c.advance.new.room.active.was_hot in
    let kind = kind_of mode t in
    let ahead = feeds_ahead mode limit t in
    let beside = beside_of cut v s pinned kind ahead cut.parts in
    let loose = loose_bytes cut v pinned in
    let size = size_in table in
    let need = need_by (hot_at were) (hot_at are) ahead in
    let loads = loads_by (load_bytes coding w0) (hot_at were) (hot_at are) ahead in
    let cut_is = c.requires.fits.cut_is in
    let some = c.in-Ok.ensures.some in
    let passed = has_passed mode limit t cut table (load_bytes coding w0) were are beside t0 s0 t1 s1 counts c.requires.fits.laid.parts c.in-Ok.ensures.gone in
    let rose = subst (λ (n : ℕ). OnOk c.write_turn.result (RoseBy (t1 Values) (t2 Values) (shown_bytes show n))) (loads_loose coding w1 cut pinned c.in-Ok.ensures.fits.cut_is c.in-Ok.ensures.room.pinned some) c.write_turn.ensures.taken in
    let all = gone_shown g.D.Depot.holds g.D.Depot.taken g.D.Depot.stored g.D.Depot.faults g.D.Depot.attached c.write_turn.result kind size need loads (passes kind table.parts) beside (shown_bytes show loose) t0 s0 c.advance.new.depot c.write_turn.new.depot counts
    passed rose c.write_turn.ensures.reads in
    let loose_is = ap (λ (k : Cut). sum_by (load_of k v pinned) (range_with_len 0 cut.parts)) (sym cut_is) ∙ loads_loose coding w0 cut pinned cut_is refl some in
    let touches = touches_then g.D.Depot.holds g.D.Depot.taken g.D.Depot.stored g.D.Depot.faults g.D.Depot.attached (takes_of kind) (stores_of ahead) c.args.depot.now c.advance.new.depot c.write_turn.new.depot c.advance.ensures.touches
    (reads_touches g.D.Depot.holds g.D.Depot.taken g.D.Depot.stored g.D.Depot.faults g.D.Depot.attached (takes_of kind) (stores_of ahead) Values c.advance.new.depot c.write_turn.new.depot refl c.write_turn.ensures.reads) in
    on_ok_more c.write_turn.result (HasGone kind size need loads (passes kind table.parts) (and_shown (shown_bytes show loose) beside) t0 s0 t2 s2 counts) (RoseAll s0 s2 (stored_in cut v s pinned mode limit t))
    (λ (h : HasGone kind size need loads (passes kind table.parts) (and_shown (shown_bytes show loose) beside) t0 s0 t2 s2 counts).
    turn_stored g.D.Depot.holds g.D.Depot.taken g.D.Depot.stored g.D.Depot.faults g.D.Depot.attached c.args.depot.now c.write_turn.new.depot cut v s pinned kind ahead (bytes_of size need (passes kind table.parts)) (loads_of size need loads (passes kind table.parts))
    (shown_bytes show loose) loose some loose_is h.moved touches (stored_in cut v s pinned mode limit t) refl refl refl refl refl refl refl) all
