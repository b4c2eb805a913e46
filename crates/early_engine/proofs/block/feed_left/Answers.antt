use Rattle.std.proofs.Common.{◌≡◌, ◌≤◌, ℕ, ◌+◌, ◌-◌, ◌*◌, take, None, sym, ap, ◌∙◌, subst, arith}
use Rattle.std.specs.Prelude.{IfSome}
use Rattle.lumos_depot.specs.Steps.{Reads, RoseBy}
use Rattle.column_stream.specs.Cursors.{CursorState, edges_next, fault_next, moved_by}
use Rattle.lumos_depot.proofs.StepLemmas.{reads_then, rose_whole, told_same, told_with}
use Rattle.windows.specs.Windows.{Coding}
use Rattle.windows.proofs.FrameLemmas.{stays_then}
use Rattle.early_engine.proofs.PieceLemmas.{NextFed, SumsFed, ahead_alone, damage_of_piece, fault_of_piece, fed_more, moved_more, next_piece, now_alone, sound_then, sums_piece}
use Rattle.early_engine.proofs.block.feed_left.Goals as goal

pub loop-done-preserved : goal.loop-done-preserved
loop-done-preserved g c =
    let begin = c.args.cursor.now in
    let p = g.G.VertexProgram.model c.args.program.now in
    let coding : Coding g.row.G-Value.Denot g.row.G-Sum.Denot = record { value_of = g.G.Value.Fixed.value_of; value_width = g.G.Value.Fixed.WIDTH; sum_of = g.G.Sum.Fixed.value_of; sum_width = g.G.Sum.Fixed.WIDTH } in
    let old = c.args.windows.now in
    let now = c.loop-done.windows in
    let mid = c.feed_now.new.windows in
    let new = c.feed_ahead.new.windows in
    let k = c.loop-done.done in
    let n = c.in-Ok.piece in
    let ys = take n c.next.new.out in
    let kept = c.loop-done.invariant in
    let next = c.in-Ok.ensures in
    let at = kept.at in
    let count = next.count in
    let left : c.loop-done.cursor.left ≡ begin.left - k = ap (λ (q : CursorState). q.left) at in
    let told = g.D.Depot.holds c.args.depot.now begin.file in
    let here = g.D.Depot.holds c.loop-done.depot begin.file in
    let edges : IfSome here (λ bytes. ys ≡ edges_next n (moved_by k begin) bytes) = subst (λ (q : CursorState). IfSome (g.D.Depot.holds c.loop-done.depot q.file) (λ bytes. ys ≡ edges_next n q bytes)) at next.edges in
    let sound : IfSome here (λ bytes. fault_next n (moved_by k begin) bytes ≡ None) =
    subst (λ (q : CursorState). IfSome (g.D.Depot.holds c.loop-done.depot q.file) (λ bytes. fault_next n q bytes ≡ None)) at
    (subst (λ (m : ℕ). IfSome (g.D.Depot.holds c.loop-done.depot c.loop-done.cursor.file) (λ bytes. fault_next m c.loop-done.cursor bytes ≡ None)) (sym count) next.fault) in
    let reads = subst (λ (q : CursorState). Reads g.D.Depot.holds g.D.Depot.taken g.D.Depot.stored g.D.Depot.faults g.D.Depot.attached q.file c.loop-done.depot c.next.new.depot) at next.reads in
    let taken : RoseBy (g.D.Depot.taken c.loop-done.depot begin.file) (g.D.Depot.taken c.next.new.depot begin.file) (12 * n) =
    subst (λ (q : CursorState). RoseBy (g.D.Depot.taken c.loop-done.depot q.file) (g.D.Depot.taken c.next.new.depot q.file) (12 * n)) at next.taken in
    let most : g.D.Depot.taken c.next.new.depot begin.file ≤ g.D.Depot.taken c.loop-done.depot begin.file + 12 * n =
    subst (λ (q : CursorState). g.D.Depot.taken c.next.new.depot q.file ≤ g.D.Depot.taken c.loop-done.depot q.file + 12 * n) at
    (subst (λ (m : ℕ). g.D.Depot.taken c.next.new.depot c.loop-done.cursor.file ≤ g.D.Depot.taken c.loop-done.depot c.loop-done.cursor.file + 12 * m) (sym count) next.most) in
    let back = sym (kept.reads.contents begin.file) in
    let pieces = told_same here told (λ bytes. ys ≡ edges_next n (moved_by k begin) bytes) back edges in
    record {
      within = omega (arith, kept.within, count, left);
      at = next.onward ∙ ap (moved_by n) at ∙ moved_more k n begin;
      fed = told_with told (λ bytes. SumsFed p c.args.visit.now old now (edges_next k begin bytes)) (λ bytes. ys ≡ edges_next n (moved_by k begin) bytes) (λ bytes. SumsFed p c.args.visit.now old new (edges_next (k + n) begin bytes))
          (λ bytes had piece. sums_piece p c.args.visit.now begin k n bytes ys piece old now mid new kept.alone c.feed_ahead.ensures.alone c.feed_now.ensures.fed had) kept.fed pieces;
      ahead = told_with told (λ bytes. NextFed p c.args.visit.ahead old now (edges_next k begin bytes)) (λ bytes. ys ≡ edges_next n (moved_by k begin) bytes) (λ bytes. NextFed p c.args.visit.ahead old new (edges_next (k + n) begin bytes))
          (λ bytes had piece. next_piece p c.args.visit.ahead begin k n bytes ys piece old now mid new kept.alone c.feed_now.ensures.alone c.feed_ahead.ensures.fed had) kept.ahead pieces;
      alone = fed_more old mid new (fed_more old now mid kept.alone (now_alone now mid c.feed_now.ensures.alone)) (ahead_alone mid new c.feed_ahead.ensures.alone);
      stays = λ held. stays_then coding old mid new held held held (stays_then coding old now mid held held held (kept.stays held) (c.feed_now.ensures.stays held)) (c.feed_ahead.ensures.stays held);
      sound = told_with told (λ bytes. fault_next k begin bytes ≡ None) (λ bytes. fault_next n (moved_by k begin) bytes ≡ None) _
          (λ bytes first second. sound_then begin k n bytes first second) kept.sound (told_same here told _ back sound);
      taken = rose_whole _ _ _ (12 * k) (12 * n) (12 * (k + n)) (omega arith) kept.taken taken;
      most = omega (arith, kept.most, most);
      reads = reads_then g.D.Depot.holds g.D.Depot.taken g.D.Depot.stored g.D.Depot.faults g.D.Depot.attached begin.file _ _ _ kept.reads reads;
    }

pub returns-in-Err-clause-fault : goal.returns-in-Err-clause-fault
returns-in-Err-clause-fault g c =
    let begin = c.args.cursor.now in
    let kept = c.loop-done.invariant in
    fault_of_piece begin c.loop-done.cursor c.loop-done.done _ kept.at kept.within c.in-Err.fault ℕ (Unit {0}) (g.D.Depot.holds c.args.depot.now) (g.D.Depot.holds c.loop-done.depot) (kept.reads.contents begin.file) kept.sound c.in-Err.ensures.fault

pub returns-in-Err-clause-damaged : goal.returns-in-Err-clause-damaged
returns-in-Err-clause-damaged g c =
    let kept = c.loop-done.invariant in
    damage_of_piece c.args.cursor.now c.loop-done.cursor c.loop-done.done _ kept.at kept.within c.in-Err.fault c.in-Err.ensures.damaged

pub returns-clause-fed : goal.returns-clause-fed
returns-clause-fed g c =
    let begin = c.args.cursor.now in
    let kept = c.loop-done.invariant in
    let p = g.G.VertexProgram.model c.args.program.now in
    let all : c.loop-done.done ≡ begin.left = omega (arith, kept.within, c.requires.whole, c.loop-done-test.false) in
    subst (λ (n : ℕ). IfSome (g.D.Depot.holds c.args.depot.now begin.file) (λ bytes. SumsFed p c.args.visit.now c.args.windows.now c.loop-done.windows (edges_next n begin bytes))) all kept.fed

pub returns-clause-ahead : goal.returns-clause-ahead
returns-clause-ahead g c =
    let begin = c.args.cursor.now in
    let kept = c.loop-done.invariant in
    let p = g.G.VertexProgram.model c.args.program.now in
    let all : c.loop-done.done ≡ begin.left = omega (arith, kept.within, c.requires.whole, c.loop-done-test.false) in
    subst (λ (n : ℕ). IfSome (g.D.Depot.holds c.args.depot.now begin.file) (λ bytes. NextFed p c.args.visit.ahead c.args.windows.now c.loop-done.windows (edges_next n begin bytes))) all kept.ahead
