use Rattle.std.proofs.Common.{◌≡◌, ◌≤◌, ◌+◌, ◌-◌, ◌*◌, ◌++◌, ℕ, All, flat_map, length, take, drop, ◌∙◌, sym, ap, subst, arith}
use Rattle.std.proofs.lemmas.List.{length-take-le, take_all}
use Rattle.std.proofs.lemmas.List.Elements.{All-append}
use Rattle.std.proofs.Math.Seq.{take-add}
use Rattle.lumos_depot.proofs.OutsideLemmas.{told_outside_long, told_outside_then, told_outside_wider}
use Rattle.lumos_depot.proofs.StepLemmas.{rose_then, stores_then, told_more}
use Rattle.value_files.proofs.BackLemmas.{length-all}
use Rattle.value_files.proofs.RecordLemmas.{times_add, times_within}
use Rattle.value_files.proofs.StepLemmas.{part_length, values_next}
use Rattle.value_files.proofs.writes.write_values.Goals as goal

pub write_piece-requires-clause-inside : goal.write_piece-requires-clause-inside
write_piece-requires-clause-inside g c =
    let w = g.V.Fixed.WIDTH in
    let file = c.args.file in
    let items = c.args.items.now in
    let done = c.loop-done.done in
    let past : ℕ = c.min-past.result in
    let m : ℕ = length (take (past - done) (drop done items)) in
    let size : m ≡ past - done = part_length done past items (omega arith) (omega arith) in
    let place : c.WIDTH.result * done ≡ w * done = ap (λ (k : ℕ). k * done) c.WIDTH.ensures in
    let cut = times_add w done m in
    let within = times_within w (done + m) (length items) (omega (arith, size)) in
    told_more (g.D.Depot.holds c.loop-done.depot file) (λ held. c.args.place + w * length items ≤ length held) _
    (λ held inside. omega (arith, inside, place, cut, within))
    (told_outside_long c.args.place (w * length items) (g.D.Depot.holds c.args.depot.now file) (g.D.Depot.holds c.loop-done.depot file) (λ k. c.args.place + w * length items ≤ k) c.loop-done.invariant.outside c.requires.inside)

pub loop-done-preserved : goal.loop-done-preserved
loop-done-preserved g c =
    let w = g.V.Fixed.WIDTH in
    let file = c.args.file in
    let items = c.args.items.now in
    let done = c.loop-done.done in
    let past : ℕ = c.min-past.result in
    let m : ℕ = length (take (past - done) (drop done items)) in
    let size : m ≡ past - done = part_length done past items (omega arith) (omega arith) in
    let whole : done + m ≡ past = omega (arith, size) in
    let had = c.loop-done.invariant in
    let place : c.WIDTH.result * done ≡ w * done = ap (λ (k : ℕ). k * done) c.WIDTH.ensures in
    let from : c.args.place + c.WIDTH.result * done ≡ c.args.place + length (flat_map g.V.Fixed.bytes_of (take done items)) =
    omega (arith, place, length-all g.V.Fixed.bytes_of w g.met.V.Fixed.length_bytes (take done items), ap (λ (k : ℕ). w * k) (length-take-le done items had.within)) in
    let cut = times_add w done m in
    let add : w * past ≡ w * done + w * m = ap (λ (k : ℕ). w * k) (sym whole) ∙ cut in
    let within = times_within w (done + m) (length items) (omega (arith, size)) in
    let old = g.D.Depot.holds c.args.depot.now file in
    let mid = g.D.Depot.holds c.loop-done.depot file in
    let new = g.D.Depot.holds c.write_piece.new.depot file in
    let inside = told_more old (λ held. c.args.place + w * length items ≤ length held) (λ held. c.args.place + c.WIDTH.result * done ≤ length held)
    (λ held room. omega (arith, room, place, cut, within)) c.requires.inside in
    let size_is : done + (past - done) ≡ past = omega arith in
    let joined : take past items ≡ take done items ++ take (past - done) (drop done items) = ap (λ (k : ℕ). take k items) (sym size_is) ∙ take-add done (past - done) items in
    record {
      within = omega arith;
      stores = stores_then g.D.Depot.holds g.D.Depot.taken g.D.Depot.stored g.D.Depot.faults g.D.Depot.attached file _ _ _ had.stores c.in-Ok.ensures.stores;
      written = values_next g.V.Fixed.bytes_of c.args.place (c.args.place + c.WIDTH.result * done) done past items old mid new (omega arith) from inside had.written c.in-Ok.ensures.written;
      outside = told_outside_then c.args.place (w * length items) old mid new had.outside
          (told_outside_wider (c.args.place + c.WIDTH.result * done) (w * m) c.args.place (w * length items) mid new (omega arith) (omega (arith, place, cut, within)) c.in-Ok.ensures.outside);
      in_range = subst (All g.V.Fixed.is_in_range) (sym joined) (All-append g.V.Fixed.is_in_range (take done items) (take (past - done) (drop done items)) had.in_range c.in-Ok.ensures.in_range);
      stored = λ below. omega (arith, rose_then _ _ _ (w * done) (w * m) had.stored c.in-Ok.ensures.stored below, add);
      most = omega (arith, had.most, c.in-Ok.ensures.most, add);
    }

pub returns-in-Err-clause-outside : goal.returns-in-Err-clause-outside
returns-in-Err-clause-outside g c =
    let w = g.V.Fixed.WIDTH in
    let file = c.args.file in
    let items = c.args.items.now in
    let done = c.loop-done.done in
    let past : ℕ = c.min-past.result in
    let m : ℕ = length (take (past - done) (drop done items)) in
    let size : m ≡ past - done = part_length done past items (omega arith) (omega arith) in
    let place : c.WIDTH.result * done ≡ w * done = ap (λ (k : ℕ). k * done) c.WIDTH.ensures in
    let cut = times_add w done m in
    let within = times_within w (done + m) (length items) (omega (arith, size)) in
    let mid = g.D.Depot.holds c.loop-done.depot file in
    let new = g.D.Depot.holds c.write_piece.new.depot file in
    told_outside_then c.args.place (w * length items) (g.D.Depot.holds c.args.depot.now file) mid new c.loop-done.invariant.outside
    (told_outside_wider (c.args.place + c.WIDTH.result * done) (w * m) c.args.place (w * length items) mid new (omega arith) (omega (arith, place, cut, within)) c.in-Err.ensures.outside)

pub returns-in-Err-clause-most : goal.returns-in-Err-clause-most
returns-in-Err-clause-most g c =
    let w = g.V.Fixed.WIDTH in
    let items = c.args.items.now in
    let done = c.loop-done.done in
    let past : ℕ = c.min-past.result in
    let m : ℕ = length (take (past - done) (drop done items)) in
    let size : m ≡ past - done = part_length done past items (omega arith) (omega arith) in
    let cut = times_add w done m in
    let within = times_within w (done + m) (length items) (omega (arith, size)) in
    omega (arith, c.loop-done.invariant.most, c.in-Err.ensures.most, cut, within)

pub returns-clause-in_range : goal.returns-clause-in_range
returns-clause-in_range g c =
    subst (All g.V.Fixed.is_in_range) (take_all c.loop-done.done c.args.items.now (omega arith)) c.loop-done.invariant.in_range
