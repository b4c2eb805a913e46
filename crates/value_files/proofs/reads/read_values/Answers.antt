use Rattle.std.proofs.Common.{◌≡◌, ◌≤◌, ◌+◌, ◌-◌, ◌*◌, ℕ, List, Err, length, take, drop, ◌∙◌, sym, ap, subst, arith}
use Rattle.std.specs.Prelude.{IfSome}
use Rattle.std.proofs.lemmas.Grind.{common_steps}
use Rattle.std.proofs.lemmas.List.{length-take-le}
use Rattle.std.proofs.lemmas.Slice.{take-put_mid}
use Rattle.lumos_depot.proofs.StepLemmas.{reads_then, rose_then, told_more, told_same}
use Rattle.value_files.specs.Records.{AreRecords, FaultIs, damage_at}
use Rattle.value_files.proofs.DamageLemmas.{broken_then}
use Rattle.value_files.proofs.RecordLemmas.{times_add, times_within}
use Rattle.value_files.proofs.StepLemmas.{fault_then, part_length, values_sound, values_then}
use Rattle.value_files.proofs.reads.read_values.Goals as goal

pub read_piece-requires-clause-inside : goal.read_piece-requires-clause-inside
read_piece-requires-clause-inside g c =
    let w = g.V.Fixed.WIDTH in
    let file = c.args.file in
    let done = c.loop-done.done in
    let past : ℕ = c.min-past.result in
    let out = c.loop-done.out in
    let m : ℕ = length (take (past - done) (drop done out)) in
    let size : m ≡ past - done = part_length done past out (omega arith) (omega arith) in
    let place : c.WIDTH.result * done ≡ w * done = ap (λ (k : ℕ). k * done) c.WIDTH.ensures in
    let cut = times_add w done m in
    let within = times_within w (done + m) (length c.args.out.now) (omega (arith, size, c.loop-done.auto.out)) in
    told_more (g.D.Depot.holds c.loop-done.depot file) (λ held. c.args.place + w * length c.args.out.now ≤ length held) (λ held. c.args.place + c.WIDTH.result * done + w * m ≤ length held)
    (λ held inside. omega (arith, inside, place, cut, within))
    (told_same (g.D.Depot.holds c.args.depot.now file) (g.D.Depot.holds c.loop-done.depot file) (λ held. c.args.place + w * length c.args.out.now ≤ length held) (c.loop-done.invariant.reads.contents file) c.requires.inside)

pub loop-done-preserved : goal.loop-done-preserved
loop-done-preserved g c =
    let w = g.V.Fixed.WIDTH in
    let value_of = g.V.Fixed.value_of in
    let file = c.args.file in
    let out = c.loop-done.out in
    let done = c.loop-done.done in
    let past : ℕ = c.min-past.result in
    let new : List _ = c.read_piece.new.out in
    let m : ℕ = length (take (past - done) (drop done out)) in
    let size : m ≡ past - done = part_length done past out (omega arith) (omega arith) in
    let long : length new ≡ m = c.read_piece.auto.out in
    let whole : done + m ≡ past = omega (arith, size) in
    let had = c.loop-done.invariant in
    let front : length (take done out) ≡ done = length-take-le done out had.within in
    let from : c.args.place + c.WIDTH.result * done ≡ c.args.place + w * length (take done out) = ap (λ (k : ℕ). c.args.place + k) (ap (λ (k : ℕ). k * done) c.WIDTH.ensures ∙ ap (λ (k : ℕ). w * k) (sym front)) in
    let now = g.D.Depot.holds c.loop-done.depot file in
    let told = g.D.Depot.holds c.args.depot.now file in
    let same = had.reads.contents file in
    let part = take-put_mid done (past - done) out new past (omega (arith, long, size)) had.within in
    let add : w * past ≡ w * done + w * m = ap (λ (k : ℕ). w * k) (sym whole) ∙ times_add w done m in
    record {
      within = grind (arith, common_steps);
      reads = reads_then g.D.Depot.holds g.D.Depot.taken g.D.Depot.stored g.D.Depot.faults g.D.Depot.attached file _ _ _ had.reads c.in-Ok.ensures.reads;
      values = subst (λ l. IfSome told (AreRecords value_of w c.args.place l)) (sym part)
          (values_then value_of w file told c.args.place (take done out) new had.values
          (subst (λ (p : ℕ). IfSome told (AreRecords value_of w p new)) from (told_same now told (AreRecords value_of w (c.args.place + c.WIDTH.result * done) new) (sym same) c.in-Ok.ensures.values)));
      taken = λ below. omega (arith, rose_then _ _ _ (w * done) (w * m) had.taken c.in-Ok.ensures.taken below, add);
      most = omega (arith, had.most, c.in-Ok.ensures.most, add);
    }

pub returns-in-Err-clause-fault : goal.returns-in-Err-clause-fault
returns-in-Err-clause-fault g c =
    let w = g.V.Fixed.WIDTH in
    let value_of = g.V.Fixed.value_of in
    let file = c.args.file in
    let out = c.loop-done.out in
    let done = c.loop-done.done in
    let past : ℕ = c.min-past.result in
    let m : ℕ = length (take (past - done) (drop done out)) in
    let size : m ≡ past - done = part_length done past out (omega arith) (omega arith) in
    let from : c.args.place + c.WIDTH.result * done ≡ c.args.place + w * done = ap (λ (k : ℕ). c.args.place + k * done) c.WIDTH.ensures in
    let now = g.D.Depot.holds c.loop-done.depot file in
    let told = g.D.Depot.holds c.args.depot.now file in
    fault_then value_of w file (Unit {0}) (Unit {0}) told c.args.place done m (length c.args.out.now) (take done out) c.in-Err.fault (length-take-le done out c.loop-done.invariant.within) (omega (arith, size, c.loop-done.auto.out)) c.loop-done.invariant.values
    (subst (λ (p : ℕ). IfSome told (λ held. FaultIs {T = Unit {0}} (Err c.in-Err.fault) (damage_at value_of w file p m held))) from
    (told_same now told (λ held. FaultIs {T = Unit {0}} (Err c.in-Err.fault) (damage_at value_of w file (c.args.place + c.WIDTH.result * done) m held)) (sym (c.loop-done.invariant.reads.contents file)) c.in-Err.ensures.fault))

pub returns-in-Err-clause-broken : goal.returns-in-Err-clause-broken
returns-in-Err-clause-broken g c =
    let w = g.V.Fixed.WIDTH in
    let done = c.loop-done.done in
    let past : ℕ = c.min-past.result in
    let m : ℕ = length (take (past - done) (drop done c.loop-done.out)) in
    let size : m ≡ past - done = part_length done past c.loop-done.out (omega arith) (omega arith) in
    let from : c.args.place + c.WIDTH.result * done ≡ c.args.place + w * done = ap (λ (k : ℕ). c.args.place + k * done) c.WIDTH.ensures in
    broken_then g.V.Fixed.value_of w c.args.file c.args.place done m (length c.args.out.now) c.in-Err.fault (omega (arith, size, c.loop-done.auto.out))
    (rw (← from) c.in-Err.ensures.broken)

pub returns-in-Err-clause-most : goal.returns-in-Err-clause-most
returns-in-Err-clause-most g c =
    let w = g.V.Fixed.WIDTH in
    let done = c.loop-done.done in
    let past : ℕ = c.min-past.result in
    let m : ℕ = length (take (past - done) (drop done c.loop-done.out)) in
    let size : m ≡ past - done = part_length done past c.loop-done.out (omega arith) (omega arith) in
    let cut = times_add w done m in
    let within = times_within w (done + m) (length c.args.out.now) (omega (arith, size, c.loop-done.auto.out)) in
    omega (arith, c.loop-done.invariant.most, c.in-Err.ensures.most, cut, within)

pub returns-clause-fault : goal.returns-clause-fault
returns-clause-fault g c =
    let out = c.loop-done.out in
    let done = c.loop-done.done in
    let all : done ≡ length c.args.out.now = omega (arith, c.loop-done.auto.out, c.loop-done.invariant.within) in
    values_sound g.V.Fixed.value_of g.V.Fixed.WIDTH c.args.file (Unit {0}) (g.D.Depot.holds c.args.depot.now c.args.file) c.args.place (length c.args.out.now) (tt {0}) (take done out) (length-take-le done out c.loop-done.invariant.within ∙ all) c.loop-done.invariant.values
