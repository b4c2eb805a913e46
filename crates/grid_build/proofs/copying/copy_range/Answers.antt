use Rattle.std.proofs.Common.{◌≡◌, ◌≤◌, ◌+◌, ℕ, length, take, refl, ap, sym, ◌∙◌, arith}
use Rattle.std.proofs.lemmas.List.{length-take-le}
use Rattle.lumos_depot.specs.Files.{range_at}
use Rattle.lumos_depot.specs.declared.depot.FileKind.TheVariants.{Primary, Secondary}
use Rattle.grid_build.proofs.CopyLemmas.{copied_as, copied_long, copied_next, copied_none, range_joined}
use Rattle.lumos_depot.proofs.StepLemmas.{moves_none, moves_then, rose_then, told_more, told_same}
use Rattle.grid_build.proofs.copying.copy_range.Goals as goal

pub loop-done-init : goal.loop-done-init
loop-done-init g c = record {
  within = omega arith;
  copied = copied_none (range_at c.args.from 0) c.args.into _ _ (λ file. refl);
  taken = λ low. omega arith;
  stored = λ low. omega arith;
  moves = moves_none g.D.Depot.holds g.D.Depot.taken g.D.Depot.stored g.D.Depot.faults g.D.Depot.attached Primary Secondary c.args.depot.now;
}

pub copy_piece-requires-clause-inside : goal.copy_piece-requires-clause-inside
copy_piece-requires-clause-inside g c =
    let len = c.min-len.result in
    let size = length-take-le len c.loop-done.bytes (omega arith) in
    let mid = g.D.Depot.holds c.loop-done.depot Primary in
    told_more mid (λ file. c.args.from + c.args.size ≤ length file) (λ file. c.args.from + c.loop-done.done + length (take len c.loop-done.bytes) ≤ length file) (λ file long. omega (arith, long, size))
    (told_same (g.D.Depot.holds c.args.depot.now Primary) mid (λ file. c.args.from + c.args.size ≤ length file) (c.loop-done.invariant.moves.contents Primary (λ e. absurd (cc))) c.requires.inside)

pub copy_piece-requires-clause-room : goal.copy_piece-requires-clause-room
copy_piece-requires-clause-room g c =
    let len = c.min-len.result in
    let size = length-take-le len c.loop-done.bytes (omega arith) in
    let mid = g.D.Depot.holds c.loop-done.depot Secondary in
    told_more mid (λ file. c.args.into + c.args.size ≤ length file) (λ file. c.args.into + c.loop-done.done + length (take len c.loop-done.bytes) ≤ length file) (λ file long. omega (arith, long, size))
    (copied_long (range_at c.args.from c.loop-done.done) c.args.into c.loop-done.done _ _ mid c.loop-done.invariant.copied (c.args.into + c.args.size) (omega (arith, c.loop-done.invariant.within)) c.requires.room)

pub loop-done-preserved : goal.loop-done-preserved
loop-done-preserved g c =
    let is = c.loop-done.invariant in
    let from = c.args.from in
    let into = c.args.into in
    let done = c.loop-done.done in
    let len = c.min-len.result in
    let m : ℕ = length (take len c.loop-done.bytes) in
    let size : m ≡ len = length-take-le len c.loop-done.bytes (omega arith) in
    let next : done + m ≡ done + len = omega (arith, size) in
    let old = g.D.Depot.holds c.args.depot.now Secondary in
    let source = g.D.Depot.holds c.args.depot.now Primary in
    let new = g.D.Depot.holds c.copy_piece.new.depot Secondary in
    let piece = copied_as (range_at (from + done) m) _ _ _ _ _ _ _ _ refl refl (sym (is.moves.contents Primary (λ e. absurd (cc)))) c.in-Ok.ensures.copied in
    let room = told_more old (λ file. into + c.args.size ≤ length file) (λ file. into + done ≤ length file) (λ file long. omega (arith, long, is.within)) c.requires.room in
    record {
      within = omega arith;
      copied = copied_as (range_at from (done + len)) _ _ _ _ _ _ _ _ refl (sym next) refl
          (copied_next (range_at from done) (range_at (from + done) m) (range_at from (done + len)) into done m source old _ new is.copied piece room (λ file. range_joined from done m (done + len) file next));
      taken = λ low. rose_then _ _ _ done m is.taken c.in-Ok.ensures.taken low ∙ ap (λ (k : ℕ). g.D.Depot.taken c.args.depot.now Primary + k) next;
      stored = λ low. rose_then _ _ _ done m is.stored c.in-Ok.ensures.stored low ∙ ap (λ (k : ℕ). g.D.Depot.stored c.args.depot.now Secondary + k) next;
      moves = moves_then g.D.Depot.holds g.D.Depot.taken g.D.Depot.stored g.D.Depot.faults g.D.Depot.attached Primary Secondary _ _ _ is.moves c.in-Ok.ensures.moves;
    }
