use Rattle.std.proofs.Common.{◌≡◌, ◌≤◌, ◌+◌, ◌*◌, ℕ, length, take, refl, ap, sym, arith}
use Rattle.std.proofs.lemmas.List.{length-take-le}
use Rattle.lumos_depot.specs.declared.depot.FileKind.TheVariants.{Spool}
use Rattle.grid_build.proofs.TallyLemmas.{tallied_as, tallied_none}
use Rattle.lumos_depot.proofs.StepLemmas.{reads_none, reads_then, told_more, told_same}
use Rattle.grid_build.proofs.tallies.tally_all.Goals as goal

pub loop-place-init : goal.loop-place-init
loop-place-init g c = record {
  within = omega arith;
  reads = reads_none g.D.Depot.holds g.D.Depot.taken g.D.Depot.stored g.D.Depot.faults g.D.Depot.attached Spool c.args.depot.now;
  tallied = rw c.clear_infos.ensures (tallied_none c.args.vertices (g.D.Depot.holds c.args.depot.now Spool) c.args.first (length c.args.infos.now));
}

pub tally_piece-requires-clause-attached : goal.tally_piece-requires-clause-attached
tally_piece-requires-clause-attached g c = rw c.loop-place.invariant.reads.attached c.requires.attached

pub tally_piece-requires-clause-inside : goal.tally_piece-requires-clause-inside
tally_piece-requires-clause-inside g c =
    let taken = length-take-le c.min-len.result c.loop-place.edges (omega (arith, c.requires.piece)) in
    let here = told_same (g.D.Depot.holds c.args.depot.now Spool) (g.D.Depot.holds c.loop-place.depot Spool) (λ file. length file ≡ 12 * c.args.count) (c.loop-place.invariant.reads.contents Spool) c.requires.spool in
    told_more (g.D.Depot.holds c.loop-place.depot Spool) (λ file. length file ≡ 12 * c.args.count) (λ file. 12 * (c.loop-place.place + length (take c.min-len.result c.loop-place.edges)) ≤ length file)
    (λ file whole. omega (arith, whole, taken)) here

pub tally_piece-requires-clause-before : goal.tally_piece-requires-clause-before
tally_piece-requires-clause-before g c =
    tallied_as _ _ _ _ _ _ _ (c.loop-place.invariant.reads.contents Spool) refl c.loop-place.invariant.tallied

pub returns-in_default-clause-reads : goal.returns-in_default-clause-reads
returns-in_default-clause-reads g c =
    reads_then g.D.Depot.holds g.D.Depot.taken g.D.Depot.stored g.D.Depot.faults g.D.Depot.attached Spool _ _ _ c.loop-place.invariant.reads c.in_default.ensures.reads

pub returns-in_default-clause-cause : goal.returns-in_default-clause-cause
returns-in_default-clause-cause g c = omega (arith, c.loop-place.invariant.reads.later, c.in_default.ensures.cause)

pub loop-place-preserved : goal.loop-place-preserved
loop-place-preserved g c =
    let taken = length-take-le c.min-len.result c.loop-place.edges (omega (arith, c.requires.piece)) in
    record {
      within = omega arith;
      reads = reads_then g.D.Depot.holds g.D.Depot.taken g.D.Depot.stored g.D.Depot.faults g.D.Depot.attached Spool _ _ _ c.loop-place.invariant.reads c.in-Ok.ensures.reads;
      tallied = tallied_as _ _ _ _ _ _ _ (sym (c.loop-place.invariant.reads.contents Spool)) (ap (λ (k : ℕ). c.loop-place.place + k) taken) c.in-Ok.ensures.tallied;
    }

pub returns-clause-tallied : goal.returns-clause-tallied
returns-clause-tallied g c = tallied_as _ _ _ _ _ _ _ refl (omega arith) c.loop-place.invariant.tallied

pub returns-clause-reads : goal.returns-clause-reads
returns-clause-reads g c = c.loop-place.invariant.reads
