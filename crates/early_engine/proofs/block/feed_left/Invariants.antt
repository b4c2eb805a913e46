use Rattle.std.proofs.Common.{◌≡◌, ◌≤◌, ◌-◌, ◌+◌, ◌*◌, None}
use Rattle.std.specs.Prelude.{IfSome}
use Rattle.lumos_depot.specs.Steps.{Reads, RoseBy}
use Rattle.column_stream.specs.Cursors.{edges_next, fault_next, moved_by}
use Rattle.windows.specs.Kept.{Stays}
use Rattle.windows.specs.Windows.{Coding, Told}
use Rattle.early_engine.proofs.PieceLemmas.{IsFed, NextFed, SumsFed}
use Rattle.early_engine.proofs.block.feed_left.Given as goal

-- the first records are read and fed
abbrev pub invariant-loop-done : goal.invariant-loop-done
invariant-loop-done g l =
    let begin = l.fn.cursor in
    let p = g.G.VertexProgram.model l.fn.program in
    let coding : Coding g.row.G-Value.Denot g.row.G-Sum.Denot = record { value_of = g.G.Value.Fixed.value_of; value_width = g.G.Value.Fixed.WIDTH; sum_of = g.G.Sum.Fixed.value_of; sum_width = g.G.Sum.Fixed.WIDTH } in
    record {
      within : l.done ≤ begin.left;
      at : l.cursor ≡ moved_by l.done begin;
      fed : IfSome (g.D.Depot.holds l.fn.depot begin.file) (λ bytes. SumsFed p l.fn.visit.now l.fn.windows l.windows (edges_next l.done begin bytes));
      ahead : IfSome (g.D.Depot.holds l.fn.depot begin.file) (λ bytes. NextFed p l.fn.visit.ahead l.fn.windows l.windows (edges_next l.done begin bytes));
      alone : IsFed l.fn.windows l.windows;
      stays : (told : Told) → Stays coding l.fn.windows told l.windows told;
      sound : IfSome (g.D.Depot.holds l.fn.depot begin.file) (λ bytes. fault_next l.done begin bytes ≡ None);
      taken : RoseBy (g.D.Depot.taken l.fn.depot begin.file) (g.D.Depot.taken l.depot begin.file) (12 * l.done);
      most : g.D.Depot.taken l.depot begin.file ≤ g.D.Depot.taken l.fn.depot begin.file + 12 * l.done;
      reads : Reads g.D.Depot.holds g.D.Depot.taken g.D.Depot.stored g.D.Depot.faults g.D.Depot.attached begin.file l.fn.depot l.depot;
    }

abbrev pub decreases-loop-done : goal.decreases-loop-done
decreases-loop-done g l = l.fn.cursor.left - l.done
