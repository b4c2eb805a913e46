use Rattle.std.proofs.Common.{◌≡◌, ◌≤◌, ◌<◌, ◌+◌, List}
use Rattle.lumos_base.specs.declared.records.Edge.{Edge}
use Rattle.lumos_depot.specs.Steps.{Touches}
use Rattle.lumos_report.specs.declared.records.Kind.{Kind}
use Rattle.windows.specs.Windows.{Coding}
use Rattle.early_engine.specs.Engines.{HasFiles, IsSameRun, IsStanding}
use Rattle.early_engine.specs.Files.{run_stores, run_takes}
use Rattle.early_engine.specs.Gone.{IsTallied}
use Rattle.early_engine.specs.Passes.{file_of}
use Rattle.early_engine.specs.Runs.{RoseAll, most_taken}
use Rattle.early_engine.specs.declared.options.Phase.TheVariants.{Going}
use Rattle.early_engine.proofs.ReportLemmas.{Went}
use Rattle.early_engine.proofs.RunLemmas.{IsRunning, key_of, stored_at}
use Rattle.early_engine.proofs.TakenLemmas.{moved_to}
use Rattle.early_engine.proofs.run.run_turns.Given as goal

abbrev pub invariant-loop-turn : goal.invariant-loop-turn
invariant-loop-turn g l =
    let coding : Coding _ _ = record { value_of = g.G.Value.Fixed.value_of; value_width = g.G.Value.Fixed.WIDTH; sum_of = g.G.Sum.Fixed.value_of; sum_width = g.G.Sum.Fixed.WIDTH } in
    let model = g.G.VertexProgram.model in
    let a = l.fn.engine in
    record {
      touches : Touches g.D.Depot.holds g.D.Depot.taken g.D.Depot.stored g.D.Depot.faults g.D.Depot.attached (run_takes a.options.mode a.options.iterations) (run_stores a.options.mode a.options.iterations) l.fn.depot l.depot;
      later : g.O.Sink.faults l.fn.out ≤ g.O.Sink.faults l.out;
      files : HasFiles coding (g.D.Depot.holds l.depot) l.engine;
      going : l.engine.phase ≡ Going;
      same : IsSameRun a l.engine;
      counted : l.engine.finished ≡ l.turn;
      left : l.engine.finished < l.iterations;
      most : (kind : Kind) → g.D.Depot.taken l.depot (file_of kind) ≤ g.D.Depot.taken l.fn.depot (file_of kind) + most_taken kind a.options.mode a.table l.engine.finished;
      reports : Went (model a.program) a.options.show a.options.mode a.options.iterations a.info.vertices (IsTallied a.options.mode a.table) l.turn (g.O.Sink.written l.fn.out) (g.O.Sink.written l.out);
      stored : RoseAll (g.D.Depot.stored l.fn.depot) (g.D.Depot.stored l.depot) (moved_to (stored_at g.G.Value.Fixed.WIDTH g.G.Sum.Fixed.WIDTH (key_of a)) l.engine.finished);
      running : (edges : List Edge) → IsStanding coding (model a.program) edges (g.D.Depot.holds l.fn.depot) a
          → IsRunning model edges coding g.G.Value.Fixed.WIDTH g.G.Sum.Fixed.WIDTH (key_of a) l.engine (g.D.Depot.holds l.depot) (g.O.Sink.written l.fn.out) (g.O.Sink.written l.out)
          (g.D.Depot.taken l.fn.depot) (g.D.Depot.taken l.depot);
    }
