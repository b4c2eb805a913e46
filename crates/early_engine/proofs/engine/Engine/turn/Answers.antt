use Rattle.std.proofs.Common.{◌≡◌, ◌≤◌, ◌+◌, ◌*◌, Ok, Err, ℕ, length, refl, sym, ap, ◌∙◌, subst}
use Rattle.std.specs.Prelude.{IfSome}
use Rattle.lumos_depot.specs.Steps.{Touches}
use Rattle.lumos_depot.specs.declared.depot.FileKind.TheVariants.{Info}
use Rattle.lumos_depot.proofs.StepLemmas.{told_same}
use Rattle.partition.specs.Parts.{Cut}
use Rattle.windows.specs.Kept.{load_bytes}
use Rattle.windows.specs.Windows.{Coding, IsSameRoom}
use Rattle.early_engine.specs.Engines.{IsStanding, cut_in}
use Rattle.early_engine.specs.Files.{stores_of, takes_of}
use Rattle.early_engine.specs.Gone.{HasPassed, IsTallied, and_shown, beside_of}
use Rattle.early_engine.specs.Grids.{bytes_in}
use Rattle.early_engine.specs.Passes.{feeds_ahead, file_of, kind_of}
use Rattle.early_engine.specs.Reported.{IsReported, TurnReports}
use Rattle.early_engine.specs.Runs.{RoseAll, loose_bytes, shown_bytes, stored_in, taken_in}
use Rattle.early_engine.specs.Turns.{RunShows, TurnComes, phase_after}
use Rattle.early_engine.specs.declared.options.Turn.TheVariants.{Going}
use Rattle.early_engine.proofs.StandLemmas.{core_turned, stands_again, stood}
use Rattle.early_engine.proofs.engine.Engine.turn.Goals as goal

pub returns-in-Ok-clause-told : goal.returns-in-Ok-clause-told
returns-in-Ok-clause-told g c edges =
    let model = g.G.VertexProgram.model in
    let coding : Coding g.row.G-Value.Denot g.row.G-Sum.Denot = record { value_of = g.G.Value.Fixed.value_of; value_width = g.G.Value.Fixed.WIDTH; sum_of = g.G.Sum.Fixed.value_of; sum_width = g.G.Sum.Fixed.WIDTH } in
    let told = g.D.Depot.holds c.args.depot.now in
    let later = g.D.Depot.holds c.make_turn.new.depot in
    let windows = c.make_turn.new.room.windows in
    let flags = c.make_turn.new.room.active.was_hot in
    let held = g.O.Sink.written c.args.out.now in
    let after = g.O.Sink.written c.make_turn.new.out in
    let here = c.self.inside in
    subst (λ w. IsStanding coding (model w.program) edges told w → TurnComes (model w.program) w.options.show w.options.mode edges (cut_in w.info) w.options.iterations w.finished coding windows later flags held after (Ok c.in-Ok.turn)) c.self.view_is
    (stood coding (model here.program) edges told _ here.layout.parts (here.finished + 1)
    (λ (k : Cut) (u : ℕ). TurnComes (model here.program) here.options.show here.options.mode edges k here.options.iterations u coding windows later flags held after (Ok c.in-Ok.turn)) c.self.invariant.cut_fits refl
    (λ u grid kept at low on. c.in-Ok.ensures.told edges u grid kept at low on))

pub returns-in-Err-clause-told : goal.returns-in-Err-clause-told
returns-in-Err-clause-told g c edges =
    let model = g.G.VertexProgram.model in
    let coding : Coding g.row.G-Value.Denot g.row.G-Sum.Denot = record { value_of = g.G.Value.Fixed.value_of; value_width = g.G.Value.Fixed.WIDTH; sum_of = g.G.Sum.Fixed.value_of; sum_width = g.G.Sum.Fixed.WIDTH } in
    let told = g.D.Depot.holds c.args.depot.now in
    let later = g.D.Depot.holds c.make_turn.new.depot in
    let windows = c.make_turn.new.room.windows in
    let flags = c.make_turn.new.room.active.was_hot in
    let held = g.O.Sink.written c.args.out.now in
    let after = g.O.Sink.written c.make_turn.new.out in
    let here = c.self.inside in
    subst (λ w. IsStanding coding (model w.program) edges told w → TurnComes (model w.program) w.options.show w.options.mode edges (cut_in w.info) w.options.iterations w.finished coding windows later flags held after (Err c.in-Err.fault)) c.self.view_is
    (stood coding (model here.program) edges told _ here.layout.parts (here.finished + 1)
    (λ (k : Cut) (u : ℕ). TurnComes (model here.program) here.options.show here.options.mode edges k here.options.iterations u coding windows later flags held after (Err c.in-Err.fault)) c.self.invariant.cut_fits refl
    (λ u grid kept at low on. c.in-Err.ensures.told edges u grid kept at low on))

pub returns-in-Ok-clause-reported : goal.returns-in-Ok-clause-reported
returns-in-Ok-clause-reported g c =
    let coding : Coding g.row.G-Value.Denot g.row.G-Sum.Denot = record { value_of = g.G.Value.Fixed.value_of; value_width = g.G.Value.Fixed.WIDTH; sum_of = g.G.Sum.Fixed.value_of; sum_width = g.G.Sum.Fixed.WIDTH } in
    let v = g.G.Value.Fixed.WIDTH in
    let s = g.G.Sum.Fixed.WIDTH in
    let here = c.self.inside in
    let flags = c.make_turn.new.room.active.was_hot in
    let windows = c.make_turn.new.room.windows in
    let later = g.D.Depot.holds c.make_turn.new.depot in
    let held = g.O.Sink.written c.args.out.now in
    let after = g.O.Sink.written c.make_turn.new.out in
    subst (λ w. IsReported coding (g.G.VertexProgram.model w.program) w.options.show w.options.mode w.options.iterations (cut_in w.info).vertices
    (λ t. HasPassed w.options.mode w.options.iterations w.table (load_bytes coding w.windows) w.active flags t
    (and_shown (shown_bytes w.options.show (loose_bytes (cut_in w.info) v w.windows.pinned)) (beside_of (cut_in w.info) v s w.windows.pinned (kind_of w.options.mode (w.finished + 1)) (feeds_ahead w.options.mode w.options.iterations (w.finished + 1)) (cut_in w.info).parts))
    (g.D.Depot.taken c.args.depot.now) (g.D.Depot.stored c.args.depot.now) (g.D.Depot.taken c.make_turn.new.depot) (g.D.Depot.stored c.make_turn.new.depot)) (w.finished + 1) windows later held after c.in-Ok.turn) c.self.view_is
    (subst (λ (k : Cut). IsReported coding (g.G.VertexProgram.model here.program) here.options.show here.options.mode here.options.iterations k.vertices
    (λ t. HasPassed here.options.mode here.options.iterations here.layout.table (load_bytes coding here.room.windows) here.room.active.was_hot flags t
    (and_shown (shown_bytes here.options.show (loose_bytes k v here.room.windows.pinned)) (beside_of k v s here.room.windows.pinned (kind_of here.options.mode (here.finished + 1)) (feeds_ahead here.options.mode here.options.iterations (here.finished + 1)) k.parts))
    (g.D.Depot.taken c.args.depot.now) (g.D.Depot.stored c.args.depot.now) (g.D.Depot.taken c.make_turn.new.depot) (g.D.Depot.stored c.make_turn.new.depot)) (here.finished + 1) windows later held after c.in-Ok.turn) c.self.invariant.cut_fits c.in-Ok.ensures.reported)

pub returns-in-Err-clause-reported : goal.returns-in-Err-clause-reported
returns-in-Err-clause-reported g c =
    let coding : Coding g.row.G-Value.Denot g.row.G-Sum.Denot = record { value_of = g.G.Value.Fixed.value_of; value_width = g.G.Value.Fixed.WIDTH; sum_of = g.G.Sum.Fixed.value_of; sum_width = g.G.Sum.Fixed.WIDTH } in
    let v = g.G.Value.Fixed.WIDTH in
    let s = g.G.Sum.Fixed.WIDTH in
    let here = c.self.inside in
    let flags = c.make_turn.new.room.active.was_hot in
    let windows = c.make_turn.new.room.windows in
    let later = g.D.Depot.holds c.make_turn.new.depot in
    let held = g.O.Sink.written c.args.out.now in
    let after = g.O.Sink.written c.make_turn.new.out in
    subst (λ w. TurnReports coding (g.G.VertexProgram.model w.program) w.options.show w.options.mode w.options.iterations (cut_in w.info).vertices
    (λ t. HasPassed w.options.mode w.options.iterations w.table (load_bytes coding w.windows) w.active flags t
    (and_shown (shown_bytes w.options.show (loose_bytes (cut_in w.info) v w.windows.pinned)) (beside_of (cut_in w.info) v s w.windows.pinned (kind_of w.options.mode (w.finished + 1)) (feeds_ahead w.options.mode w.options.iterations (w.finished + 1)) (cut_in w.info).parts))
    (g.D.Depot.taken c.args.depot.now) (g.D.Depot.stored c.args.depot.now) (g.D.Depot.taken c.make_turn.new.depot) (g.D.Depot.stored c.make_turn.new.depot)) (IsTallied w.options.mode w.table) (w.finished + 1) windows later held after (Err c.in-Err.fault)) c.self.view_is
    (subst (λ (k : Cut). TurnReports coding (g.G.VertexProgram.model here.program) here.options.show here.options.mode here.options.iterations k.vertices
    (λ t. HasPassed here.options.mode here.options.iterations here.layout.table (load_bytes coding here.room.windows) here.room.active.was_hot flags t
    (and_shown (shown_bytes here.options.show (loose_bytes k v here.room.windows.pinned)) (beside_of k v s here.room.windows.pinned (kind_of here.options.mode (here.finished + 1)) (feeds_ahead here.options.mode here.options.iterations (here.finished + 1)) k.parts))
    (g.D.Depot.taken c.args.depot.now) (g.D.Depot.stored c.args.depot.now) (g.D.Depot.taken c.make_turn.new.depot) (g.D.Depot.stored c.make_turn.new.depot)) (IsTallied here.options.mode here.layout.table) (here.finished + 1) windows later held after (Err c.in-Err.fault)) c.self.invariant.cut_fits c.in-Err.ensures.reported)

pub returns-in-Err-clause-shows : goal.returns-in-Err-clause-shows
returns-in-Err-clause-shows g c =
    let coding : Coding g.row.G-Value.Denot g.row.G-Sum.Denot = record { value_of = g.G.Value.Fixed.value_of; value_width = g.G.Value.Fixed.WIDTH; sum_of = g.G.Sum.Fixed.value_of; sum_width = g.G.Sum.Fixed.WIDTH } in
    subst (λ w. RunShows g.G.Value.Fixed.is_in_range g.G.Sum.Fixed.is_in_range coding (g.G.VertexProgram.model w.program) w.windows w.options.mode w.table (w.finished + 1) c.in-Err.fault) c.self.view_is c.in-Err.ensures.shows

pub returns-in-Ok-clause-stands : goal.returns-in-Ok-clause-stands
returns-in-Ok-clause-stands g c edges stands going =
    let model = g.G.VertexProgram.model in
    let coding : Coding g.row.G-Value.Denot g.row.G-Sum.Denot = record { value_of = g.G.Value.Fixed.value_of; value_width = g.G.Value.Fixed.WIDTH; sum_of = g.G.Sum.Fixed.value_of; sum_width = g.G.Sum.Fixed.WIDTH } in
    let is : c.in-Ok.turn ≡ Going = cc in
    let was = c.self.view_is in
    let here = c.self.inside in
    let windows = c.make_turn.new.room.windows in
    let room = subst (λ w. IsSameRoom w.windows windows) was c.make_turn.ensures.room in
    stands_again coding (model c.args.self.now.program) edges (g.D.Depot.holds c.args.depot.now) (stores_of (feeds_ahead here.options.mode here.options.iterations (here.finished + 1))) (g.D.Depot.holds c.make_turn.new.depot) c.args.self.now _
    (g.O.Sink.written c.args.out.now) (g.O.Sink.written c.make_turn.new.out) c.in-Ok.turn refl refl refl refl c.in-Ok.ensures.touches.contents is
    (record { program = ap (λ w. w.program) was; options = ap (λ w. w.options) was; info = ap (λ w. w.info) was; table = ap (λ w. w.table) was; room = room })
    (c.phase_after-self-inside.ensures ∙ ap phase_after is) (ap (λ w. w.finished + 1) was) stands (returns-in-Ok-clause-told g c edges stands)

pub returns-in-Ok-clause-core : goal.returns-in-Ok-clause-core
returns-in-Ok-clause-core g c edges stands =
    let model = g.G.VertexProgram.model in
    let coding : Coding g.row.G-Value.Denot g.row.G-Sum.Denot = record { value_of = g.G.Value.Fixed.value_of; value_width = g.G.Value.Fixed.WIDTH; sum_of = g.G.Sum.Fixed.value_of; sum_width = g.G.Sum.Fixed.WIDTH } in
    let was = c.self.view_is in
    let engine = c.args.self.now in
    let few = subst (λ w. w.options.iterations ≤ 1000000) was c.self.invariant.counted.few in
    let cut_is = c.in-Ok.ensures.fits.cut_is ∙ c.self.invariant.cut_fits ∙ ap (λ w. cut_in w.info) was in
    core_turned coding (model engine.program) edges (g.D.Depot.holds c.args.depot.now) (g.met.G.VertexProgram.lawful engine.program) (g.D.Depot.holds c.make_turn.new.depot) engine (c.self.inside.finished + 1) c.make_turn.new.room.windows c.make_turn.new.room.active.was_hot
    (g.O.Sink.written c.args.out.now) (g.O.Sink.written c.make_turn.new.out) c.in-Ok.turn few (ap (λ w. w.finished + 1) was) cut_is stands (returns-in-Ok-clause-told g c edges stands)

pub returns-in-Ok-clause-taken : goal.returns-in-Ok-clause-taken
returns-in-Ok-clause-taken g c edges =
    let model = g.G.VertexProgram.model in
    let coding : Coding g.row.G-Value.Denot g.row.G-Sum.Denot = record { value_of = g.G.Value.Fixed.value_of; value_width = g.G.Value.Fixed.WIDTH; sum_of = g.G.Sum.Fixed.value_of; sum_width = g.G.Sum.Fixed.WIDTH } in
    let v = g.G.Value.Fixed.WIDTH in
    let s = g.G.Sum.Fixed.WIDTH in
    let told = g.D.Depot.holds c.args.depot.now in
    let held = g.D.Depot.taken c.args.depot.now in
    let after = g.D.Depot.taken c.make_turn.new.depot in
    let here = c.self.inside in
    subst (λ w. IsStanding coding (model w.program) edges told w → RoseAll held after (taken_in (cut_in w.info) v s w.windows.pinned (model w.program) edges w.options.show w.options.mode w.options.iterations (w.finished + 1))) c.self.view_is
    (stood coding (model here.program) edges told _ here.layout.parts (here.finished + 1)
    (λ (k : Cut) (u : ℕ). RoseAll held after (taken_in k v s here.room.windows.pinned (model here.program) edges here.options.show here.options.mode here.options.iterations (here.finished + 1))) c.self.invariant.cut_fits refl
    (λ u grid kept at low on. c.in-Ok.ensures.taken edges u grid at kept))

pub returns-in-Ok-clause-stored : goal.returns-in-Ok-clause-stored
returns-in-Ok-clause-stored g c =
    let v = g.G.Value.Fixed.WIDTH in
    let s = g.G.Sum.Fixed.WIDTH in
    let held = g.D.Depot.stored c.args.depot.now in
    let after = g.D.Depot.stored c.make_turn.new.depot in
    let here = c.self.inside in
    subst (λ w. RoseAll held after (stored_in (cut_in w.info) v s w.windows.pinned w.options.mode w.options.iterations (w.finished + 1))) c.self.view_is
    (subst (λ (k : Cut). RoseAll held after (stored_in k v s here.room.windows.pinned here.options.mode here.options.iterations (here.finished + 1))) c.self.invariant.cut_fits c.in-Ok.ensures.stored)

pub returns-in-Ok-clause-most : goal.returns-in-Ok-clause-most
returns-in-Ok-clause-most g c =
    subst (λ w. g.D.Depot.taken c.make_turn.new.depot (file_of (kind_of w.options.mode (w.finished + 1))) ≤ g.D.Depot.taken c.args.depot.now (file_of (kind_of w.options.mode (w.finished + 1))) + bytes_in (kind_of w.options.mode (w.finished + 1)) w.table) c.self.view_is
    c.in-Ok.ensures.most

pub returns-in-Ok-clause-touches : goal.returns-in-Ok-clause-touches
returns-in-Ok-clause-touches g c =
    subst (λ w. Touches g.D.Depot.holds g.D.Depot.taken g.D.Depot.stored g.D.Depot.faults g.D.Depot.attached (takes_of (kind_of w.options.mode (w.finished + 1))) (stores_of (feeds_ahead w.options.mode w.options.iterations (w.finished + 1))) c.args.depot.now c.make_turn.new.depot) c.self.view_is
    c.in-Ok.ensures.touches

pub returns-in-Err-clause-most : goal.returns-in-Err-clause-most
returns-in-Err-clause-most g c =
    subst (λ w. g.D.Depot.taken c.make_turn.new.depot (file_of (kind_of w.options.mode (w.finished + 1))) ≤ g.D.Depot.taken c.args.depot.now (file_of (kind_of w.options.mode (w.finished + 1))) + bytes_in (kind_of w.options.mode (w.finished + 1)) w.table) c.self.view_is
    c.in-Err.ensures.most

pub returns-in-Err-clause-touches : goal.returns-in-Err-clause-touches
returns-in-Err-clause-touches g c =
    subst (λ w. Touches g.D.Depot.holds g.D.Depot.taken g.D.Depot.stored g.D.Depot.faults g.D.Depot.attached (takes_of (kind_of w.options.mode (w.finished + 1))) (stores_of (feeds_ahead w.options.mode w.options.iterations (w.finished + 1))) c.args.depot.now c.make_turn.new.depot) c.self.view_is
    c.in-Err.ensures.touches

pub returns-in-Ok-clause-files : goal.returns-in-Ok-clause-files
returns-in-Ok-clause-files g c =
    let here = c.self.inside in
    let told = g.D.Depot.holds c.args.depot.now in
    let infos = subst (λ w. IfSome (told Info) (λ file. length file ≡ 12 * w.info.vertices)) (sym c.self.view_is) c.requires.files.infos in
    record {
      infos = told_same (told Info) (g.D.Depot.holds c.make_turn.new.depot Info) (λ file. length file ≡ 12 * here.info.vertices) (c.in-Ok.ensures.touches.contents Info refl) infos;
      blocks = c.in-Ok.ensures.fits.blocks;
      sized = c.in-Ok.ensures.fits.sized;
    }
