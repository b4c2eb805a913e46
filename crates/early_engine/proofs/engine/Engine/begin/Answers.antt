use Rattle.std.proofs.Common.{◌≤◌, false, Ok, refl, ap, ◌∙◌, subst, arith}
use Rattle.windows.specs.Windows.{Coding, IsSameRoom}
use Rattle.early_engine.specs.Early.{IsKept}
use Rattle.early_engine.specs.Engines.{IsOpened, cut_in}
use Rattle.early_engine.specs.Files.{stores_of}
use Rattle.early_engine.specs.Starts.{StartComes}
use Rattle.early_engine.proofs.StandLemmas.{core_first, kept_first, stands_first}
use Rattle.early_engine.proofs.engine.Engine.begin.Goals as goal

pub returns-in-Ok-clause-told : goal.returns-in-Ok-clause-told
returns-in-Ok-clause-told g c edges =
    let model = g.G.VertexProgram.model in
    let name = g.G.VertexProgram.name_text in
    let coding : Coding g.row.G-Value.Denot g.row.G-Sum.Denot = record { value_of = g.G.Value.Fixed.value_of; value_width = g.G.Value.Fixed.WIDTH; sum_of = g.G.Sum.Fixed.value_of; sum_width = g.G.Sum.Fixed.WIDTH } in
    subst (λ w. IsOpened edges (g.D.Depot.holds c.args.depot.now) w → StartComes coding (model w.program) (name w.program) w.options.show edges (cut_in w.info) c.make_start.new.room.windows (g.D.Depot.holds c.make_start.new.depot)
    (g.O.Sink.written c.args.out.now) (g.O.Sink.written c.make_start.new.out) (Ok tt)) c.self.view_is
    (λ opened. c.in-Ok.ensures.told edges opened.grid opened.head)

pub returns-in-Ok-clause-stands : goal.returns-in-Ok-clause-stands
returns-in-Ok-clause-stands g c edges opened ok =
    let model = g.G.VertexProgram.model in
    let coding : Coding g.row.G-Value.Denot g.row.G-Sum.Denot = record { value_of = g.G.Value.Fixed.value_of; value_width = g.G.Value.Fixed.WIDTH; sum_of = g.G.Sum.Fixed.value_of; sum_width = g.G.Sum.Fixed.WIDTH } in
    let told = g.D.Depot.holds c.args.depot.now in
    let later = g.D.Depot.holds c.make_start.new.depot in
    let was = c.self.view_is in
    let here = c.self.inside in
    let windows = c.make_start.new.room.windows in
    let flags = c.make_start.new.room.active.was_hot in
    let none = c.self.invariant.counted.none (ap (λ w. w.phase) was ∙ c.requires.fresh) in
    let kept = subst (λ w. IsOpened edges told w → IsKept coding (model w.program) edges (cut_in w.info) w.options.mode w.options.iterations 0 windows later flags) was
    (λ first. kept_first coding (model here.program) edges later (cut_in here.info) here.options.mode here.options.iterations windows flags (c.in-Ok.ensures.fits.cut_is ∙ c.self.invariant.cut_fits)
    (c.in-Ok.ensures.told edges first.grid first.head).0 (c.in-Ok.ensures.hot edges first.grid)) opened in
    let room = subst (λ w. IsSameRoom w.windows windows) was c.make_start.ensures.room in
    stands_first coding (model c.args.self.now.program) edges told (stores_of false) later c.args.self.now _ refl refl refl refl c.in-Ok.ensures.touches.contents
    (record { program = ap (λ w. w.program) was; options = ap (λ w. w.options) was; info = ap (λ w. w.info) was; table = ap (λ w. w.table) was; room = room })
    refl none (omega (arith, c.self.invariant.counted.some)) opened kept

pub returns-in-Ok-clause-core : goal.returns-in-Ok-clause-core
returns-in-Ok-clause-core g c edges opened =
    let model = g.G.VertexProgram.model in
    let coding : Coding g.row.G-Value.Denot g.row.G-Sum.Denot = record { value_of = g.G.Value.Fixed.value_of; value_width = g.G.Value.Fixed.WIDTH; sum_of = g.G.Sum.Fixed.value_of; sum_width = g.G.Sum.Fixed.WIDTH } in
    let told = g.D.Depot.holds c.args.depot.now in
    let later = g.D.Depot.holds c.make_start.new.depot in
    let was = c.self.view_is in
    let here = c.self.inside in
    let engine = c.args.self.now in
    let windows = c.make_start.new.room.windows in
    let flags = c.make_start.new.room.active.was_hot in
    let few = subst (λ w. w.options.iterations ≤ 1000000) was c.self.invariant.counted.few in
    let cut_is = c.in-Ok.ensures.fits.cut_is ∙ c.self.invariant.cut_fits ∙ ap (λ w. cut_in w.info) was in
    let kept = subst (λ w. IsOpened edges told w → IsKept coding (model w.program) edges (cut_in w.info) w.options.mode w.options.iterations 0 windows later flags) was
    (λ first. kept_first coding (model here.program) edges later (cut_in here.info) here.options.mode here.options.iterations windows flags (c.in-Ok.ensures.fits.cut_is ∙ c.self.invariant.cut_fits)
    (c.in-Ok.ensures.told edges first.grid first.head).0 (c.in-Ok.ensures.hot edges first.grid)) opened in
    core_first coding (model engine.program) edges told (g.met.G.VertexProgram.lawful engine.program) later engine windows flags few cut_is opened kept
