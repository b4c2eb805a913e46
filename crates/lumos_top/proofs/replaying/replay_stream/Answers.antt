use Rattle.std.proofs.Common.{refl, sym, subst, ◌∙◌}
use Rattle.programs.specs.Spreading.{spreading_program}
use Rattle.std.specs.Prelude.{codes}
use Rattle.lumos_top.specs.Answers.{replay_text}
use Rattle.lumos_top.specs.Programs.{seeds_from}
use Rattle.lumos_top.specs.Replays.{replayed}
use Rattle.lumos_top.specs.Replaying.{Shows}
use Rattle.lumos_top.specs.Streaming.{streamed_of}
use Rattle.lumos_top.proofs.RunLemmas.{spread_as}
use Rattle.lumos_top.proofs.replaying.replay_stream.Goals as goal

pub returns-in-PageRank-clause-shows : goal.returns-in-PageRank-clause-shows
returns-in-PageRank-clause-shows g c =
    subst (λ words. Shows (replay_text words c.args.parts (streamed_of c.args.stream.now)) (g.O.Sink.written c.args.out.now) (g.O.Sink.written c.replay_program.new.out) c.replay_program.result) (sym c.in-PageRank.is) c.replay_program.ensures.shows

pub returns-in-Spreading-clause-shows : goal.returns-in-Spreading-clause-shows
returns-in-Spreading-clause-shows g c =
    subst (λ words. Shows (replay_text words c.args.parts (streamed_of c.args.stream.now)) (g.O.Sink.written c.args.out.now) (g.O.Sink.written c.replay_program-in-Spreading.new.out) c.replay_program-in-Spreading.result) (sym c.in-Spreading.is)
    (spread_as (λ p. Shows (replayed p c.args.stream.now.list.edges.items c.args.stream.now.list.vertices c.args.parts (codes "spreading") 1025 c.args.stream.now.schedule.events) (g.O.Sink.written c.args.out.now) (g.O.Sink.written c.replay_program-in-Spreading.new.out) c.replay_program-in-Spreading.result) _ c.in-Spreading.unit _ c.in-Spreading.share _ (seeds_from c.in-Spreading.seeds) c.spreading-shown.ensures.unit c.spreading-shown.ensures.share c.spreading-shown.ensures.seeds c.replay_program-in-Spreading.ensures.shows)

pub returns-in-Paths-clause-shows : goal.returns-in-Paths-clause-shows
returns-in-Paths-clause-shows g c =
    subst (λ words. Shows (replay_text words c.args.parts (streamed_of c.args.stream.now)) (g.O.Sink.written c.args.out.now) (g.O.Sink.written c.replay_program-in-Paths.new.out) c.replay_program-in-Paths.result) (sym c.in-Paths.is) c.replay_program-in-Paths.ensures.shows

pub returns-in-Components-clause-shows : goal.returns-in-Components-clause-shows
returns-in-Components-clause-shows g c =
    subst (λ words. Shows (replay_text words c.args.parts (streamed_of c.args.stream.now)) (g.O.Sink.written c.args.out.now) (g.O.Sink.written c.replay_program-in-Components.new.out) c.replay_program-in-Components.result) (sym c.in-Components.is) c.replay_program-in-Components.ensures.shows

pub returns-in-Tally-clause-shows : goal.returns-in-Tally-clause-shows
returns-in-Tally-clause-shows g c =
    subst (λ words. Shows (replay_text words c.args.parts (streamed_of c.args.stream.now)) (g.O.Sink.written c.args.out.now) (g.O.Sink.written c.replay_program-in-Tally.new.out) c.replay_program-in-Tally.result) (sym c.in-Tally.is) c.replay_program-in-Tally.ensures.shows

pub replay_program-requires-clause-same : goal.replay_program-requires-clause-same
replay_program-requires-clause-same g c = refl

pub replay_program-requires-in-Spreading-clause-same : goal.replay_program-requires-in-Spreading-clause-same
replay_program-requires-in-Spreading-clause-same g c =
    (λ i. spreading_program (c.spreading-program.ensures.unit i) (c.spreading-program.ensures.share i) (c.spreading-program.ensures.seeds i))
    ∙ sym (λ i. spreading_program (c.spreading-shown.ensures.unit i) (c.spreading-shown.ensures.share i) (c.spreading-shown.ensures.seeds i))
