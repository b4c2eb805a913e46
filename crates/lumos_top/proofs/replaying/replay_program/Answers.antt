use Rattle.std.proofs.Common.{refl, sym, ◌∙◌}
use Rattle.lumos_top.proofs.ReplayEnds.{program_cut, program_shown, program_stopped}
use Rattle.lumos_top.proofs.RunLemmas.{cut_is}
use Rattle.lumos_top.proofs.replaying.replay_program.Goals as goal

pub returns-in-Err-clause-shows : goal.returns-in-Err-clause-shows
returns-in-Err-clause-shows g c = rw c.event_stop.ensures.value (
    let n = c.args.stream.now.list.vertices in
    let cut = cut_is n c.args.parts c.in-Ok.cut (sym c.new.ensures ∙ c.in-Ok.is) in
    program_stopped g.G.VertexProgram.model (g.G.VertexProgram.model c.args.shown.now) (g.G.VertexProgram.name_text c.args.shown.now) 1025 n c.args.parts c.args.program c.deref.result.now _ c.in-Ok.cut c.events-events.result.now _ c.in-Ok-new.replay c.run_events.new.replay c.in-Err.stop _
    c.requires.same c.deref.ensures.value cut c.events-events.ensures.items c.in-Ok-new.ensures.made c.in-Err.ensures)

pub returns-in-Ok-write_replay-clause-shows : goal.returns-in-Ok-write_replay-clause-shows
returns-in-Ok-write_replay-clause-shows g c =
    let n = c.args.stream.now.list.vertices in
    let cut = cut_is n c.args.parts c.in-Ok.cut (sym c.new.ensures ∙ c.in-Ok.is) in
    program_shown g.G.VertexProgram.model (g.G.VertexProgram.model c.args.shown.now) (g.G.VertexProgram.name_text c.args.shown.now) 1025 n c.args.parts c.args.program c.deref.result.now _ c.in-Ok.cut c.events-events.result.now _ c.in-Ok-new.replay c.run_events.new.replay _ _ _ _
    c.requires.same c.deref.ensures.value cut c.events-events.ensures.items c.in-Ok-new.ensures.made (c.len-edges.ensures ∙ sym c.deref.ensures.len) refl c.in-Ok-run_events.ensures c.in-Ok-write_replay.ensures.bytes

pub returns-clause-shows : goal.returns-clause-shows
returns-clause-shows g c =
    let n = c.args.stream.now.list.vertices in
    let cut = cut_is n c.args.parts c.in-Ok.cut (sym c.new.ensures ∙ c.in-Ok.is) in
    program_cut g.G.VertexProgram.model (g.G.VertexProgram.model c.args.shown.now) (g.G.VertexProgram.name_text c.args.shown.now) 1025 n c.args.parts c.args.program c.deref.result.now _ c.in-Ok.cut c.events-events.result.now _ c.in-Ok-new.replay c.run_events.new.replay _ _ _ _ _
    c.requires.same c.deref.ensures.value cut c.events-events.ensures.items c.in-Ok-new.ensures.made (c.len-edges.ensures ∙ sym c.deref.ensures.len) refl c.in-Ok-run_events.ensures c.in-Err-write_replay.ensures.bytes
