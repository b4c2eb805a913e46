use Rattle.std.proofs.Common.{◌≤◌, ◌+◌, length, ap, ◌∙◌, arith}
use Rattle.std.specs.Option.{option_map}
use Rattle.lumos_depot.specs.Files.{overwritten}
use Rattle.lumos_depot.specs.declared.depot.FileKind.TheVariants.{Secondary}
use Rattle.lumos_depot.proofs.StepLemmas.{told_more, told_same}
use Rattle.grid_build.proofs.copying.copy_piece.Goals as goal

pub write_at-requires-clause-inside : goal.write_at-requires-clause-inside
write_at-requires-clause-inside g c =
    let old = g.D.Depot.holds c.args.depot.now Secondary in
    let mid = g.D.Depot.holds c.read_at.new.self Secondary in
    let room = told_same old mid (λ file. c.args.into + length c.args.bytes.now ≤ length file) (c.read_at.ensures.contents Secondary) c.requires.room in
    told_more mid (λ file. c.args.into + length c.args.bytes.now ≤ length file) (λ file. c.args.into + length c.read_at.new.buf ≤ length file) (λ file long. omega (arith, long, c.read_at.auto.buf)) room

pub returns-clause-copied : goal.returns-clause-copied
returns-clause-copied g c = record {
  bytes = c.read_at.new.buf;
  whole = c.read_at.auto.buf;
  written = c.in-Ok-write_at.ensures.value ∙ ap (option_map (overwritten c.args.into c.read_at.new.buf)) (c.read_at.ensures.contents Secondary);
  same = c.in-Ok.ensures.value;
}
