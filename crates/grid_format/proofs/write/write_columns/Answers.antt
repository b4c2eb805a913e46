use Rattle.std.proofs.Common.{◌≡◌, ◌≤◌, ◌+◌, ◌-◌, ◌*◌, ℕ, List, length, take, arith, false, nat_eq}
use Rattle.std.specs.List.{starts_with}
use Rattle.lumos_depot.specs.declared.depot.FileKind.TheVariants.{Meta}
use Rattle.grid_format.specs.Heads.{magic}
use Rattle.lumos_depot.proofs.StepLemmas.{stores_then}
use Rattle.grid_format.proofs.WriteLemmas.{column_room, column_told, told_as, unfinished_unmarked}
use Rattle.grid_format.proofs.write.write_columns.Goals as goal

pub write_behind-requires-clause-inside : goal.write_behind-requires-clause-inside
write_behind-requires-clause-inside g c =
    let parts = c.args.info.parts in
    let j = c.loop-j.j in
    let column = c.put_column.new.column in
    let P : List ℕ → Type 0 = λ meta. 32 + 8 * (j * parts) + length column ≤ length meta in
    told_as _ _ _ P c.loop-j.invariant.written (column_room c.args.info c.args.counts.now column parts j c.requires.blocks (omega arith) c.loop-j-test.true)

pub write_behind-requires-clause-unmarked : goal.write_behind-requires-clause-unmarked
write_behind-requires-clause-unmarked g c =
    let P : List ℕ → Type 0 = λ meta. starts_with nat_eq meta magic ≡ false in
    told_as _ _ _ P c.loop-j.invariant.written (unfinished_unmarked c.args.info (take (c.loop-j.j * c.args.info.parts) c.args.counts.now) (8 * (c.args.info.parts * c.args.info.parts - c.loop-j.j * c.args.info.parts)))

pub loop-j-preserved : goal.loop-j-preserved
loop-j-preserved g c = record {
  writes = stores_then g.D.Depot.holds g.D.Depot.taken g.D.Depot.stored g.D.Depot.faults g.D.Depot.attached Meta _ _ _ c.loop-j.invariant.writes c.in-Ok.ensures.writes;
  written = column_told c.args.info c.args.counts.now c.put_column.new.column c.args.info.parts c.loop-j.j (g.D.Depot.holds c.args.depot.now Meta) _ _ c.requires.blocks c.loop-j-test.true c.put_column.ensures c.loop-j.invariant.written c.in-Ok.ensures.value;
}
