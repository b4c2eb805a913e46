use Rattle.std.proofs.Common.{◌≡◌, ◌-◌, ◌*◌, take}
use Rattle.std.specs.Option.{option_map}
use Rattle.lumos_depot.specs.declared.depot.FileKind.TheVariants.{Meta}
use Rattle.grid_format.specs.Writing.{unfinished}
use Rattle.lumos_depot.specs.Steps.{Stores}
use Rattle.grid_format.proofs.write.write_columns.Given as goal

-- the columns so far are written, and zero bytes stand for the others
abbrev pub invariant-loop-j : goal.invariant-loop-j
invariant-loop-j g l = record {
  writes : Stores g.D.Depot.holds g.D.Depot.taken g.D.Depot.stored g.D.Depot.faults g.D.Depot.attached Meta l.fn.depot l.depot;
  written : g.D.Depot.holds l.depot Meta ≡ option_map (λ _. unfinished l.fn.info (take (l.j * l.parts) l.counts) (8 * (l.parts * l.parts - l.j * l.parts))) (g.D.Depot.holds l.fn.depot Meta);
}
