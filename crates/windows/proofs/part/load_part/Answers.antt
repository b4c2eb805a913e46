use Rattle.std.proofs.Common.{◌≡◌, ◌∙◌, sym, take}
use Rattle.lumos_depot.specs.declared.depot.FileKind.TheVariants.{Values}
use Rattle.partition.specs.Parts.{chunk_of, part_length}
use Rattle.windows.proofs.KeptLemmas.{kept_filed, shown_high, shown_low}
use Rattle.windows.proofs.ResultLemmas.{on_ok_more}
use Rattle.windows.proofs.part.load_part.Goals as goal

pub returns-then-part-pinned-clause-values : goal.returns-then-part-pinned-clause-values
returns-then-part-pinned-clause-values g c even odd xs kept =
    let low = c.if-part-pinned.true in
    shown_low c.args.parts c.args.pinned c.args.part c.args.t c.args.out.now even odd low ∙ sym (kept.in_memory low)

pub returns-clause-values : goal.returns-clause-values
returns-clause-values g c even odd xs kept =
    let cut = c.args.parts in
    let high = c.if-part-pinned.false in
    on_ok_more c.load_filed.result (take (part_length cut.vertices (chunk_of cut) c.args.part) c.load_filed.new.out ≡ xs) _
    (λ is. shown_high cut c.args.pinned c.args.part c.args.t c.load_filed.new.out even odd high ∙ is)
    (c.load_filed.ensures.values xs (kept_filed g.V.Fixed.value_of g.V.Fixed.WIDTH cut c.args.pinned c.args.t c.args.part even odd (g.D.Depot.holds c.args.depot.now Values) xs high kept))

pub returns-clause-intact : goal.returns-clause-intact
returns-clause-intact g c even odd xs kept =
    c.load_filed.ensures.intact xs (kept_filed g.V.Fixed.value_of g.V.Fixed.WIDTH c.args.parts c.args.pinned c.args.t c.args.part even odd (g.D.Depot.holds c.args.depot.now Values) xs c.if-part-pinned.false kept)
