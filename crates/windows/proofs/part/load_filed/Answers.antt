use Rattle.std.proofs.Common.{◌≡◌, ◌+◌, ◌-◌, ℕ, length, take, drop, sym, subst, ◌∙◌, arith}
use Rattle.std.specs.Prelude.{IfSome}
use Rattle.std.proofs.lemmas.List.{length-take-le, take_at}
use Rattle.lumos_depot.specs.declared.depot.FileKind.TheVariants.{Values}
use Rattle.partition.specs.Parts.{chunk_of, first_vertex, part_length}
use Rattle.value_files.specs.Kept.{value_place}
use Rattle.value_files.specs.Records.{AreRecords}
use Rattle.windows.proofs.PartLemmas.{range_first, range_past}
use Rattle.windows.proofs.KeptLemmas.{told_same_list}
use Rattle.windows.proofs.ResultLemmas.{intact_told, on_ok_more}
use Rattle.windows.proofs.part.load_filed.Goals as goal

pub returns-clause-values : goal.returns-clause-values
returns-clause-values g c xs filed =
    let w = g.V.Fixed.WIDTH in
    let cut = c.args.parts in
    let told = g.D.Depot.holds c.args.depot.now Values in
    let first = c.range_of-range.result.first in
    let past = c.range_of-range.result.past in
    let first_is : first ≡ first_vertex cut.vertices (chunk_of cut) c.args.part = range_first c.range_of-range.result cut.vertices (chunk_of cut) c.args.part c.range_of-range.ensures.value in
    let past_is : past ≡ first_vertex cut.vertices (chunk_of cut) (c.args.part + 1) = range_past c.range_of-range.result cut.vertices (chunk_of cut) c.args.part c.range_of-range.ensures.value in
    let n_is : c.vertices.result ≡ cut.vertices = c.vertices.ensures.value in
    let new = c.load_values.new.out in
    let size : past - first ≡ part_length cut.vertices (chunk_of cut) c.args.part = omega (arith, first_is, past_is) in
    let long : length new ≡ part_length cut.vertices (chunk_of cut) c.args.part = c.load_values.auto.out ∙ length-take-le (past - first) c.args.out.now (omega (arith, size, c.requires.out_fits)) ∙ size in
    let place : value_place w c.vertices.result c.args.t first ≡ value_place w cut.vertices c.args.t (first_vertex cut.vertices (chunk_of cut) c.args.part) = λ i. value_place w (n_is i) c.args.t (first_is i) in
    on_ok_more c.load_values.result (IfSome told (AreRecords g.V.Fixed.value_of w (value_place w c.vertices.result c.args.t first) new)) _
    (λ are. take_at new (drop (past - first) c.args.out.now) (part_length cut.vertices (chunk_of cut) c.args.part) long
    ∙ told_same_list g.V.Fixed.value_of w (value_place w cut.vertices c.args.t (first_vertex cut.vertices (chunk_of cut) c.args.part)) xs new told (filed.long ∙ sym long) filed.in_file
    (subst (λ (p : ℕ). IfSome told (AreRecords g.V.Fixed.value_of w p new)) place are)) c.load_values.ensures.values

pub returns-clause-intact : goal.returns-clause-intact
returns-clause-intact g c xs filed =
    let w = g.V.Fixed.WIDTH in
    let cut = c.args.parts in
    let told = g.D.Depot.holds c.args.depot.now Values in
    let first = c.range_of-range.result.first in
    let past = c.range_of-range.result.past in
    let first_is : first ≡ first_vertex cut.vertices (chunk_of cut) c.args.part = range_first c.range_of-range.result cut.vertices (chunk_of cut) c.args.part c.range_of-range.ensures.value in
    let past_is : past ≡ first_vertex cut.vertices (chunk_of cut) (c.args.part + 1) = range_past c.range_of-range.result cut.vertices (chunk_of cut) c.args.part c.range_of-range.ensures.value in
    let n_is : c.vertices.result ≡ cut.vertices = c.vertices.ensures.value in
    let size : past - first ≡ part_length cut.vertices (chunk_of cut) c.args.part = omega (arith, first_is, past_is) in
    let long : length (take (past - first) c.args.out.now) ≡ part_length cut.vertices (chunk_of cut) c.args.part = length-take-le (past - first) c.args.out.now (omega (arith, size, c.requires.out_fits)) ∙ size in
    let place : value_place w cut.vertices c.args.t (first_vertex cut.vertices (chunk_of cut) c.args.part) ≡ value_place w c.vertices.result c.args.t first = λ i. value_place w (sym n_is i) c.args.t (sym first_is i) in
    intact_told g.V.Fixed.value_of w Values (value_place w c.vertices.result c.args.t first) (length (take (past - first) c.args.out.now)) xs told c.load_values.result (filed.long ∙ sym long)
    (rw (← place) filed.in_file) c.load_values.ensures.fault
