use Rattle.std.proofs.Common.{◌≡◌, ◌*◌, ◌∙◌, [], length, sym, subst, arith, true, ap, Some, List, ℕ}
use Rattle.grid_build.specs.Passes.{IsSpool}
use Rattle.std.specs.Prelude.{is_some}
use Rattle.lumos_depot.specs.declared.depot.FileKind.TheVariants.{Meta, Spool, Primary, Secondary, Info}
use Rattle.grid_build.specs.Copied.{cut_table, low_ranges, low_total_of}
use Rattle.grid_build.proofs.Building.{counted_spool, listed_length, on_ok}
use Rattle.grid_format.proofs.TableLemmas.{low_few}
use Rattle.grid_build.proofs.CopyLemmas.{copied_sized, copied_whole}
use Rattle.grid_build.proofs.LowLemmas.{low_ranges_are}
use Rattle.lumos_depot.proofs.StepLemmas.{rose_as, told_same}
use Rattle.grid_build.proofs.builder.fill.Goals as goal

pub distribute-requires-clause-spool : goal.distribute-requires-clause-spool
distribute-requires-clause-spool g c =
    counted_spool c.args.parts c.args.count (g.D.Depot.holds c.args.depot.now Spool) c.args.counts.now c.requires.spool c.requires.counts

pub copy_low-requires-clause-secondary : goal.copy_low-requires-clause-secondary
copy_low-requires-clause-secondary g c =
    told_same (g.D.Depot.holds c.args.depot.now Secondary) (g.D.Depot.holds c.distribute.new.depot Secondary) (λ file. length file ≡ 12 * low_total_of c.args.parts c.args.counts.now)
    (c.distribute.ensures.moves.contents Secondary (λ same. absurd (cc))) c.requires.sized.secondary_size

pub write_info-requires-clause-spool : goal.write_info-requires-clause-spool
write_info-requires-clause-spool g c =
    told_same (g.D.Depot.holds c.args.depot.now Spool) (g.D.Depot.holds c.copy_low.new.depot Spool) (λ file. length file ≡ 12 * c.args.count)
    (c.copy_low.ensures.moves.contents Spool (λ same. absurd (cc)) ∙ c.distribute.ensures.moves.contents Spool (λ same. absurd (cc)))
    (listed_length c.args.parts.vertices c.args.count (g.D.Depot.holds c.args.depot.now Spool) c.requires.spool)

pub write_info-requires-clause-info : goal.write_info-requires-clause-info
write_info-requires-clause-info g c =
    let wanted = told_same (g.D.Depot.holds c.args.depot.now Info) (g.D.Depot.holds c.copy_low.new.depot Info) (λ file. length file ≡ 12 * c.args.parts.vertices)
    (c.copy_low.ensures.moves.contents Info (λ same. absurd (cc)) ∙ c.distribute.ensures.moves.contents Info (λ same. absurd (cc)))
    c.requires.sized.info_size in
    rw (c.vertices.ensures.value) wanted

pub returns-clause-filled : goal.returns-clause-filled
returns-clause-filled g c =
    let same = c.copy_low.ensures.moves.contents Spool (λ same. absurd (cc)) ∙ c.distribute.ensures.moves.contents Spool (λ same. absurd (cc)) in
    let old = g.D.Depot.holds c.args.depot.now in
    let mid = g.D.Depot.holds c.distribute.new.depot in
    let table = cut_table c.args.parts c.args.counts.now in
    let size = 12 * low_total_of c.args.parts c.args.counts.now in
    let wrote = rw (c.vertices.ensures.value) at c.write_info.ensures.value in
    on_ok c.write_info.result (λ info list kept whole.
    let are = c.requires.counts.told list kept whole in
    let primary = c.in_ok-distribute.ensures.value list kept are in
    let sized = told_same (old Secondary) (mid Secondary) (λ file. length file ≡ size) (c.distribute.ensures.moves.contents Secondary (λ same. absurd (cc))) c.requires.sized.secondary_size in
    let told : is_some (mid Secondary) ≡ true = g.D.Depot.tells_all c.distribute.new.depot Secondary Primary ∙ ap is_some primary in
    record {
      primary_bytes = c.write_info.ensures.moves.contents Primary (λ same. absurd (cc)) ∙ c.copy_low.ensures.moves.contents Primary (λ same. absurd (cc)) ∙ primary;
      secondary_bytes =
          c.write_info.ensures.moves.contents Secondary (λ same. absurd (cc))
          ∙ copied_whole (low_ranges table c.args.parts.parts) size (mid Primary) (mid Secondary) _ _ c.in_ok-copy_low.ensures.copied told sized primary
          ∙ ap Some (low_ranges_are c.args.parts list c.args.counts.now kept.ends are);
      info_bytes_are = info list (subst (λ spool. IsSpool c.args.parts.vertices spool list) (sym same) kept) whole;
    }) wrote

pub returns-clause-empty : goal.returns-clause-empty
returns-clause-empty g c =
    on_ok c.write_info.result (λ info.
    told_same (g.D.Depot.holds c.args.depot.now Meta) (g.D.Depot.holds c.write_info.new.depot Meta) (λ file. file ≡ [])
    (c.write_info.ensures.moves.contents Meta (λ same. absurd (cc)) ∙ c.copy_low.ensures.moves.contents Meta (λ same. absurd (cc)) ∙ c.distribute.ensures.moves.contents Meta (λ same. absurd (cc)))
    c.requires.sized.meta_size) c.write_info.ensures.value

pub returns-clause-copied : goal.returns-clause-copied
returns-clause-copied g c =
    let old = g.D.Depot.holds c.args.depot.now Secondary in
    let mid = g.D.Depot.holds c.distribute.new.depot Secondary in
    let then = g.D.Depot.holds c.copy_low.new.depot Secondary in
    let last = g.D.Depot.holds c.write_info.new.depot Secondary in
    let low = low_total_of c.args.parts c.args.counts.now in
    let P : List ℕ → Type 0 = λ file. length file ≡ 12 * low in
    let sized = told_same old mid P (c.distribute.ensures.moves.contents Secondary (λ same. absurd (cc))) c.requires.sized.secondary_size in
    let copied = copied_sized (low_ranges (cut_table c.args.parts c.args.counts.now) c.args.parts.parts) 0 (12 * low) _ mid then c.in_ok-copy_low.ensures.copied (12 * low) (omega arith) sized in
    let table = cut_table c.args.parts c.args.counts.now in
    on_ok c.write_info.result (λ info. record {
      low = low;
      fewer = omega (arith, low_few table, c.requires.counts.adds_up);
      taken_bytes = rose_as _ _ _ _ (12 * low) (sym (c.distribute.ensures.moves.taken Primary (λ same. absurd (cc)))) (c.write_info.ensures.moves.taken Primary (λ same. absurd (cc))) c.in_ok-copy_low.ensures.taken;
      stored_bytes = rose_as _ _ _ _ (12 * low) (sym (c.distribute.ensures.moves.stored Secondary (λ same. absurd (cc)))) (c.write_info.ensures.moves.stored Secondary (λ same. absurd (cc))) c.in_ok-copy_low.ensures.stored;
      long = told_same then last P (c.write_info.ensures.moves.contents Secondary (λ same. absurd (cc))) copied;
    }) c.write_info.ensures.value
