use Rattle.std.proofs.Common.{◌≡◌, ◌<◌, ◌∙◌, [], true, Some, sym, ap, subst}
use Rattle.std.specs.Prelude.{is_some}
use Rattle.lumos_depot.specs.declared.depot.FileKind.{FileKind}
use Rattle.lumos_depot.specs.declared.depot.FileKind.TheVariants.{Meta, Primary, Secondary, Info, Values, Spool}
use Rattle.partition.specs.Parts.{chunk_of}
use Rattle.grid_format.specs.Grid.{block_counts, grid_head}
use Rattle.grid_format.specs.Heads.{meta_bytes}
use Rattle.grid_format.specs.declared.head.GridInfo.{GridInfo}
use Rattle.grid_build.specs.Passes.{IsSpool}
use Rattle.grid_build.proofs.Building.{listed_length, told_is, told_map}
use Rattle.grid_build.proofs.CopyLemmas.{copies_as}
use Rattle.grid_build.proofs.NumberLemmas.{counts_are}
use Rattle.grid_build.proofs.builder.write_grid.Goals as goal

pub prepare-requires-clause-spool : goal.prepare-requires-clause-spool
prepare-requires-clause-spool g c =
    listed_length c.args.parts.vertices c.args.count (g.D.Depot.holds c.args.depot.now Spool) c.requires.spool

pub returns-clause-files : goal.returns-clause-files
returns-clause-files g c = λ list kept whole.
    let n = c.args.parts.vertices in
    let p = c.args.parts.parts in
    let was = g.D.Depot.holds c.args.depot.now in
    let is = g.D.Depot.holds c.complete.new.depot in
    let told_before : (k : FileKind) → is_some (was k) ≡ true = λ k. g.D.Depot.tells_all c.args.depot.now k Spool ∙ ap is_some kept.bytes in
    let told : (k : FileKind) → is_some (is k) ≡ true = λ k.
    g.D.Depot.tells_all c.complete.new.depot k Values
    ∙ ap is_some (c.complete.ensures.leaves.values ∙ c.fill.ensures.leaves.values ∙ c.prepare.ensures.leaves.values)
    ∙ told_before Values in
    let some : 0 < p = subst (λ k. 0 < k) c.parts.ensures.value c.parts.ensures.some in
    let counts = counts_are n p list some kept.ends _ (c.in_ok-counts.ensures.counts.told list kept whole) in
    let filled = c.in_ok-fill.ensures.filled list (subst (λ spool. IsSpool n spool list) (sym c.prepare.ensures.spool) kept) whole in
    let head : GridInfo = record { version = 1; parts = c.parts.result; vertices = c.vertices.result; edges = c.args.count } in
    let same_head : head ≡ grid_head list n p = λ i. record { version = 1; parts = c.parts.ensures.value i; vertices = c.vertices.ensures.value i; edges = sym whole i } in
    let meta : meta_bytes head c.deref-2.result.now ≡ meta_bytes (grid_head list n p) (block_counts list (chunk_of c.args.parts) p) = λ i. meta_bytes (same_head i) ((c.deref-2.ensures.value ∙ counts) i) in
    record {
      meta_file = told_map (was Meta) (is Meta) _ (told_before Meta) (subst (λ bytes. is Meta ≡ Some bytes) meta (told_is (is Meta) _ (told Meta) c.in_ok-complete.ensures.meta));
      primary_file = told_map (was Primary) (is Primary) _ (told_before Primary) (c.complete.ensures.primary ∙ filled.primary_bytes);
      secondary_file = told_map (was Secondary) (is Secondary) _ (told_before Secondary) (c.complete.ensures.secondary ∙ filled.secondary_bytes);
      info_file = told_map (was Info) (is Info) _ (told_before Info) (c.complete.ensures.info ∙ filled.info_bytes_are);
      spool_file = told_map (was Spool) (is Spool) [] (told_before Spool) (told_is (is Spool) [] (told Spool) c.in_ok-complete.ensures.spool);
    }

pub returns-clause-copied : goal.returns-clause-copied
returns-clause-copied g c =
    copies_as c.args.count (g.D.Depot.taken c.prepare.new.depot) (g.D.Depot.taken c.fill.new.depot) (g.D.Depot.stored c.prepare.new.depot) (g.D.Depot.stored c.fill.new.depot) (g.D.Depot.taken c.args.depot.now) (g.D.Depot.taken c.complete.new.depot) (g.D.Depot.stored c.args.depot.now) (g.D.Depot.stored c.complete.new.depot) _ _
    (sym (c.prepare.ensures.taken Primary (λ same. absurd (cc)))) (c.complete.ensures.taken Primary)
    (sym (c.prepare.ensures.stored Secondary)) (c.complete.ensures.stored Secondary (λ same. absurd (cc))) c.complete.ensures.secondary c.in_ok-fill.ensures.copied
