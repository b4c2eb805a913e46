use Rattle.std.proofs.Common.{◌≡◌, ◌*◌, ◌∙◌, ℕ, List, All, Some, Ok, Err, flat_map, refl, sym, ap, subst, arith}
use Rattle.std.specs.Prelude.{IfSome}
use Rattle.lumos_base.specs.Records.{edge_bytes}
use Rattle.lumos_depot.specs.declared.depot.FileKind.TheVariants.{Primary, Secondary, Spool, Values}
use Rattle.partition.specs.Blocks.{IsBelow}
use Rattle.grid_format.specs.Grid.{grid, grid_head}
use Rattle.grid_format.specs.Heads.{IsHead}
use Rattle.grid_build.specs.Built.{HasFiles}
use Rattle.grid_build.specs.Chosen.{parts_for}
use Rattle.grid_build.specs.Steps.{IsListed}
use Rattle.grid_build.proofs.Building.{AreLimits, files_by, leaves_then, list_within, spool_kept, spool_leaves, spool_listed, steps_by, stopped_outside}
use Rattle.grid_build.specs.declared.options.BuildFault.TheVariants.{Read, Depot}
use Rattle.grid_build.proofs.ChoiceLemmas.{builds_small, kept_file, not_outside, stops_small, too_small}
use Rattle.grid_build.proofs.CopyLemmas.{copies_as}
use Rattle.grid_build.proofs.Growing.{grown_as, grown_none, stops_outside}
use Rattle.lumos_depot.specs.Steps.{RoseBy}
use Rattle.lumos_depot.proofs.StepLemmas.{rose_as, told_some}
use Rattle.grid_build.proofs.builder.build.Goals as goal

pub returns-in-Err-clause-grid : goal.returns-in-Err-clause-grid
returns-in-Err-clause-grid g c =
    rw (c.depot_fault.ensures)
    (stopped_outside c.args.options.now.limits c.args.options.now.parts (g.I.Source.left c.args.input.now) (g.I.Source.left c.args.input.now) (g.D.Depot.holds c.args.depot.now) (g.D.Depot.holds c.size_file.new.depot) c.in-Err.fault)

pub choose_parts-requires-clause-few_vertices : goal.choose_parts-requires-clause-few_vertices
choose_parts-requires-clause-few_vertices g c =
    let limits : AreLimits c.args.options.now.limits = record { vertex = c.requires.vertex; vertices = c.requires.vertices; edges = c.requires.edges } in
    (spool_listed c.args.options.now.limits c.in-Ok.ensures.list.bytes (g.D.Depot.holds c.spool_list.new.depot Spool) c.in-Ok.spooled limits c.in-Ok.ensures.list.reads.0).0

pub cut-requires-clause-few_vertices : goal.cut-requires-clause-few_vertices
cut-requires-clause-few_vertices g c =
    let limits : AreLimits c.args.options.now.limits = record { vertex = c.requires.vertex; vertices = c.requires.vertices; edges = c.requires.edges } in
    (spool_listed c.args.options.now.limits c.in-Ok.ensures.list.bytes (g.D.Depot.holds c.spool_list.new.depot Spool) c.in-Ok.spooled limits c.in-Ok.ensures.list.reads.0).0

pub returns-in-Err-choose_parts-clause-grid : goal.returns-in-Err-choose_parts-clause-grid
returns-in-Err-choose_parts-clause-grid g c =
    let limits = c.args.options.now.limits in
    let choice = c.args.options.now.parts in
    let unfit = c.in-Err-choose_parts.unfit in
    let read = c.in-Ok.ensures.list in
    let is = read.reads.0 in
    let before = g.D.Depot.holds c.args.depot.now in
    let after = g.D.Depot.holds c.spool_list.new.depot in
    let refused : parts_for choice is.list.vertices ≡ Err unfit = ap (parts_for choice) (sym is.vertices) ∙ sym c.in-Err-choose_parts.ensures.value in
    let same = steps_by before after (g.D.Depot.tells_all c.args.depot.now) (g.D.Depot.tells_all c.spool_list.new.depot)
    (c.spool_list.ensures.moves.contents Values (λ same. absurd (cc)) ∙ c.size_file.ensures.contents Values (λ same. absurd (cc))) in
    record {
      bytes = read.bytes;
      told = read.told;
      builds = builds_small limits choice read.bytes (g.I.Source.left c.args.input.now) (g.I.Source.left c.spool_list.new.input) before after unfit (too_small choice is.list.vertices unfit refused) (record {
        list = is.list;
        is = is.is;
        refused = refused;
        grid_files = λ kind apart. c.spool_list.ensures.moves.contents kind apart ∙ c.size_file.ensures.contents kind apart;
        spool_file = kept_file (before Spool) (after Spool) (flat_map edge_bytes is.list.edges) (same Spool) is.kept;
      }) read.reads.1;
    }

pub returns-in-Err-choose_parts-clause-stops : goal.returns-in-Err-choose_parts-clause-stops
returns-in-Err-choose_parts-clause-stops g c =
    stops_small c.args.options.now.limits _ _ c.in-Err-choose_parts.unfit (too_small c.args.options.now.parts c.in-Ok.spooled.vertices c.in-Err-choose_parts.unfit (sym c.in-Err-choose_parts.ensures.value))

pub returns-in-Err-choose_parts-clause-read : goal.returns-in-Err-choose_parts-clause-read
returns-in-Err-choose_parts-clause-read g c = λ is.
    absurd (not_outside c.in-Err-choose_parts.unfit Read (too_small c.args.options.now.parts c.in-Ok.spooled.vertices c.in-Err-choose_parts.unfit (sym c.in-Err-choose_parts.ensures.value)) (λ none. none) (cc))

pub returns-in-Err-choose_parts-clause-failed : goal.returns-in-Err-choose_parts-clause-failed
returns-in-Err-choose_parts-clause-failed g c = λ is.
    absurd (not_outside c.in-Err-choose_parts.unfit Depot (too_small c.args.options.now.parts c.in-Ok.spooled.vertices c.in-Err-choose_parts.unfit (sym c.in-Err-choose_parts.ensures.value)) (λ none. none) (cc))

pub write_grid-requires-clause-few : goal.write_grid-requires-clause-few
write_grid-requires-clause-few g c =
    let limits : AreLimits c.args.options.now.limits = record { vertex = c.requires.vertex; vertices = c.requires.vertices; edges = c.requires.edges } in
    (spool_listed c.args.options.now.limits c.in-Ok.ensures.list.bytes (g.D.Depot.holds c.spool_list.new.depot Spool) c.in-Ok.spooled limits c.in-Ok.ensures.list.reads.0).1

pub write_grid-requires-clause-some : goal.write_grid-requires-clause-some
write_grid-requires-clause-some g c = λ one.
    let limits : AreLimits c.args.options.now.limits = record { vertex = c.requires.vertex; vertices = c.requires.vertices; edges = c.requires.edges } in
    let some = (spool_listed c.args.options.now.limits c.in-Ok.ensures.list.bytes (g.D.Depot.holds c.spool_list.new.depot Spool) c.in-Ok.spooled limits c.in-Ok.ensures.list.reads.0).2 one in
    let vertices : c.cut.result.vertices ≡ c.in-Ok.spooled.vertices = ap (λ cut. cut.vertices) c.cut.ensures in
    omega (arith, some, vertices)

pub write_grid-requires-clause-spool : goal.write_grid-requires-clause-spool
write_grid-requires-clause-spool g c =
    let limits : AreLimits c.args.options.now.limits = record { vertex = c.requires.vertex; vertices = c.requires.vertices; edges = c.requires.edges } in
    let vertices : c.cut.result.vertices ≡ c.in-Ok.spooled.vertices = ap (λ cut. cut.vertices) c.cut.ensures in
    subst (λ n. IfSome (g.D.Depot.holds c.spool_list.new.depot Spool) (λ file. IsListed n c.in-Ok.spooled.edges (Some file))) (sym vertices)
    (spool_kept c.args.options.now.limits c.in-Ok.ensures.list.bytes (g.D.Depot.holds c.spool_list.new.depot Spool) c.in-Ok.spooled limits c.in-Ok.ensures.list.reads.0)

pub returns-in-Ok-write_grid-clause-grid : goal.returns-in-Ok-write_grid-clause-grid
returns-in-Ok-write_grid-clause-grid g c =
    let limits : AreLimits c.args.options.now.limits = record { vertex = c.requires.vertex; vertices = c.requires.vertices; edges = c.requires.edges } in
    let choice = c.args.options.now.parts in
    let p = c.in-Ok-write_grid.info.parts in
    let given : p ≡ c.cut.result.parts = ap (λ info. info.parts) c.in-Ok-write_grid.ensures.head in
    let own : p ≡ c.in-Ok-choose_parts.parts = given ∙ ap (λ cut. cut.parts) c.cut.ensures in
    let some = c.in-Ok-choose_parts.ensures.some in
    let few = c.in-Ok-choose_parts.ensures.few in
    let read = c.in-Ok.ensures.list in
    let is = read.reads.0 in
    let list = is.list in
    let within = list_within c.args.options.now.limits p read.bytes list limits (omega (arith, own, some)) (omega (arith, own, few)) is.is in
    let vertices : c.cut.result.vertices ≡ list.vertices = ap (λ cut. cut.vertices) c.cut.ensures ∙ is.vertices in
    let parts : c.cut.result.parts ≡ p = sym given in
    let mid = g.D.Depot.holds c.spool_list.new.depot in
    let last = g.D.Depot.holds c.write_grid.new.depot in
    let head : c.in-Ok-write_grid.info ≡ grid_head list.edges list.vertices p = c.in-Ok-write_grid.ensures.head ∙ (λ i. record { version = 1; parts = parts i; vertices = vertices i; edges = is.edges i }) in
    let files : (file : List ℕ) → mid Spool ≡ Some file → HasFiles (grid list.edges list.vertices p) mid last = λ file told.
    subst (λ n. HasFiles (grid list.edges n p) mid last) vertices
    (subst (λ k. HasFiles (grid list.edges c.cut.result.vertices k) mid last) parts
    (c.in-Ok-write_grid.ensures.files list.edges (record {
      numbers = within.1;
      ends = subst (λ n. All (IsBelow n) list.edges) (sym vertices) within.0.ends;
      bytes = told ∙ ap Some (told_some (mid Spool) (λ file. file ≡ flat_map edge_bytes list.edges) file told is.kept);
    }) (sym is.edges))) in
    let first = steps_by (g.D.Depot.holds c.args.depot.now) mid (g.D.Depot.tells_all c.args.depot.now) (g.D.Depot.tells_all c.spool_list.new.depot)
    (c.spool_list.ensures.moves.contents Values (λ same. absurd (cc)) ∙ c.size_file.ensures.contents Values (λ same. absurd (cc))) in
    let second = steps_by mid last (g.D.Depot.tells_all c.spool_list.new.depot) (g.D.Depot.tells_all c.write_grid.new.depot) c.write_grid.ensures.leaves.values in
    record {
      bytes = read.bytes;
      told = read.told;
      builds = (
        record {
          list = list;
          is = is.is;
          chosen = ap (parts_for choice) (sym is.vertices) ∙ sym c.in-Ok-choose_parts.ensures.value ∙ ap (λ (k : ℕ). Ok k) (sym own);
          within = within.0;
          head = head;
          files = files_by (grid list.edges list.vertices p) (g.D.Depot.holds c.args.depot.now) mid last (mid Spool) refl (g.D.Depot.tells_all c.spool_list.new.depot) first second files;
        },
        read.reads.1,
      );
    }

pub returns-in-Ok-write_grid-clause-copied : goal.returns-in-Ok-write_grid-clause-copied
returns-in-Ok-write_grid-clause-copied g c =
    copies_as c.in-Ok-write_grid.info.edges (g.D.Depot.taken c.spool_list.new.depot) (g.D.Depot.taken c.write_grid.new.depot) (g.D.Depot.stored c.spool_list.new.depot) (g.D.Depot.stored c.write_grid.new.depot) (g.D.Depot.taken c.args.depot.now) (g.D.Depot.taken c.write_grid.new.depot) (g.D.Depot.stored c.args.depot.now) (g.D.Depot.stored c.write_grid.new.depot) _ _
    (sym (c.spool_list.ensures.moves.taken Primary (λ same. absurd (cc)) ∙ c.size_file.ensures.taken Primary)) refl
    (sym (c.spool_list.ensures.moves.stored Secondary (λ same. absurd (cc)) ∙ c.size_file.ensures.stored Secondary)) refl refl c.in-Ok-write_grid.ensures.copied

pub returns-in-Ok-write_grid-clause-limits : goal.returns-in-Ok-write_grid-clause-limits
returns-in-Ok-write_grid-clause-limits g c =
    let limits : AreLimits c.args.options.now.limits = record { vertex = c.requires.vertex; vertices = c.requires.vertices; edges = c.requires.edges } in
    let p = c.in-Ok-choose_parts.parts in
    let bounds = spool_listed c.args.options.now.limits c.in-Ok.ensures.list.bytes (g.D.Depot.holds c.spool_list.new.depot Spool) c.in-Ok.spooled limits c.in-Ok.ensures.list.reads.0 in
    let vertices : c.cut.result.vertices ≡ c.in-Ok.spooled.vertices = ap (λ cut. cut.vertices) c.cut.ensures in
    let parts : c.cut.result.parts ≡ p = ap (λ cut. cut.parts) c.cut.ensures in
    let some = c.in-Ok-choose_parts.ensures.some in
    let few = c.in-Ok-choose_parts.ensures.few in
    subst IsHead (sym c.in-Ok-write_grid.ensures.head) (record {
      some_parts = omega (arith, parts, some);
      few_parts = omega (arith, parts, few);
      vertices = omega (arith, vertices, bounds.0);
      edges = bounds.1;
    })

pub returns-in-Ok-write_grid-clause-leaves : goal.returns-in-Ok-write_grid-clause-leaves
returns-in-Ok-write_grid-clause-leaves g c =
    leaves_then g.D.Depot.holds g.D.Depot.taken g.D.Depot.stored g.D.Depot.faults g.D.Depot.attached c.args.depot.now c.spool_list.new.depot c.write_grid.new.depot
    (leaves_then g.D.Depot.holds g.D.Depot.taken g.D.Depot.stored g.D.Depot.faults g.D.Depot.attached c.args.depot.now c.size_file.new.depot c.spool_list.new.depot c.size_file.ensures.leaves
    (spool_leaves g.D.Depot.holds g.D.Depot.taken g.D.Depot.stored g.D.Depot.faults g.D.Depot.attached c.size_file.new.depot c.spool_list.new.depot c.spool_list.ensures.moves))
    c.write_grid.ensures.leaves

pub returns-in-Ok-write_grid-clause-version : goal.returns-in-Ok-write_grid-clause-version
returns-in-Ok-write_grid-clause-version g c = ap (λ info. info.version) c.in-Ok-write_grid.ensures.head

pub returns-in-Err-clause-spooled : goal.returns-in-Err-clause-spooled
returns-in-Err-clause-spooled g c = grown_none c.args.options.now.limits (g.I.Source.left c.args.input.now) _ _ (c.size_file.ensures.stored Spool)

pub returns-in-Err-clause-stops : goal.returns-in-Err-clause-stops
returns-in-Err-clause-stops g c =
    rw (c.depot_fault.ensures) (stops_outside c.args.options.now.limits _ _ c.in-Err.fault)

pub returns-in-Err-spool_list-clause-spooled : goal.returns-in-Err-spool_list-clause-spooled
returns-in-Err-spool_list-clause-spooled g c =
    grown_as c.args.options.now.limits _ _ _ _ _ _ (sym (c.size_file.ensures.stored Spool)) refl c.spool_list.ensures.grown

pub returns-in-Ok-write_grid-clause-spooled : goal.returns-in-Ok-write_grid-clause-spooled
returns-in-Ok-write_grid-clause-spooled g c =
    grown_as c.args.options.now.limits _ _ _ _ _ _ (sym (c.size_file.ensures.stored Spool)) c.write_grid.ensures.spool c.spool_list.ensures.grown

pub returns-in-Err-write_grid-clause-spooled : goal.returns-in-Err-write_grid-clause-spooled
returns-in-Err-write_grid-clause-spooled g c =
    grown_as c.args.options.now.limits _ _ _ _ _ _ (sym (c.size_file.ensures.stored Spool)) c.write_grid.ensures.spool c.spool_list.ensures.grown

pub returns-in-Err-write_grid-clause-stops : goal.returns-in-Err-write_grid-clause-stops
returns-in-Err-write_grid-clause-stops g c =
    rw (c.depot_fault-in-Err-write_grid.ensures) (stops_outside c.args.options.now.limits _ _ c.in-Err-write_grid.fault)

pub returns-in-Ok-write_grid-clause-stored : goal.returns-in-Ok-write_grid-clause-stored
returns-in-Ok-write_grid-clause-stored g c =
    let count : c.in-Ok-write_grid.info.edges ≡ c.in-Ok.spooled.edges = ap (λ info. info.edges) c.in-Ok-write_grid.ensures.head in
    record {
      spool_bytes = subst (λ (n : ℕ). RoseBy (g.D.Depot.stored c.args.depot.now Spool) (g.D.Depot.stored c.write_grid.new.depot Spool) (12 * n)) (sym count)
          (rose_as _ _ _ _ (12 * c.in-Ok.spooled.edges) (sym (c.size_file.ensures.stored Spool)) c.write_grid.ensures.spool c.in-Ok.ensures.stored);
      primary_bytes = subst (λ (n : ℕ). RoseBy (g.D.Depot.stored c.args.depot.now Primary) (g.D.Depot.stored c.write_grid.new.depot Primary) (12 * n)) (sym count)
          (rose_as _ _ _ _ (12 * c.in-Ok.spooled.edges) (sym (c.spool_list.ensures.moves.stored Primary (λ same. absurd (cc)) ∙ c.size_file.ensures.stored Primary)) refl c.in-Ok-write_grid.ensures.stored);
    }
