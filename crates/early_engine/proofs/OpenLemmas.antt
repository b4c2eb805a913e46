-- The files behind a head that was accepted.
use Rattle.std.proofs.Common.{◌≡◌, ◌==◌, ◌≤◌, ℕ, ◌*◌, Bool, true, false, List, length, sum, Option, Some, None, Ok, Err, is_some, refl, sym, ap, subst, ◌∙◌, arith}
use Rattle.std.specs.Prelude.{IfSome, if◌then◌else◌}
use Rattle.std.proofs.lemmas.Bool.{eqb-true}
use Rattle.lumos_depot.specs.declared.depot.FileKind.{FileKind}
use Rattle.lumos_depot.specs.declared.depot.FileKind.TheVariants.{Meta, Primary, Secondary, Info}
use Rattle.grid_format.specs.Checks.{GridFiles, ◌>>=◌, counted, fields_of, files_sized, head_of, in_meta, sized, table_of}
use Rattle.grid_format.specs.Heads.{counts_of, meta_length}
use Rattle.grid_format.specs.Outside.{Holds}
use Rattle.grid_format.specs.Tables.{BlockCounts, low_edges}
use Rattle.grid_format.specs.declared.head.GridInfo.{GridInfo}
use Rattle.grid_format.specs.declared.head.GridFault.{GridFault}
use Rattle.grid_format.proofs.Accepted.{bind_ok, told_files}
use Rattle.lumos_report.specs.declared.records.Kind.{Kind}
use Rattle.lumos_report.specs.declared.records.Kind.TheVariants.{Full, Fed}
use Rattle.early_engine.specs.Grids.{HasBlocks, bytes_in}
use Rattle.early_engine.specs.Passes.{file_of}

sized_ok : (kind : FileKind) (want found : ℕ) (u : Unit {0}) → sized kind want found ≡ Ok u → found ≡ want
sized_ok kind want found u h = eqb-true found want (passes (found == want) h)
  where
    passes : (b : Bool) → (if b then Ok tt else Err (GridFault.BadLength kind want found)) ≡ Ok u → b ≡ true
    passes true k = refl
    passes false k = absurd (cc)

-- the lengths of Primary, Secondary and Info
pub record AreSized (files : GridFiles) (info : GridInfo) : Type 0 where
  pub primary : length files.primary ≡ 12 * info.edges
  pub secondary : length files.secondary ≡ 12 * low_edges (table_of info.parts files.meta) info.parts
  pub infos : length files.info ≡ 12 * info.vertices

sized_behind : (files : GridFiles) (head info : GridInfo) → (sized Meta (meta_length head.parts) (length files.meta) >>= λ _. in_meta (counted head.edges (counts_of head.parts files.meta)) >>= λ _. files_sized head files >>= λ _. Ok head) ≡ Ok info → AreSized files info
sized_behind files head info h =
    let a = bind_ok (sized Meta (meta_length head.parts) (length files.meta)) _ info h in
    let b = bind_ok (in_meta (counted head.edges (counts_of head.parts files.meta))) _ info a.2 in
    let d = bind_ok (files_sized head files) _ info b.2 in
    let e = bind_ok (sized Primary (12 * head.edges) (length files.primary)) _ d.0 d.1 in
    let low : ℕ = 12 * low_edges (table_of head.parts files.meta) head.parts in
    let f = bind_ok (sized Secondary low (length files.secondary)) _ d.0 e.2 in
    let last = d.2 in
    let same : head ≡ info = cc in
    subst (AreSized files) same (record {
      primary = sized_ok Primary (12 * head.edges) (length files.primary) e.0 e.1;
      secondary = sized_ok Secondary low (length files.secondary) f.0 f.1;
      infos = sized_ok Info (12 * head.vertices) (length files.info) d.0 f.2;
    })

files_fit : (files : GridFiles) (info : GridInfo) → head_of files ≡ Ok info → AreSized files info
files_fit files info h =
    let a = bind_ok (fields_of files.meta) _ info h in sized_behind files a.0 info a.2

none_told : (o : Option (List ℕ)) (P : List ℕ → Type 0) → is_some o ≡ false → IfSome o P
none_told None P h = tt
none_told (Some file) P h = absurd (cc)

module _ (told : FileKind → Option (List ℕ)) (all : (j k : FileKind) → is_some (told j) ≡ is_some (told k)) (info : GridInfo) (accepted : (files : GridFiles) → Holds told files → head_of files ≡ Ok info) where
  infos_by : (meta : Option (List ℕ)) → told Meta ≡ meta → IfSome (told Info) (λ file. length file ≡ 12 * info.vertices)
  infos_by None is = none_told (told Info) (λ file. length file ≡ 12 * info.vertices) (all Info Meta ∙ ap is_some is)
  infos_by (Some meta) is =
      let there = told_files told all meta is in
      let infos = (files_fit there.0 info (accepted there.0 there.1)).infos in
      subst (λ o. IfSome o (λ file. length file ≡ 12 * info.vertices)) (sym there.1.info_file) infos

  -- an Info that is told has the records of all vertices, and nothing more
  pub infos_fit : IfSome (told Info) (λ file. length file ≡ 12 * info.vertices)
  infos_fit = infos_by (told Meta) refl

  module _ (table : BlockCounts) (parts : table.parts ≡ info.parts) (whole : sum table.counts ≡ info.edges) (counted_so : (files : GridFiles) → Holds told files → table.counts ≡ counts_of info.parts files.meta) where
    blocks_by : (meta : Option (List ℕ)) (kind : Kind) → told Meta ≡ meta → IfSome (told (file_of kind)) (λ file. bytes_in kind table ≤ length file)
    blocks_by None kind is = none_told (told (file_of kind)) (λ file. bytes_in kind table ≤ length file) (all (file_of kind) Meta ∙ ap is_some is)
    blocks_by (Some meta) Full is =
        let there = told_files told all meta is in
        let primary = (files_fit there.0 info (accepted there.0 there.1)).primary in
        subst (λ o. IfSome o (λ file. 12 * sum table.counts ≤ length file)) (sym there.1.primary_file) (omega arith)
    blocks_by (Some meta) Fed is =
        let there = told_files told all meta is in
        let counts = counted_so there.0 there.1 in
        let same : table ≡ table_of info.parts there.0.meta = λ i. record { parts = parts i; counts = counts i } in
        let low : 12 * low_edges table table.parts ≡ length there.0.secondary =
        ap (λ (t : BlockCounts). 12 * low_edges t t.parts) same ∙ sym (files_fit there.0 info (accepted there.0 there.1)).secondary in
        subst (λ o. IfSome o (λ file. 12 * low_edges table table.parts ≤ length file)) (sym there.1.secondary_file) (omega (arith, low))

    -- a Primary and a Secondary that are told have the records of the table's blocks
    pub blocks_fit : HasBlocks table told
    blocks_fit kind = blocks_by (told Meta) kind refl
