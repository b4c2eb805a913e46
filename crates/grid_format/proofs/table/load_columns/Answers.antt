use Rattle.std.proofs.Common.{◌≡◌, ◌<◌, ◌+◌, ◌-◌, ◌*◌, ◌++◌, inl, inr, sym, ap, ◌∙◌, arith, Result, Err, ℕ, List, Some, append-nil, append_assoc}
use Rattle.std.proofs.Math.Nat.{add-mul}
use Rattle.std.proofs.lemmas.Result.{err_from_is_err_and}
use Rattle.lumos_depot.specs.declared.depot.FileKind.TheVariants.{Meta}
use Rattle.grid_format.specs.Checks.{◌>>=◌, added, counted, reached}
use Rattle.grid_format.specs.Heads.{counts_of, numbers}
use Rattle.grid_format.specs.Tables.{IsWrongCount}
use Rattle.grid_format.specs.declared.counts.Mismatch.{Mismatch}
use Rattle.grid_format.proofs.Answering.{damaged_then}
use Rattle.lumos_depot.proofs.StepLemmas.{reads_then}
use Rattle.grid_format.proofs.NumberLemmas.{columns_end, columns_split, in_square, numbers_split}
use Rattle.grid_format.proofs.table.load_columns.Goals as goal

pub returns-in_err-total-clause-damaged : goal.returns-in_err-total-clause-damaged
returns-in_err-total-clause-damaged g c =
    let p = err_from_is_err_and c.from_residual.result c.from_residual.ensures.1 in
    let edges = c.args.info.edges in
    let parts = c.args.info.parts in
    let j = c.loop-j.j in
    let P : ℕ → ℕ → Type 0 = λ place n. (0 < n) × ((k : ℕ) × (k < parts) × (place ≡ 32 + 8 * (j * parts) + 8 * k)) × ((meta : List ℕ) → g.D.Depot.holds c.loop-j.depot Meta ≡ Some meta → added edges (32 + 8 * (j * parts)) c.loop-j.total (numbers (32 + 8 * (j * parts)) parts meta) ≡ Err (record { place = place; found = n })) in
    let Q : ℕ → ℕ → Type 0 = λ place n. IsWrongCount c.args.info place n × ((meta : List ℕ) → g.D.Depot.holds c.args.depot.now Meta ≡ Some meta → counted edges (counts_of parts meta) ≡ Err (record { place = place; found = n })) in
    rw (p.1, p.2) (damaged_then c.in_err-total.field-0.0 P Q c.in_err-total.ensures.damaged (λ place n q.
    let next : List ℕ → ℕ → Result ℕ Mismatch = λ meta t. added edges (32 + 8 * ((j + 1) * parts)) t (numbers (32 + 8 * ((j + 1) * parts)) (parts * parts - (j + 1) * parts) meta) in (
      (q.0, inr (j * parts + q.1.0, in_square parts j q.1.0 c.loop-j-test.true q.1.1, omega (arith, q.1.2))),
      λ meta is.
          ap (λ r. r >>= reached edges) (c.loop-j.invariant.rest meta is ∙ columns_split edges parts j c.loop-j.total meta c.loop-j-test.true)
          ∙ ap (λ r. (r >>= next meta) >>= reached edges) (q.2 meta (c.loop-j.invariant.reads.contents Meta ∙ is)),
    )))

pub loop-j-preserved : goal.loop-j-preserved
loop-j-preserved g c =
    let edges = c.args.info.edges in
    let parts = c.args.info.parts in
    let j = c.loop-j.j in
    record {
      reads = reads_then g.D.Depot.holds g.D.Depot.taken g.D.Depot.stored g.D.Depot.faults g.D.Depot.attached Meta _ _ _ c.loop-j.invariant.reads c.in_ok-total.ensures.reads;
      fits = c.in_ok-total.ensures.fits;
      sums = omega (arith, c.in_ok-total.ensures.sum, c.loop-j.invariant.sums);
      long = omega (arith, c.in_ok-total.ensures.len, c.loop-j.invariant.long, add-mul j 1 parts);
      room = omega (arith, c.loop-j.invariant.room, c.in_ok-total.ensures.room);
      rest = λ meta is.
          let told = c.in_ok-total.ensures.told meta (c.loop-j.invariant.reads.contents Meta ∙ is) in
          let next : ℕ → Result ℕ Mismatch = λ t. added edges (32 + 8 * ((j + 1) * parts)) t (numbers (32 + 8 * ((j + 1) * parts)) (parts * parts - (j + 1) * parts) meta) in
          c.loop-j.invariant.rest meta is ∙ columns_split edges parts j c.loop-j.total meta c.loop-j-test.true ∙ ap (λ r. r >>= next) told.0;
      items = λ meta is.
          let told = c.in_ok-total.ensures.told meta (c.loop-j.invariant.reads.contents Meta ∙ is) in
          let rest = numbers (32 + 8 * ((j + 1) * parts)) (parts * parts - (j + 1) * parts) meta in
          ap (λ l. l ++ rest) told.1
          ∙ append_assoc c.loop-j.counts.items (numbers (32 + 8 * (j * parts)) parts meta) rest
          ∙ ap (λ l. c.loop-j.counts.items ++ l) (sym (numbers_split parts j meta c.loop-j-test.true))
          ∙ c.loop-j.invariant.items meta is;
    }

pub returns-in-Ok-clause-told : goal.returns-in-Ok-clause-told
returns-in-Ok-clause-told g c = λ meta is.
    let last : c.loop-j.j ≡ c.args.info.parts = omega arith in
    sym (append-nil c.loop-j.counts.items)
    ∙ ap (λ l. c.loop-j.counts.items ++ l) (sym (columns_end (32 + 8 * (c.loop-j.j * c.args.info.parts)) c.args.info.parts c.loop-j.j meta last))
    ∙ c.loop-j.invariant.items meta is

pub returns-in-Err-clause-damaged : goal.returns-in-Err-clause-damaged
returns-in-Err-clause-damaged g c =
    let edges = c.args.info.edges in
    let parts = c.args.info.parts in
    let last : c.loop-j.j ≡ parts = omega arith in
    let place = 32 + 8 * (c.loop-j.j * parts) in
    let shown = c.in-Err.ensures.shown in (
      (shown.2, inl (shown.0, shown.1)),
      λ meta is.
          ap (λ r. r >>= reached edges) (c.loop-j.invariant.rest meta is ∙ ap (added edges place c.loop-j.total) (columns_end place parts c.loop-j.j meta last))
          ∙ sym c.reach.ensures.value ∙ c.in-Err.is,
    )
