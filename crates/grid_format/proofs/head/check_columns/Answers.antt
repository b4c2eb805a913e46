use Rattle.std.proofs.Common.{◌+◌, ◌-◌, ◌*◌, ap, ◌∙◌, Result, ℕ, arith}
use Rattle.std.proofs.lemmas.Result.{err_from_is_err_and}
use Rattle.lumos_depot.specs.declared.depot.FileKind.TheVariants.{Meta}
use Rattle.grid_format.specs.Checks.{◌>>=◌, added, reached, table_of}
use Rattle.grid_format.specs.Heads.{numbers}
use Rattle.grid_format.specs.declared.counts.Mismatch.{Mismatch}
use Rattle.grid_format.proofs.Answering.{fault_counts, in_meta-ok}
use Rattle.lumos_depot.proofs.StepLemmas.{reads_then}
use Rattle.grid_format.proofs.NumberLemmas.{columns_split, sum-numbers-rest}
use Rattle.grid_format.proofs.TableLemmas.{low_more, low_of_bytes}
use Rattle.grid_format.proofs.head.check_columns.Goals as goal

pub returns-in_err-total-clause-failed : goal.returns-in_err-total-clause-failed
returns-in_err-total-clause-failed g c =
    let p = err_from_is_err_and c.from_residual.result c.from_residual.ensures.1 in
    let edges = c.args.info.edges in
    let parts = c.args.info.parts in
    let fault = c.in_err-total.field-0.0 in
    let place = 32 + 8 * (c.loop-j.j * parts) in
    rw (p.1, p.2) (λ meta is.
    let next : ℕ → Result ℕ Mismatch = λ t. added edges (32 + 8 * ((c.loop-j.j + 1) * parts)) t (numbers (32 + 8 * ((c.loop-j.j + 1) * parts)) (parts * parts - (c.loop-j.j + 1) * parts) meta) in
    let whole = c.loop-j.invariant.rest meta is ∙ columns_split edges parts c.loop-j.j c.loop-j.total meta c.loop-j-test.true in
    let told = c.in_err-total.ensures.told meta (c.loop-j.invariant.reads.contents Meta ∙ is) in
    let here = fault_counts fault (added edges place c.loop-j.total (numbers place parts meta)) next told in
    rw whole (fault_counts fault (added edges place c.loop-j.total (numbers place parts meta) >>= next) (reached edges) here))

pub total_from-low-requires-clause-few : goal.total_from-low-requires-clause-few
total_from-low-requires-clause-few g c =
    omega (arith, c.requires.head.edges, c.in_ok-total.ensures.fits, c.in_ok-total.ensures.total, sum-numbers-rest c.args.info.parts c.loop-j.j c.check_column.new.column (omega arith))

pub overflow_add-low : goal.overflow_add-low
overflow_add-low g c =
    omega (arith, c.loop-j.invariant.few, c.requires.head.edges, c.in_ok-total.ensures.fits, c.in_ok-total.ensures.total, c.total_from-low.ensures, sum-numbers-rest c.args.info.parts c.loop-j.j c.check_column.new.column (omega arith))

pub loop-j-preserved : goal.loop-j-preserved
loop-j-preserved g c =
    let edges = c.args.info.edges in
    let parts = c.args.info.parts in
    let j = c.loop-j.j in
    record {
      reads = reads_then g.D.Depot.holds g.D.Depot.taken g.D.Depot.stored g.D.Depot.faults g.D.Depot.attached Meta _ _ _ c.loop-j.invariant.reads c.in_ok-total.ensures.reads;
      fits = c.in_ok-total.ensures.fits;
      few = omega (arith, c.loop-j.invariant.few, c.in_ok-total.ensures.total, c.total_from-low.ensures, sum-numbers-rest parts j c.check_column.new.column (omega arith));
      lows = λ meta is.
          let read = c.in_ok-total.ensures.column meta (c.loop-j.invariant.reads.contents Meta ∙ is) in
          omega (arith, c.loop-j.invariant.lows meta is, c.total_from-low.ensures, low_of_bytes parts j meta c.loop-j-test.true c.check_column.new.column read, low_more (table_of parts meta) j);
      rest = λ meta is.
          let told = c.in_ok-total.ensures.told meta (c.loop-j.invariant.reads.contents Meta ∙ is) in
          let next : ℕ → Result ℕ Mismatch = λ t. added edges (32 + 8 * ((j + 1) * parts)) t (numbers (32 + 8 * ((j + 1) * parts)) (parts * parts - (j + 1) * parts) meta) in
          c.loop-j.invariant.rest meta is ∙ columns_split edges parts j c.loop-j.total meta c.loop-j-test.true ∙ ap (λ r. r >>= next) (in_meta-ok _ _ told);
    }
