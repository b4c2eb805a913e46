use Rattle.std.proofs.Common.{◌≡◌, ◌*◌, ℕ, refl, ap, ◌∙◌, arith}
use Rattle.std.proofs.lemmas.List.Sums.{sum_by-take-le}
use Rattle.grid_format.specs.Tables.{low_edges}
use Rattle.grid_format.proofs.TableLemmas.{low_more}
use Rattle.grid_build.specs.Copied.{cut_table}
use Rattle.grid_build.proofs.columns.low_total.Goals as goal

pub loop-j-init : goal.loop-j-init
loop-j-init c = record { total = refl; fewer = omega arith }

pub loop-j-preserved : goal.loop-j-preserved
loop-j-preserved c =
    let is = c.loop-j.invariant in
    let sums = c.column_edges-total.ensures in
    record {
      total = omega (arith, is.total, sums.low, low_more (cut_table c.args.parts c.args.counts.now) c.loop-j.j);
      fewer = omega (arith, is.fewer, sums.high, sums.next);
    }

pub returns-clause-value : goal.returns-clause-value
returns-clause-value c =
    let all : c.loop-j.j ≡ c.args.parts.parts = omega (arith, c.parts-j-end.ensures.value) in
    c.loop-j.invariant.total ∙ ap (λ (k : ℕ). low_edges (cut_table c.args.parts c.args.counts.now) k) all

pub returns-clause-few : goal.returns-clause-few
returns-clause-few c =
    omega (arith, c.loop-j.invariant.fewer, sum_by-take-le (λ x. x) c.args.counts.now (c.loop-j.j * c.args.parts.parts))
