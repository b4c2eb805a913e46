use Rattle.std.proofs.Common.{◌≡◌, ◌+◌, ◌-◌, ◌*◌, ℕ, sum, take, drop, ap, ◌∙◌, arith}
use Rattle.grid_format.proofs.TableLemmas.{sum_of_rows}
use Rattle.grid_build.specs.Copied.{cut_table}
use Rattle.grid_build.specs.Sorting.{start_of}
use Rattle.grid_build.proofs.LowLemmas.{column_next, part_le, start-add}
use Rattle.grid_build.proofs.columns.column_edges.Goals as goal

pub sum_of-requires : goal.sum_of-requires
sum_of-requires c =
    let first = c.args.j * c.parts-size.result in
    omega (arith, part_le first (first + c.args.j - first) c.args.counts.now, c.requires.few)

pub sum_of-requires-2 : goal.sum_of-requires-2
sum_of-requires-2 c =
    let first = c.args.j * c.parts-size.result in
    omega (arith, part_le (first + c.args.j) (first + c.parts-size.result - (first + c.args.j)) c.args.counts.now, c.requires.few)

pub returns-clause-high : goal.returns-clause-high
returns-clause-high c =
    let counts = c.args.counts.now in
    let j = c.args.j in
    let p = c.args.parts.parts in
    let first : j * c.parts-size.result ≡ j * p = ap (λ (k : ℕ). j * k) c.parts-size.ensures.value in
    let size : j * c.parts-size.result + j - j * c.parts-size.result ≡ j = omega arith in
    let high : c.sum_of.result ≡ sum (take j (drop (j * p) counts)) = c.sum_of.ensures ∙ (λ i. sum (take (size i) (drop (first i) counts))) in
    omega (arith, high, start-add (j * p) j counts)

pub returns-clause-low : goal.returns-clause-low
returns-clause-low c =
    let counts = c.args.counts.now in
    let j = c.args.j in
    let p = c.args.parts.parts in
    let first : j * c.parts-size.result ≡ j * p = ap (λ (k : ℕ). j * k) c.parts-size.ensures.value in
    let place : j * c.parts-size.result + j ≡ j * p + j = omega (arith, first) in
    let size : j * c.parts-size.result + c.parts-size.result - (j * c.parts-size.result + j) ≡ p - j = omega (arith, c.parts-size.ensures.value) in
    c.sum_of-2.ensures ∙ (λ i. sum (take (size i) (drop (place i) counts))) ∙ sum_of_rows (cut_table c.args.parts counts) j j (p - j)

pub returns-clause-next : goal.returns-clause-next
returns-clause-next c =
    let counts = c.args.counts.now in
    let j = c.args.j in
    let p = c.args.parts.parts in
    let first : j * c.parts-size.result ≡ j * p = ap (λ (k : ℕ). j * k) c.parts-size.ensures.value in
    let place : j * c.parts-size.result + j ≡ j * p + j = omega (arith, first) in
    let size : j * c.parts-size.result + c.parts-size.result - (j * c.parts-size.result + j) ≡ p - j = omega (arith, c.parts-size.ensures.value) in
    let low : c.sum_of-2.result ≡ sum (take (p - j) (drop (j * p + j) counts)) = c.sum_of-2.ensures ∙ (λ i. sum (take (size i) (drop (place i) counts))) in
    let end : j * p + j + (p - j) ≡ (j + 1) * p = omega (arith, column_next p j, c.requires.inside) in
    let past : start_of counts (j * p + j + (p - j)) ≡ start_of counts ((j + 1) * p) = ap (start_of counts) end in
    omega (arith, low, start-add (j * p + j) (p - j) counts, past)
