use Rattle.std.proofs.Common.{◌≡◌, ◌-◌, ℕ, length, take, drop, subst, ◌∙◌, arith, length-drop}
use Rattle.std.specs.Prelude.{IfOk}
use Rattle.std.specs.List.{list_any, range_with_len}
use Rattle.std.proofs.lemmas.List.{length-take-le}
use Rattle.std.proofs.lemmas.Slice.{between-put_mid}
use Rattle.lumos_law.specs.Sync.{IsChunk}
use Rattle.windows.proofs.initial.initial_in_memory.Goals as goal

pub returns-clause-hot : goal.returns-clause-hot
returns-clause-hot g c state chunk =
    let p = g.G.VertexProgram.model c.args.program.now in
    let first = c.args.range.first in
    let past = c.args.range.past in
    let xs = c.args.even.now in
    let new = c.initial_values.new.values in
    let size : length (take (past - first) (drop first xs)) ≡ past - first = length-take-le (past - first) (drop first xs) (omega (arith, length-drop first xs, c.requires.even_fits, c.requires.ordered)) in
    let long : length new ≡ past - first = c.initial_values.auto.values ∙ size in
    let same = between-put_mid first (past - first) xs new past (omega (arith, c.requires.even_fits, c.requires.ordered)) long in
    subst (λ (m : ℕ). IfOk c.initial_values.result (λ hot. hot ≡ list_any (λ v. p.contributes (state v)) (range_with_len first m))) size
    (c.initial_values.ensures.hot state (subst (IsChunk state first) same chunk))
