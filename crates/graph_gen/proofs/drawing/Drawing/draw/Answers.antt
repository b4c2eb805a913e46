use Rattle.std.proofs.Common.{ℕ, ◌/◌, ◌^◌, ap}
use Rattle.graph_gen.proofs.NumberLemmas.{number_next}
use Rattle.graph_gen.proofs.drawing.Drawing.draw.Goals as goal

pub returns-clause-value : goal.returns-clause-value
returns-clause-value c = ap (λ (n : ℕ). n / 2 ^ 33) (number_next c.args.self.now.number)

pub returns-clause-drawn : goal.returns-clause-drawn
returns-clause-drawn c = ap (λ (n : ℕ). record c.args.self.now { number = n }) (number_next c.args.self.now.number)
