use Rattle.std.proofs.Common.{ℕ, ◌<◌, ◌≤◌}
use Rattle.partition.specs.Fitting.{need_at}
use Rattle.partition.proofs.fitting.least_parts.Given as goal

abbrev pub invariant-loop-parts : goal.invariant-loop-parts
invariant-loop-parts l = (q : ℕ) → l.fn.first ≤ q → q < l.parts → l.fn.budget < need_at l.fn.vertices l.fn.per_vertex q
