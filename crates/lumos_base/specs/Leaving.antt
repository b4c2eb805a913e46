-- What leads out of a vertex.
use Rattle.std.specs.Prelude.{◌==◌, ℕ, List, filter, length, sum_by}
use Rattle.lumos_base.specs.declared.records.Edge.{Edge}
use Rattle.lumos_base.specs.declared.records.OutInfo.{OutInfo}

-- the edges whose source is v, in list order
abbrev pub edges_from : List Edge → ℕ → List Edge
edges_from edges v = filter (λ e. e.source.0 == v) edges

-- how many edges lead out of v, and the sum of their weights
abbrev pub out_info : List Edge → ℕ → OutInfo
out_info edges v = record { degree = length (edges_from edges v); weight = sum_by (λ e. e.weight.0) (edges_from edges v) }

-- what is said where no edge leads out
abbrev pub no_info : OutInfo
no_info = record { degree = 0; weight = 0 }
