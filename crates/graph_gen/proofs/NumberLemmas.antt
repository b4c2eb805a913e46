-- The numbers go on behind any of them as from a seed.
use Rattle.std.proofs.Common.{◌≡◌, ℕ, zero, suc, ◌+◌, ◌*◌, ◌/◌, ◌%◌, ◌^◌, ap, sym, ◌∙◌, add-suc, arith}
use Rattle.std.proofs.Math.Nat.{mod-add-mod}
use Rattle.graph_gen.specs.Generated.{generated_edge, number_at}
use Rattle.lumos_base.specs.Records.{vertex_of, weight_of}
use Rattle.lumos_base.specs.declared.records.Edge.{Edge}

pub number_on : (seed a k : ℕ) → number_at (number_at seed a) k ≡ number_at seed (a + k)
unfolding number_at
number_on seed a zero = ap (number_at seed) (omega arith)
number_on seed a (suc k) = ap (λ (x : ℕ). (x * 6364136223846793005 + 1442695040888963407) % 2 ^ 64) (number_on seed a k) ∙ ap (number_at seed) (sym (add-suc a k))

-- the next number, as a product and a sum of 64 bits make it
pub number_next : (seed : ℕ) → (seed * 6364136223846793005 % 2 ^ 64 + 1442695040888963407) % 2 ^ 64 ≡ number_at seed 1
unfolding number_at
number_next seed = mod-add-mod (seed * 6364136223846793005) (2 ^ 64) 1442695040888963407

-- the edge that three numbers make
edge_by : ℕ → ℕ → ℕ → ℕ → Edge
edge_by vertices x y z = record { source = vertex_of (x / 2 ^ 33 % vertices); target = vertex_of (y / 2 ^ 33 % vertices); weight = weight_of (1 + z / 2 ^ 33 % 16) }

number_later : (seed e j : ℕ) → number_at seed (3 * (e + 1) + j) ≡ number_at (number_at seed 3) (3 * e + j)
number_later seed e j =
    let place : 3 * (e + 1) + j ≡ 3 + (3 * e + j) = omega arith in
    ap (number_at seed) place ∙ sym (number_on seed 3 (3 * e + j))

-- behind the first edge, edges are drawn as from the number behind its own
pub edge_on : (seed vertices e : ℕ) → generated_edge seed vertices (e + 1) ≡ generated_edge (number_at seed 3) vertices e
unfolding edge_by
edge_on seed vertices e =
    ap (λ (x : ℕ). edge_by vertices x (number_at seed (3 * (e + 1) + 2)) (number_at seed (3 * (e + 1) + 3))) (number_later seed e 1)
    ∙ ap (λ (y : ℕ). edge_by vertices (number_at (number_at seed 3) (3 * e + 1)) y (number_at seed (3 * (e + 1) + 3))) (number_later seed e 2)
    ∙ ap (λ (z : ℕ). edge_by vertices (number_at (number_at seed 3) (3 * e + 1)) (number_at (number_at seed 3) (3 * e + 2)) z) (number_later seed e 3)
