-- Three draws in a row.
use Rattle.std.proofs.Common.{◌≡◌, ℕ, ◌+◌, ◌%◌, ap, ◌∙◌, refl}
use Rattle.graph_gen.specs.Generated.{draw_at, generated_edge, number_at}
use Rattle.graph_gen.specs.declared.drawing.Drawing.{Drawing}
use Rattle.lumos_base.specs.Records.{vertex_of, weight_of}

abbrev pub drawn_once : Drawing → Drawing
drawn_once d = record d { number = number_at d.number 1 }

number_thrice : (n : ℕ) → number_at (number_at (number_at n 1) 1) 1 ≡ number_at n 3
unfolding number_at
number_thrice n = refl

pub drawn_thrice : (s a b d : Drawing) → a ≡ drawn_once s → b ≡ drawn_once a → d ≡ drawn_once b → d ≡ record s { number = number_at s.number 3 }
drawn_thrice s a b d first second third =
    third ∙ ap drawn_once second ∙ ap (λ (x : Drawing). drawn_once (drawn_once x)) first ∙ ap (λ (n : ℕ). record s { number = n }) (number_thrice s.number)

-- the edge that they make
pub edge_drawn : (s a b : Drawing) (x y z : ℕ) → a ≡ drawn_once s → b ≡ drawn_once a → x ≡ draw_at s.number 1 → y ≡ draw_at a.number 1 → z ≡ draw_at b.number 1
    → record { source = vertex_of (x % a.vertices); target = vertex_of (y % b.vertices); weight = weight_of (1 + z % 16) } ≡ generated_edge s.number s.vertices 0
unfolding number_at
edge_drawn s a b x y z first second source target weight = rw (source, target, weight, second, first) refl
