-- How the next values of a range of vertices come out.
use Rattle.std.specs.Prelude.{◌≡◌, ℕ, ◌+◌, Bool, true, ◌||◌, if◌then◌else◌, Some, None, count_by, find, option_map}
use Rattle.std.specs.List.{range_with_len, list_any}
use Rattle.std.specs.Option.{option_or}
use Rattle.flight_core.specs.declared.steps.Finish.{Finish}
use Rattle.lumos_base.specs.Records.{vertex_of}
use Rattle.lumos_base.specs.declared.records.Vertex.{Vertex}
use Rattle.lumos_law.specs.Program.{Program}

module _ {V S : Type 0} (p : Program V S) (state : ℕ → V) (sum : ℕ → S) where
  -- the next value at v
  abbrev pub applied : ℕ → V
  applied v = p.apply v (state v) (sum v)

  -- of the n vertices from `first` on: how many move, whether some next value contributes, and the least one that is over
  abbrev pub finish_of : ℕ → ℕ → Finish
  finish_of first n = record {
    moved = count_by (λ v. p.moved (state v) (applied v)) (range_with_len first n);
    hot = list_any (λ v. p.contributes (applied v)) (range_with_len first n);
    over = option_map vertex_of (find (λ v. p.over v (state v) (sum v)) (range_with_len first n));
  }

-- A vertex is over by some value and some sum in range.
pub record IsOver {V S : Type 0} (ValueIn : V → Type 0) (SumIn : S → Type 0) (p : Program V S) (v : ℕ) : Type 0 where
  pub value : V
  pub sum : S
  pub value_in : ValueIn value
  pub sum_in : SumIn sum
  pub over : p.over v value sum ≡ true

-- one range of vertices, and the next
abbrev pub joined_end : Finish → Finish → Finish
joined_end end next = record {
  moved = end.moved + next.moved;
  hot = end.hot || next.hot;
  over = option_or end.over next.over;
}

-- one vertex alone
abbrev pub vertex_end : Vertex → Bool → Bool → Bool → Finish
vertex_end vertex moved hot over = record {
  moved = if moved then 1 else 0;
  hot = hot;
  over = if over then Some vertex else None;
}

-- one vertex more
abbrev pub noted_end : Finish → Vertex → Bool → Bool → Bool → Finish
noted_end end vertex moved hot over = joined_end end (vertex_end vertex moved hot over)
