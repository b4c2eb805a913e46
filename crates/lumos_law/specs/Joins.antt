-- Joins of sums, and what is asked of them.
use Rattle.std.specs.Prelude.{◌≡◌, List, fold}

-- the laws of a join and its unit, on the sums for which In holds
pub record JoinLaws {S : Type 0} (In : S → Type 0) (unit : S) (join : S → S → S) : Type 0 where
  pub unit_in : In unit
  pub join_in : (x y : S) → In x → In y → In (join x y)
  pub commutes : (x y : S) → In x → In y → join x y ≡ join y x
  pub associates : (x y z : S) → In x → In y → In z → join (join x y) z ≡ join x (join y z)
  pub starts : (x : S) → In x → join unit x ≡ x

-- the sums joined to a first one, in list order
abbrev pub join_from : {S : Type 0} → (S → S → S) → S → List S → S
join_from join a xs = fold join a xs
