-- The line of a grid.
use Rattle.std.specs.Prelude.{ℕ, List, [], ◌∷◌, ◌++◌, codes}
use Rattle.std.specs.Fmt.{decimal}

-- the line of a grid that was built
unfoldable pub grid_line : ℕ → ℕ → ℕ → List ℕ
grid_line vertices edges parts = codes "grid vertices " ++ decimal vertices ++ codes " edges " ++ decimal edges ++ codes " parts " ++ decimal parts ++ 10 ∷ []
