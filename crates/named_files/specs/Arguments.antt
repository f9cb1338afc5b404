-- How an argument names a table: as NUMBER=PATH. Assumes nothing: these are definitions.
use Rattle.std.specs.Prelude.{◌≡◌, ℕ, List, ◌∷◌, ◌++◌, Some}
use Rattle.wire.specs.Tables.{cell_number}

-- the argument is the digits of the number, an equals sign, and the path
pub record Names (arg : List ℕ) (n : ℕ) (path : List ℕ) : Type 0 where
  pub digits : List ℕ
  pub is : arg ≡ digits ++ (61 ∷ path)
  pub number : cell_number digits ≡ Some n
