-- Which rows a list of rows has, told by their five numbers. Assumes nothing: these are definitions.
use Rattle.std.specs.Prelude.{◌≡◌, ℕ, zero, suc, ◌<◌, List, length}
use Rattle.join.specs.Order.{Value, row_at}
use Rattle.join.specs.Slots.{slot}

-- the row is one of the rows
pub record Held (rows : List (List ℕ)) (f : Value) : Type 0 where
  pub place : ℕ
  pub inside : place < length rows
  pub is : (c : ℕ) → c < 5 → row_at rows place c ≡ f c

-- the same rows, however often and in whatever order
abbrev pub SameRows : List (List ℕ) → List (List ℕ) → Type 0
SameRows xs ys = (f : Value) → (Held xs f → Held ys f) × (Held ys f → Held xs f)

-- the row is what the line is under the values
abbrev pub Fits : List ℕ → Value → Value → Type 0
Fits line f v = (c : ℕ) → c < 5 → f c ≡ v (slot line c)

-- the row with another number in front
abbrev pub with_front : ℕ → Value → Value
with_front x f zero = x
with_front x f (suc c) = f (suc c)

-- the row is one of those with the number in front, and has there the number of a column
pub record Source (rows : List (List ℕ)) (number column : ℕ) (f : Value) : Type 0 where
  pub place : ℕ
  pub inside : place < length rows
  pub numbered : row_at rows place 0 ≡ number
  pub is : (c : ℕ) → c < 5 → with_front (row_at rows place column) (row_at rows place) c ≡ f c

-- the keys are the rows with the number in front, each with the number of the column there instead
pub record Keyed (rows : List (List ℕ)) (number column : ℕ) (keys : List (List ℕ)) : Type 0 where
  pub only : (f : Value) → Held keys f → Source rows number column f
  pub each : (j : ℕ) → j < length rows → row_at rows j 0 ≡ number → Held keys (with_front (row_at rows j column) (row_at rows j))
