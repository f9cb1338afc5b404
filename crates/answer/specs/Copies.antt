-- The tables' rows that a line may stand on, copied among the rows of the join: the line's number, the cells in the line's own order, then zeros. Assumes nothing: these are definitions.
use Rattle.std.specs.Prelude.{◌≡◌, ℕ, ◌+◌, ◌<◌, ◌≤◌, List, length, slice_index}
use Rattle.join.specs.Order.{row_at}
use Rattle.question.specs.Question.{Line, Row, Base, Value, In, all_at}

-- the numbers are the copy of a row of w cells
pub record CopyOf (id w : ℕ) (cols : List ℕ) (r : Row) (x : ℕ → ℕ) : Type 0 where
  pub first : x 0 ≡ id
  pub cell : (c : ℕ) → c < w → x (c + 1) ≡ slice_index r (slice_index cols c)
  pub zero : (c : ℕ) → w ≤ c → c < 4 → x (c + 1) ≡ 0

-- a copy of the row is among the rows
pub record Placed (id w : ℕ) (cols : List ℕ) (rows : List (List ℕ)) (r : Row) : Type 0 where
  pub at : ℕ
  pub inside : at < length rows
  pub copy : CopyOf id w cols r (row_at rows at)

-- the numbers are the copy of a row of the table
pub record Source (id w : ℕ) (cols : List ℕ) (table : List Row) (x : ℕ → ℕ) : Type 0 where
  pub row : Row
  pub here : In row table
  pub wide : length row ≡ w
  pub copy : CopyOf id w cols row x

-- every row that the line can be is copied under its number, and nothing else stands under it
pub record LineCopied (b : Base) (l : Line) (cols : List ℕ) (id : ℕ) (rows : List (List ℕ)) : Type 0 where
  pub put : (v : Value) → In (all_at v l.cells) (b l.table) → Placed id (length l.cells) cols rows (all_at v l.cells)
  pub only : (j : ℕ) → j < length rows → row_at rows j 0 ≡ id → Source id (length l.cells) cols (b l.table) (row_at rows j)
