-- Tables in lent numbers: their count, then for each its number, its count of rows, its count of columns, and the cells row by row. Assumes nothing: these are definitions.
use Rattle.std.specs.Prelude.{ℕ, zero, suc, ◌+◌, ◌*◌, cond, List, [], ◌∷◌, ◌++◌, take, drop, ◌==◌, slice_index}
use Rattle.question.specs.Question.{Row, Base}

-- the first n rows of so many columns that lie in the numbers
unfoldable pub rows_in : (n columns : ℕ) → List ℕ → List Row
rows_in zero columns xs = []
rows_in (suc n) columns xs = take columns xs ∷ rows_in n columns (drop columns xs)

-- how many numbers the table at the front takes
abbrev pub table_size : List ℕ → ℕ
table_size xs = 3 + slice_index xs 1 * slice_index xs 2

-- the rows of table t, of n tables that lie in the numbers; two of them with the same number are one table with the rows of both
unfoldable pub table_rows : (n t : ℕ) → List ℕ → List Row
table_rows zero t xs = []
table_rows (suc n) t xs =
    cond (slice_index xs 0 == t) (rows_in (slice_index xs 1) (slice_index xs 2) (drop 3 xs)) [] ++ table_rows n t (drop (table_size xs) xs)

-- what lent tables hold: the rows of each table by its number, and none of a table that isn't lent
unfoldable pub tables_in : List ℕ → Base
tables_in xs t = table_rows (slice_index xs 0) t (drop 1 xs)
