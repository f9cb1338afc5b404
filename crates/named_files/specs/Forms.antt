-- What tables from files are to answering: numbers in a row, and the rows that these hold. Assumes nothing: these are definitions.
use Rattle.std.specs.Prelude.{◌≡◌, ℕ, ◌*◌, cond, List, [], ◌∷◌, ◌++◌, length, vec_items, ◌==◌}
use Rattle.question.specs.Question.{Base}
use Rattle.wire.specs.Tables.{grid, rows_of}
use Rattle.named_files.specs.declared.lent.Numbered.{Numbered}

-- a table in numbers: its own number, its rows and columns, and its cells row by row
abbrev pub table_numbers : Numbered → List ℕ
table_numbers t = t.number ∷ t.table.rows ∷ t.table.columns ∷ vec_items t.table.cells

unfoldable pub tables_numbers : List Numbered → List ℕ
tables_numbers [] = []
tables_numbers (t ∷ ts) = table_numbers t ++ tables_numbers ts

-- the lent form: the count of the tables, then all of them
abbrev pub lent_numbers : List Numbered → List ℕ
lent_numbers ts = length ts ∷ tables_numbers ts

-- the table has as many cells as its rows and columns announce
abbrev pub Full : Numbered → Type 0
Full t = length (vec_items t.table.cells) ≡ t.table.rows * t.table.columns

-- the rows of all tables that are known by the number
unfoldable pub numbered_rows : List Numbered → Base
numbered_rows [] n = []
numbered_rows (t ∷ ts) n = cond (t.number == n) (rows_of (grid t.table)) [] ++ numbered_rows ts n
