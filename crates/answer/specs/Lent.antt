-- What the parts of lent tables are: the rows of one, and the tables. Assumes nothing: these are definitions.
use Rattle.std.specs.Prelude.{ℕ, zero, suc, List, [], ◌∷◌, drop, slice_index}
use Rattle.question.specs.Question.{Row, Base}
use Rattle.question.specs.Tables.{rows_in, table_size, table_rows}
use Rattle.answer.specs.declared.tables.Rows.{Rows}
use Rattle.answer.specs.declared.tables.Table.{Table}
use Rattle.answer.specs.declared.tables.Tables.{Tables}

-- the rows that are still to come
abbrev pub rows_of : Rows → List Row
rows_of s = rows_in s.count s.columns s.left.now

-- the rows of a table
abbrev pub held_by : Table → List Row
held_by t = rows_in (slice_index t.numbers.now 1) (slice_index t.numbers.now 2) (drop 3 t.numbers.now)

-- n tables that lie in the numbers, each with what lies behind it
unfoldable pub tables_from : ℕ → List ℕ → List (List ℕ)
tables_from zero xs = []
tables_from (suc n) xs = xs ∷ tables_from n (drop (table_size xs) xs)

-- the tables that are still to come
abbrev pub tables_of : Tables → List (List ℕ)
tables_of s = tables_from s.count s.left.now

-- what they hold
abbrev pub base_of : Tables → Base
base_of s t = table_rows s.count t s.left.now
