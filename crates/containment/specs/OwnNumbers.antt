-- A question's own tables as numbers, in the layout in which tables are lent: how they are written down. Assumes nothing: these are definitions.
use Rattle.std.specs.Prelude.{ℕ, Bool, true, false, cond, ◌&&◌, List, [], ◌∷◌, ◌++◌, length, ◌==◌}
use Rattle.question.specs.declared.terms.Term.{Term}
use Rattle.question.specs.Question.{Line, Question, Row, Value}
use Rattle.containment.specs.Search.{term_eqb}
use Rattle.containment.specs.OwnTables.{rows_of}

-- two lists of terms are the same
unfoldable pub terms_eqb : List Term → List Term → Bool
terms_eqb [] [] = true
terms_eqb [] (u ∷ us) = false
terms_eqb (t ∷ ts) [] = false
terms_eqb (t ∷ ts) (u ∷ us) = term_eqb t u && terms_eqb ts us

-- two lines are the same
unfoldable pub line_eqb : Line → Line → Bool
line_eqb l m = l.table == m.table && terms_eqb l.cells m.cells

-- two lines are of one table
abbrev pub one_table : Line → Line → Bool
one_table l m = l.table == m.table

-- by the test, one of the lines is the same as l
unfoldable pub has_same : (same : Line → Line → Bool) → List Line → Line → Bool
has_same same [] l = false
has_same same (m ∷ ms) l = cond (same m l) true (has_same same ms l)

-- the lines ls that follow others, without those to which an earlier one is the same
unfoldable pub firsts : (same : Line → Line → Bool) (before ls : List Line) → List Line
firsts same before [] = []
firsts same before (l ∷ ls) = cond (has_same same before l) (firsts same (before ++ l ∷ []) ls) (l ∷ firsts same (before ++ l ∷ []) ls)

-- the lines, each once
unfoldable pub lines_once : List Line → List Line
lines_once ls = firsts line_eqb [] ls

-- of each table the first line that names it
unfoldable pub table_heads : List Line → List Line
table_heads ls = firsts one_table [] ls

-- the cells of rows, row by row
unfoldable pub cells_out : List Row → List ℕ
cells_out [] = []
cells_out (r ∷ rs) = r ++ cells_out rs

-- the table that a line h names: its number, its count of rows, its count of columns, and the cells
unfoldable pub table_out : Value → (ls : List Line) (h : Line) → List ℕ
table_out v ls h = h.table ∷ length (rows_of v h.table ls) ∷ length h.cells ∷ cells_out (rows_of v h.table ls)

-- the same for each of the lines hs
unfoldable pub each_out : Value → (ls hs : List Line) → List ℕ
each_out v ls [] = []
each_out v ls (h ∷ hs) = table_out v ls h ++ each_out v ls hs

-- the question's own tables with variable x named v x: how many, then each, in order of the first line that names it
unfoldable pub tables_out : Value → Question → List ℕ
tables_out v q = length (table_heads q.lines) ∷ each_out v (lines_once q.lines) (table_heads q.lines)
