-- What is proved of a question's own tables as numbers, each a statement that a function's contract names. Assumes nothing.
use Rattle.std.specs.Prelude.{ℕ, ◌≤◌, ◌↔◌, List, ◌++◌, length}
use Rattle.question.specs.Question.{Question, Row, Value, In, Answers}
use Rattle.question.specs.Sound.{OneWidth, Allowed}
use Rattle.question.specs.Tables.{tables_in}
use Rattle.containment.specs.OwnTables.{own_tables}
use Rattle.containment.specs.OwnNumbers.{tables_out}

-- the numbers hold the own tables, whatever lies behind them
abbrev pub NumbersHold : Type 0
NumbersHold =
    (v : Value) (q : Question) → OneWidth q.lines → (more : List ℕ) (t : ℕ) (r : Row)
    → In r (tables_in (tables_out v q ++ more) t) ↔ In r (own_tables v q t)

-- so a question answers the same from both
abbrev pub NumbersAnswer : Type 0
NumbersAnswer =
    (v : Value) (q : Question) → OneWidth q.lines → (more : List ℕ) (o : Question) (r : Row)
    → Answers (tables_in (tables_out v q ++ more)) o r ↔ Answers (own_tables v q) o r

-- they are few: a count, three for each of at most four tables, and the cells of at most four rows
abbrev pub NumbersFew : Type 0
NumbersFew = (v : Value) (q : Question) → Allowed q → length (tables_out v q) ≤ 29
